-- `spans::entry::conclude` meets its contract.
use Rattle.spans.proofs.Runs.{skims-left}
use Rattle.spans.proofs.entry.conclude.Goals as goal

pub overflow_sub-to-2 : goal.overflow_sub-to-2
overflow_sub-to-2 c = skims-left c.requires.1
