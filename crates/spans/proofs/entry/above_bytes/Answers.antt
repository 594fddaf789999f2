-- `spans::entry::above_bytes` meets its contract.
use Rattle.spans.proofs.Runs.{bytes-above}
use Rattle.spans.proofs.entry.above_bytes.Goals as goal

pub returns : goal.returns
returns c = rw c.is_lt.ensures (bytes-above c.compare_keys.result c.compare_keys.ensures)
