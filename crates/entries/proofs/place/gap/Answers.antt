-- `entries::place::gap` meets its contract.
use Rattle.std.proofs.Common.{sym}
use Rattle.entries.proofs.Places.{gap-next, gap_here}
use Rattle.entries.proofs.place.gap.Goals as goal

pub returns-then-offset-n-gt1024 : goal.returns-then-offset-n-gt1024
returns-then-offset-n-gt1024 c = sym (gap-next _ _ c.if-offset-n-gt1024.true)

pub returns-else-offset-n-gt1024 : goal.returns-else-offset-n-gt1024
returns-else-offset-n-gt1024 c = sym (gap_here _ _ c.if-offset-n-gt1024.false)
