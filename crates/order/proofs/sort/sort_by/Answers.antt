-- `order::sort::sort_by` meets its contract.
use native.Mathlib.Omega.{arith}
use Rattle.order.proofs.Sorts.{sort-hash, sort-other}
use Rattle.order.proofs.sort.sort_by.Goals as goal

pub returns-then-b-eq35 : goal.returns-then-b-eq35
returns-then-b-eq35 c = sort-hash c.args.b (omega arith)

pub returns-else-b-eq35 : goal.returns-else-b-eq35
returns-else-b-eq35 c = sort-other c.args.b c.if-b-eq35.false
