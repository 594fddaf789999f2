-- `order::sort::sign_by` meets its contract.
use native.Mathlib.Omega.{arith}
use Rattle.order.proofs.Sorts.{sign_low, sign_high}
use Rattle.order.proofs.sort.sign_by.Goals as goal

pub returns-then-b-lt128 : goal.returns-then-b-lt128
returns-then-b-lt128 c = sign_low c.args.b (omega arith)

pub returns-else-b-lt128 : goal.returns-else-b-lt128
returns-else-b-lt128 c = sign_high c.args.b (omega arith)
