-- `order::sort::turned` meets its contract.
use native.Mathlib.Omega.{arith}
use Rattle.order.proofs.Numbers.{turned-low, turned-high}
use Rattle.order.proofs.sort.turned.Goals as goal

pub returns-then-n-lt2147483648 : goal.returns-then-n-lt2147483648
returns-then-n-lt2147483648 c = turned-low c.args.n (omega arith)

pub returns-else-n-lt2147483648 : goal.returns-else-n-lt2147483648
returns-else-n-lt2147483648 c = turned-high c.args.n (omega arith)
