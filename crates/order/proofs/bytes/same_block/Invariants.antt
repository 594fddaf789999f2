-- `order::bytes::same_block` meets its contract: the differences of the bytes passed are 0 only where these are the same.
use Prim.Native.Nat.{◌+◌}
use mathlib.Core.Path.{◌≡◌}
use Rattle.order.specs.Bytes.{SameFrom}
use Rattle.order.proofs.bytes.same_block.Given as goal

abbrev pub invariant-loop-i : goal.invariant-loop-i
invariant-loop-i l = l.differing ≡ 0 → SameFrom l.x l.y l.from (l.from + l.i)
