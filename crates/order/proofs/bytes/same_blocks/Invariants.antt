-- `order::bytes::same_blocks` meets its contract: the blocks passed are the same.
use Prim.Native.Nat.{◌-◌, ◌≤◌}
use Rattle.order.specs.Bytes.{SameFrom}
use Rattle.order.proofs.bytes.same_blocks.Given as goal

abbrev pub invariant-loop-i : goal.invariant-loop-i
invariant-loop-i l = (l.i ≤ l.n) × SameFrom l.x l.y 0 l.i

abbrev pub decreases-loop-i : goal.decreases-loop-i
decreases-loop-i l = l.n - l.i
