-- `order::bytes::compare_rest` meets its contract: the bytes passed are the same.
use Rattle.order.specs.Bytes.{Alike}
use Rattle.order.proofs.bytes.compare_rest.Given as goal

abbrev pub invariant-loop-i : goal.invariant-loop-i
invariant-loop-i l = Alike l.x l.y l.n l.i
