-- `draw::draw::keep_pages` meets its contract. The loop's invariant is `Keeping`.
use Prim.Native.Nat.{◌-◌}
use Rattle.draw.proofs.Keeps.{Keeping}
use Rattle.draw.proofs.draw.keep_pages.Given as goal

abbrev pub invariant-loop-count : goal.invariant-loop-count
invariant-loop-count l = Keeping l.image l.first l.wanted l.initial.numbers l.from l.numbers l.next l.count

abbrev pub decreases-loop-count : goal.decreases-loop-count
decreases-loop-count l = l.wanted - l.count
