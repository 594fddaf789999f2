-- `draw::write::write_chain` meets its contract. The loop's invariant is `Writing`: the pages that are left make up the rest.
use Rattle.draw.proofs.Writes.{Writing}
use Rattle.draw.proofs.write.write_chain.Given as goal

abbrev pub invariant-loop-i : goal.invariant-loop-i
invariant-loop-i l = Writing l.initial.image l.numbers l.from l.count l.stream l.image l.kind l.page l.i
