-- `draw::draw::take_pages` meets its contract. The loop's invariant is `Taking`: the pages that are left make up the rest.
use Rattle.draw.proofs.Takes.{Taking}
use Rattle.draw.proofs.draw.take_pages.Given as goal

abbrev pub invariant-loop-i : goal.invariant-loop-i
invariant-loop-i l = Taking l.initial.image l.count l.initial.numbers l.from l.image l.numbers l.i
