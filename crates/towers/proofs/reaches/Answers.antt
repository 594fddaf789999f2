use native.Mathlib.Omega.{arith}
use Rattle.heads.proofs.Claims.{in_head}
use Rattle.towers.proofs.Ways.{next-span, reaching-end, reaching-here, reaching-next}
use Rattle.towers.proofs.reaches.Goals as goal

pub returns-then-span-target : goal.returns-then-span-target
returns-then-span-target c img lent k = reaching-here lent _ _ _ (c.loop-span.invariant img lent k) c.loop-span-test.true c.if-span-target.true

pub from_head-span-requires : goal.from_head-span-requires
from_head-span-requires c =
    let n = (let w = c.requires in
    next-span w.lent _ (c.loop-span.invariant w.image w.lent w.linked).linked c.loop-span-test.true) in
    let l = c.requires.lent in
    in_head l n.low n.high (omega arith)

pub loop-span-smaller : goal.loop-span-smaller
loop-span-smaller c = let n = (let w = c.requires in
    next-span w.lent _ (c.loop-span.invariant w.image w.lent w.linked).linked c.loop-span-test.true) in rw (c.from_head-span.ensures.is, n.link) (omega (arith, n.fewer))

pub loop-span-preserved : goal.loop-span-preserved
loop-span-preserved c img lent k = reaching-next lent _ _ _ (c.loop-span.invariant img lent k) c.loop-span-test.true c.if-span-target.false _ c.from_head-span.ensures.is

pub returns : goal.returns
returns c img lent k = reaching-end lent _ _ _ (c.loop-span.invariant img lent k) c.loop-span-test.false
