use Rattle.std.proofs.Common.{◌≡◌, ◌<◌, refl, arith}
use Rattle.entries.proofs.Places.{step-enough}
use Rattle.entries.proofs.Keys.{key-enough}
use Rattle.entries.proofs.Parts.{walking_start, walked-ends, walked-part, walking-next, pages-long, pages-here, pages-part, pages-next, compared}
use Rattle.entries.proofs.key.compare_across.Goals as goal
use Rattle.entries.proofs.key.compare_across.Goals.{then-loop-i-test+else-j-ne0, else-loop-i-test}

pub loop-i-init : goal.loop-i-init
loop-i-init c = (c.requires.0, c.requires.1, walking_start _ _)

pub settle-u-requires : goal.settle-u-requires
settle-u-requires c = (omega arith, omega arith, step-enough (key-enough c.loop-i.invariant.0.there c.loop-i-test.true))

pub settle-v-requires : goal.settle-v-requires
settle-v-requires c = (omega arith, omega arith, step-enough (key-enough c.loop-i.invariant.1.there c.if-j-ne0.true))

pub together-w-requires : goal.together-w-requires
together-w-requires c = (omega (arith, c.loop-i-test.true), omega (arith, c.if-j-ne0.true), omega (arith, c.settle-u.ensures.room), omega (arith, c.settle-v.ensures.room))

pub compare_here-order-requires : goal.compare_here-order-requires
compare_here-order-requires c =
    let g = c.together-w.ensures in
    (pages-here c.loop-i-test.true c.settle-u.ensures g.some g.first g.here, pages-here c.if-j-ne0.true c.settle-v.ensures g.some g.second g.there)

pub loop-i-preserved : goal.loop-i-preserved
loop-i-preserved c =
    let g = c.together-w.ensures in
    let w = c.loop-i.invariant in
    let first = pages-part c.loop-i-test.true c.settle-u.ensures g.some g.first g.here refl in
    let second = pages-part c.if-j-ne0.true c.settle-v.ensures g.some g.second g.there refl in
    (pages-next first w.0, pages-next second w.1, walking-next w.2 first second c.compare_here-order.ensures c.in-Equal.is)

pub overflow_add-x : goal.overflow_add-x
overflow_add-x c = omega (arith, c.together-w.ensures.here)

pub overflow_add-y : goal.overflow_add-y
overflow_add-y c = omega (arith, c.together-w.ensures.there)

pub overflow_sub-i : goal.overflow_sub-i
overflow_sub-i c = omega (arith, c.together-w.ensures.first)

pub overflow_sub-j : goal.overflow_sub-j
overflow_sub-j c = omega (arith, c.together-w.ensures.second)

pub loop-i-smaller : goal.loop-i-smaller
loop-i-smaller c = omega (arith, c.together-w.ensures.some, c.together-w.ensures.first)

pub returns-in_default : goal.returns-in_default
returns-in_default c =
    let g = c.together-w.ensures in
    compared (walked-part c.loop-i.invariant.2 (pages-part c.loop-i-test.true c.settle-u.ensures g.some g.first g.here refl)
    (pages-part c.if-j-ne0.true c.settle-v.ensures g.some g.second g.there refl) c.compare_here-order.ensures refl c.in_default.not-Equal)

pub returns : goal.returns
returns c =
    let z : 0 < c.loop-i.i → c.loop-i.j ≡ 0 = elim c.loop-i-test.branch [
      | then-loop-i-test+else-j-ne0 w ↦ λ h. w.if-j-ne0.false
      | else-loop-i-test w ↦ λ h. absurd (omega (arith, w.loop-i-test.false, h))
    ] in
    compared (walked-ends c.loop-i.invariant.2 pages-long pages-long z c.cmp.ensures)
