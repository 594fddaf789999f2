use Rattle.std.proofs.Common.{◌≡◌, ◌<◌, ◌-◌, length, refl, arith}
use Rattle.entries.proofs.Places.{step-enough}
use Rattle.entries.proofs.Keys.{key-enough}
use Rattle.entries.proofs.Parts.{walking_start, walked-ends, walked-part, walking-next, pages-long, pages-here, pages-part, pages-next, from-long, from-part, compared-to}
use Rattle.entries.proofs.key.compare_slice_across.Goals as goal
use Rattle.entries.proofs.key.compare_slice_across.Goals.{then-loop-i-test+else-j-key, else-loop-i-test}

pub loop-i-init : goal.loop-i-init
loop-i-init c = (c.requires, omega arith, walking_start _ _)

pub settle-u-requires : goal.settle-u-requires
settle-u-requires c = (omega arith, omega arith, step-enough (key-enough c.loop-i.invariant.0.there c.loop-i-test.true))

pub together-w-requires : goal.together-w-requires
together-w-requires c = (omega (arith, c.loop-i-test.true), omega arith, omega (arith, c.settle-u.ensures.room), omega arith)

pub bytes_at-requires : goal.bytes_at-requires
bytes_at-requires c =
    let g = c.together-w.ensures in
    pages-here c.loop-i-test.true c.settle-u.ensures g.some g.first g.here

-- the parts differ
pub returns-in_default : goal.returns-in_default
returns-in_default c =
    let g = c.together-w.ensures in
    compared-to (walked-part c.loop-i.invariant.2
    (pages-part c.loop-i-test.true c.settle-u.ensures g.some g.first g.here c.bytes_at.ensures) (from-part _ _ _ g.second) c.compare_bytes-order.ensures
    refl c.in_default.not-Equal)

pub loop-i-preserved : goal.loop-i-preserved
loop-i-preserved c =
    let g = c.together-w.ensures in
    let w = c.loop-i.invariant in
    let first = pages-part c.loop-i-test.true c.settle-u.ensures g.some g.first g.here c.bytes_at.ensures in
    (pages-next first w.0, omega (arith, w.1, g.second), walking-next w.2 first (from-part _ _ _ g.second) c.compare_bytes-order.ensures c.in-Equal.is)

pub overflow_add-end : goal.overflow_add-end
overflow_add-end c = omega (arith, c.together-w.ensures.second)

pub slice_bounds-compare_bytes-start : goal.slice_bounds-compare_bytes-start
slice_bounds-compare_bytes-start c = omega (arith, c.together-w.ensures.second)

pub slice_bounds-compare_bytes-end : goal.slice_bounds-compare_bytes-end
slice_bounds-compare_bytes-end c = omega (arith, c.together-w.ensures.second)

pub overflow_add-x : goal.overflow_add-x
overflow_add-x c = omega (arith, c.together-w.ensures.here)

pub overflow_sub-i : goal.overflow_sub-i
overflow_sub-i c = omega (arith, c.together-w.ensures.first)

pub loop-i-smaller : goal.loop-i-smaller
loop-i-smaller c = omega (arith, c.together-w.ensures.some, c.together-w.ensures.first)

pub returns : goal.returns
returns c =
    let z : 0 < c.loop-i.i → length c.args.key.now - c.loop-i.j ≡ 0 = elim c.loop-i-test.branch [
      | then-loop-i-test+else-j-key w ↦ λ h. omega (arith, w.if-j-key.false)
      | else-loop-i-test w ↦ λ h. absurd (omega (arith, w.loop-i-test.false, h))
    ] in
    compared-to (walked-ends c.loop-i.invariant.2 pages-long (from-long c.args.key.now c.loop-i.j) z c.cmp.ensures)
