use mathlib.Core.Path.{refl}
use native.Mathlib.Omega.{arith}
use Rattle.blockfile.specs.Bytes.{be16, be32}
use Rattle.heads.proofs.Claims.{in_head, head32-read}
use Rattle.walks.proofs.Founds.{unclaimed-most}
use Rattle.towers.proofs.Climbs.{climbing-start, climbing-open, climbing-end, climbing-no, Turn, climbing-turn, turn-in-head, turn-span, climbing-next}
use Rattle.towers.proofs.claim_others.Goals as goal
use Rattle.towers.proofs.claim_others.Goals.{In_ok-height}

-- a turn in which a tower was placed
turned : (c : In_ok-height) → Turn c.args.image.now c.loop-page.scratch c.args.top c.loop-page.page c.in_ok-height.height c.place_tower.new.scratch
turned c =
    let inv = c.loop-page.invariant in
    climbing-turn _ _ _ _ _ _ _ _ _ _ inv c.loop-page-test.true _ _ (c.place_tower.ensures _ inv.lent inv.linked) _ c.in_ok-height.was

pub loop-page-init : goal.loop-page-init
unfolding be32 be16
loop-page-init c =
    climbing-start _ _ _ _ _ _ _ c.requires.0 c.requires.2 refl refl c.follow.ensures _ c.get-page.ensures.is

pub returns-in_err-height : goal.returns-in_err-height
returns-in_err-height c =
    let inv = c.loop-page.invariant in
    rw c.from_residual.ensures (climbing-no _ _ _ _ _ _ _ _ _ _ inv c.loop-page-test.true _ _ (c.place_tower.ensures _ inv.lent inv.linked) c.in_err-height.was)

pub follow-requires-in-loop-page : goal.follow-requires-in-loop-page
follow-requires-in-loop-page c =
    let inv = c.loop-page.invariant in
    let t = turned (goal.at.follow-requires-in-loop-page c).In_ok-height in
    record { small = omega arith; low = t.low; high = t.high; fits = omega arith }

pub from_head-span-requires : goal.from_head-span-requires
from_head-span-requires c = turn-in-head (turned (goal.at.from_head-span-requires c).In_ok-height) (omega arith)

pub from_head-next-requires : goal.from_head-next-requires
from_head-next-requires c =
    let t = turned (goal.at.from_head-next-requires c).In_ok-height in
    rw (turn-span t c.from_head-span.ensures) (in_head t.lent t.span_low t.span_high (omega arith))

pub overflow_add-count : goal.overflow_add-count
overflow_add-count c =
    let inv = c.loop-page.invariant in
    let t = turned (goal.at.overflow_add-count c).In_ok-height in
    omega (arith, t.falls, unclaimed-most c.args.scratch.now, c.requires.0.room.whole, c.requires.0.room.most)

pub from_head-page-requires : goal.from_head-page-requires
from_head-page-requires c = turn-in-head (turned (goal.at.from_head-page-requires c).In_ok-height) (omega arith)

pub loop-page-preserved : goal.loop-page-preserved
loop-page-preserved c =
    let inv = c.loop-page.invariant in
    let t = turned (goal.at.loop-page-preserved c).In_ok-height in
    climbing-next _ _ _ _ _ _ _ _ _ _ inv c.loop-page-test.true _ _ (c.place_tower.ensures _ inv.lent inv.linked) _ c.in_ok-height.was
    _ c.follow-in-loop-page.ensures _ _ (turn-span t c.from_head-span.ensures) c.from_head-next.ensures.is
    _ (head32-read t.lent (turn-in-head t (omega arith)) (omega arith) c.from_head-page.ensures).is

pub returns-then-not-all_are : goal.returns-then-not-all_are
returns-then-not-all_are c = climbing-open _ _ _ _ _ _ _ _ _ _ c.loop-page.invariant c.loop-page-test.false _ c.all_are.ensures c.if-not-all_are.true

pub returns : goal.returns
returns c = climbing-end _ _ _ _ _ _ _ _ _ _ c.loop-page.invariant c.loop-page-test.false _ c.all_are.ensures c.if-not-all_are.false

pub loop-page-smaller : goal.loop-page-smaller
loop-page-smaller c = omega (arith, (turned (goal.at.loop-page-smaller c).In_ok-height).falls)
