use native.Mathlib.Omega.{arith}
use mathlib.Core.Path.{refl}
use Rattle.search.proofs.Tables.{reading-inside}
use Rattle.search.proofs.Walking.{start-inside, started, walk_inside, walk_end, walk-span, walk-stop, walk-on, walk-less}
use Rattle.search.proofs.table.find_from.Goals as goal

pub start-page-requires : goal.start-page-requires
start-page-requires c =
    let p = c.requires in
    (reading-inside p.0.of _ _ (omega arith), start-inside p.0 p.1)

pub get-next-requires : goal.get-next-requires
get-next-requires c =
    let p = c.requires in
    walk_inside p.0.of _ (started p.0 p.1 _ c.start-page.ensures) _ _ (omega arith)

pub loop-next-init : goal.loop-next-init
loop-next-init c =
    let p = c.requires in
    (λ x. started x p.1 _ c.start-page.ensures, c.get-next.ensures.is)

pub begins_past-requires : goal.begins_past-requires
begins_past-requires c =
    let v = c.loop-next.invariant in
    let x = c.requires.0 in
    walk-span x.of _ (v.0 x) _ v.1 c.loop-next-test.true x.by refl

pub returns-then-begins_past : goal.returns-then-begins_past
returns-then-begins_past c =
    let v = c.loop-next.invariant in
    record { is = λ x. walk-stop x.of _ (v.0 x) _ v.1 c.loop-next-test.true x.by refl _ c.begins_past.ensures c.if-begins_past.true }

pub get-next-requires-in-loop-next : goal.get-next-requires-in-loop-next
get-next-requires-in-loop-next c =
    let v = c.loop-next.invariant in
    let x = c.requires.0 in
    walk_inside x.of _ (walk-on x.of _ (v.0 x) _ v.1 c.loop-next-test.true x.by refl _ c.begins_past.ensures c.if-begins_past.false) _ _ (omega arith)

pub loop-next-smaller : goal.loop-next-smaller
loop-next-smaller c =
    let v = c.loop-next.invariant in
    let x = c.requires.0 in
    walk-less x.of _ (v.0 x) _ v.1 c.loop-next-test.true

pub loop-next-preserved : goal.loop-next-preserved
loop-next-preserved c =
    let v = c.loop-next.invariant in
    (λ x. walk-on x.of _ (v.0 x) _ v.1 c.loop-next-test.true x.by refl _ c.begins_past.ensures c.if-begins_past.false, c.get-next-in-loop-next.ensures.is)

pub returns : goal.returns
returns c = let v = c.loop-next.invariant in record { is = λ x. walk_end x.of _ (v.0 x) _ v.1 c.loop-next-test.false }
