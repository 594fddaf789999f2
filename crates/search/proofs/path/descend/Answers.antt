use native.Mathlib.Omega.{arith}
use mathlib.Core.Path.{refl, sym, ◌∙◌}
use mathlib.Core.Logic.{inl}
use Rattle.search.proofs.Tables.{reading-inside}
use Rattle.search.proofs.Towers.{head-inside, head-height}
use Rattle.search.proofs.Descents.{going_start, entry-below, inside-below, going-page, going-inside, going-ahead, going-passed, going-down, going-some, going_on, noted-start, noted_more, noted-all, noted-end}
use Rattle.search.proofs.path.descend.Goals as goal

pub get-tower-requires : goal.get-tower-requires
get-tower-requires c = reading-inside c.requires.of _ _ (omega arith)

pub get-height-requires : goal.get-height-requires
get-height-requires c = head-inside c.requires.of _ c.get-tower.ensures.is _ _ (omega arith)

pub get-left-requires : goal.get-left-requires
get-left-requires c = reading-inside c.requires.of _ _ (omega arith)

pub loop-level-init : goal.loop-level-init
loop-level-init c = (λ t. (going_start t _ _ _ _ _ c.get-tower.ensures.is c.get-height.ensures.is c.get-left.ensures.is, noted-start t _ _ _), inl refl)

pub overflow_mul-level : goal.overflow_mul-level
overflow_mul-level c = let w = (c.loop-level.invariant.0 c.requires).0 in omega (arith, w.few)

pub overflow_add-level : goal.overflow_add-level
overflow_add-level c = let w = (c.loop-level.invariant.0 c.requires).0 in omega (arith, w.few)

pub get-next-requires : goal.get-next-requires
get-next-requires c =
    let t = c.requires in
    let w = (c.loop-level.invariant.0 t).0 in
    inside-below t _ _ w c.loop-level-test.true (going-inside t _ _ w _ (omega (arith, c.loop-level-test.true)))

pub refuses-requires : goal.refuses-requires
refuses-requires c =
    let z = c.loop-level-test.true in
    let t = c.requires in
    let w = (c.loop-level.invariant.0 t).0 in
    (going-ahead t _ _ w _ (omega (arith, z)) _ (entry-below t _ _ w z _ c.get-next.ensures.is), c.loop-level.invariant.1)

-- ---- The tower that is refused is the very next one

pub get-requires : goal.get-requires
get-requires c =
    let t = c.requires in
    going-inside t _ _ (c.loop-level.invariant.0 t).0 0 (omega (arith, c.loop-level-test.true))

pub overflow_cast-tower : goal.overflow_cast-tower
overflow_cast-tower c =
    let t = c.requires in
    omega (arith, (going-page t _ _ (c.loop-level.invariant.0 t).0).high, t.of.readable.small)

pub fill-requires : goal.fill-requires
fill-requires c =
    let w = c.loop-level.invariant.0 c.requires in
    (omega (arith, w.0.few), w.1.long)

pub returns-then-get-next : goal.returns-then-get-next
returns-then-get-next c =
    let same = c.if-get-next.true in
    record {
      is = λ t.
          let w = c.loop-level.invariant.0 t in
          noted-end t _ _
          (noted-all t _ _ w.1 _
          (λ i b. going-passed t _ _ w.0 0 (omega (arith, c.loop-level-test.true)) _ (sym same ∙ c.get.ensures.is) (c.refuses.ensures.stop c.if-refuses.true) i (omega arith) b)
          c.fill.ensures) (head-height t.of _ _ c.get-tower.ensures.is c.get-height.ensures.is);
    }

-- ---- A level down

pub overflow_cast-pages : goal.overflow_cast-pages
overflow_cast-pages c =
    let t = c.requires in
    omega (arith, (going-page t _ _ (c.loop-level.invariant.0 t).0).high, t.of.readable.small)

pub offset_bounds-pages-level : goal.offset_bounds-pages-level
offset_bounds-pages-level c =
    let w = (c.loop-level.invariant.0 c.requires).0 in
    omega (arith, w.few)

pub bounds-pages-level : goal.bounds-pages-level
bounds-pages-level c =
    let w = c.loop-level.invariant.0 c.requires in
    omega (arith, w.0.few, w.1.long)

pub loop-level-preserved-then-refuses : goal.loop-level-preserved-then-refuses
loop-level-preserved-then-refuses c =
    let z = c.loop-level-test.true in
    let stop = c.refuses.ensures.stop c.if-refuses.true in (
      λ x.
          let w = c.loop-level.invariant.0 x in (
            going-down x _ _ w.0 _ (omega arith),
            noted_more x _ _ w.1 _ (omega (arith, z)) (omega (arith, w.0.few, z)) _
                (going-passed x _ _ w.0 _ (omega (arith, z)) _ (entry-below x _ _ w.0 z _ c.get-next.ensures.is) stop _ (omega arith) (omega (arith, z))),
          ),
      stop,
    )

-- ---- A tower on

pub overflow_sub-left : goal.overflow_sub-left
overflow_sub-left c =
    let z = c.loop-level-test.true in
    let t = c.requires in
    let pass = c.refuses.ensures.pass c.if-refuses.false in
    let w = (c.loop-level.invariant.0 t).0 in
    going-some t _ _ w _ (omega (arith, z)) _ (entry-below t _ _ w z _ c.get-next.ensures.is) pass.0 pass.1

pub loop-level-smaller : goal.loop-level-smaller
loop-level-smaller c = omega (arith, overflow_sub-left c)

pub loop-level-preserved : goal.loop-level-preserved
loop-level-preserved c =
    let z = c.loop-level-test.true in
    let pass = c.refuses.ensures.pass c.if-refuses.false in (
      λ x.
          let w = c.loop-level.invariant.0 x in
          (going_on x _ _ w.0 _ (omega (arith, z)) _ (entry-below x _ _ w.0 z _ c.get-next.ensures.is) pass.0 pass.1 (omega (arith, z)), w.1),
      c.loop-level.invariant.1,
    )

pub returns : goal.returns
returns c =
    record { is = λ t. let w = (c.loop-level.invariant.0 t).1 in noted-end t _ _ (rw c.loop-level-test.false at w) (head-height t.of _ _ c.get-tower.ensures.is c.get-height.ensures.is) }
