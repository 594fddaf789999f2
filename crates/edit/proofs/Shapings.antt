-- The shape of a span's entries after a change is that of the text's parts, and wants the pages that these want.
use Prim.Native.Nat.{ℕ, ◌+◌, ◌-◌, ◌/◌, ◌≤◌, ◌<◌, min}
use native.Mathlib.Omega.{arith}
use mathlib.Core.Path.{◌≡◌, refl, ap, ap₂, sym, ◌∙◌, subst}
use mathlib.Core.Bool.{false}
use mathlib.Core.List.{List, [], ◌∷◌, ◌++◌, append-nil}
use lib.ListN.{length, take, drop, length-take, length-drop, drop_of_length-le}
use lib.Seq.{take-length}
use Rattle.std.specs.Int.{from_bool, div_ceil}
use Rattle.blockfile.specs.Bytes.{pg, be16}
use Rattle.blockfile.specs.Layout.{Entry, Table, columns, entries_from, entries_end, reached}
use Rattle.blockfile.specs.Put.{Parts, parts, new_height, span_wanted}
use Rattle.laws.proofs.Positions.{entries-after}
use Rattle.laws.proofs.Splits.{parts-plain, parts-split}
use Rattle.search.specs.Spans.{SpanOn}
use Rattle.stage.specs.declared.change.Change.{Change}
use Rattle.stage.specs.declared.measure.Ends.{Ends}
use Rattle.stage.specs.Changes.{spliced, Fits}
use Rattle.stage.specs.Parts.{Measurable, Halved, MeasuredOn}
use Rattle.stage.proofs.Splices.{length-spliced}
use Rattle.edit.specs.declared.fields.SkipList.{SkipList}
use Rattle.edit.specs.declared.shape.Shape.{Shape}
use Rattle.edit.specs.declared.shape.Wants.{Wants}
use Rattle.edit.specs.Shapes.{ContsReady, ContsCounted, ShapeOf, ShapeReady, ShapeFor, Shaped, NewPages, WantsFor}

-- pages of 1016 bytes of a stream
pub ceil : (n : ℕ) {r : ℕ} → r ≡ div_ceil n 1016 → r ≡ (n + 1015) / 1016
ceil n e = omega (arith, e)

-- where a stream ends says how many pages it reaches
pages-reached : (n : ℕ) (es : List Entry) → n ≡ entries_end entries_from es → (n + 1015) / 1016 ≡ reached es
unfolding reached
pages-reached n es e = ap (λ (m : ℕ). (m + 1015) / 1016) e

-- it reaches the span's own
pub own-page : {x : Shape} → Shaped x → {n : ℕ} → n ≡ div_ceil x.stay 1016 → 1 ≤ n
own-page {x} s e = omega (arith, s.shape.stay, entries-after entries_from s.parts.stay, ceil x.stay e)

-- entries that move have pages, and with none there are none
moved-pages : (es : List Entry) → 1 ≤ length es → reached es ≡ span_wanted es
moved-pages [] l = absurd (omega arith)
moved-pages (e ∷ es) l = refl

none-moved : (es : List Entry) → length es ≡ 0 → 0 ≡ span_wanted es
none-moved [] l = refl
none-moved (e ∷ es) l = absurd (omega arith)

module _ (x : Shape) where
  pub new-some : x.half < x.entries → {n : ℕ} → n ≡ div_ceil x.moved 1016 → NewPages x n
  new-some l e =
      record { is = λ p s. ceil x.moved e ∙ pages-reached x.moved p.move s.moved ∙ moved-pages p.move (omega (arith, s.half, s.entries)) }

  pub new_none : x.entries ≤ x.half → NewPages x 0
  new_none l = record { is = λ p s. none-moved p.move (omega (arith, s.half, s.entries)) }

  pub wants-for : (w : Wants) → w.conts ≡ (x.stay + 1015) / 1016 - 1 → NewPages x w.span → w.tower ≡ min 1 x.height → WantsFor x w
  wants-for w a b c =
      record {
        is = λ p s.
            record {
              conts = a ∙ ap (λ (n : ℕ). n - 1) (pages-reached x.stay p.stay s.stay);
              span = b.is p s;
              tower = c ∙ ap (min 1) s.height;
            };
      }

-- ---- Measured

-- every span on the page has as many entries
span-size : {img : List ℕ} {page : ℕ} (y : SpanOn img page) → be16 (pg img page) 18 ≡ length y.linked.span.entries
span-size {img} y = subst (λ (p : ℕ). be16 (pg img p) 18 ≡ length y.linked.span.entries) y.at y.there.borne.0.size

-- the two halves of some entries as parts of a table, and all of them where there is no split
module _ (t : Table) (es : List Entry) (x : Shape) (many : x.entries ≡ length es) (stay : x.stay ≡ entries_end entries_from (take x.half es))
    (moved : x.moved ≡ entries_end entries_from (drop x.half es)) where
  shape-split : t.span_size < length es → x.half ≡ (length es + 1) / 2 → x.height ≡ new_height (length (columns t) + 1) t.head.max_height → ShapeOf (parts t es) x
  shape-split l h k =
      subst (λ (p : Parts). ShapeOf p x) (sym (parts-split t es l))
      (record {
        entries = many ∙ omega (arith, length-take ((length es + 1) / 2) es, length-drop ((length es + 1) / 2) es);
        half = omega (arith, h, length-take ((length es + 1) / 2) es);
        stay = stay ∙ ap (λ (n : ℕ). entries_end entries_from (take n es)) h;
        moved = moved ∙ ap (λ (n : ℕ). entries_end entries_from (drop n es)) h;
        height = k;
      })

  shape-plain : length es ≤ t.span_size → x.half ≡ x.entries → x.height ≡ 0 → ShapeOf (parts t es) x
  shape-plain l h k =
      subst (λ (p : Parts). ShapeOf p x) (sym (parts-plain t es l))
      (record {
        entries = many ∙ omega arith;
        half = h ∙ many;
        stay = stay ∙ ap (λ (n : ℕ). entries_end entries_from (take n es)) (h ∙ many) ∙ ap (entries_end entries_from) (take-length es);
        moved = moved ∙ ap (entries_end entries_from) (drop_of_length-le es {i = x.half} (omega (arith, h, many)));
        height = k;
      })

module _ {img : List ℕ} {page : ℕ} {c : Change} {both : ℕ} {l : SkipList} {size : ℕ} (r : ShapeReady img page c both l size) where
  -- the code's sum
  pub size-whole : (size < 65536) × (from_bool c.drops ≤ size + from_bool c.adds)
  size-whole = (omega (arith, r.many, r.fits.few), omega (arith, r.many, r.fits.inside))

  -- how many entries there are after the change
  entries-are : (y : SpanOn img page) → Fits c y.linked.span.entries → (e : Entry) → size + from_bool c.adds - from_bool c.drops ≡ length (spliced c e y.linked.span.entries)
  entries-are y f e = omega (arith, r.many, span-size r.span, span-size y, length-spliced c e y.linked.span.entries f)

  pub measurable : (half n : ℕ) → n ≡ size + from_bool c.adds - from_bool c.drops → half ≤ n → Measurable img page c half
  measurable half n q h = record { span = r.span; fits = r.fits; has = omega (arith, r.many, r.fits.inside) }

  module _ (ends : Ends) (half : ℕ) (m : MeasuredOn img page c both half ends) (many : ℕ) (q : many ≡ size + from_bool c.adds - from_bool c.drops) where
    pub shape-for-split : (height : ℕ) → l.most < many → half ≡ (many + 1) / 2 → height ≡ new_height (l.spans + 1) l.max
        → ShapeFor img page c both l (record { entries = many; half = half; stay = ends.stay; moved = ends.moved; height = height })
    shape-for-split height b h k =
        record {
          stay = m.stay_near;
          moved = m.moved_near;
          is = λ y f t o e z.
              let n : many ≡ length (spliced c e y.linked.span.entries) = q ∙ entries-are y f e in
              let v : Halved c e y.linked.span.entries half ends = m.is y e z in
              shape-split t (spliced c e y.linked.span.entries) _ n v.stay v.moved (omega (arith, o.most, n)) (h ∙ ap (λ (p : ℕ). (p + 1) / 2) n)
              (k ∙ ap₂ (λ (p w : ℕ). new_height (p + 1) w) o.spans o.max);
        }

    pub shape-for-plain : (height : ℕ) → many ≤ l.most → half ≡ many → height ≡ 0
        → ShapeFor img page c both l (record { entries = many; half = half; stay = ends.stay; moved = ends.moved; height = height })
    shape-for-plain height b h k =
        record {
          stay = m.stay_near;
          moved = m.moved_near;
          is = λ y f t o e z.
              let n : many ≡ length (spliced c e y.linked.span.entries) = q ∙ entries-are y f e in
              let v : Halved c e y.linked.span.entries half ends = m.is y e z in
              shape-plain t (spliced c e y.linked.span.entries) _ n v.stay v.moved (omega (arith, o.most, n)) h k;
        }

-- ---- The continuation pages that a span has

-- no entry gives way and none comes
abbrev pub no_change : ℕ → Change
no_change n = record { index = n; drops = false; adds = false }

no_change_lem : (e : Entry) (es : List Entry) (n : ℕ) → n ≡ length es → take n (spliced (no_change n) e es) ≡ es
unfolding spliced
no_change_lem e es n h =
    let a : take n es ≡ es = ap (λ (k : ℕ). take k es) h ∙ take-length es in
    let b : drop (n + 0) es ≡ [] = drop_of_length-le es {i = n + 0} (omega (arith, h)) in
    ap₂ (λ (k l : List Entry). take n (k ++ l)) a b ∙ ap (take n) (append-nil es) ∙ a

module _ {img : List ℕ} {page size : ℕ} (r : ContsReady img page size) where
  pub none-fits : Measurable img page (no_change size) size
  none-fits =
      record {
        span = r.span;
        fits = record { inside = omega (arith, r.many); few = omega (arith, r.many, r.few) };
        has = omega (arith, r.many);
      }

  module _ (ends : Ends) (m : MeasuredOn img page (no_change size) 0 size ends) where
    end_is : (y : SpanOn img page) → ends.stay ≡ entries_end entries_from y.linked.span.entries
    end_is y =
        let e : Entry = record { key = []; value = [] } in
        (m.is y e refl).stay
        ∙ ap (entries_end entries_from) (no_change_lem e y.linked.span.entries size (omega (arith, r.many, span-size r.span, span-size y)))

    pub one-reached : {n : ℕ} → n ≡ div_ceil ends.stay 1016 → 1 ≤ n
    one-reached e = omega (arith, ceil ends.stay e, end_is r.span, entries-after entries_from r.span.linked.span.entries)

    pub conts-counted : {n : ℕ} → n ≡ div_ceil ends.stay 1016 → ContsCounted img page (n - 1)
    conts-counted e = record { is = λ y. omega (arith, ceil ends.stay e, pages-reached ends.stay y.linked.span.entries (end_is y), y.there.reach) }
