-- The walk along the spans from one up to the target: it ends at the target.
use Prim.Native.Nat.{ℕ, zero, suc, ◌+◌, ◌-◌, ◌≤◌, ◌<◌}
use native.Mathlib.Omega.{arith}
use native.Mathlib.Decide.{dec_lt}
use mathlib.Core.Path.{◌≡◌, refl, ap, sym, ◌∙◌, subst}
use mathlib.Core.Logic.{◌⊎◌, inl, inr, by_cases}
use mathlib.Core.Bool.{Bool, true, false, not, true≢false}
use mathlib.Core.List.{List}
use lib.ListN.{take, drop, length-map}
use Rattle.blockfile.specs.Bytes.{pg, be32, Every}
use Rattle.blockfile.specs.Layout.{Tower, Span, spans_of, towers_of}
use Rattle.blockfile.specs.Put.{begins, target, span_at, last_at}
use Rattle.blockfile.specs.Path.{begun, passed}
use Rattle.blockfile.proofs.Every.{every-left}
use Rattle.laws.proofs.Relinks.{towers-cut}
use Rattle.laws.proofs.Paths.{Cut, cut-begun, cut_later, passed-cut, table-cut, target-cut, cut_most}
use Rattle.pages.specs.Places.{Inside}
use Rattle.entries.specs.Places.{IsPage}
use Rattle.search.specs.declared.span.Bound.{Bound}
use Rattle.search.specs.declared.table.TableRef.{TableRef}
use Rattle.search.specs.Spans.{FilledBy, OverOn}
use Rattle.search.specs.Tables.{Reading, ReadingBy}
use Rattle.search.specs.Paths.{Started, LowestIn, start_on}
use Rattle.search.proofs.Tables.{ordered, reading-first, said_at, reading-filled, at_target}
use Rattle.search.proofs.Distinct.{steps, page_at, places, place_inside, next-page, last-page, steps-from}
use Rattle.search.proofs.Towers.{tower-pages, last-is, last-first, towers-from, head-borne, last-names}

module _ {img : List ℕ} {root : ℕ} (t : Reading img root) (k : List ℕ) where
  abbrev goal : ℕ
  goal = target t.rule k t.table

  abbrev spans : List Span
  spans = spans_of t.table.rest

  cut : Cut (begins t.rule k) spans goal
  cut = target-cut t.rule (ordered t) k t.table t.readable.ok

  over-near : (i : ℕ) → i < goal → not (begun false t.rule k (span_at t.table (suc i)).entries) ≡ false
  unfolding span_at
  over-near i l = ap not (cut-begun spans goal t.table.first cut i l)

  over-far : (i : ℕ) → suc i < places t → goal ≤ i → not (begun false t.rule k (span_at t.table (suc i)).entries) ≡ true
  unfolding span_at
  over-far i h l = ap not (cut_later spans goal t.table.first cut i l (omega (arith, length-map t.table.rest (λ c. c.span))))

  -- ---- Where it begins

  -- a lowest tower that was passed
  module _ (strict : Bool) {n : ℕ} (e : n ≡ passed (begun strict t.rule k) t.table 0) where
    abbrev most : ℕ
    most = (table-cut t.rule (ordered t) k t.table t.readable.ok strict).0

    last-tower : n ≡ last_at 0 t.table.head.page (towers_of (take most t.table.rest))
    last-tower = e ∙ passed-cut (begun strict t.rule k) t.table most (table-cut t.rule (ordered t) k t.table t.readable.ok strict).1 0

    lowest-inside : Inside img n 12 4
    lowest-inside =
        let p : IsPage img n
        = subst (IsPage img) (sym last-tower)
        (last-is (IsPage img) 0 t.table.head.page (towers_of (take most t.table.rest)) (head-borne t).1.0
        (every-left (λ (w : Tower). IsPage img w.page) (towers_of (take most t.table.rest)) (towers_of (drop most t.table.rest))
        (subst (Every (λ (w : Tower). IsPage img w.page)) (towers-cut most t.table.rest) (tower-pages img t.table.rest (towers-from t 1))))) in
        record { small = t.readable.small; low = p.low; high = p.high; fits = omega arith }

    start-lowest : (page : ℕ) → page ≡ be32 (pg img n) 12 → Started t k page
    unfolding span_at
    start-lowest page f =
        let s = last-names t most 0 in
        record {
          place = s.0;
          most = omega (arith, s.1, cut_most t.rule (ordered t) k t.table t.readable.ok strict most (table-cut t.rule (ordered t) k t.table t.readable.ok strict).1);
          is = f ∙ ap (λ (p : ℕ). be32 (pg img p) 12) (last-tower ∙ sym (last-first 0 t.table.head (towers_of (take most t.table.rest)))) ∙ s.2;
        }

  start-at : (strict : Bool) (n page : ℕ) → (n ≡ 0) ⊎ (n ≡ passed (begun strict t.rule k) t.table 0) → page ≡ start_on img root n → Started t k page
  unfolding span_at
  start-at strict zero page a e = record { place = 0; most = omega arith; is = e ∙ reading-first t }
  start-at strict (suc n) page (inl z) e = absurd (omega arith)
  start-at strict (suc n) page (inr p) e = start-lowest strict p page e

  -- ---- A step

  module _ {page : ℕ} (s : Started t k page) where
    within : s.place < places t
    within = omega (arith, s.most, (at_target t k).place)

    pub walk_inside : (o n : ℕ) → o + n ≤ 1024 → Inside img page o n
    walk_inside o n h = subst (λ (p : ℕ). Inside img p o n) (sym s.is) (place_inside t s.place within o n h)

    at-goal : goal ≤ s.place → page ≡ (span_at t.table goal).page
    at-goal h = let e : s.place ≡ goal = omega (arith, s.most) in s.is ∙ ap (λ (i : ℕ). (span_at t.table i).page) e

    module _ (next : ℕ) (e : next ≡ be32 (pg img page) 12) where
      next_of : next ≡ be32 (pg img (page_at t s.place)) 12
      next_of = e ∙ ap (λ (p : ℕ). be32 (pg img p) 12) s.is

      pub walk_end : next ≡ 0 → page ≡ (span_at t.table goal).page
      walk_end z =
          by_cases (dec_lt (suc s.place) (places t))
          (λ l. absurd (omega (arith, next_of, next-page t s.place l, (place_inside t (suc s.place) l 0 0 (omega arith)).low)))
          (λ l. at-goal (omega (arith, (at_target t k).place)))

      module _ (z : next ≡ 0 → ⊥) where
        further : suc s.place < places t
        further =
            by_cases (dec_lt (suc s.place) (places t)) (λ l. l)
            (λ l. absurd (z (next_of ∙ last-page t s.place (omega (arith, within)))))

        here-next : next ≡ page_at t (suc s.place)
        here-next = next_of ∙ next-page t s.place further

        pub walk-less : steps img (be32 (pg img root) 20) next < steps img (be32 (pg img root) 20) page
        walk-less =
            let a : steps img (be32 (pg img root) 20) next ≡ places t - suc s.place = rw here-next (steps-from t (suc s.place) further) in
            let b : steps img (be32 (pg img root) 20) page ≡ places t - s.place = rw s.is (steps-from t s.place within) in
            omega (arith, further)

        module _ {bound : Bound} (by : t.readable.order.sort ≡ bound.sort) (plain : bound.strict ≡ false) where
          pub walk-span : FilledBy img next bound.sort
          walk-span = reading-filled t s.place further next here-next by

          next-over : (b : Bool) → OverOn img next bound k b → b ≡ not (begun false t.rule k (span_at t.table (suc s.place)).entries)
          next-over b o =
              said_at t (suc s.place) further next here-next by (λ r es. b ≡ not (begun bound.strict r k es)) o.is
              ∙ ap (λ (v : Bool). not (begun v t.rule k (span_at t.table (suc s.place)).entries)) plain

          pub walk-stop : (b : Bool) → OverOn img next bound k b → b ≡ true → page ≡ (span_at t.table goal).page
          walk-stop b o v =
              by_cases (dec_lt s.place goal) (λ l. absurd (true≢false (sym v ∙ next-over b o ∙ over-near s.place l))) (λ l. at-goal (omega arith))

          pub walk-on : (b : Bool) → OverOn img next bound k b → b ≡ false → Started t k next
          walk-on b o v =
              by_cases (dec_lt s.place goal) (λ l. record { place = suc s.place; most = l; is = here-next })
              (λ l. absurd (true≢false (sym (over-far s.place further (omega arith)) ∙ sym (next-over b o) ∙ v)))

-- ---- start

pub start_none : (img : List ℕ) (root n r : ℕ) → n ≡ 0 → r ≡ be32 (pg img root) 8 → r ≡ start_on img root n
start_none img root zero r z e = e
start_none img root (suc n) r z e = absurd (omega arith)

pub start-some : (img : List ℕ) (root n r : ℕ) → (n ≡ 0 → ⊥) → r ≡ be32 (pg img n) 12 → r ≡ start_on img root n
start-some img root zero r z e = absurd (z refl)
start-some img root (suc n) r z e = e

module _ {img : List ℕ} {d : TableRef} (x : ReadingBy img d) {k : List ℕ} {n : ℕ} (l : LowestIn img d k n) where
  pub start-inside : (n ≡ 0 → ⊥) → Inside img n 12 4
  start-inside z = go (l.is x)
    where
      go : (n ≡ 0) ⊎ (n ≡ passed (begun l.strict x.of.rule k) x.of.table 0) → Inside img n 12 4
      go (inl e) = absurd (z e)
      go (inr e) = lowest-inside x.of k l.strict e

  pub started : (page : ℕ) → page ≡ start_on img d.root n → Started x.of k page
  started page e = start-at x.of k l.strict n page (l.is x) e
