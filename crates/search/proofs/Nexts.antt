-- The ways through `next_key`: the next key is in the target span, or it is the first of the span behind it.
use Prim.Native.Nat.{ℕ, suc, ◌<◌}
use native.Mathlib.Omega.{arith}
use native.Mathlib.Decide.{dec_lt}
use mathlib.Core.Path.{◌≡◌, refl, ap, sym, ◌∙◌, subst}
use mathlib.Core.Logic.{by_cases}
use mathlib.Core.Bool.{not, false}
use mathlib.Core.List.{List, [], ◌∷◌, map}
use mathlib.Core.Option.{Option as TextOption}
use lib.ListN.{length, drop, drop_of_length-le}
use lib.Seq.{drop-cons}
use lib.Dec.{T}
use Rattle.blockfile.specs.Bytes.{pg, be32, Every, gather, first_of}
use Rattle.blockfile.specs.Layout.{Entry, Span, columns, entries_of}
use Rattle.blockfile.specs.Order.{KeyRule, above}
use Rattle.blockfile.specs.Put.{begins, target, span_at}
use Rattle.blockfile.proofs.Bools.{so}
use Rattle.blockfile.proofs.Every.{every-left, every-right, every-so}
use Rattle.laws.proofs.Middle.{AllOver, or_then}
use Rattle.laws.proofs.Targets.{next_span_key, above-empty, least-key, above_at}
use Rattle.laws.proofs.Paths.{last-behind}
use Rattle.order.proofs.Sorts.{below-some}
use Rattle.std.specs.Prelude.{Option, Some, None}
use Rattle.search.specs.declared.span.Extent.{Extent}
use Rattle.search.specs.declared.table.TableRef.{TableRef}
use Rattle.search.specs.Spans.{Sorts, SpanOn, EntryThere, Answered, AboveOn, KeyOf}
use Rattle.search.specs.Tables.{Reading, ReadingBy, TargetIn}
use Rattle.search.proofs.Seeks.{answer-none, answer-as}
use Rattle.search.proofs.Tables.{spans_here, length-spans, ordered, only-first, reading-span, next-at, first-there, first-at, place, at_target, said-target}

-- the empty key is below every key that is allowed
least-below : (r : KeyRule) → Sorts r → (j : List ℕ) → T (r.allowed j) → T (r.below [] j)
least-below r w j h = subst T (sym (w.below [] j)) (below-some w.sort j (w.some j h))

-- spans whose keys are all above the key do not begin at it or below it
all-begin : (r : KeyRule) (k : List ℕ) (ss : List Span) → AllOver r k (gather (λ s. s.entries) ss) → Every (λ s. begins r k s.entries ≡ false) ss
all-begin r k [] h = tt
all-begin r k (s ∷ ss) h = (
  go s.entries (every-left (λ (y : Entry). T (r.below k y.key)) s.entries (gather (λ s. s.entries) ss) h),
  all-begin r k ss (every-right (λ (y : Entry). T (r.below k y.key)) s.entries (gather (λ s. s.entries) ss) h),
)
  where
    go : (es : List Entry) → AllOver r k es → begins r k es ≡ false
    go [] h = refl
    go (e ∷ es) h = ap not (so (r.below k e.key) h.0)

module _ {img : List ℕ} {root : ℕ} (t : Reading img root) where
  -- so its target is the first span
  empty-first : target t.rule [] t.table ≡ 0
  unfolding target
  empty-first =
      last-behind t.rule [] 0 0 (spans_here t)
      (all-begin t.rule [] (spans_here t)
      (every-so (λ (e : Entry). T (t.rule.allowed e.key)) (λ e. least-below t.rule t.readable.order e.key) (entries_of t.table) t.readable.ok.keys))

  least : above t.rule [] (entries_of t.table) ≡ or_then (above t.rule [] (span_at t.table 0).entries) (next_span_key (drop 1 (spans_here t)))
  unfolding span_at
  least =
      least-key t.rule t.table t.readable.ok
      ∙ ap (λ (o : TextOption (List ℕ)). or_then o (next_span_key (drop 1 (spans_here t)))) (sym (above-empty t.rule t.table.first.entries))

  above-target : (k : List ℕ)
      → above t.rule k (entries_of t.table) ≡ or_then (above t.rule k (span_at t.table (place t k)).entries) (next_span_key (drop (suc (place t k)) (spans_here t)))
  above-target [] =
      subst
      (λ (i : ℕ). above t.rule [] (entries_of t.table) ≡ or_then (above t.rule [] (span_at t.table i).entries) (next_span_key (drop (suc i) (spans_here t))))
      (sym empty-first) least
  above-target (x ∷ k) = above_at t.rule (ordered t) (x ∷ k) t.table (place t (x ∷ k)) (at_target t (x ∷ k)) t.readable.ok refl

module _ {img : List ℕ} {d : TableRef} (x : ReadingBy img d) (k : List ℕ) (page : ℕ) (h : TargetIn img d k page) (a : Option Extent) (f : AboveOn img page d.sort k a) where
  abbrev t : Reading img d.root
  t = x.of

  here : Answered img (above t.rule k (span_at t.table (place t k)).entries) a
  here = said-target x k page h (λ r es. Answered img (above r k es) a) f.is

  -- it is in the target span
  pub next_here : (x : Extent) → a ≡ Some x → Answered img (above t.rule k (entries_of t.table)) (Some x)
  next_here x e =
      let v = here.found x e in
      let same : or_then (above t.rule k (span_at t.table (place t k)).entries) (next_span_key (drop (suc (place t k)) (spans_here t)))
      ≡ above t.rule k (span_at t.table (place t k)).entries = rw v.1 in
      subst (λ (r : Option Extent). Answered img (above t.rule k (entries_of t.table)) r) e (answer-as (above-target t k ∙ same) here)

  module _ (e : a ≡ None) (next : ℕ) (is : next ≡ be32 (pg img page) 12) where
    abbrev behind : ℕ
    behind = suc (place t k)

    above-behind : above t.rule k (entries_of t.table) ≡ next_span_key (drop behind (spans_here t))
    above-behind = above-target t k ∙ ap (λ (o : TextOption (List ℕ)). or_then o (next_span_key (drop behind (spans_here t)))) (here.missing e)

    linked : next ≡ first_of (map (λ s. s.page) (drop behind (spans_here t)))
    linked = is ∙ next-at t (place t k) (at_target t k).place page (h.is x)

    span-behind : behind < length (columns t.table) → drop behind (spans_here t) ≡ span_at t.table behind ∷ drop (suc behind) (spans_here t)
    unfolding span_at
    span-behind l = drop-cons (spans_here t) behind t.table.first (omega (arith, length-spans t))

    page-behind : (l : behind < length (columns t.table)) → next ≡ (span_at t.table behind).page
    page-behind l = linked ∙ ap (λ (ss : List Span). first_of (map (λ s. s.page) ss)) (span-behind l)

    no_span : (behind < length (columns t.table) → ⊥) → drop behind (spans_here t) ≡ []
    no_span l = drop_of_length-le (spans_here t) {i = behind} (omega (arith, length-spans t, l))

    -- there is no span behind
    pub next-none : next ≡ 0 → Answered img (above t.rule k (entries_of t.table)) None
    next-none z =
        by_cases (dec_lt behind (length (columns t.table)))
        (λ l. absurd (let x : SpanOn img next = reading-span t behind l next (page-behind l) in omega (arith, z, x.there.borne.1.0.low, x.at)))
        (λ l. answer-none (above-behind ∙ ap next_span_key (no_span l)))

    module _ (z : next ≡ 0 → ⊥) where
      within : behind < length (columns t.table)
      within =
          by_cases (dec_lt behind (length (columns t.table))) (λ l. l) (λ l. absurd (z (linked ∙ ap (λ (ss : List Span). first_of (map (λ s. s.page) ss)) (no_span l))))

      filled : length (span_at t.table behind).entries ≡ 0 → ⊥
      filled n = omega (arith, only-first t behind within n)

      -- its first key
      pub next-there : EntryThere img (record { page = next; offset = 20 })
      next-there = first-there t behind within next (page-behind within) filled

      pub next-is : (b : Extent) → KeyOf img (record { page = next; offset = 20 }) b → Answered img (above t.rule k (entries_of t.table)) (Some b)
      next-is b q =
          answer-as (above-behind ∙ ap next_span_key (span-behind within) ∙ sym (above-empty t.rule (span_at t.table behind).entries))
          (first-at t behind within next (page-behind within) filled b q)
