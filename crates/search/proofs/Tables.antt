-- A table's spans in their order, and the way through `find`.
use Prim.Native.Nat.{ℕ, zero, suc, ◌+◌, ◌≤◌, ◌<◌}
use native.Mathlib.Omega.{arith}
use mathlib.Core.Path.{◌≡◌, refl, sym, ◌∙◌, subst}
use mathlib.Core.List.{List, [], ◌∷◌, ◌++◌, map}
use lib.ListN.{length, get_or, drop, length-map}
use lib.Dec.{T}
use Rattle.blockfile.specs.Bytes.{pg, be32, Every, first_of}
use Rattle.blockfile.specs.Layout.{Entry, Span, Table, columns, spans_of, entries_of, reached}
use Rattle.blockfile.specs.Order.{KeyRule, Rising, find, above}
use Rattle.blockfile.specs.Fields.{LinkedSpan}
use Rattle.blockfile.specs.WellFormed.{span, tower, link_spans, spans_in, towers_in}
use Rattle.blockfile.specs.Put.{target, span_at}
use Rattle.blockfile.proofs.Every.{every-left, every-right, every-unmap}
use Rattle.laws.proofs.Orders.{Ordered}
use Rattle.laws.proofs.Middle.{rising-left, rising-right}
use Rattle.laws.proofs.Places.{every-at, entries_before, entries_after, place-entries}
use Rattle.laws.proofs.Targets.{Target, target_is, find_at}
use Rattle.pages.specs.Places.{Inside}
use Rattle.order.specs.declared.sort.Sort.{Sort}
use Rattle.entries.specs.Places.{IsPage}
use Rattle.std.specs.Prelude.{Option, Some}
use Rattle.search.specs.declared.span.Extent.{Extent}
use Rattle.search.specs.declared.table.TableRef.{TableRef}
use Rattle.search.specs.Spans.{Borne, SpanOn, SpanBy, FilledBy, EntryThere, Answered, FoundOn, KeyOf}
use Rattle.search.specs.Tables.{Reading, ReadingBy, TargetIn}
use Rattle.search.proofs.Rules.{sorts-ordered}
use Rattle.search.proofs.Seeks.{answer-as, span-size, span-entry, span-first}

-- ---- The span at a place of a table

-- with its links
abbrev pub linked_at : Table → (prev i : ℕ) → LinkedSpan
linked_at t q i = record { span = span_at t i; prev = q; next = first_of (map (λ s. s.page) (drop (suc i) (spans_of (columns t)))); max_keys = t.span_size }

linked-at : (R : LinkedSpan → Type 0) (z p : ℕ) (ss : List Span) (d : Span) (i : ℕ) → i < length ss → Every R (link_spans z p ss)
    → (q : ℕ) × R (record { span = get_or ss i d; prev = q; next = first_of (map (λ s. s.page) (drop (suc i) ss)); max_keys = z })
linked-at R z p [] d i l h = absurd (omega arith)
linked-at R z p (s ∷ ss) d zero l h = (p, h.0)
linked-at R z p (s ∷ ss) d (suc i) l h = linked-at R z s.page ss d i (omega arith) h.1

module _ {img : List ℕ} {root : ℕ} (t : Reading img root) where
  abbrev pub spans_here : List Span
  spans_here = spans_of (columns t.table)

  pub reading-inside : (o n : ℕ) → o + n ≤ 1024 → Inside img root o n
  reading-inside o n h =
      let p : IsPage img t.table.root = t.readable.borne.0.1.0 in
      subst (λ (p : ℕ). Inside img p o n) t.root (record { small = t.readable.small; low = p.low; high = p.high; fits = h })

  pub reading-first : be32 (pg img root) 8 ≡ t.table.first.page
  reading-first = subst (λ (p : ℕ). be32 (pg img p) 8 ≡ t.table.first.page) t.root t.readable.borne.0.0.first

  pub reading-spans : be32 (pg img root) 20 ≡ length (columns t.table)
  reading-spans = subst (λ (p : ℕ). be32 (pg img p) 20 ≡ length (columns t.table)) t.root t.readable.borne.0.0.spans

  pub ordered : Ordered t.rule
  ordered = sorts-ordered t.rule t.readable.order

  pub length-spans : length spans_here ≡ length (columns t.table)
  length-spans = length-map (columns t.table) (λ c. c.span)

  module _ (i : ℕ) (l : i < length (columns t.table)) where
    linked-there : (q : ℕ) × Borne img (span (linked_at t.table q i))
    unfolding span_at
    linked-there =
        linked-at (λ x. Borne img (span x)) t.table.span_size 0 spans_here t.table.first i (omega (arith, length-spans))
        (every-unmap (Borne img) span (spans_in t.table) (every-left (Borne img) (map span (spans_in t.table)) (map tower (towers_in t.table)) t.readable.borne.1))

    reach-at : 1 + length (span_at t.table i).conts ≡ reached (span_at t.table i).entries
    unfolding span_at
    reach-at = every-at (λ (s : Span). 1 + length s.conts ≡ reached s.entries) i t.table.first spans_here (omega (arith, length-spans)) t.readable.ok.reach

    module _ (page : ℕ) (e : page ≡ (span_at t.table i).page) where
      pub reading-span : SpanOn img page
      reading-span =
          let es : List Entry = (span_at t.table i).entries in
          let split : entries_of t.table ≡ entries_before t.table i ++ (es ++ entries_after t.table i) = place-entries t.table i l in
          record {
            rule = t.rule;
            linked = linked_at t.table linked-there.0 i;
            there = record {
              small = t.readable.small;
              borne = linked-there.1;
              reach = reach-at;
              keys = every-left (λ (e : Entry). T (t.rule.allowed e.key)) es (entries_after t.table i)
                  (every-right (λ (e : Entry). T (t.rule.allowed e.key)) (entries_before t.table i) (es ++ entries_after t.table i)
                  (subst (Every (λ (e : Entry). T (t.rule.allowed e.key))) split t.readable.ok.keys));
              rising = rising-left t.rule es (entries_after t.table i)
                  (rising-right t.rule (entries_before t.table i) (es ++ entries_after t.table i) (subst (Rising t.rule) split t.readable.ok.rising));
              order = t.readable.order;
            };
            at = sym e;
          }

      pub reading-at : reading-span.linked.span ≡ span_at t.table i
      unfolding reading-span
      reading-at = refl

      module _ {s : Sort} (by : t.readable.order.sort ≡ s) where
        pub reading-by : SpanBy img page s
        unfolding reading-span
        reading-by = record { on = reading-span; by = by }

        -- it is the table's, with the table's rule: what is said of every span on the page is said of this one
        pub said_at : (F : KeyRule → List Entry → Type 0) → ((x : SpanBy img page s) → F x.on.rule x.on.linked.span.entries) → F t.rule (span_at t.table i).entries
        unfolding reading-span reading-by
        said_at F f = f reading-by

      pub next-at : be32 (pg img page) 12 ≡ first_of (map (λ s. s.page) (drop (suc i) spans_here))
      unfolding reading-span
      next-at = subst (λ (p : ℕ). be32 (pg img p) 12 ≡ first_of (map (λ s. s.page) (drop (suc i) spans_here))) (sym e) reading-span.there.borne.0.next

      module _ (z : length (span_at t.table i).entries ≡ 0 → ⊥) where
        pub first-there : EntryThere img (record { page = page; offset = 20 })
        unfolding reading-span
        first-there = span-entry reading-span z

        pub first-at : (a : Extent) → KeyOf img (record { page = page; offset = 20 }) a → Answered img (above t.rule [] (span_at t.table i).entries) (Some a)
        unfolding reading-span first-there
        first-at a f = answer-as (span-first reading-span z) (f.is first-there)

  -- only the first span may be empty
  pub only-first : (i : ℕ) → i < length (columns t.table) → length (span_at t.table i).entries ≡ 0 → i ≡ 0
  unfolding span_at
  only-first zero l n = refl
  only-first (suc i) l n =
      absurd (omega (arith, n, every-at (λ (s : Span). 1 ≤ length s.entries) i t.table.first (spans_of t.table.rest) (omega (arith, length-spans)) t.readable.ok.filled))

-- ---- Spans behind the first

pub reading-filled : {img : List ℕ} {root : ℕ} (t : Reading img root) (i : ℕ) → suc i < length (columns t.table) → (page : ℕ) → page ≡ (span_at t.table (suc i)).page
    → {s : Sort} → t.readable.order.sort ≡ s → FilledBy img page s
unfolding reading-span reading-by
reading-filled t i l page e by =
    record { span = reading-by t (suc i) l page e by; some = λ z. omega (arith, only-first t (suc i) l (sym (span-size (reading-span t (suc i) l page e)) ∙ z)) }

-- ---- find: in the target span

module _ {img : List ℕ} {root : ℕ} (t : Reading img root) (k : List ℕ) where
  abbrev pub place : ℕ
  place = target t.rule k t.table

  pub at_target : Target t.rule k t.table place
  at_target = target_is t.rule (ordered t) k t.table t.readable.ok

module _ {img : List ℕ} {d : TableRef} (x : ReadingBy img d) (k : List ℕ) (page : ℕ) (h : TargetIn img d k page) where
  pub target-span : SpanBy img page d.sort
  target-span = reading-by x.of (place x.of k) (at_target x.of k).place page (h.is x) x.by

  pub said-target : (F : KeyRule → List Entry → Type 0) → ((y : SpanBy img page d.sort) → F y.on.rule y.on.linked.span.entries)
      → F x.of.rule (span_at x.of.table (place x.of k)).entries
  said-target = said_at x.of (place x.of k) (at_target x.of k).place page (h.is x) x.by

  pub find-in : (a : Option Extent) → FoundOn img page d.sort k a → Answered img (find k (entries_of x.of.table)) a
  find-in a f =
      answer-as (find_at x.of.rule (ordered x.of) k x.of.table (place x.of k) (at_target x.of k)) (said-target (λ r es. Answered img (find k es) a) f.is)
