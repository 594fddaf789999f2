-- Links of spans as data: where a table's span is rewritten, split or unlinked, only the links around it change, and these are
-- what the text writes.
use Prim.Native.Nat.{ℕ, zero, suc, ◌+◌, ◌-◌, ◌<◌, ◌≤◌}
use native.Mathlib.Omega.{arith}
use native.Mathlib.Numerals.{add-one}
use mathlib.Core.Path.{◌≡◌, refl, ap, ap₂, sym, ◌∙◌}
use mathlib.Core.List.{List, [], ◌∷◌, ◌++◌, map, map-append}
use lib.ListN.{length, take, drop, length-append, length-take, length-map}
use lib.Seq.{split_at, append_snoc, take-suc, drop-cons, take_at, drop_at, drop-drop}
use Rattle.blockfile.specs.Bytes.{first_of}
use Rattle.blockfile.specs.Layout.{Span, Column, Table, columns, spans_of}
use Rattle.blockfile.specs.Fields.{LinkedSpan}
use Rattle.blockfile.specs.WellFormed.{link_spans, spans_in, count}
use Rattle.blockfile.specs.Put.{Parts, Shared, span_at, set_span, new_column, new_columns, table_after}
use Rattle.blockfile.specs.Remove.{without}
use Rattle.blockfile.proofs.Count.{count-here, count-more}

-- ---- Spans in a row

-- a span with its links
abbrev pub linked : (z p n : ℕ) → Span → LinkedSpan
linked z p n s = record { span = s; prev = p; next = n; max_keys = z }

-- the page of the first of these spans, n for none; and of the last, p for none
abbrev pub first_page : (n : ℕ) → List Span → ℕ
first_page n [] = n
first_page n (s ∷ ss) = s.page

abbrev pub last_page : (p : ℕ) → List Span → ℕ
last_page p [] = p
last_page p (s ∷ ss) = last_page s.page ss

-- the links of spans in a row, where p is the page before them and n the page behind them
abbrev pub link_between : (z p n : ℕ) → List Span → List LinkedSpan
link_between z p n [] = []
link_between z p n (s ∷ ss) = linked z p (first_page n ss) s ∷ link_between z s.page n ss

first-page : (ss : List Span) → first_of (map (λ x. x.page) ss) ≡ first_page 0 ss
first-page [] = refl
first-page (s ∷ ss) = refl

-- the first page of two rows
pub first-page-append : (n : ℕ) (xs ys : List Span) → first_page n (xs ++ ys) ≡ first_page (first_page n ys) xs
first-page-append n [] ys = refl
first-page-append n (x ∷ xs) ys = refl

-- the links that the text computes
pub link-between : (z p : ℕ) (ss : List Span) → link_spans z p ss ≡ link_between z p 0 ss
link-between z p [] = refl
link-between z p (s ∷ ss) = ap₂ (λ (n : ℕ) (l : List LinkedSpan). linked z p n s ∷ l) (first-page ss) (link-between z s.page ss)

-- spans in a row, by the ones before and the ones behind
pub between-append : (z p n : ℕ) (xs ys : List Span) → link_between z p n (xs ++ ys) ≡ link_between z p (first_page n ys) xs ++ link_between z (last_page p xs) n ys
between-append z p n [] ys = refl
between-append z p n (x ∷ xs) ys = ap₂ (λ (m : ℕ) (l : List LinkedSpan). linked z p m x ∷ l) (first-page-append n xs ys) (between-append z x.page n xs ys)

-- as many as spans
pub length-between : (z p n : ℕ) (ss : List Span) → length (link_between z p n ss) ≡ length ss
length-between z p n [] = refl
length-between z p n (s ∷ ss) = ap suc (length-between z s.page n ss)

-- another page before them changes the first one's previous link
abbrev pub prev_as : ℕ → List LinkedSpan → List LinkedSpan
prev_as p [] = []
prev_as p (x ∷ xs) = linked x.max_keys p x.next x.span ∷ xs

-- only the first one's previous link depends on the page before
pub prev-between : (z p q n : ℕ) (ss : List Span) → prev_as q (link_between z p n ss) ≡ link_between z q n ss
prev-between z p q n [] = refl
prev-between z p q n (s ∷ ss) = refl

-- ---- A span in a row, with new ones directly behind it

module _ (z : ℕ) (xs : List Span) (s : Span) (ns ys : List Span) where
  -- the spans before it; it; the new ones; the spans behind
  pub spans-around : link_spans z 0 (xs ++ s ∷ (ns ++ ys))
      ≡ link_between z 0 s.page xs
      ++ (linked z (last_page 0 xs) (first_page (first_page 0 ys) ns) s
      ∷ (link_between z s.page (first_page 0 ys) ns ++ link_between z (last_page s.page ns) 0 ys))
  spans-around =
      link-between z 0 (xs ++ s ∷ (ns ++ ys))
      ∙ between-append z 0 0 xs (s ∷ (ns ++ ys))
      ∙ ap₂ (λ (n : ℕ) (l : List LinkedSpan). link_between z 0 s.page xs ++ (linked z (last_page 0 xs) n s ∷ l)) (first-page-append 0 ns ys) (between-append z s.page 0 ns ys)

  module _ (i : ℕ) (place : length xs ≡ i) where
    from_place : drop i (link_spans z 0 (xs ++ s ∷ (ns ++ ys)))
        ≡ linked z (last_page 0 xs) (first_page (first_page 0 ys) ns) s ∷ (link_between z s.page (first_page 0 ys) ns ++ link_between z (last_page s.page ns) 0 ys)
    from_place = rw spans-around (drop_at (link_between z 0 s.page xs) _ i (length-between z 0 s.page xs ∙ place))

    -- it and the new ones
    pub taken : take (1 + length ns) (drop i (link_spans z 0 (xs ++ s ∷ (ns ++ ys))))
        ≡ linked z (last_page 0 xs) (first_page (first_page 0 ys) ns) s ∷ link_between z s.page (first_page 0 ys) ns
    taken =
        let e : 1 + length ns ≡ suc (length ns) = omega arith in
        rw (from_place, e)
        (ap (λ (l : List LinkedSpan). linked z (last_page 0 xs) (first_page (first_page 0 ys) ns) s ∷ l)
        (take_at (link_between z s.page (first_page 0 ys) ns) (link_between z (last_page s.page ns) 0 ys) (length ns) (length-between z s.page (first_page 0 ys) ns)))

-- the span that follows the new one, if there is a new one
pub following : (z : ℕ) (xs : List Span) (s : Span) (ns ys : List Span) (i : ℕ) → length xs ≡ i → length ns ≤ 1
    → take (length ns) (drop (i + 2) (link_spans z 0 (xs ++ s ∷ (ns ++ ys)))) ≡ take (length ns) (link_between z (last_page s.page ns) 0 ys)
following z xs s [] ys i e l = refl
following z xs s (q ∷ []) ys i e l =
    ap (take 1) (sym (drop-drop 2 i (link_spans z 0 (xs ++ s ∷ (q ∷ ys)))) ∙ ap (drop 2) (from_place z xs s (q ∷ []) ys i e))
following z xs s (q ∷ (r ∷ ns)) ys i e l = absurd (omega arith)

-- ---- The spans of a table after a rewriting and after an unlinking

spans-take-set : (j : ℕ) (s : Span) (cs : List Column) → j < length cs → spans_of (take (suc j) (set_span j s cs)) ≡ take j (spans_of cs) ++ (s ∷ [])
spans-take-set j s [] l = absurd (omega arith)
spans-take-set zero s (c ∷ cs) l = refl
spans-take-set (suc j) s (c ∷ cs) l = ap (λ (l : List Span). c.span ∷ l) (spans-take-set j s cs (omega arith))

spans-drop-set : (j : ℕ) (s : Span) (cs : List Column) → spans_of (drop (suc j) (set_span j s cs)) ≡ drop (suc j) (spans_of cs)
spans-drop-set j s [] = refl
spans-drop-set zero s (c ∷ cs) = refl
spans-drop-set (suc j) s (c ∷ cs) = spans-drop-set j s cs

spans-append : (cs ds : List Column) → spans_of (cs ++ ds) ≡ spans_of cs ++ spans_of ds
spans-append cs ds = map-append (λ (c : Column). c.span) cs ds

spans-take : (n : ℕ) (cs : List Column) → spans_of (take n cs) ≡ take n (spans_of cs)
spans-take zero cs = refl
spans-take (suc n) [] = refl
spans-take (suc n) (c ∷ cs) = ap (λ (l : List Span). c.span ∷ l) (spans-take n cs)

spans-drop : (n : ℕ) (cs : List Column) → spans_of (drop n cs) ≡ drop n (spans_of cs)
spans-drop zero cs = refl
spans-drop (suc n) [] = refl
spans-drop (suc n) (c ∷ cs) = spans-drop n cs

-- the span at place i after a rewriting
abbrev pub new_span : Table → (i : ℕ) → Parts → Shared → Span
new_span t i p s = record { page = (span_at t i).page; conts = s.conts; entries = p.stay }

-- the spans before place i and behind it
abbrev pub spans_to : Table → (i : ℕ) → List Span
spans_to t i = take i (spans_of (columns t))

abbrev pub spans_past : Table → (i : ℕ) → List Span
spans_past t i = drop (suc i) (spans_of (columns t))

module _ (t : Table) where
  -- a table's spans, with the one at place i
  pub spans-here : (i : ℕ) → i < length (columns t) → spans_of (columns t) ≡ spans_to t i ++ span_at t i ∷ spans_past t i
  unfolding span_at
  spans-here i l = split_at (spans_of (columns t)) i t.first (simp length-map l)

  pub past_next : (i : ℕ) → suc i < length (columns t) → spans_past t i ≡ span_at t (suc i) ∷ spans_past t (suc i)
  unfolding span_at
  past_next i l = drop-cons (spans_of (columns t)) (suc i) t.first (simp length-map l)

  -- i spans stand before place i
  pub length_to : (i : ℕ) → i < length (columns t) → length (spans_to t i) ≡ i
  length_to i l = simp (length-take, length-map) (omega arith)

  -- the spans after a rewriting
  pub spans-after : (i : ℕ) (p : Parts) (s : Shared) → i < length (columns t)
      → spans_of (columns (table_after t i p s)) ≡ spans_to t i ++ new_span t i p s ∷ (spans_of (new_columns t p s) ++ spans_past t i)
  unfolding table_after
  spans-after zero p s l = ap (λ (l : List Span). new_span t 0 p s ∷ l) (spans-append (new_columns t p s) (drop 0 t.rest))
  spans-after (suc j) p s l =
      ap (λ (l : List Span). t.first ∷ l)
      (spans-append (take (suc j) cs) (new_columns t p s ++ drop (suc j) cs)
      ∙ ap₂ (λ (a b : List Span). a ++ b) (spans-take-set j x t.rest (omega arith))
      (spans-append (new_columns t p s) (drop (suc j) cs) ∙ ap (λ (l : List Span). spans_of (new_columns t p s) ++ l) (spans-drop-set j x t.rest))
      ∙ append_snoc (take j (spans_of t.rest)) x (spans_of (new_columns t p s) ++ drop (suc j) (spans_of t.rest)))
    where
      x : Span
      x = new_span t (suc j) p s

      cs : List Column
      cs = set_span j x t.rest

  -- the spans after an unlinking
  pub spans-out : (i : ℕ) → suc i < length (columns t) → spans_of (columns (without t (suc i))) ≡ spans_to t i ++ span_at t i ∷ spans_past t (suc i)
  unfolding span_at
  spans-out i l =
      let e : suc i - 1 ≡ i = omega arith in
      let d : i < length (spans_of (columns t)) = simp length-map (omega arith) in
      rw e
      (ap (λ (l : List Span). t.first ∷ l)
      (spans-append (take i t.rest) (drop (suc i) t.rest) ∙ ap₂ (λ (a b : List Span). a ++ b) (spans-take i t.rest) (spans-drop (suc i) t.rest))
      ∙ ap (λ (l : List Span). l ++ spans_past t (suc i)) (take-suc (spans_of (columns t)) i t.first d)
      ∙ append_snoc (spans_to t i) (span_at t i) (spans_past t (suc i)))

-- at most one new span
pub new-at-most-one : (t : Table) (p : Parts) (s : Shared) → length (new_columns t p s) ≤ 1
new-at-most-one t p s = go s.span
  where
    go : (ns : List ℕ) → length (new_column t p ns s.tower) ≤ 1
    go [] = omega arith
    go (n ∷ ns) = omega arith

-- the span size stays
pub size-after : (t : Table) (i : ℕ) (p : Parts) (s : Shared) → (table_after t i p s).span_size ≡ t.span_size
unfolding table_after
size-after t zero p s = refl
size-after t (suc i) p s = refl

-- ---- The links of a table's spans before and after, and which of them the text writes

-- a table's spans, with the one at place i
pub spans-before : (t : Table) (i : ℕ) → i < length (columns t)
    → spans_in t
    ≡ link_between t.span_size 0 (span_at t i).page (spans_to t i)
    ++ (linked t.span_size (last_page 0 (spans_to t i)) (first_page 0 (spans_past t i)) (span_at t i)
    ∷ link_between t.span_size (span_at t i).page 0 (spans_past t i))
spans-before t i l = ap (link_spans t.span_size 0) (spans-here t i l) ∙ spans-around t.span_size (spans_to t i) (span_at t i) [] (spans_past t i)

module _ (t : Table) (i : ℕ) (p : Parts) (s : Shared) (inside : i < length (columns t)) where
  after_is : spans_in (table_after t i p s) ≡ link_spans t.span_size 0 (spans_to t i ++ new_span t i p s ∷ (spans_of (new_columns t p s) ++ spans_past t i))
  after_is = ap₂ (λ (z : ℕ) (l : List Span). link_spans z 0 l) (size-after t i p s) (spans-after t i p s inside)

  -- rewritten: the spans before are as they were; the span itself; the new one, if any; of the spans behind the first one's previous
  -- link may change
  pub spans-rewritten : spans_in (table_after t i p s)
      ≡ link_between t.span_size 0 (span_at t i).page (spans_to t i)
      ++ (linked t.span_size (last_page 0 (spans_to t i)) (first_page (first_page 0 (spans_past t i)) (spans_of (new_columns t p s))) (new_span t i p s)
      ∷ (link_between t.span_size (span_at t i).page (first_page 0 (spans_past t i)) (spans_of (new_columns t p s))
      ++ link_between t.span_size (last_page (span_at t i).page (spans_of (new_columns t p s))) 0 (spans_past t i)))
  spans-rewritten = after_is ∙ spans-around t.span_size (spans_to t i) (new_span t i p s) (spans_of (new_columns t p s)) (spans_past t i)

  -- what is written whole: the span and the new one
  pub written-whole : take (1 + length (new_columns t p s)) (drop i (spans_in (table_after t i p s)))
      ≡ linked t.span_size (last_page 0 (spans_to t i)) (first_page (first_page 0 (spans_past t i)) (spans_of (new_columns t p s))) (new_span t i p s)
      ∷ link_between t.span_size (span_at t i).page (first_page 0 (spans_past t i)) (spans_of (new_columns t p s))
  written-whole =
      rw (after_is, ← length-map (new_columns t p s) (λ (c : Column). c.span))
      (taken t.span_size (spans_to t i) (new_span t i p s) (spans_of (new_columns t p s)) (spans_past t i) i (length_to t i inside))

  -- whose previous link is written: with a new span, the one that follows it
  pub written-prev : take (length (new_columns t p s)) (drop (i + 2) (spans_in (table_after t i p s)))
      ≡ take (length (new_columns t p s)) (link_between t.span_size (last_page (span_at t i).page (spans_of (new_columns t p s))) 0 (spans_past t i))
  written-prev =
      rw (after_is, ← length-map (new_columns t p s) (λ (c : Column). c.span))
      (following t.span_size (spans_to t i) (new_span t i p s) (spans_of (new_columns t p s)) (spans_past t i) i (length_to t i inside)
      (rw (length-map (new_columns t p s) (λ (c : Column). c.span)) (new-at-most-one t p s)))

module _ (t : Table) (i : ℕ) (inside : suc i < length (columns t)) where
  here : i < length (columns t)
  here = omega arith

  -- before the span at place i + 1 is unlinked
  pub spans-with : spans_in t
      ≡ link_between t.span_size 0 (span_at t i).page (spans_to t i)
      ++ (linked t.span_size (last_page 0 (spans_to t i)) (span_at t (suc i)).page (span_at t i)
      ∷ (linked t.span_size (span_at t i).page (first_page 0 (spans_past t (suc i))) (span_at t (suc i))
      ∷ link_between t.span_size (span_at t (suc i)).page 0 (spans_past t (suc i))))
  spans-with =
      ap (link_spans t.span_size 0) (spans-here t i here ∙ ap (λ (l : List Span). spans_to t i ++ span_at t i ∷ l) (past_next t i inside))
      ∙ spans-around t.span_size (spans_to t i) (span_at t i) (span_at t (suc i) ∷ []) (spans_past t (suc i))

  -- unlinked: the next link of the span before it and the previous link of the one that follows change
  pub spans-unlinked : spans_in (without t (suc i))
      ≡ link_between t.span_size 0 (span_at t i).page (spans_to t i)
      ++ (linked t.span_size (last_page 0 (spans_to t i)) (first_page 0 (spans_past t (suc i))) (span_at t i)
      ∷ link_between t.span_size (span_at t i).page 0 (spans_past t (suc i)))
  spans-unlinked = ap (link_spans t.span_size 0) (spans-out t i inside) ∙ spans-around t.span_size (spans_to t i) (span_at t i) [] (spans_past t (suc i))

  -- whose next link is written: the one before
  pub unlinked-next : take 1 (drop (suc i - 1) (spans_in (without t (suc i))))
      ≡ linked t.span_size (last_page 0 (spans_to t i)) (first_page 0 (spans_past t (suc i))) (span_at t i) ∷ []
  unlinked-next =
      let e : suc i - 1 ≡ i = omega arith in
      ap₂ (λ (n : ℕ) (l : List Span). take 1 (drop n (link_spans t.span_size 0 l))) e (spans-out t i inside)
      ∙ taken t.span_size (spans_to t i) (span_at t i) [] (spans_past t (suc i)) i (length_to t i here)

  -- whose previous link is written: the one that follows
  pub unlinked-prev : take 1 (drop (suc i) (spans_in (without t (suc i)))) ≡ take 1 (link_between t.span_size (span_at t i).page 0 (spans_past t (suc i)))
  unlinked-prev =
      ap (λ (l : List Span). take 1 (drop (suc i) (link_spans t.span_size 0 l))) (spans-out t i inside)
      ∙ ap (take 1) (ap (λ (n : ℕ). drop n out) (sym (add-one i)) ∙ sym (drop-drop 1 i out)
      ∙ ap (drop 1) (from_place t.span_size (spans_to t i) (span_at t i) [] (spans_past t (suc i)) i (length_to t i here)))
    where
      out : List LinkedSpan
      out = link_spans t.span_size 0 (spans_to t i ++ span_at t i ∷ spans_past t (suc i))

-- ---- How many spans, and which pages their links hold

spans-many : (cs : List Column) → length (spans_of cs) ≡ length cs
spans-many cs = length-map cs (λ (c : Column). c.span)

-- a rewriting adds the new spans
pub split-spans : (t : Table) (i : ℕ) (p : Parts) (s : Shared) → i < length (columns t) → length (columns (table_after t i p s)) ≡ length (columns t) + length (new_columns t p s)
split-spans t i p s l =
    omega (
      arith,
      spans-many (columns (table_after t i p s)),
      spans-many (columns t),
      spans-many (new_columns t p s),
      simp length-append at (ap length (spans-after t i p s l)),
      simp length-append at (ap length (spans-here t i l)),
    )

-- an unlinking takes one
pub unlinked-spans : (t : Table) (i : ℕ) → suc i < length (columns t) → length (columns t) ≡ suc (length (columns (without t (suc i))))
unlinked-spans t i l =
    omega (
      arith,
      spans-many (columns (without t (suc i))),
      spans-many (columns t),
      simp length-append at (ap length (spans-out t i l)),
      simp length-append at (ap length (spans-here t i (omega arith))),
      ap length (past_next t i l),
    )

-- the page of the first or the last span is one of theirs, or the page given for none
pub first-page-among : (n : ℕ) (ss : List Span) → 1 ≤ count (first_page n ss) (n ∷ map (λ x. x.page) ss)
first-page-among n [] = omega (arith, count-here n [])
first-page-among n (s ∷ ss) = omega (arith, count-here s.page (map (λ x. x.page) ss), count-more s.page n (s.page ∷ map (λ x. x.page) ss))

pub last-page-among : (p : ℕ) (ss : List Span) → 1 ≤ count (last_page p ss) (p ∷ map (λ x. x.page) ss)
last-page-among p [] = omega (arith, count-here p [])
last-page-among p (s ∷ ss) = omega (arith, last-page-among s.page ss, count-more (last_page s.page ss) p (s.page ∷ map (λ x. x.page) ss))
