-- The target span of a key: all that stands before it is below the key, all behind it above. So a table is read, and a key put
-- into it or dropped from it, in the target span alone.
use Prim.Native.Nat.{ℕ, suc, ◌+◌, ◌<◌, ◌≤◌}
use native.Mathlib.Omega.{arith}
use mathlib.Core.Path.{◌≡◌, refl, ap, sym, ◌∙◌, subst}
use mathlib.Core.Logic.{◌⊎◌, inl, inr}
use mathlib.Core.Bool.{Bool, true, false, cond, true≢false}
use mathlib.Core.List.{List, [], ◌∷◌, ◌++◌}
use mathlib.Core.Option.{Option, none}
use lib.ListN.{length, take, drop, length-map, length-append}
use lib.Seq.{take_at}
use lib.Dec.{T}
use borrow.Author.Tests.{not-true, not-false}
use Rattle.blockfile.specs.Bytes.{Every, gather}
use Rattle.blockfile.specs.Layout.{Keyed, Entry, Span, Table, columns, spans_of, entries_of}
use Rattle.blockfile.specs.Order.{KeyRule, key_rule, same, Rising, find, insert, erase, above}
use Rattle.blockfile.specs.WellFormed.{TableOk}
use Rattle.blockfile.specs.Put.{begins, last_place, target, span_at}
use Rattle.blockfile.proofs.Bools.{holds}
use Rattle.blockfile.proofs.Every.{every-so}
use Rattle.laws.proofs.Orders.{Ordered, by-rule}
use Rattle.laws.proofs.Middle.{AllUnder, AllOver, first_key, or_then, rising-left, rising-right, rising-before, under-reach, find-middle, insert-middle, erase-middle, above-middle}
use Rattle.laws.proofs.Places.{gather_append, drop-behind, take-map, drop-map, every_drop, entries_in, entries_before, entries_after, place-entries}

-- k belongs at place i: every key before it is below k, every key after it above
pub record Target (r : KeyRule) (k : List ℕ) (t : Table) (i : ℕ) : Type 0 where
  pub place : i < length (columns t)
  pub under : AllUnder r k (entries_before t i)
  pub over : AllOver r k (entries_after t i)

-- ---- The last span that begins at the key or below it

module _ (r : KeyRule) (k : List ℕ) where
  abbrev Later : List Span → Type 0
  Later ss = Every (λ s. begins r k s.entries ≡ false) ss

  -- the span behind the first n is the last that begins so
  record Last (ss : List Span) (n : ℕ) : Type 0 where
    before : List Span
    here : Span
    behind : List Span
    is : ss ≡ before ++ here ∷ behind
    place : length before ≡ n
    begun : begins r k here.entries ≡ true
    later : Later behind

  further : (s : Span) (ss : List Span) (n : ℕ) → Last ss n → Last (s ∷ ss) (suc n)
  further s ss n l =
      record {
        before = s ∷ l.before;
        here = l.here;
        behind = l.behind;
        is = ap (λ (x : List Span). s ∷ x) l.is;
        place = ap suc l.place;
        begun = l.begun;
        later = l.later;
      }

  -- the place found, or no such span
  last-place : (found i : ℕ) (ss : List Span) → ((last_place r k found i ss ≡ found) × Later ss) ⊎ ((n : ℕ) × (last_place r k found i ss ≡ i + n) × Last ss n)
  last-place found i [] = inl (refl, tt)
  last-place found i (s ∷ ss) = go (begins r k s.entries) refl (λ f. last-place f (suc i) ss)
    where
      go : (b : Bool) → begins r k s.entries ≡ b
          → ((f : ℕ) → ((last_place r k f (suc i) ss ≡ f) × Later ss) ⊎ ((n : ℕ) × (last_place r k f (suc i) ss ≡ suc i + n) × Last ss n))
          → ((last_place r k (cond b i found) (suc i) ss ≡ found) × Later (s ∷ ss)) ⊎ ((n : ℕ) × (last_place r k (cond b i found) (suc i) ss ≡ i + n) × Last (s ∷ ss) n)
      go true e ih = at (ih i)
        where
          at : ((last_place r k i (suc i) ss ≡ i) × Later ss) ⊎ ((n : ℕ) × (last_place r k i (suc i) ss ≡ suc i + n) × Last ss n)
              → ((last_place r k i (suc i) ss ≡ found) × Later (s ∷ ss)) ⊎ ((n : ℕ) × (last_place r k i (suc i) ss ≡ i + n) × Last (s ∷ ss) n)
          at (inl h) = inr (0, omega (arith, h.0), record { before = []; here = s; behind = ss; is = refl; place = refl; begun = e; later = h.1 })
          at (inr h) = inr (suc h.0, omega (arith, h.1), further s ss h.0 h.2)
      go false e ih = at (ih found)
        where
          at : ((last_place r k found (suc i) ss ≡ found) × Later ss) ⊎ ((n : ℕ) × (last_place r k found (suc i) ss ≡ suc i + n) × Last ss n)
              → ((last_place r k found (suc i) ss ≡ found) × Later (s ∷ ss)) ⊎ ((n : ℕ) × (last_place r k found (suc i) ss ≡ i + n) × Last (s ∷ ss) n)
          at (inl h) = inl (h.0, (e, h.1))
          at (inr h) = inr (suc h.0, omega (arith, h.1), further s ss h.0 h.2)

-- ---- The target

abbrev pub entries_from : List Span → List Entry
entries_from ss = gather (λ s. s.entries) ss

abbrev pub Filled : List Span → Type 0
Filled ss = Every (λ s. 1 ≤ length s.entries) ss

module _ (r : KeyRule) (o : Ordered r) (k : List ℕ) where
  -- spans that hold entries and begin above the key
  all-over : (ss : List Span) → Filled ss → Later r k ss → Rising r (entries_from ss) → AllOver r k (entries_from ss)
  all-over [] f l h = tt
  all-over (s ∷ ss) f l h = go s.entries f.0 l.0 h
    where
      go : (es : List Entry) → 1 ≤ length es → begins r k es ≡ false → Rising r (es ++ entries_from ss) → AllOver r k (es ++ entries_from ss)
      go [] n b h = absurd (omega arith)
      go (e ∷ es) n b h =
          let t : T (r.below k e.key) = holds (r.below k e.key) (not-false (r.below k e.key) b) in
          (t, every-so (λ (y : Entry). T (r.below e.key y.key)) (λ y. o.trans k e.key y.key t) (es ++ entries_from ss) h.0)

  -- what stands before a span that begins at the key or below it
  all_under : (xs es ys : List Entry) → begins r k es ≡ true → Rising r (xs ++ (es ++ ys)) → AllUnder r k xs
  all_under xs [] ys b h = absurd (true≢false (sym b))
  all_under xs (e ∷ es) ys b h =
      every-so (λ (x : Entry). T (r.below x.key e.key)) (λ x t. under-reach r o x.key e.key k t (not-true (r.below k e.key) b))
      xs (rising-before r xs e (es ++ ys) h)

  module _ (t : Table) (ok : TableOk r t) where
    -- the target, said of spans
    on-spans : (i : ℕ) → i < length (spans_of (columns t)) → AllUnder r k (entries_from (take i (spans_of (columns t)))) → AllOver r k (entries_from (drop (suc i) (spans_of (columns t))))
        → Target r k t i
    on-spans i l u v =
        record {
          place = subst (λ (n : ℕ). i < n) (length-map (columns t) (λ c. c.span)) l;
          under = subst (λ (ss : List Span). AllUnder r k (entries_from ss)) (take-map (λ c. c.span) i (columns t)) u;
          over = subst (λ (ss : List Span). AllOver r k (entries_from ss)) (drop-map (λ c. c.span) (suc i) (columns t)) v;
        }

    at_first : Later r k (spans_of (columns t)) → Target r k t 0
    at_first l = on-spans 0 (omega arith) tt (all-over (spans_of t.rest) ok.filled l.1 (rising-right r t.first.entries (entries_in t.rest) ok.rising))

    at_last : (n : ℕ) → Last r k (spans_of (columns t)) n → Target r k t n
    at_last n l =
        let h : Rising r (entries_from l.before ++ (l.here.entries ++ entries_from l.behind))
        = subst (Rising r) (ap entries_from l.is ∙ gather_append (λ s. s.entries) l.before (l.here ∷ l.behind)) ok.rising in
        let tk : take n (spans_of (columns t)) ≡ l.before = ap (take n) l.is ∙ take_at l.before (l.here ∷ l.behind) n l.place in
        let dr : drop (suc n) (spans_of (columns t)) ≡ l.behind = ap (drop (suc n)) l.is ∙ drop-behind l.before l.here l.behind n l.place in
        let f : Filled l.behind = subst Filled dr (every_drop (λ (s : Span). 1 ≤ length s.entries) n (spans_of t.rest) ok.filled) in
        on-spans n (subst (λ (ss : List Span). n < length ss) (sym l.is) (rw length-append (omega (arith, l.place))))
        (subst (λ (ss : List Span). AllUnder r k (entries_from ss)) (sym tk) (all_under (entries_from l.before) l.here.entries (entries_from l.behind) l.begun h))
        (subst (λ (ss : List Span). AllOver r k (entries_from ss)) (sym dr)
        (all-over l.behind f l.later (rising-right r l.here.entries (entries_from l.behind) (rising-right r (entries_from l.before) (l.here.entries ++ entries_from l.behind) h))))

    -- where `target` is, the key belongs
    pub target_is : Target r k t (target r k t)
    unfolding target
    target_is = go (last-place r k 0 0 (spans_of (columns t)))
      where
        go : ((target r k t ≡ 0) × Later r k (spans_of (columns t))) ⊎ ((n : ℕ) × (target r k t ≡ 0 + n) × Last r k (spans_of (columns t)) n) → Target r k t (target r k t)
        go (inl h) = subst (Target r k t) (sym h.0) (at_first h.1)
        go (inr h) = subst (Target r k t) (omega (arith, h.1)) (at_last h.0 h.2)

-- ---- Reading, putting and dropping at the target

-- the first key of the first of these spans
abbrev pub next_span_key : List Span → Option (List ℕ)
next_span_key [] = none
next_span_key (s ∷ ss) = first_key s.entries

-- of spans that hold entries, the first key is the first span's
next_key : (ss : List Span) → Filled ss → first_key (entries_from ss) ≡ next_span_key ss
next_key [] f = refl
next_key (s ∷ ss) f = go s.entries f.0
  where
    go : (es : List Entry) → 1 ≤ length es → first_key (es ++ entries_from ss) ≡ first_key es
    go [] n = absurd (omega arith)
    go (e ∷ es) n = refl

first_key_lem : (es fs : List Entry) → first_key (es ++ fs) ≡ or_then (first_key es) (first_key fs)
first_key_lem [] fs = refl
first_key_lem (e ∷ es) fs = refl

-- the empty key asks for the least of all
pub above-empty : {A : Type 0} (r : KeyRule) (xs : List (Keyed A)) → above r [] xs ≡ first_key xs
above-empty r [] = refl
above-empty r (x ∷ xs) = refl

module _ (r : KeyRule) (t : Table) (ok : TableOk r t) where
  -- the first key behind place i is the next span's
  pub next-span : (i : ℕ) → first_key (entries_after t i) ≡ next_span_key (drop (suc i) (spans_of (columns t)))
  next-span i =
      ap (λ (ss : List Span). first_key (entries_from ss)) (sym (drop-map (λ c. c.span) (suc i) (columns t)))
      ∙ next_key (drop i (spans_of t.rest)) (every_drop (λ (s : Span). 1 ≤ length s.entries) i (spans_of t.rest) ok.filled)

  -- the least key of a table is the first span's first; the second span's where the first is empty
  pub least-key : above r [] (entries_of t) ≡ or_then (first_key t.first.entries) (next_span_key (spans_of t.rest))
  least-key =
      above-empty r (entries_of t) ∙ first_key_lem t.first.entries (entries_in t.rest)
      ∙ ap (or_then (first_key t.first.entries)) (next_key (spans_of t.rest) ok.filled)

module _ (r : KeyRule) (o : Ordered r) (k : List ℕ) (t : Table) (i : ℕ) (at : Target r k t i) where
  -- the key is looked for in the span at its place
  pub find_at : find k (entries_of t) ≡ find k (span_at t i).entries
  find_at = ap (find k) (place-entries t i at.place) ∙ find-middle r o k (entries_before t i) (span_at t i).entries (entries_after t i) at.under at.over

  -- the smallest key above it is in that span; if none is, it is the next span's first
  pub above_at : TableOk r t → same k [] ≡ false → above r k (entries_of t) ≡ or_then (above r k (span_at t i).entries) (next_span_key (drop (suc i) (spans_of (columns t))))
  above_at ok e =
      ap (above r k) (place-entries t i at.place) ∙ above-middle r o k (entries_before t i) (span_at t i).entries (entries_after t i) e at.under at.over
      ∙ ap (or_then (above r k (span_at t i).entries)) (next-span r t ok i)

  -- it is put into that span
  pub insert-at : (v : List ℕ) → insert r k v (entries_of t) ≡ entries_before t i ++ (insert r k v (span_at t i).entries ++ entries_after t i)
  insert-at v =
      ap (insert r k v) (place-entries t i at.place) ∙ insert-middle r o k v (entries_before t i) (span_at t i).entries (entries_after t i) at.under at.over

  -- it is dropped from that span
  pub erase-at : erase k (entries_of t) ≡ entries_before t i ++ (erase k (span_at t i).entries ++ entries_after t i)
  erase-at =
      ap (erase k) (place-entries t i at.place) ∙ erase-middle r o k (entries_before t i) (span_at t i).entries (entries_after t i) at.under at.over

  -- the keys of a span rise
  pub span-rising : TableOk r t → Rising r (span_at t i).entries
  span-rising ok =
      rising-left r (span_at t i).entries (entries_after t i)
      (rising-right r (entries_before t i) ((span_at t i).entries ++ entries_after t i) (subst (Rising r) (place-entries t i at.place) ok.rising))

-- a key that a table may hold is not empty
pub key-some : (name k : List ℕ) → T ((key_rule name).allowed k) → same k [] ≡ false
key-some name [] h = absurd (by-rule (λ r. T (r.allowed []) → ⊥) (λ t. t) (λ t. t) name h)
key-some name (x ∷ k) h = refl
