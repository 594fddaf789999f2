-- A table at a place: the columns before it, the one there, and those after it.
use Prim.Native.Nat.{ℕ, zero, suc, ◌+◌, ◌<◌}
use native.Mathlib.Omega.{arith}
use mathlib.Core.Path.{◌≡◌, refl, ap, sym, ◌∙◌, subst}
use mathlib.Core.List.{List, [], ◌∷◌, ◌++◌, map, append_assoc, map-append}
use mathlib.Core.Option.{some}
use lib.ListN.{length, get_or, take, drop, length-map, get_or-map, take-append-drop}
use lib.Seq.{split_at, drop-append-add}
use Rattle.blockfile.specs.Bytes.{Every, gather}
use Rattle.blockfile.specs.Layout.{Entry, Span, Column, Table, columns, spans_of, towers_of, tower_in, entries_of}
use Rattle.blockfile.specs.Put.{span_at}
use Rattle.blockfile.proofs.Every.{every-left, every-right}

-- ---- Lists

-- what is gathered from two lists
pub gather_append : {A B : Type 0} (f : A → List B) (xs ys : List A) → gather f (xs ++ ys) ≡ gather f xs ++ gather f ys
gather_append f [] ys = refl
gather_append {B = B} f (x ∷ xs) ys = ap (λ (l : List B). f x ++ l) (gather_append f xs ys) ∙ sym (append_assoc (f x) (gather f xs) (gather f ys))

-- the first n of a list of images
pub take-map : {A B : Type 0} (f : A → B) (n : ℕ) (xs : List A) → take n (map f xs) ≡ map f (take n xs)
take-map f zero xs = refl
take-map f (suc n) [] = refl
take-map {B = B} f (suc n) (x ∷ xs) = ap (λ (l : List B). f x ∷ l) (take-map f n xs)

-- those behind the first n
pub drop-map : {A B : Type 0} (f : A → B) (n : ℕ) (xs : List A) → drop n (map f xs) ≡ map f (drop n xs)
drop-map f zero xs = refl
drop-map f (suc n) [] = refl
drop-map f (suc n) (x ∷ xs) = drop-map f n xs

-- what is behind the element after the first n
pub drop-behind : {A : Type 0} (xs : List A) (y : A) (ys : List A) (n : ℕ) → length xs ≡ n → drop (suc n) (xs ++ y ∷ ys) ≡ ys
drop-behind xs y ys n e = let d : suc n ≡ length xs + 1 = omega arith in rw d (drop-append-add xs (y ∷ ys) 1)

module _ {A : Type 0} (R : A → Type 0) where
  -- what holds of every element holds of the first n
  pub every_take : (n : ℕ) (xs : List A) → Every R xs → Every R (take n xs)
  every_take n xs h = every-left R (take n xs) (drop n xs) (subst (Every R) (sym (take-append-drop n xs)) h)

  -- of those behind them
  pub every_drop : (n : ℕ) (xs : List A) → Every R xs → Every R (drop n xs)
  every_drop n xs h = every-right R (take n xs) (drop n xs) (subst (Every R) (sym (take-append-drop n xs)) h)

  -- and of the one at a place
  pub every-at : (n : ℕ) (d : A) (xs : List A) → n < length xs → Every R xs → R (get_or xs n d)
  every-at n d [] l h = absurd (omega arith)
  every-at zero d (x ∷ xs) l h = h.0
  every-at (suc n) d (x ∷ xs) l h = every-at n d xs (omega arith) h.1

-- ---- Columns

-- the entries of columns, in order
abbrev pub entries_in : List Column → List Entry
entries_in cs = gather (λ s. s.entries) (spans_of cs)

-- the spans of two lists of columns
pub spans-append : (xs ys : List Column) → spans_of (xs ++ ys) ≡ spans_of xs ++ spans_of ys
spans-append xs ys = map-append (λ c. c.span) xs ys

-- their towers
pub towers-append : (xs ys : List Column) → towers_of (xs ++ ys) ≡ towers_of xs ++ towers_of ys
towers-append xs ys = gather_append (λ c. tower_in c.tower) xs ys

-- their entries
pub entries-append : (xs ys : List Column) → entries_in (xs ++ ys) ≡ entries_in xs ++ entries_in ys
entries-append xs ys = ap (gather (λ s. s.entries)) (spans-append xs ys) ∙ gather_append (λ s. s.entries) (spans_of xs) (spans_of ys)

-- the column at place i
abbrev pub column_at : Table → (i : ℕ) → Column
column_at t i = get_or (columns t) i (record { span = t.first; tower = some t.head })

-- the entries before the span at place i
abbrev pub entries_before : Table → (i : ℕ) → List Entry
entries_before t i = entries_in (take i (columns t))

-- the entries after it
abbrev pub entries_after : Table → (i : ℕ) → List Entry
entries_after t i = entries_in (drop (suc i) (columns t))

-- the span at a place is that of the column there
pub span-at : (t : Table) (i : ℕ) → span_at t i ≡ (column_at t i).span
unfolding span_at
span-at t i = get_or-map (λ c. c.span) (columns t) i (record { span = t.first; tower = some t.head })

module _ (t : Table) (i : ℕ) (l : i < length (columns t)) where
  -- the columns of a table at a place
  pub place-columns : columns t ≡ take i (columns t) ++ column_at t i ∷ drop (suc i) (columns t)
  place-columns = split_at (columns t) i (record { span = t.first; tower = some t.head }) l

  -- its spans at the place
  pub place-spans : spans_of (columns t) ≡ take i (spans_of (columns t)) ++ span_at t i ∷ drop (suc i) (spans_of (columns t))
  unfolding span_at
  place-spans = split_at (spans_of (columns t)) i t.first (subst (λ (n : ℕ). i < n) (sym (length-map (columns t) (λ c. c.span))) l)

  -- its entries at the place
  pub place-entries : entries_of t ≡ entries_before t i ++ ((span_at t i).entries ++ entries_after t i)
  place-entries =
      ap entries_in place-columns ∙ entries-append (take i (columns t)) (column_at t i ∷ drop (suc i) (columns t))
      ∙ ap (λ (s : Span). entries_before t i ++ (s.entries ++ entries_after t i)) (sym (span-at t i))
