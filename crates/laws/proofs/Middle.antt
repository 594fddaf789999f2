-- A map's list in three parts: keys below k, the part where k belongs, keys above k. And a map's values changed under its keys.
use Prim.Native.Nat.{ℕ, suc, ◌+◌, ◌≤◌}
use native.Mathlib.Omega.{arith}
use mathlib.Core.Path.{◌≡◌, refl, ap, ap₂, sym, subst, ◌∙◌}
use mathlib.Core.Bool.{Bool, true, false, cond, ◌||◌}
use mathlib.Core.List.{List, [], ◌∷◌, ◌++◌, map}
use mathlib.Core.Option
use mathlib.Core.Option.{Option, none, some}
use lib.ListN.{length}
use lib.Dec.{T}
use Rattle.blockfile.specs.Bytes.{Every}
use Rattle.blockfile.specs.Layout.{Keyed}
use Rattle.blockfile.specs.Order.{KeyRule, same, Rising, find, insert, erase, above, there}
use Rattle.blockfile.proofs.Bools.{so, not_so, holds, same-eq}
use Rattle.blockfile.proofs.Every.{every-left, every-right, every-so}
use Rattle.laws.proofs.Orders.{Ordered}
use Rattle.laws.proofs.Maps.{find-low}

module _ {A : Type 0} where
  -- every key of the list is below k
  abbrev pub AllUnder : KeyRule → List ℕ → List (Keyed A) → Type 0
  AllUnder r k xs = Every (λ y. T (r.below y.key k)) xs

  -- every key of the list is above k
  abbrev pub AllOver : KeyRule → List ℕ → List (Keyed A) → Type 0
  AllOver r k xs = Every (λ y. T (r.below k y.key)) xs

  -- the first key of a list
  abbrev pub first_key : List (Keyed A) → Option (List ℕ)
  first_key [] = none
  first_key (x ∷ xs) = some x.key

  -- the answer, or where there is none the other one
  abbrev pub or_then : Option A → Option A → Option A
  or_then none b = b
  or_then (some a) b = some a

-- ---- Keys that rise

module _ {A : Type 0} (r : KeyRule) where
  -- keys rise in the first part of a list whose keys rise
  pub rising-left : (xs ys : List (Keyed A)) → Rising r (xs ++ ys) → Rising r xs
  rising-left [] ys h = tt
  rising-left (x ∷ xs) ys h = (every-left (λ (y : Keyed A). T (r.below x.key y.key)) xs ys h.0, rising-left xs ys h.1)

  -- and in the second
  pub rising-right : (xs ys : List (Keyed A)) → Rising r (xs ++ ys) → Rising r ys
  rising-right [] ys h = h
  rising-right (x ∷ xs) ys h = rising-right xs ys h.1

  -- all that stands before an entry is below it
  pub rising-before : (xs : List (Keyed A)) (y : Keyed A) (ys : List (Keyed A)) → Rising r (xs ++ y ∷ ys) → AllUnder r y.key xs
  rising-before [] y ys h = tt
  rising-before (x ∷ xs) y ys h = (
    (every-right (λ (z : Keyed A). T (r.below x.key z.key)) xs (y ∷ ys) h.0).0,
    rising-before xs y ys h.1,
  )

-- ---- A key between two parts

module _ (r : KeyRule) (o : Ordered r) where
  -- a key above another is not the same
  pub under-differs : (k j : List ℕ) → T (r.below j k) → same k j ≡ false
  under-differs k j t = not_so (same k j) (λ s. o.irrefl k (subst (λ (i : List ℕ). T (r.below i k)) (sym (same-eq k j s)) t))

  -- nor is a key below another
  pub over-differs : (k j : List ℕ) → T (r.below k j) → same k j ≡ false
  over-differs k j t = not_so (same k j) (λ s. o.irrefl k (subst (λ (i : List ℕ). T (r.below k i)) (sym (same-eq k j s)) t))

  -- a key below another is not above it
  pub under-not-over : (k j : List ℕ) → T (r.below j k) → r.below k j ≡ false
  under-not-over k j t = not_so (r.below k j) (λ u. o.irrefl k (o.trans k j k u t))

  -- what is below a key that is not above k is below k
  pub under-reach : (i j k : List ℕ) → T (r.below i j) → r.below k j ≡ false → T (r.below i k)
  under-reach i j k t f = go (same k j) refl
    where
      go : (b : Bool) → same k j ≡ b → T (r.below i k)
      go true e = subst (λ (x : List ℕ). T (r.below i x)) (sym (same-eq k j (holds (same k j) e))) t
      go false e = o.trans i j k t (o.total k j (λ s. subst T e s) (λ s. subst T f s))

module _ {A : Type 0} (r : KeyRule) (o : Ordered r) (k : List ℕ) where
  find-right : (xs ys : List (Keyed A)) → AllUnder r k xs → find k (xs ++ ys) ≡ find k ys
  find-right [] ys h = refl
  find-right (x ∷ xs) ys h = rw (under-differs r o k x.key h.0) (find-right xs ys h.1)

  find-left : (xs ys : List (Keyed A)) → AllOver r k ys → find k (xs ++ ys) ≡ find k xs
  find-left [] ys h = find-low r o k ys h
  find-left (x ∷ xs) ys h = ap (cond (same k x.key) (some x.value)) (find-left xs ys h)

  -- the key is looked for in the middle part
  pub find-middle : (xs es ys : List (Keyed A)) → AllUnder r k xs → AllOver r k ys → find k (xs ++ (es ++ ys)) ≡ find k es
  find-middle xs es ys h g = find-right xs (es ++ ys) h ∙ find-left es ys g

  insert-right : (v : A) (xs ys : List (Keyed A)) → AllUnder r k xs → insert r k v (xs ++ ys) ≡ xs ++ insert r k v ys
  insert-right v [] ys h = refl
  insert-right v (x ∷ xs) ys h =
      rw (under-differs r o k x.key h.0, under-not-over r o k x.key h.0) (ap (λ (l : List (Keyed A)). x ∷ l) (insert-right v xs ys h.1))

  insert-left : (v : A) (xs ys : List (Keyed A)) → AllOver r k ys → insert r k v (xs ++ ys) ≡ insert r k v xs ++ ys
  insert-left v [] [] h = refl
  insert-left v [] (y ∷ ys) h = rw (over-differs r o k y.key h.0, so (r.below k y.key) h.0)
  insert-left v (x ∷ xs) ys h = go (same k x.key) (r.below k x.key) (insert-left v xs ys h)
    where
      go : (b c : Bool) → insert r k v (xs ++ ys) ≡ insert r k v xs ++ ys
          → cond b (record { key = k; value = v } ∷ (xs ++ ys)) (cond c (record { key = k; value = v } ∷ x ∷ (xs ++ ys)) (x ∷ insert r k v (xs ++ ys)))
          ≡ cond b (record { key = k; value = v } ∷ xs) (cond c (record { key = k; value = v } ∷ x ∷ xs) (x ∷ insert r k v xs)) ++ ys
      go true c ih = refl
      go false true ih = refl
      go false false ih = ap (λ (l : List (Keyed A)). x ∷ l) ih

  -- it is put into the middle part
  pub insert-middle : (v : A) (xs es ys : List (Keyed A)) → AllUnder r k xs → AllOver r k ys → insert r k v (xs ++ (es ++ ys)) ≡ xs ++ (insert r k v es ++ ys)
  insert-middle v xs es ys h g = insert-right v xs (es ++ ys) h ∙ ap (λ (l : List (Keyed A)). xs ++ l) (insert-left v es ys g)

  erase-right : (xs ys : List (Keyed A)) → AllUnder r k xs → erase k (xs ++ ys) ≡ xs ++ erase k ys
  erase-right [] ys h = refl
  erase-right (x ∷ xs) ys h = rw (under-differs r o k x.key h.0) (ap (λ (l : List (Keyed A)). x ∷ l) (erase-right xs ys h.1))

  erase-none : (ys : List (Keyed A)) → AllOver r k ys → erase k ys ≡ ys
  erase-none [] h = refl
  erase-none (y ∷ ys) h = rw (over-differs r o k y.key h.0) (ap (λ (l : List (Keyed A)). y ∷ l) (erase-none ys h.1))

  erase-left : (xs ys : List (Keyed A)) → AllOver r k ys → erase k (xs ++ ys) ≡ erase k xs ++ ys
  erase-left [] ys h = erase-none ys h
  erase-left (x ∷ xs) ys h = go (same k x.key) (erase-left xs ys h)
    where
      go : (b : Bool) → erase k (xs ++ ys) ≡ erase k xs ++ ys → cond b (xs ++ ys) (x ∷ erase k (xs ++ ys)) ≡ cond b xs (x ∷ erase k xs) ++ ys
      go true ih = refl
      go false ih = ap (λ (l : List (Keyed A)). x ∷ l) ih

  -- it is dropped from the middle part
  pub erase-middle : (xs es ys : List (Keyed A)) → AllUnder r k xs → AllOver r k ys → erase k (xs ++ (es ++ ys)) ≡ xs ++ (erase k es ++ ys)
  erase-middle xs es ys h g = erase-right xs (es ++ ys) h ∙ ap (λ (l : List (Keyed A)). xs ++ l) (erase-left es ys g)

  above-right : (xs ys : List (Keyed A)) → same k [] ≡ false → AllUnder r k xs → above r k (xs ++ ys) ≡ above r k ys
  above-right [] ys e h = refl
  above-right (x ∷ xs) ys e h = rw (e, under-not-over r o k x.key h.0) (above-right xs ys e h.1)

  above-first : (ys : List (Keyed A)) → same k [] ≡ false → AllOver r k ys → above r k ys ≡ first_key ys
  above-first [] e h = refl
  above-first (y ∷ ys) e h = rw (e, so (r.below k y.key) h.0)

  above-left : (xs ys : List (Keyed A)) → same k [] ≡ false → AllOver r k ys → above r k (xs ++ ys) ≡ or_then (above r k xs) (first_key ys)
  above-left [] ys e h = above-first ys e h
  above-left (x ∷ xs) ys e h = go (same k [] || r.below k x.key) (above-left xs ys e h)
    where
      go : (b : Bool) → above r k (xs ++ ys) ≡ or_then (above r k xs) (first_key ys)
          → cond b (some x.key) (above r k (xs ++ ys)) ≡ or_then (cond b (some x.key) (above r k xs)) (first_key ys)
      go true ih = refl
      go false ih = ih

  -- the smallest key above k is in the middle part, or else the first key behind it
  pub above-middle : (xs es ys : List (Keyed A)) → same k [] ≡ false → AllUnder r k xs → AllOver r k ys
      → above r k (xs ++ (es ++ ys)) ≡ or_then (above r k es) (first_key ys)
  above-middle xs es ys e h g = above-right xs (es ++ ys) e h ∙ above-left es ys e g

  -- ---- How many

  -- a key that is there is replaced, another joins
  pub insert-count : (v : A) (xs : List (Keyed A)) → Rising r xs → length (insert r k v xs) ≡ cond (there (find k xs)) (length xs) (suc (length xs))
  insert-count v [] h = refl
  insert-count v (x ∷ xs) h = go (same k x.key) (r.below k x.key) refl (insert-count v xs h.1)
    where
      later : (a : Option A) (n m : ℕ) → n ≡ cond (there a) m (suc m) → suc n ≡ cond (there a) (suc m) (suc (suc m))
      later none n m e = ap suc e
      later (some a) n m e = ap suc e

      go : (b c : Bool) → r.below k x.key ≡ c → length (insert r k v xs) ≡ cond (there (find k xs)) (length xs) (suc (length xs))
          → length (cond b (record { key = k; value = v } ∷ xs) (cond c (record { key = k; value = v } ∷ x ∷ xs) (x ∷ insert r k v xs)))
          ≡ cond (there (cond b (some x.value) (find k xs))) (suc (length xs)) (suc (suc (length xs)))
      go true c e ih = refl
      go false true e ih =
          let t : T (r.below k x.key) = holds (r.below k x.key) e in
          rw (find-low r o k xs (every-so (λ (y : Keyed A). T (r.below x.key y.key)) (λ y. o.trans k x.key y.key t) xs h.0))
      go false false e ih = later (find k xs) (length (insert r k v xs)) (length xs) ih

-- there is an entry then
pub insert-some : {A : Type 0} (r : KeyRule) (k : List ℕ) (v : A) (xs : List (Keyed A)) → 1 ≤ length (insert r k v xs)
insert-some r k v [] = omega arith
insert-some r k v (x ∷ xs) = go (same k x.key) (r.below k x.key)
  where
    go : (b c : Bool) → 1 ≤ length (cond b (record { key = k; value = v } ∷ xs) (cond c (record { key = k; value = v } ∷ x ∷ xs) (x ∷ insert r k v xs)))
    go true c = omega arith
    go false true = omega arith
    go false false = omega arith

-- a key that is there is dropped
pub erase-count : {A : Type 0} (k : List ℕ) (xs : List (Keyed A)) → length (erase k xs) + cond (there (find k xs)) 1 0 ≡ length xs
erase-count k [] = omega arith
erase-count {A} k (x ∷ xs) = go (same k x.key) (erase-count k xs)
  where
    go : (b : Bool) → length (erase k xs) + cond (there (find k xs)) 1 0 ≡ length xs
        → length (cond b xs (x ∷ erase k xs)) + cond (there (cond b (some x.value) (find k xs))) 1 0 ≡ suc (length xs)
    go true ih = omega arith
    go false ih = omega arith

-- ---- What holds of every entry

module _ {A : Type 0} (R : Keyed A → Type 0) where
  -- it holds after an insert if it holds of the new entry
  pub every-insert : (r : KeyRule) (k : List ℕ) (v : A) (xs : List (Keyed A)) → R (record { key = k; value = v }) → Every R xs → Every R (insert r k v xs)
  every-insert r k v [] n h = (n, tt)
  every-insert r k v (x ∷ xs) n h = go (same k x.key) (r.below k x.key) (every-insert r k v xs n h.1)
    where
      go : (b c : Bool) → Every R (insert r k v xs)
          → Every R (cond b (record { key = k; value = v } ∷ xs) (cond c (record { key = k; value = v } ∷ x ∷ xs) (x ∷ insert r k v xs)))
      go true c ih = (n, h.1)
      go false true ih = (n, h)
      go false false ih = (h.0, ih)

  -- it holds after an erase
  pub every-erase : (k : List ℕ) (xs : List (Keyed A)) → Every R xs → Every R (erase k xs)
  every-erase k [] h = tt
  every-erase k (x ∷ xs) h = go (same k x.key) (every-erase k xs h.1)
    where
      go : (b : Bool) → Every R (erase k xs) → Every R (cond b xs (x ∷ erase k xs))
      go true ih = h.1
      go false ih = (h.0, ih)

  -- it holds of what is found
  pub every-found : (k : List ℕ) (v : A) (xs : List (Keyed A)) → Every R xs → find k xs ≡ some v → R (record { key = k; value = v })
  every-found k v [] h e = absurd (let z : ◌≡◌ {A = ℕ} 0 1 = cc in omega arith)
  every-found k v (x ∷ xs) h e = go (same k x.key) refl e (every-found k v xs h.1)
    where
      go : (b : Bool) → same k x.key ≡ b → cond b (some x.value) (find k xs) ≡ some v → (find k xs ≡ some v → R (record { key = k; value = v }))
          → R (record { key = k; value = v })
      go true e f ih =
          let q : x.value ≡ v = cc in
          subst R (ap₂ (λ (j : List ℕ) (w : A). record { key = j; value = w }) (sym (same-eq k x.key (holds (same k x.key) e))) q) h.0
      go false e f ih = ih f

-- ---- Values changed under their keys

module _ {A B : Type 0} (f : A → B) where
  -- an entry with its value changed
  abbrev pub under : Keyed A → Keyed B
  under x = record { key = x.key; value = f x.value }

  -- a key is found with its value changed
  pub find-under : (k : List ℕ) (xs : List (Keyed A)) → find k (map under xs) ≡ Option.map f (find k xs)
  find-under k [] = refl
  find-under k (x ∷ xs) = go (same k x.key) (find-under k xs)
    where
      go : (b : Bool) → find k (map under xs) ≡ Option.map f (find k xs) → cond b (some (f x.value)) (find k (map under xs)) ≡ Option.map f (cond b (some x.value) (find k xs))
      go true ih = refl
      go false ih = ih

  -- a key is put with its value changed
  pub insert-under : (r : KeyRule) (k : List ℕ) (v : A) (xs : List (Keyed A)) → map under (insert r k v xs) ≡ insert r k (f v) (map under xs)
  insert-under r k v [] = refl
  insert-under r k v (x ∷ xs) = go (same k x.key) (r.below k x.key) (insert-under r k v xs)
    where
      go : (b c : Bool) → map under (insert r k v xs) ≡ insert r k (f v) (map under xs)
          → map under (cond b (record { key = k; value = v } ∷ xs) (cond c (record { key = k; value = v } ∷ x ∷ xs) (x ∷ insert r k v xs)))
          ≡ cond b (record { key = k; value = f v } ∷ map under xs) (cond c (record { key = k; value = f v } ∷ under x ∷ map under xs) (under x ∷ insert r k (f v) (map under xs)))
      go true c ih = refl
      go false true ih = refl
      go false false ih = ap (λ (l : List (Keyed B)). under x ∷ l) ih

  under-over : (k : List ℕ) (r : KeyRule) (xs : List (Keyed A)) → AllOver r k xs → AllOver r k (map under xs)
  under-over k r [] h = tt
  under-over k r (x ∷ xs) h = (h.0, under-over k r xs h.1)

  over-under : (k : List ℕ) (r : KeyRule) (xs : List (Keyed A)) → AllOver r k (map under xs) → AllOver r k xs
  over-under k r [] h = tt
  over-under k r (x ∷ xs) h = (h.0, over-under k r xs h.1)

  -- the keys rise if they did
  pub under-rising : (r : KeyRule) (xs : List (Keyed A)) → Rising r xs → Rising r (map under xs)
  under-rising r [] h = tt
  under-rising r (x ∷ xs) h = (under-over x.key r xs h.0, under-rising r xs h.1)

  -- and only then
  pub rising-under : (r : KeyRule) (xs : List (Keyed A)) → Rising r (map under xs) → Rising r xs
  rising-under r [] h = tt
  rising-under r (x ∷ xs) h = (over-under x.key r xs h.0, rising-under r xs h.1)

-- a key that gets the value it has
pub insert-same : {A : Type 0} (r : KeyRule) (o : Ordered r) (k : List ℕ) (v : A) (xs : List (Keyed A)) → Rising r xs → find k xs ≡ some v → insert r k v xs ≡ xs
insert-same r o k v [] h e = absurd (let z : ◌≡◌ {A = ℕ} 0 1 = cc in omega arith)
insert-same {A} r o k v (x ∷ xs) h e = go (same k x.key) refl (r.below k x.key) refl e (insert-same r o k v xs h.1)
  where
    go : (b : Bool) → same k x.key ≡ b → (c : Bool) → r.below k x.key ≡ c → cond b (some x.value) (find k xs) ≡ some v → (find k xs ≡ some v → insert r k v xs ≡ xs)
        → cond b (record { key = k; value = v } ∷ xs) (cond c (record { key = k; value = v } ∷ x ∷ xs) (x ∷ insert r k v xs)) ≡ x ∷ xs
    go true d c g e ih =
        let q : x.value ≡ v = cc in
        ap₂ (λ (j : List ℕ) (w : A). record { key = j; value = w } ∷ xs) (same-eq k x.key (holds (same k x.key) d)) (sym q)
    go false d true g e ih =
        let t : T (r.below k x.key) = holds (r.below k x.key) g in
        let n : find k xs ≡ none = find-low r o k xs (every-so (λ (y : Keyed A). T (r.below x.key y.key)) (λ y. o.trans k x.key y.key t) xs h.0) in
        absurd (let z : ◌≡◌ {A = ℕ} 0 1 = cc in omega arith)
    go false d false g e ih = ap (λ (l : List (Keyed A)). x ∷ l) (ih e)
