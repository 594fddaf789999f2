-- On lists with rising keys, `find`, `insert`, `erase` and `above` are the operations of a finite map.
use Prim.Native.Nat.{ℕ}
use native.Mathlib.Omega.{arith}
use mathlib.Core.Path.{◌≡◌, refl, sym, subst, ap, ◌∙◌}
use mathlib.Core.Bool.{Bool, true, false, cond, true≢false}
use mathlib.Core.List.{List, [], ◌∷◌}
use mathlib.Core.Option.{none, some}
use lib.Dec.{T}
use Rattle.blockfile.specs.Bytes.{Every}
use Rattle.blockfile.specs.Layout.{Keyed}
use Rattle.blockfile.specs.Order.{KeyRule, same, Rising, find, insert, erase, above, there}
use Rattle.blockfile.proofs.Bools.{so, not_so, holds, same-eq, same_refl}
use Rattle.blockfile.proofs.Every.{every-so}
use Rattle.laws.specs.Maps.{asks}
use Rattle.laws.proofs.Orders.{Ordered}

pub differ : (a b : List ℕ) → same a b ≡ false → a ≡ b → ⊥
differ a b e q = true≢false (sym (so (same a b) (subst (λ (c : List ℕ). T (same a c)) q (same_refl a))) ∙ e)

differ-sym : (a b : List ℕ) → same a b ≡ false → same b a ≡ false
differ-sym a b e = not_so (same b a) (λ t. differ a b e (sym (same-eq b a t)))

module _ {A : Type 0} (r : KeyRule) (o : Ordered r) where
  -- every key of the list is above k
  abbrev pub AllAbove : List ℕ → List (Keyed A) → Type 0
  AllAbove k xs = Every (λ y. T (r.below k y.key)) xs

  lower : (j k : List ℕ) (xs : List (Keyed A)) → T (r.below j k) → AllAbove k xs → AllAbove j xs
  lower j k xs t h = every-so (λ (y : Keyed A). T (r.below k y.key)) (λ y. o.trans j k y.key t) xs h

  -- a key below all of the list is not in it
  pub find-low : (k : List ℕ) (xs : List (Keyed A)) → AllAbove k xs → find k xs ≡ none
  find-low k [] h = refl
  find-low k (x ∷ xs) h = rw (apart) (find-low k xs h.1)
    where
      apart : same k x.key ≡ false
      apart = not_so (same k x.key) (λ t. o.irrefl k (subst (λ (c : List ℕ). T (r.below k c)) (sym (same-eq k x.key t)) h.0))

  -- ---- insert: the key has the value, other keys keep theirs, and keys still rise

  pub insert-found : (k : List ℕ) (v : A) (xs : List (Keyed A)) → find k (insert r k v xs) ≡ some v
  insert-found k v [] = rw (so (same k k) (same_refl k))
  insert-found k v (x ∷ xs) = go (same k x.key) refl (r.below k x.key) (insert-found k v xs)
    where
      go : (b : Bool) → same k x.key ≡ b → (c : Bool) → find k (insert r k v xs) ≡ some v
          → find k (cond b (record { key = k; value = v } ∷ xs) (cond c (record { key = k; value = v } ∷ x ∷ xs) (x ∷ insert r k v xs))) ≡ some v
      go true e c ih = rw (so (same k k) (same_refl k))
      go false e true ih = rw (so (same k k) (same_refl k))
      go false e false ih = rw e ih

  pub insert-others : (k : List ℕ) (v : A) (xs : List (Keyed A)) (j : List ℕ) → same j k ≡ false → find j (insert r k v xs) ≡ find j xs
  insert-others k v [] j d = rw d
  insert-others k v (x ∷ xs) j d = go (same k x.key) refl (r.below k x.key) (insert-others k v xs j d)
    where
      go : (b : Bool) → same k x.key ≡ b → (c : Bool) → find j (insert r k v xs) ≡ find j xs
          → find j (cond b (record { key = k; value = v } ∷ xs) (cond c (record { key = k; value = v } ∷ x ∷ xs) (x ∷ insert r k v xs))) ≡ find j (x ∷ xs)
      go true e c ih =
          let q : same j x.key ≡ false = subst (λ (y : List ℕ). same j y ≡ false) (same-eq k x.key (holds (same k x.key) e)) d in
          rw (d, q)
      go false e true ih = rw d
      go false e false ih = ap (cond (same j x.key) (some x.value)) ih

  insert-above : (j k : List ℕ) (v : A) (xs : List (Keyed A)) → T (r.below j k) → AllAbove j xs → AllAbove j (insert r k v xs)
  insert-above j k v [] t h = (t, tt)
  insert-above j k v (x ∷ xs) t h = go (same k x.key) (r.below k x.key) (insert-above j k v xs t h.1)
    where
      go : (b c : Bool) → AllAbove j (insert r k v xs)
          → AllAbove j (cond b (record { key = k; value = v } ∷ xs) (cond c (record { key = k; value = v } ∷ x ∷ xs) (x ∷ insert r k v xs)))
      go true c ih = (t, h.1)
      go false true ih = (t, h)
      go false false ih = (h.0, ih)

  pub insert-rising : (k : List ℕ) (v : A) (xs : List (Keyed A)) → Rising r xs → Rising r (insert r k v xs)
  insert-rising k v [] h = (tt, tt)
  insert-rising k v (x ∷ xs) h = go (same k x.key) refl (r.below k x.key) refl (insert-rising k v xs h.1)
    where
      go : (b : Bool) → same k x.key ≡ b → (c : Bool) → r.below k x.key ≡ c → Rising r (insert r k v xs)
          → Rising r (cond b (record { key = k; value = v } ∷ xs) (cond c (record { key = k; value = v } ∷ x ∷ xs) (x ∷ insert r k v xs)))
      go true e c f ih = (subst (λ (y : List ℕ). AllAbove y xs) (sym (same-eq k x.key (holds (same k x.key) e))) h.0, h.1)
      go false e true f ih =
          let t : T (r.below k x.key) = holds (r.below k x.key) f in
          ((t, lower k x.key xs t h.0), h)
      go false e false f ih =
          let t : T (r.below x.key k) = o.total k x.key (λ s. true≢false (sym (so (same k x.key) s) ∙ e)) (λ s. true≢false (sym (so (r.below k x.key) s) ∙ f)) in
          (insert-above x.key k v xs t h.0, ih)

  -- ---- erase: the key is gone, other keys keep their values, and keys still rise

  pub erase-found : (k : List ℕ) (xs : List (Keyed A)) → Rising r xs → find k (erase k xs) ≡ none
  erase-found k [] h = refl
  erase-found k (x ∷ xs) h = go (same k x.key) refl (erase-found k xs h.1)
    where
      go : (b : Bool) → same k x.key ≡ b → find k (erase k xs) ≡ none → find k (cond b xs (x ∷ erase k xs)) ≡ none
      go true e ih = find-low k xs (subst (λ (y : List ℕ). AllAbove y xs) (sym (same-eq k x.key (holds (same k x.key) e))) h.0)
      go false e ih = rw e ih

  pub erase-others : (k : List ℕ) (xs : List (Keyed A)) (j : List ℕ) → same j k ≡ false → find j (erase k xs) ≡ find j xs
  erase-others k [] j d = refl
  erase-others k (x ∷ xs) j d = go (same k x.key) refl (erase-others k xs j d)
    where
      go : (b : Bool) → same k x.key ≡ b → find j (erase k xs) ≡ find j xs → find j (cond b xs (x ∷ erase k xs)) ≡ find j (x ∷ xs)
      go true e ih =
          let q : same j x.key ≡ false = subst (λ (y : List ℕ). same j y ≡ false) (same-eq k x.key (holds (same k x.key) e)) d in
          rw q
      go false e ih = ap (cond (same j x.key) (some x.value)) ih

  erase-above : (j k : List ℕ) (xs : List (Keyed A)) → AllAbove j xs → AllAbove j (erase k xs)
  erase-above j k [] h = tt
  erase-above j k (x ∷ xs) h = go (same k x.key) (erase-above j k xs h.1)
    where
      go : (b : Bool) → AllAbove j (erase k xs) → AllAbove j (cond b xs (x ∷ erase k xs))
      go true ih = h.1
      go false ih = (h.0, ih)

  pub erase-rising : (k : List ℕ) (xs : List (Keyed A)) → Rising r xs → Rising r (erase k xs)
  erase-rising k [] h = tt
  erase-rising k (x ∷ xs) h = go (same k x.key) (erase-rising k xs h.1)
    where
      go : (b : Bool) → Rising r (erase k xs) → Rising r (cond b xs (x ∷ erase k xs))
      go true ih = h.1
      go false ih = (erase-above x.key k xs h.0, ih)

  -- ---- above: a key of the list that is above k, with none between; the empty key asks for the first

  -- j is a key of the list that is asked for, and none that is asked for is below it
  pub record Least (k j : List ℕ) (xs : List (Keyed A)) : Type 0 where
    pub present : T (there (find j xs))
    pub asked : T (asks r k j)
    pub least : Every (λ y. T (asks r k y.key) → T (r.below y.key j) → ⊥) xs

  pub above-some : (k j : List ℕ) (xs : List (Keyed A)) → Rising r xs → above r k xs ≡ some j → Least k j xs
  above-some k j [] h e = absurd (let z : ◌≡◌ {A = ℕ} 0 1 = cc in omega arith)
  above-some k j (x ∷ xs) h e = go (asks r k x.key) refl e (above-some k j xs h.1)
    where
      go : (b : Bool) → asks r k x.key ≡ b → cond b (some x.key) (above r k xs) ≡ some j → (above r k xs ≡ some j → Least k j xs) → Least k j (x ∷ xs)
      go true f e ih =
          let q : x.key ≡ j = cc in
          subst (λ (i : List ℕ). Least k i (x ∷ xs)) q
          (record {
            present = rw (so (same x.key x.key) (same_refl x.key)) tt;
            asked = holds (asks r k x.key) f;
            least = (
              λ a. o.irrefl x.key,
              every-so (λ (y : Keyed A). T (r.below x.key y.key)) (λ y t a u. o.irrefl x.key (o.trans x.key y.key x.key t u)) xs h.0,
            );
          })
      go false f e ih =
          let l : Least k j xs = ih e in
          record {
            present = there-later (same j x.key) l.present;
            asked = l.asked;
            least = ((λ a u. true≢false (sym (so (asks r k x.key) a) ∙ f)), l.least);
          }
        where
          there-later : (b : Bool) → T (there (find j xs)) → T (there (cond b (some x.value) (find j xs)))
          there-later true t = tt
          there-later false t = t

  pub above-none : (k : List ℕ) (xs : List (Keyed A)) → above r k xs ≡ none → Every (λ y. T (asks r k y.key) → ⊥) xs
  above-none k [] e = tt
  above-none k (x ∷ xs) e = go (asks r k x.key) refl e (above-none k xs)
    where
      go : (b : Bool) → asks r k x.key ≡ b → cond b (some x.key) (above r k xs) ≡ none → (above r k xs ≡ none → Every (λ y. T (asks r k y.key) → ⊥) xs)
          → Every (λ y. T (asks r k y.key) → ⊥) (x ∷ xs)
      go true f e ih = absurd (let z : ◌≡◌ {A = ℕ} 0 1 = cc in omega arith)
      go false f e ih = ((λ a. true≢false (sym (so (asks r k x.key) a) ∙ f)), ih e)
