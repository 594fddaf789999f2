-- The ways through the comparison of keys as those of their table sort.
use Rattle.std.proofs.Common.{◌≡◌, ℕ, zero, suc, ◌<◌, ◌≤◌, cond, eqb, ltb, List, [], ◌∷◌, length, get_or, take, sym, refl, ap, ◌∙◌, arith}
use Rattle.std.specs.declared.cmp.Ordering.{Ordering}
use Rattle.std.specs.declared.cmp.Ordering.TheVariants.{Less, Equal, Greater}
use Rattle.std.specs.Ordering.{nat_cmp, MatchOrdering}
use Rattle.std.proofs.lemmas.Cmp.{ranked}
use Rattle.order.specs.declared.sort.Sort.{Sort}
use Rattle.order.specs.declared.sort.Sort.TheVariants.{Bytes, Numbers}
use Rattle.order.specs.Sorts.{sign_as}
use Rattle.order.proofs.Sorts.{sort-some, sign-bytes, sign-none, sign-some, sign-less, sign-greater, sign_same}
use Rattle.entries.specs.declared.place.Place.{Place}
use Rattle.entries.specs.declared.place.Got.{Got}
use Rattle.entries.specs.Places.{Stepped}
use Rattle.entries.specs.Keys.{KeyAt, ComparedTo}
use Rattle.entries.specs.Sorted.{SortAt, SignAt, ComparedAs}
use Rattle.entries.proofs.Keys.{key-length}

-- ---- the first byte of a key

first_taken : (n : ℕ) (s : List ℕ) → 0 < n → get_or (take n s) 0 0 ≡ get_or s 0 0
first_taken zero s h = absurd (omega arith)
first_taken (suc n) [] h = refl
first_taken (suc n) (x ∷ s) h = refl

module _ {img : List ℕ} {at : Place} {n : ℕ} where
  -- the byte at the place is the first of the key
  first-is : 1 ≤ n → {g : Got} → Stepped img at g → (k : List ℕ) → KeyAt img at n k → (0 < length k) × (g.byte ≡ get_or k 0 0)
  first-is h t k a = (
    omega (arith, key-length a),
    t.byte a.bytes (a.rest h) ∙ sym (first_taken n a.bytes h) ∙ ap (λ (l : List ℕ). get_or l 0 0) (sym a.is),
  )

  pub sign-at-bytes : {s : Sort} → s ≡ Bytes → SignAt s img at n 0
  sign-at-bytes {s} e = record { is = λ k a. sign-bytes s k e }

  pub sign-at-none : {s : Sort} → n ≡ 0 → SignAt s img at n 0
  sign-at-none {s} e = record { is = λ k a. sign-none s k (key-length a ∙ e) }

  module _ {g : Got} (h : 1 ≤ n) (t : Stepped img at g) where
    pub sign-at-some : {s : Sort} {r : ℕ} → s ≡ Numbers → r ≡ cond (ltb g.byte 0x80) 2 1 → SignAt s img at n r
    sign-at-some {s} e p = record { is = λ k a. let f = first-is h t k a in sign-some s k e f.0 f.1 p }

    pub sort-at-some : {s : Sort} → s ≡ cond (eqb g.byte 0x23) Numbers Bytes → SortAt img at n s
    sort-at-some p = record { is = λ k a. let f = first-is h t k a in sort-some k f.0 f.1 p }

-- ---- a key and a list of bytes: the signs, and then the bytes

module _ {s : Sort} {img : List ℕ} {a : Place} {m x y : ℕ} {l : List ℕ} (c : SignAt s img a m x) (t : y ≡ sign_as s l) where
  -- where the signs differ they have the order
  pub compared-signs : {o : Ordering} → o ≡ nat_cmp x y → (o ≡ Equal → ⊥) → ComparedAs s img a m l o
  compared-signs {o} e d = go o (ranked x y o e) d
    where
      go : (o : Ordering) → MatchOrdering o (x < y) (x ≡ y) (y < x) → (o ≡ Equal → ⊥) → ComparedAs s img a m l o
      go Less h d = record { is = λ k w. sym (sign-less s k l (omega (arith, c.is k w, t, h))) }
      go Equal h d = absurd (d refl)
      go Greater h d = record { is = λ k w. sym (sign-greater s k l (omega (arith, c.is k w, t, h))) }

  pub compared-rest : {p : Ordering} → p ≡ nat_cmp x y → p ≡ Equal → {o : Ordering} → ComparedTo img a m l o → ComparedAs s img a m l o
  compared-rest {p} e q d = record { is = λ k w. let h : x ≡ y = rw q at (ranked x y p e) in d.is k w ∙ sym (sign_same s k l (omega (arith, c.is k w, t, h))) }
