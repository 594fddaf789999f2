-- The order of byte strings as an answer: it is the text's, and it goes by the first bytes that differ.
use Prim.Native.Nat.{ℕ, zero, suc, ◌≤◌, ◌<◌}
use native.Mathlib.Omega.{arith}
use native.Mathlib.Decide.{dec_lt}
use mathlib.Core.Path.{◌≡◌, refl, sym, ◌∙◌}
use mathlib.Core.Logic.{by_cases}
use mathlib.Core.Bool.{Bool, true, false, cond}
use mathlib.Core.List.{List, [], ◌∷◌}
use lib.ListN.{length, take, drop}
use lib.Dec.{T}
use borrow.Author.Tests.{lt-ltb, le-ltb, eq-eqb, ne_eqb}
use Rattle.blockfile.specs.Bytes.{Every}
use Rattle.blockfile.specs.Order.{bytes_below, same}
use Rattle.blockfile.proofs.Bools.{so, holds}
use Rattle.pages.specs.Begins.{lead}
use Rattle.pages.proofs.Words.{Byte}
use Rattle.std.specs.declared.cmp.Ordering.TheVariants.{Less, Equal, Greater}
use Rattle.order.specs.Words.{WordsAsBytes}
use Rattle.order.specs.Bytes.{order, word_order}
use Rattle.order.proofs.Leads.{lead-less, lead-on}
use Rattle.order.proofs.Words.{below-only, words-as-bytes}

-- ---- Less exactly where the text has the one key below the other

pub less-below : (k l : List ℕ) → order k l ≡ Less → T (bytes_below k l)
unfolding order
less-below k l e = go (same k l) (bytes_below k l) e
  where
    go : (s b : Bool) → cond s Equal (cond b Less Greater) ≡ Less → T b
    go true b e = absurd (let z : ◌≡◌ {A = ℕ} 0 1 = cc in omega arith)
    go false true e = tt
    go false false e = absurd (let z : ◌≡◌ {A = ℕ} 0 1 = cc in omega arith)

pub below_less : (k l : List ℕ) → T (bytes_below k l) → order k l ≡ Less
unfolding order
below_less k l h = let b = so (bytes_below k l) h in rw ((below-only k l b).1, b)

below-greater : (k l : List ℕ) → T (bytes_below l k) → order k l ≡ Greater
unfolding order
below-greater k l h = let b = below-only l k (so (bytes_below l k) h) in rw (b.2, b.0)

-- ---- by words, and by the numbers of the first bytes

pub word-order : (k l : List ℕ) → Every Byte k → Every Byte l → word_order k l ≡ order k l
unfolding word_order order WordsAsBytes
word-order k l h g = let a = words-as-bytes k l h g in rw (a.0, a.1)

pub lead-order : (n : ℕ) (k l : List ℕ) → Every Byte l → lead n k < lead n l → order k l ≡ Less
lead-order n k l h e = below_less k l (holds (bytes_below k l) (lead-less n k l h e))

pub lead-above : (n : ℕ) (k l : List ℕ) → Every Byte k → lead n l < lead n k → order k l ≡ Greater
lead-above n k l h e = below-greater k l (holds (bytes_below l k) (lead-less n l k h e))

pub lead-behind : (n : ℕ) (k l : List ℕ) → Every Byte k → Every Byte l → n ≤ length k → n ≤ length l → lead n k ≡ lead n l → order (drop n k) (drop n l) ≡ order k l
unfolding order
lead-behind n k l h g f m e = let o = lead-on n k l h g f m e in rw (o.0, o.1)

-- ---- by the first bytes

module _ (k l : List ℕ) (x y : ℕ) (xs ys : List ℕ) (p : k ≡ x ∷ xs) (q : l ≡ y ∷ ys) where
  pub order-less : x < y → order k l ≡ Less
  unfolding order
  order-less h = let d : x ≡ y → ⊥ = λ e. omega arith in rw (p, q, ne_eqb x y d, lt-ltb x y h)

  pub order-greater : y < x → order k l ≡ Greater
  unfolding order
  order-greater h = let d : x ≡ y → ⊥ = λ e. omega arith in let w : y ≤ x = omega arith in rw (p, q, ne_eqb x y d, le-ltb x y w)

  pub order-on : x ≡ y → order k l ≡ order xs ys
  unfolding order
  order-on e = let w : y ≤ x = omega arith in rw (p, q, eq-eqb x y e, le-ltb x y w)

pub order-none : (k l : List ℕ) → length k ≡ 0 → length l ≡ 0 → order k l ≡ Equal
unfolding order
order-none [] [] e f = refl
order-none [] (y ∷ l) e f = absurd (omega arith)
order-none (x ∷ k) l e f = absurd (omega arith)

pub order-shorter : (k l : List ℕ) → length k ≡ 0 → 0 < length l → order k l ≡ Less
unfolding order
order-shorter [] [] e f = absurd (omega arith)
order-shorter [] (y ∷ l) e f = refl
order-shorter (x ∷ k) l e f = absurd (omega arith)

pub order-longer : (k l : List ℕ) → 0 < length k → length l ≡ 0 → order k l ≡ Greater
unfolding order
order-longer [] l e f = absurd (omega arith)
order-longer (x ∷ k) [] e f = refl
order-longer (x ∷ k) (y ∷ l) e f = absurd (omega arith)

-- ---- by the first w bytes: where they differ they have the order, and else what follows has it

pub order-part : (w : ℕ) (k l : List ℕ) → w ≤ length k → w ≤ length l → (order (take w k) (take w l) ≡ Equal → ⊥) → order k l ≡ order (take w k) (take w l)
order-part zero k l f g d = absurd (d (order-none [] [] refl refl))
order-part (suc w) [] l f g d = absurd (omega arith)
order-part (suc w) (x ∷ k) [] f g d = absurd (omega arith)
order-part (suc w) (x ∷ k) (y ∷ l) f g d =
    by_cases (dec_lt x y) (λ h. order-less _ _ x y k l refl refl h ∙ sym (order-less _ _ x y (take w k) (take w l) refl refl h))
    (λ p.
    by_cases (dec_lt y x) (λ h. order-greater _ _ x y k l refl refl h ∙ sym (order-greater _ _ x y (take w k) (take w l) refl refl h))
    (λ q.
    let e : x ≡ y = omega arith in
    let s : order (x ∷ take w k) (y ∷ take w l) ≡ order (take w k) (take w l) = order-on _ _ x y (take w k) (take w l) refl refl e in
    order-on _ _ x y k l refl refl e ∙ order-part w k l (omega arith) (omega arith) (λ h. d (s ∙ h)) ∙ sym s))

pub order-behind : (w : ℕ) (k l : List ℕ) → w ≤ length k → w ≤ length l → order (take w k) (take w l) ≡ Equal → order (drop w k) (drop w l) ≡ order k l
order-behind zero k l f g e = refl
order-behind (suc w) [] l f g e = absurd (omega arith)
order-behind (suc w) (x ∷ k) [] f g e = absurd (omega arith)
order-behind (suc w) (x ∷ k) (y ∷ l) f g e =
    by_cases (dec_lt x y) (λ h. absurd (let z : Less ≡ Equal = sym (order-less _ _ x y (take w k) (take w l) refl refl h) ∙ e in let n : ◌≡◌ {A = ℕ} 0 1 = cc in omega arith))
    (λ p.
    by_cases (dec_lt y x) (λ h. absurd (let z : Greater ≡ Equal = sym (order-greater _ _ x y (take w k) (take w l) refl refl h) ∙ e in let n : ◌≡◌ {A = ℕ} 0 1 = cc in omega arith))
    (λ q.
    let is : x ≡ y = omega arith in
    order-behind w k l (omega arith) (omega arith) (sym (order-on _ _ x y (take w k) (take w l) refl refl is) ∙ e) ∙ sym (order-on _ _ x y k l refl refl is)))
