-- Byte strings compared eight bytes at a time: the claim of `specs/Words`.
use Prim.Native.Nat.{ℕ, zero, suc, ◌*◌, ◌≤◌, ◌<◌}
use native.Mathlib.Omega.{arith}
use native.Mathlib.Decide.{dec_lt}
use native.Mathlib.Nat.{div-mul-le_self}
use mathlib.Core.Path.{◌≡◌, refl, sym, ◌∙◌, subst}
use mathlib.Core.Logic.{by_cases}
use mathlib.Core.Bool.{Bool, true, false, cond}
use mathlib.Core.List.{List}
use lib.ListN.{length, drop, length-drop}
use lib.Dec.{T, ltb}
use borrow.Author.Tests.{lt-ltb, le-ltb, eq-eqb, ne_eqb, ltb-true, ltb-false}
use Rattle.blockfile.specs.Bytes.{be64, Every}
use Rattle.blockfile.specs.Order.{bytes_below, same}
use Rattle.blockfile.proofs.Bools.{holds, not_so, same-eq}
use Rattle.laws.proofs.Orders.{bytes-ordered}
use Rattle.pages.proofs.Words.{Byte, bytes_drop, be64-lead}
use Rattle.order.specs.Words.{words_below, words_same, shorter, words, WordsAsBytes}
use Rattle.order.proofs.Leads.{lead-less, lead-on}

-- of two strings of which one is below the other, the other is not below it, and they are not the same
pub below-only : (k l : List ℕ) → bytes_below k l ≡ true → (bytes_below l k ≡ false) × (same k l ≡ false) × (same l k ≡ false)
below-only k l e =
    let h : T (bytes_below k l) = holds (bytes_below k l) e in (
      not_so (bytes_below l k) (λ t. bytes-ordered.irrefl k (bytes-ordered.trans k l k h t)),
      not_so (same k l) (λ t. bytes-ordered.irrefl k (subst (λ (x : List ℕ). T (bytes_below k x)) (sym (same-eq k l t)) h)),
      not_so (same l k) (λ t. bytes-ordered.irrefl k (subst (λ (x : List ℕ). T (bytes_below k x)) (same-eq l k t) h)),
    )

-- ---- the first words of two strings

abbrev pub Agrees : (n : ℕ) (k l : List ℕ) → Type 0
Agrees n k l = (words_below n k l ≡ bytes_below k l) × (words_same n k l ≡ same k l)

module _ (n : ℕ) (k l : List ℕ) (h : Every Byte k) (g : Every Byte l) (f : 8 ≤ length k) (m : 8 ≤ length l) where
  word_below : be64 k 0 < be64 l 0 → Agrees (suc n) k l
  word_below e =
      let b : bytes_below k l ≡ true = lead-less 8 k l g (omega (arith, be64-lead k 0, be64-lead l 0, e)) in
      let d : be64 k 0 ≡ be64 l 0 → ⊥ = λ q. omega arith in
      (rw (lt-ltb _ _ e, b), rw (ne_eqb _ _ d, (below-only k l b).1))

  word-above : be64 l 0 < be64 k 0 → Agrees (suc n) k l
  word-above e =
      let b : bytes_below l k ≡ true = lead-less 8 l k h (omega (arith, be64-lead k 0, be64-lead l 0, e)) in
      let d : be64 k 0 ≡ be64 l 0 → ⊥ = λ q. omega arith in
      let w : be64 l 0 ≤ be64 k 0 = omega arith in
      (rw (le-ltb _ _ w, ne_eqb _ _ d, (below-only l k b).0), rw (ne_eqb _ _ d, (below-only l k b).2))

  word_same : be64 k 0 ≡ be64 l 0 → Agrees n (drop 8 k) (drop 8 l) → Agrees (suc n) k l
  word_same e a =
      let o = lead-on 8 k l h g f m (sym (be64-lead k 0) ∙ e ∙ be64-lead l 0) in
      let w : be64 l 0 ≤ be64 k 0 = omega arith in
      (rw (le-ltb _ _ w, eq-eqb _ _ e) (a.0 ∙ o.0), rw (eq-eqb _ _ e) (a.1 ∙ o.1))

-- n words that both have
words-agree : (n : ℕ) (k l : List ℕ) → Every Byte k → Every Byte l → 8 * n ≤ length k → 8 * n ≤ length l → Agrees n k l
words-agree zero k l h g f m = (refl, refl)
words-agree (suc n) k l h g f m =
    let a : 8 ≤ length k = omega arith in
    let b : 8 ≤ length l = omega arith in
    by_cases (dec_lt (be64 k 0) (be64 l 0)) (word_below n k l h g a b)
    (λ p.
    by_cases (dec_lt (be64 l 0) (be64 k 0)) (word-above n k l h g a b)
    (λ q.
    word_same n k l h g a b (omega arith)
    (words-agree n (drop 8 k) (drop 8 l) (bytes_drop 8 k h) (bytes_drop 8 l g) (rw length-drop (omega arith)) (rw length-drop (omega arith)))))

-- the shorter length is at most both
shorter-least : (k l : List ℕ) → (shorter k l ≤ length k) × (shorter k l ≤ length l)
shorter-least k l = go (ltb (length k) (length l)) refl
  where
    go : (b : Bool) → ltb (length k) (length l) ≡ b → (cond b (length k) (length l) ≤ length k) × (cond b (length k) (length l) ≤ length l)
    go true e = (omega arith, omega (arith, ltb-true (length k) (length l) e))
    go false e = (omega (arith, ltb-false (length k) (length l) e), omega arith)

pub words-as-bytes : WordsAsBytes
unfolding WordsAsBytes
words-as-bytes k l h g =
    let most = shorter-least k l in
    let some : words k l * 8 ≤ shorter k l = div-mul-le_self (shorter k l) 8 in
    words-agree (words k l) k l h g (omega (arith, some, most.0)) (omega (arith, some, most.1))
