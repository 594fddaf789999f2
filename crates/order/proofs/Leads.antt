-- The first bytes of a string as a number have its order.
use Prim.Native.Nat.{ℕ, zero, suc, ◌+◌, ◌*◌, ◌^◌, ◌≤◌, ◌<◌}
use native.Mathlib.Omega.{arith}
use native.Mathlib.Decide.{dec_lt}
use native.Mathlib.Nat.{add-mul, mul-le-mul_right}
use mathlib.Core.Path.{◌≡◌, refl, sym, ◌∙◌, subst}
use mathlib.Core.Logic.{by_cases}
use mathlib.Core.Bool.{true}
use mathlib.Core.List.{List, [], ◌∷◌}
use lib.ListN.{length, drop}
use borrow.Author.Tests.{lt-ltb, le-ltb, eq-eqb}
use Rattle.blockfile.specs.Bytes.{Every}
use Rattle.blockfile.specs.Order.{bytes_below, same}
use Rattle.pages.specs.Begins.{lead}
use Rattle.pages.proofs.Words.{Byte, lead-below, lead-next}

-- of two strings with the same first byte the others have the order
pub below_on : (x y : ℕ) (k l : List ℕ) → x ≡ y → bytes_below (x ∷ k) (y ∷ l) ≡ bytes_below k l
below_on x y k l e = let w : y ≤ x = omega arith in rw (eq-eqb x y e, le-ltb x y w)

pub same-on : (x y : ℕ) (k l : List ℕ) → x ≡ y → same (x ∷ k) (y ∷ l) ≡ same k l
same-on x y k l e = rw (eq-eqb x y e)

-- where the number of the first bytes is below another's, so are the bytes
pub lead-less : (n : ℕ) (k l : List ℕ) → Every Byte l → lead n k < lead n l → bytes_below k l ≡ true
unfolding lead
lead-less zero k l h e = absurd (omega arith)
lead-less (suc n) k [] h e = absurd (omega arith)
lead-less (suc n) [] (y ∷ l) h e = refl
lead-less (suc n) (x ∷ k) (y ∷ l) h e =
    by_cases (dec_lt x y) (λ less. rw (lt-ltb x y less))
    (λ not.
    by_cases (dec_lt y x)
    (λ more.
    let high : (y + 1) * 2 ^ (8 * n) ≤ x * 2 ^ (8 * n) = mul-le-mul_right (2 ^ (8 * n)) (omega arith) in
    let sum : (y + 1) * 2 ^ (8 * n) ≡ y * 2 ^ (8 * n) + 1 * 2 ^ (8 * n) = add-mul y 1 (2 ^ (8 * n)) in
    absurd (omega (arith, lead-below n l h.1)))
    (λ same.
    let is : x ≡ y = omega arith in
    let rest : lead n k < lead n l = (let f = (subst (λ (z : ℕ). z * 2 ^ (8 * n) + lead n k < y * 2 ^ (8 * n) + lead n l) is e) in omega (arith, f)) in
    below_on x y k l is ∙ lead-less n k l h.1 rest))

-- where the numbers of n bytes are the same, the bytes behind them have the order
pub lead-on : (n : ℕ) (k l : List ℕ) → Every Byte k → Every Byte l → n ≤ length k → n ≤ length l → lead n k ≡ lead n l
    → (bytes_below (drop n k) (drop n l) ≡ bytes_below k l) × (same (drop n k) (drop n l) ≡ same k l)
unfolding lead
lead-on zero k l h g f m e = (refl, refl)
lead-on (suc n) [] l h g f m e = absurd (omega arith)
lead-on (suc n) (x ∷ k) [] h g f m e = absurd (omega arith)
lead-on (suc n) (x ∷ k) (y ∷ l) h g f m e =
    let r : (x ≡ y) × (lead n k ≡ lead n l) = lead-next n x y k l h.1 g.1 e in
    let o = lead-on n k l h.1 g.1 (omega arith) (omega arith) r.1 in
    (o.0 ∙ sym (below_on x y k l r.0), o.1 ∙ sym (same-on x y k l r.0))
