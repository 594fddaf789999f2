-- Tests: what a test that holds says.
use Prim.Native.Nat.{ℕ, ◌≤◌}
use native.Mathlib.Omega.{arith}
use mathlib.Core.Path.{◌≡◌, refl, ap₂, sym}
use mathlib.Core.Logic.{◌⊎◌, inl, inr}
use mathlib.Core.Bool.{Bool, true, false, cond, ◌&&◌, ◌||◌, true≢false}
use mathlib.Core.List.{List, [], ◌∷◌}
use lib.Dec.{T, eqb, leb, leb→le, eqb→eq, eqb_refl}
use Rattle.blockfile.specs.Order.{Within, within, same}

pub so : (b : Bool) → T b → b ≡ true
so true h = refl
so false h = absurd h

pub not_so : (b : Bool) → (T b → ⊥) → b ≡ false
not_so true h = absurd (h tt)
not_so false h = refl

pub holds : (b : Bool) → b ≡ true → T b
holds true e = tt
holds false e = absurd (true≢false (sym e))

pub and_both : (a b : Bool) → T (a && b) → T a × T b
and_both true true h = (tt, tt)
and_both true false h = absurd h
and_both false b h = absurd h

pub both-and : (a b : Bool) → T a → T b → T (a && b)
both-and true true h k = tt
both-and true false h k = absurd k
both-and false b h k = absurd h

pub or-either : (a b : Bool) → T (a || b) → T a ⊎ T b
or-either true b h = inl tt
or-either false b h = inr h

pub or_left : (a b : Bool) → T a → T (a || b)
or_left true b h = tt
or_left false b h = absurd h

pub or_right : (a b : Bool) → T b → T (a || b)
or_right true b h = tt
or_right false b h = h

-- a number by a test is at most 1, and at least 1 only where the test holds
pub bit-low : (b : Bool) → cond b 1 0 ≤ 1
bit-low true = omega arith
bit-low false = omega arith

pub bit-true : (b : Bool) → 1 ≤ cond b 1 0 → T b
bit-true true h = tt
bit-true false h = absurd (omega arith)

pub within-is : (lo hi n : ℕ) → T (within lo hi n) → Within lo hi n
within-is lo hi n h =
    let k : T (leb lo n) × T (leb n hi) = and_both (leb lo n) (leb n hi) h in
    (leb→le lo n k.0, leb→le n hi k.1)

-- ---- The same bytes

pub same_refl : (k : List ℕ) → T (same k k)
same_refl [] = tt
same_refl (x ∷ k) = both-and (eqb x x) (same k k) (eqb_refl x) (same_refl k)

pub same-eq : (a b : List ℕ) → T (same a b) → a ≡ b
same-eq [] [] t = refl
same-eq [] (y ∷ ys) t = absurd t
same-eq (x ∷ xs) [] t = absurd t
same-eq (x ∷ xs) (y ∷ ys) t =
    let h : T (eqb x y) × T (same xs ys) = and_both (eqb x y) (same xs ys) t in
    ap₂ (λ (z : ℕ) (zs : List ℕ). z ∷ zs) (eqb→eq x y h.0) (same-eq xs ys h.1)
