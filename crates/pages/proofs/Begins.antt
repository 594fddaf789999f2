-- What it means that bytes begin with other bytes.
use Prim.Native.Nat.{ℕ, suc, ◌≤◌, ◌<◌}
use mathlib.Core.Bool.{Bool, true, false, ◌&&◌}
use mathlib.Core.List.{List, [], ◌∷◌}
use mathlib.Core.Path.{◌≡◌, refl, ap, ap₂, sym, subst}
use native.Mathlib.Nat.{le_of_suc-le-suc, not-suc-le-zero}
use native.Mathlib.Omega.{arith}
use lib.ListN.{length, take, get_or}
use borrow.Author.Tests.{eq-eqb, ne_eqb, eqb-true}
use lib.Dec.{T, eqb}
use Rattle.pages.specs.Begins.{begins}

-- ---- beginning: both directions

pub begins-take : (m b : List ℕ) → begins m b ≡ true → take (length m) b ≡ m
unfolding begins
begins-take [] b e = refl
begins-take (x ∷ m) [] e = absurd (subst T (sym e) tt)
begins-take (x ∷ m) (y ∷ b) e = go (eqb y x) refl e (begins-take m b)
  where
    go : (t : Bool) → eqb y x ≡ t → t && begins m b ≡ true → (begins m b ≡ true → take (length m) b ≡ m) → y ∷ take (length m) b ≡ x ∷ m
    go true q e ih = ap₂ (λ (a : ℕ) (l : List ℕ). a ∷ l) (eqb-true y x q) (ih e)
    go false q e ih = absurd (subst T (sym e) tt)

pub take_begins : (m b : List ℕ) → take (length m) b ≡ m → begins m b ≡ true
unfolding begins
take_begins [] b e = refl
take_begins (x ∷ m) [] e = absurd (let z : ◌≡◌ {A = ℕ} 0 1 = cc in omega arith)
take_begins (x ∷ m) (y ∷ b) e = let q : y ≡ x = cc in rw (eq-eqb y x q) (take_begins m b (cc))

-- ---- what the first bytes decide

pub begins-agree : (m a b : List ℕ) → length m ≤ length a → length m ≤ length b → ((i : ℕ) → i < length m → get_or a i 0 ≡ get_or b i 0) → begins m a ≡ begins m b
unfolding begins
begins-agree [] a b h l g = refl
begins-agree (x ∷ m) [] b h l g = absurd (not-suc-le-zero h)
begins-agree (x ∷ m) (y ∷ a) [] h l g = absurd (not-suc-le-zero l)
begins-agree (x ∷ m) (y ∷ a) (z ∷ b) h l g =
    let e : y ≡ z = g 0 (omega arith) in
    rw e (ap (λ (t : Bool). eqb z x && t) (begins-agree m a b (le_of_suc-le-suc h) (le_of_suc-le-suc l) (λ i k. g (suc i) (omega arith))))

pub begins-other : (m b : List ℕ) → 1 ≤ length m → (get_or b 0 0 ≡ get_or m 0 0 → ⊥) → begins m b ≡ false
unfolding begins
begins-other [] b h n = absurd (not-suc-le-zero h)
begins-other (x ∷ m) [] h n = refl
begins-other (x ∷ m) (y ∷ b) h n = rw (ne_eqb y x n)
