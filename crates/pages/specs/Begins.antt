-- What bytes begin with: other bytes, and a number.
use Rattle.std.specs.Prelude.{ℕ, zero, suc, ◌+◌, ◌*◌, ◌^◌, Bool, true, false, ◌&&◌, List, [], ◌∷◌, eqb}

-- b begins with m
unfoldable pub begins : (m b : List ℕ) → Bool
begins [] b = true
begins (x ∷ m) [] = false
begins (x ∷ m) (y ∷ b) = eqb y x && begins m b

-- the first n bytes as a number, as if zeros followed them
unfoldable pub lead : (n : ℕ) → List ℕ → ℕ
lead zero k = 0
lead (suc n) [] = 0
lead (suc n) (x ∷ k) = x * 2 ^ (8 * n) + lead n k
