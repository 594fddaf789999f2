-- The bytes of a name: all within bounds.
use Rattle.std.proofs.Common.{◌≡◌, ℕ, Bool, ◌&&◌, [], ◌<◌, ◌≤◌, false, List, ◌∷◌, refl, ap, le-leb}
use borrow.Author.Tests.{lt-leb}
use Rattle.std.specs.List.{list_all}
use Rattle.blockfile.specs.Order.{within, all_within}

module _ (k : List ℕ) (x : ℕ) (xs : List ℕ) (e : k ≡ x ∷ xs) where
  pub within_low : x < 0x21 → all_within 0x21 0x7e k ≡ false
  within_low h = rw (e, lt-leb 0x21 x h)

  module _ (low : 0x21 ≤ x) where
    pub within-high : 0x7e < x → all_within 0x21 0x7e k ≡ false
    within-high h = rw (e, le-leb 0x21 x low, lt-leb x 0x7e h)

    pub within_on : x ≤ 0x7e → all_within 0x21 0x7e k ≡ all_within 0x21 0x7e xs
    within_on h = rw (e, le-leb 0x21 x low, le-leb x 0x7e h)

-- the same as a test of each byte
pub within-all : (x : List ℕ) → list_all (within 0x21 0x7e) x ≡ all_within 0x21 0x7e x
within-all [] = refl
within-all (b ∷ x) = ap (λ (r : Bool). within 0x21 0x7e b && r) (within-all x)
