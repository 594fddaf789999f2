-- Chains of towers in the bytes.
use Rattle.std.specs.Prelude.{ℕ, ◌+◌, ◌*◌, ◌≡◌, cond, List, [], ◌∷◌, ltb}
use Rattle.blockfile.specs.Bytes.{be32}
use Rattle.blockfile.specs.Layout.{Tower}

-- from page p on, entry i leads through the pages of the list, in its order, and then to 0; g gives the bytes of a page
abbrev pub Follows : (g : ℕ → List ℕ) (i p : ℕ) → List ℕ → Type 0
Follows g i p [] = p ≡ 0
Follows g i p (q ∷ qs) = (p ≡ q) × Follows g i (be32 (g q) (16 + 4 * i)) qs

-- the pages of the towers whose current is above i
abbrev pub higher : (i : ℕ) → List Tower → List ℕ
higher i [] = []
higher i (t ∷ ts) = cond (ltb i t.height) (t.page ∷ higher i ts) (higher i ts)
