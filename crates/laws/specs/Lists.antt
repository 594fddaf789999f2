-- Bytes of two lists compared.
use Rattle.std.specs.Prelude.{ℕ, ◌+◌, ◌<◌, ◌≤◌, ◌≡◌, ◌⊎◌, List, get_or}

-- a read of w bytes from a on meets no write of n bytes from o on
abbrev pub Apart : (a w o n : ℕ) → Type 0
Apart a w o n = (a + w ≤ o) ⊎ (o + n ≤ a)

-- w bytes of b from i on are those of c from j on
abbrev pub Agree : (w : ℕ) (b : List ℕ) (i : ℕ) (c : List ℕ) (j : ℕ) → Type 0
Agree w b i c j = (k : ℕ) → k < w → get_or b (i + k) 0 ≡ get_or c (j + k) 0
