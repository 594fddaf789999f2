-- Is a key empty: the code's test and the text's.
use Rattle.std.specs.Prelude.{ℕ, ◌≡◌, List, [], ◌∷◌, length, ◌==◌}
use native.Mathlib.Omega.{arith}
use mathlib.Core.Path.{refl, sym}
use borrow.Author.Tests.{ne_eqb}
use Rattle.blockfile.specs.Order.{same}

pub same-empty : (k : List ℕ) → same k [] ≡ (length k == 0)
same-empty [] = refl
same-empty (x ∷ k) = sym (ne_eqb _ _ (λ e. omega arith))
