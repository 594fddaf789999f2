-- An image has at most one layout, the one read from its bytes, and it is decided whether it has one.
use Prim.Native.Nat.{ℕ}
use mathlib.Core.Path.{◌≡◌, refl, sym, ◌∙◌}
use mathlib.Core.Logic.{◌⊎◌, inl, inr}
use mathlib.Core.List.{List, [], ◌∷◌}
use Rattle.blockfile.specs.Layout.{Layout}
use Rattle.blockfile.specs.WellFormed.{WellFormed, Accepted, Rejected}
use Rattle.blockfile.proofs.Tested.{Rule}
use Rattle.blockfile.proofs.Reading.{broken}
use Rattle.blockfile.proofs.Read.{read, accepts, rejects}

pub unique : (img : List ℕ) (L M : Layout) → WellFormed img L → WellFormed img M → L ≡ M
unique img L M w v = read img L w ∙ sym (read img M v)

pub decided : (img : List ℕ) → Accepted img ⊎ Rejected img
decided img = go (broken img) refl
  where
    go : (rs : List Rule) → broken img ≡ rs → Accepted img ⊎ Rejected img
    go [] e = inl (accepts img e)
    go (r ∷ rs) e = inr (rejects img r rs e)
