-- A new tower, as the code has it.
use Rattle.std.specs.Prelude.{ℕ, List}
use Rattle.entries.specs.Places.{IsPage}
use Rattle.links.specs.Links.{Linkable}
use Rattle.edit.specs.declared.tower.NewTower.{NewTower}
use Rattle.edit.specs.Cuts.{Rise}

abbrev pub rise_of : NewTower → (before after : List ℕ) → Rise
rise_of x before after =
    record { head = x.head; top = x.top; max = x.max; height = x.height; span = x.span; before = before; after = after }

-- its page, the head's and those of the towers before it are pages of the image
pub record TowerReady (img : List ℕ) (x : NewTower) (before : List ℕ) : Type 0 where
  pub page : IsPage img x.page
  pub head : IsPage img x.head
  pub links : Linkable img before x.height
