-- What remove asks for, and what it leaves.
use Rattle.std.specs.Prelude.{ℕ, ◌≡◌, ◌⊎◌, Bool, true, false, List, length, T, Option, Some, None}
use Rattle.std.proofs.Math.Option.{none, some}
use Rattle.blockfile.specs.Layout.{Table, Layout, entries_of, free_count}
use Rattle.blockfile.specs.Order.{key_rule, find}
use Rattle.blockfile.specs.Remove.{remove_plan}
use Rattle.search.specs.declared.table.TableRef.{TableRef}
use Rattle.edit.specs.declared.fields.Links.{Links}
use Rattle.edit.specs.Puts.{CarriedOut, TableAt}

-- b tells whether the span with these links is not the first and has one entry
pub record Goes (x : Links) (b : Bool) : Type 0 where
  pub yes : b ≡ true → (x.prev ≡ 0 → ⊥) × (x.size ≡ 1)
  pub other : b ≡ false → (x.prev ≡ 0) ⊎ (x.size ≡ 1 → ⊥)

pub record RemoveReady (img scratch : List ℕ) (d : TableRef) (free : ℕ) (k : List ℕ) : Type 0 where
  pub layout : Layout
  pub name : List ℕ
  pub table : Table
  pub is : TableAt img d layout name table
  pub pages : free_count layout.free ≡ free
  pub allowed : T ((key_rule name).allowed k)
  pub lent : length scratch ≡ length img

-- if the table has the key, the text's plan is carried out, else the image is as it was
pub record RemoveDone (img : List ℕ) (d : TableRef) (free : ℕ) (k : List ℕ) (r : Option ℕ) (out : List ℕ) : Type 0 where
  pub done : (n : ℕ) → r ≡ Some n → (L : Layout) (name : List ℕ) (t : Table) → TableAt img d L name t → free_count L.free ≡ free
      → ((v : List ℕ) × (find k (entries_of t) ≡ some v)) × CarriedOut img L (remove_plan L name t k) n out
  pub missing : r ≡ None → (L : Layout) (name : List ℕ) (t : Table) → TableAt img d L name t → (find k (entries_of t) ≡ none) × (out ≡ img)
