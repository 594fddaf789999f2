-- What put asks for, and what it leaves.
use Rattle.std.specs.Prelude.{ℕ, ◌≤◌, ◌≡◌, true, false, List, length, T, Option, Some, None}
use Rattle.std.proofs.Math.Option.{some}
use Rattle.blockfile.specs.Bytes.{apply}
use Rattle.blockfile.specs.Layout.{Table, Layout, free_count}
use Rattle.blockfile.specs.Order.{key_rule, find}
use Rattle.blockfile.specs.WellFormed.{WellFormed}
use Rattle.blockfile.specs.Plan.{Plan, drawn_by, lacks, changes_of}
use Rattle.blockfile.specs.Put.{put_plan}
use Rattle.order.specs.Sorts.{table_sort}
use Rattle.search.specs.declared.table.TableRef.{TableRef}

-- the plan is carried out, all but the count of free pages, and n pages are free after it
pub record CarriedOut (img : List ℕ) (L : Layout) (p : Plan) (n : ℕ) (out : List ℕ) : Type 0 where
  pub image : out ≡ apply (changes_of L p) img
  pub left : n ≡ free_count (drawn_by L p).free

-- the image has this layout, and the table of this name is the one that is meant
pub record TableAt (img : List ℕ) (d : TableRef) (L : Layout) (name : List ℕ) (t : Table) : Type 0 where
  pub well : WellFormed img L
  pub found : find name L.tables ≡ some t
  pub at : t.root ≡ d.root
  pub sorts : d.sort ≡ table_sort name

pub record PutReady (img scratch : List ℕ) (d : TableRef) (free : ℕ) (k v : List ℕ) : Type 0 where
  pub layout : Layout
  pub name : List ℕ
  pub table : Table
  pub is : TableAt img d layout name table
  pub pages : free_count layout.free ≡ free
  pub allowed : T ((key_rule name).allowed k)
  pub short : length v ≤ 65535
  pub lent : length scratch ≡ length img

-- with room the text's plan is carried out, else the image is as it was
pub record PutDone (img : List ℕ) (d : TableRef) (free : ℕ) (k v : List ℕ) (r : Option ℕ) (out : List ℕ) : Type 0 where
  pub done : (n : ℕ) → r ≡ Some n → (L : Layout) (name : List ℕ) (t : Table) → TableAt img d L name t → free_count L.free ≡ free
      → (lacks L (put_plan L name t k v) ≡ false) × CarriedOut img L (put_plan L name t k v) n out
  pub refused : r ≡ None → (L : Layout) (name : List ℕ) (t : Table) → TableAt img d L name t → free_count L.free ≡ free
      → (lacks L (put_plan L name t k v) ≡ true) × (out ≡ img)
