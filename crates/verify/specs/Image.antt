-- The verdict on an image.
use Rattle.std.specs.Prelude.{Option, Some, ◌≡◌, List, ℕ, length}
use Rattle.blockfile.specs.declared.Counts.{Counts}
use Rattle.blockfile.specs.Layout.{Layout, free_count}
use Rattle.blockfile.specs.WellFormed.{WellFormed}
use Rattle.verify.specs.Tables.{keys_of}

-- what check counts: P, tables, keys and F
abbrev pub counts_of : Layout → Counts
counts_of L = record { pages = L.pages; tables = length L.tables; keys = keys_of L.tables; free = free_count L.free }

-- an answer exactly if some layout fits, and the counts are that layout's
pub record Judged (img : List ℕ) (r : Option Counts) : Type 0 where
  pub sound : (c : Counts) → r ≡ Some c → (L : Layout) × WellFormed img L × (c ≡ counts_of L)
  pub complete : (L : Layout) → WellFormed img L → r ≡ Some (counts_of L)
