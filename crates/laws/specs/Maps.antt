-- What next asks for in a finite map.
use Rattle.std.specs.Prelude.{ℕ, Bool, ◌||◌, List, []}
use Rattle.blockfile.specs.Order.{KeyRule, same}

-- k is the empty key, or j is above it
abbrev pub asks : KeyRule → (k j : List ℕ) → Bool
asks r k j = same k [] || r.below k j
