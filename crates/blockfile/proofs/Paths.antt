-- The search by towers tried on small tables: the tower passed at each level, and the span found.
use Prim.Native.Nat.{ℕ}
use mathlib.Core.Path.{◌≡◌, refl}
use mathlib.Core.List.{List, [], ◌∷◌, map}
use Rattle.blockfile.specs.Layout.{Span, Column, Table}
use Rattle.blockfile.specs.Order.{bytes_rule, numbers_rule}
use Rattle.blockfile.specs.Put.{begins}
use Rattle.blockfile.specs.Path.{path, passed, begins_below, by_towers}
use Rattle.blockfile.proofs.Samples.{span_of, tower_of, bare, towered, table_of, small}

-- a span on this page with one entry, whose key has one byte
abbrev one : (page key : ℕ) → Span
one p k = span_of p [] (small k 0 ∷ [])

-- spans that begin with 0x10 to 0x60: towers of heights 1, 3 and 2, and spans without one among them; the head is higher than any
abbrev rest : List Column
rest =
    bare (one 11 0x20) ∷ towered (one 12 0x30) (tower_of 22 4 1) ∷ towered (one 13 0x40) (tower_of 23 4 3) ∷ bare (one 14 0x50)
    ∷ towered (one 15 0x60) (tower_of 25 4 2) ∷ []

abbrev high : Table
high = table_of 5 2 (one 10 0x10) (tower_of 6 5 4) rest

-- the same behind an empty first span
abbrev opened : Table
opened = table_of 5 2 (span_of 10 [] []) (tower_of 6 5 4) rest

-- no levels
abbrev flat : Table
flat = table_of 5 2 (one 10 0x10) (tower_of 6 5 0) (bare (one 11 0x20) ∷ bare (one 12 0x30) ∷ [])

abbrev keyed : ℕ → List ℕ
keyed k = k ∷ []

-- at the key or below it
ways : map (λ k. path (begins bytes_rule (keyed k)) high) (0x05 ∷ 0x20 ∷ 0x30 ∷ 0x45 ∷ 0x60 ∷ 0xff ∷ [])
    ≡ (6 ∷ 6 ∷ 6 ∷ 6 ∷ []) ∷ (6 ∷ 6 ∷ 6 ∷ 6 ∷ []) ∷ (22 ∷ 6 ∷ 6 ∷ 6 ∷ []) ∷ (23 ∷ 23 ∷ 23 ∷ 6 ∷ []) ∷ (25 ∷ 25 ∷ 23 ∷ 6 ∷ []) ∷ (25 ∷ 25 ∷ 23 ∷ 6 ∷ []) ∷ []
unfolding path passed
ways = refl

-- strictly below it
strict : map (λ k. path (begins_below bytes_rule (keyed k)) high) (0x30 ∷ 0x40 ∷ 0x60 ∷ 0x61 ∷ [])
    ≡ (6 ∷ 6 ∷ 6 ∷ 6 ∷ []) ∷ (22 ∷ 6 ∷ 6 ∷ 6 ∷ []) ∷ (23 ∷ 23 ∷ 23 ∷ 6 ∷ []) ∷ (25 ∷ 25 ∷ 23 ∷ 6 ∷ []) ∷ []
unfolding path passed
strict = refl

-- an empty first span counts as below every key; a head without levels has no path
first-empty : path (begins bytes_rule (keyed 0x05)) opened ≡ 6 ∷ 6 ∷ 6 ∷ 6 ∷ []
unfolding path passed
first-empty = refl

no-levels : path (begins bytes_rule (keyed 0x20)) flat ≡ []
unfolding path passed
no-levels = refl

-- the walk goes on from the last tower, from the first span where there is none, and ends at the target
found : map (λ k. by_towers bytes_rule (keyed k) high) (0x05 ∷ 0x10 ∷ 0x2f ∷ 0x30 ∷ 0x55 ∷ 0x60 ∷ 0xff ∷ []) ≡ 0 ∷ 0 ∷ 1 ∷ 2 ∷ 4 ∷ 5 ∷ 5 ∷ []
unfolding by_towers
found = refl

found-opened : map (λ k. by_towers bytes_rule (keyed k) opened) (0x05 ∷ 0x20 ∷ 0x45 ∷ []) ≡ 0 ∷ 1 ∷ 3 ∷ []
unfolding by_towers
found-opened = refl

found-flat : map (λ k. by_towers bytes_rule (keyed k) flat) (0x10 ∷ 0x20 ∷ 0x31 ∷ []) ≡ 0 ∷ 1 ∷ 2 ∷ []
unfolding by_towers
found-flat = refl

-- by numbers, a key with the sign bit comes first
abbrev offset : (page first : ℕ) → Span
offset p b = span_of p [] (record { key = b ∷ 0 ∷ 0 ∷ 0 ∷ []; value = [] } ∷ [])

abbrev offsets : Table
offsets = table_of 5 2 (offset 10 0x80) (tower_of 6 5 1) (towered (offset 11 0xff) (tower_of 21 5 1) ∷ towered (offset 12 0x00) (tower_of 22 5 1) ∷ bare (offset 13 0x7f) ∷ [])

by-numbers : map (λ b. path (begins numbers_rule (b ∷ 0 ∷ 0 ∷ 0 ∷ [])) offsets) (0x81 ∷ 0xff ∷ 0x01 ∷ 0x7f ∷ []) ≡ (6 ∷ []) ∷ (21 ∷ []) ∷ (22 ∷ []) ∷ (22 ∷ []) ∷ []
unfolding path passed
by-numbers = refl

found-numbers : map (λ b. by_towers numbers_rule (b ∷ 0 ∷ 0 ∷ 0 ∷ []) offsets) (0x81 ∷ 0xff ∷ 0x01 ∷ 0x7f ∷ []) ≡ 0 ∷ 1 ∷ 2 ∷ 3 ∷ []
unfolding by_towers
found-numbers = refl
