-- Keys and names: which are allowed, and their order; finite maps as lists with rising keys.
use Rattle.std.specs.Prelude.{ℕ, ◌≤◌, List, [], ◌∷◌, Bool, true, false, cond, ◌&&◌, ◌||◌, length, T, leb, ltb, eqb}
use Rattle.std.proofs.Math.Option.{Option, none, some}
use Rattle.blockfile.specs.Bytes.{Every}
use Rattle.blockfile.specs.Layout.{Keyed}

-- lo to hi, both included: as a statement and as a test
abbrev pub Within : (lo hi n : ℕ) → Type 0
Within lo hi n = (lo ≤ n) × (n ≤ hi)

abbrev pub within : (lo hi n : ℕ) → Bool
within lo hi n = leb lo n && leb n hi

abbrev pub all_within : (lo hi : ℕ) → List ℕ → Bool
all_within lo hi [] = true
all_within lo hi (b ∷ bs) = within lo hi b && all_within lo hi bs

-- sorted by unsigned bytes, a proper prefix first
abbrev pub bytes_below : List ℕ → List ℕ → Bool
bytes_below [] [] = false
bytes_below [] (y ∷ ys) = true
bytes_below (x ∷ xs) [] = false
bytes_below (x ∷ xs) (y ∷ ys) = ltb x y || (eqb x y && bytes_below xs ys)

-- sorted as two's complement numbers from the least up: the negative ones, whose first bit is set, come first, and of two with the same
-- sign the one that is first by bytes (order: `SortAsNumbers`); no byte at all is below every number
abbrev pub sign : List ℕ → ℕ
sign [] = 0
sign (x ∷ xs) = cond (ltb x 0x80) 2 1

abbrev pub numbers_below : List ℕ → List ℕ → Bool
numbers_below k l = bytes_below (sign k ∷ k) (sign l ∷ l)

abbrev pub same : List ℕ → List ℕ → Bool
same [] [] = true
same [] (y ∷ ys) = false
same (x ∷ xs) [] = false
same (x ∷ xs) (y ∷ ys) = eqb x y && same xs ys

-- the keys that a table may hold, and which of two comes first
pub record KeyRule : Type 0 where
  pub allowed : List ℕ → Bool
  pub below : List ℕ → List ℕ → Bool

-- table names, the metaindex's keys: 1 to 255 bytes of 21 to 7e hex
unfoldable pub name_rule : KeyRule
name_rule = record { allowed = λ n. within 1 255 (length n) && all_within 0x21 0x7e n; below = bytes_below }

-- most tables: keys of 1 to 65,535 bytes, sorted by unsigned bytes
abbrev pub bytes_rule : KeyRule
bytes_rule = record { allowed = λ k. within 1 65535 (length k); below = bytes_below }

-- offset tables: keys of exactly four bytes, sorted as numbers
abbrev pub numbers_rule : KeyRule
numbers_rule = record { allowed = λ k. eqb (length k) 4; below = numbers_below }

-- offset tables are those whose names begin with "#", 23 hex
abbrev pub is_offsets : (name : List ℕ) → Bool
is_offsets [] = false
is_offsets (x ∷ xs) = eqb x 0x23

-- the keys of the table of this name
unfoldable pub key_rule : (name : List ℕ) → KeyRule
key_rule name = cond (is_offsets name) numbers_rule bytes_rule

-- ---- Finite maps: lists with rising keys

module _ {A : Type 0} where
  -- keys increase strictly: each is below all that follow
  abbrev pub Rising : KeyRule → List (Keyed A) → Type 0
  Rising r [] = Unit {0}
  Rising r (x ∷ xs) = Every (λ y. T (r.below x.key y.key)) xs × Rising r xs

  abbrev pub find : List ℕ → List (Keyed A) → Option A
  find k [] = none
  find k (x ∷ xs) = cond (same k x.key) (some x.value) (find k xs)

  -- the key gets this value
  abbrev pub insert : KeyRule → List ℕ → A → List (Keyed A) → List (Keyed A)
  insert r k v [] = record { key = k; value = v } ∷ []
  insert r k v (x ∷ xs) =
      cond (same k x.key) (record { key = k; value = v } ∷ xs)
      (cond (r.below k x.key) (record { key = k; value = v } ∷ x ∷ xs) (x ∷ insert r k v xs))

  -- the key is dropped
  abbrev pub erase : List ℕ → List (Keyed A) → List (Keyed A)
  erase k [] = []
  erase k (x ∷ xs) = cond (same k x.key) xs (x ∷ erase k xs)

  -- the smallest key above k; of all, for the empty key
  abbrev pub above : KeyRule → List ℕ → List (Keyed A) → Option (List ℕ)
  above r k [] = none
  above r k (x ∷ xs) = cond (same k [] || r.below k x.key) (some x.key) (above r k xs)

  abbrev pub there : Option A → Bool
  there none = false
  there (some a) = true
