-- Calls and replies; an image's tables as maps; the refusal table, rows 4 to 9, and which calls have row 10; what done calls answer.
use Rattle.std.specs.Prelude.{ℕ, ◌+◌, List, [], ◌∷◌, map, Bool, true, false, not, cond, ◌&&◌, ◌||◌, length, ltb}
use Rattle.std.proofs.Math.Option.{Option, none, some, get_or}
use Rattle.blockfile.specs.declared.Refusal.{Refusal}
use Rattle.blockfile.specs.declared.Refusal.TheVariants.{ImageLength, ScratchLength, NotWellFormed, NameOrKey, ValueLength, NoTable, TableExists, NoKey, BufferShort, NoRoom}
use Rattle.blockfile.specs.Layout.{Keyed, Entry, Layout, entries_of}
use Rattle.blockfile.specs.Order.{name_rule, key_rule, same, find, above, there}

-- ---- Calls and answers

-- a call's kind with its name, key and value, as far as its kind has them
pub data Op : Type 0 where
  check : Op
  get : (name key : List ℕ) → Op
  put : (name key value : List ℕ) → Op
  remove : (name key : List ℕ) → Op
  next : (name key : List ℕ) → Op
  create : (name : List ℕ) → Op

-- the numbers in a result: the refusal's or 0, a length, check's four counts
pub record Reply : Type 0 where
  pub number : ℕ
  pub len : ℕ
  pub pages : ℕ
  pub tables : ℕ
  pub keys : ℕ
  pub free : ℕ

abbrev pub plain : (number len : ℕ) → Reply
plain n k = record { number = n; len = k; pages = 0; tables = 0; keys = 0; free = 0 }

-- a refusal returns its number, and with 9 the length needed, every other number 0
abbrev pub refusal : Refusal → Reply
refusal ImageLength = plain 1 0
refusal ScratchLength = plain 2 0
refusal NotWellFormed = plain 3 0
refusal NameOrKey = plain 4 0
refusal ValueLength = plain 5 0
refusal NoTable = plain 6 0
refusal TableExists = plain 7 0
refusal NoKey = plain 8 0
refusal (BufferShort n) = plain 9 n
refusal NoRoom = plain 10 0

-- ---- Maps

-- P, and table names, each with a finite map from keys to values
pub record Ledger : Type 0 where
  pub pages : ℕ
  pub tables : List (Keyed (List Entry))

-- an image's tables: the names in its metaindex, each with the map of the entries in its spans
unfoldable pub ledger_of : Layout → Ledger
ledger_of L = record { pages = L.pages; tables = map (λ n. record { key = n.key; value = entries_of n.value }) L.tables }

-- the map of a name, empty where there is no such table
abbrev pub map_of : Ledger → List ℕ → List Entry
map_of l name = get_or (find name l.tables) []

abbrev pub keys_in : List (Keyed (List Entry)) → ℕ
keys_in [] = 0
keys_in (n ∷ ns) = length n.value + keys_in ns

-- what get, remove and next look for: the key's value; the smallest key above the one asked
abbrev pub sought : Ledger → Op → Option (List ℕ)
sought l check = none
sought l (get n k) = find k (map_of l n)
sought l (put n k v) = none
sought l (remove n k) = find k (map_of l n)
sought l (next n k) = above (key_rule n) k (map_of l n)
sought l (create n) = none

-- ---- The refusal table, rows 4 to 9; which calls have row 10

abbrev pub bad_name : List ℕ → Bool
bad_name n = not (name_rule.allowed n)

abbrev pub bad_key : (name key : List ℕ) → Bool
bad_key n k = not ((key_rule n).allowed k)

abbrev pub no_table : Ledger → List ℕ → Bool
no_table l n = not (there (find n l.tables))

-- answer buffer shorter than the answer
abbrev pub short : Option (List ℕ) → ℕ → Bool × Refusal
short a room = (ltb room (length (get_or a [])), BufferShort (length (get_or a [])))

-- each row's test with its refusal, lowest number first; room is the answer buffer's length
abbrev pub rows : Ledger → Op → (room : ℕ) → List (Bool × Refusal)
rows l check room = []
rows l (get n k) room =
    (bad_name n || bad_key n k, NameOrKey)
    ∷ (no_table l n, NoTable)
    ∷ (not (there (sought l (get n k))), NoKey)
    ∷ short (sought l (get n k)) room
    ∷ []
rows l (put n k v) room =
    (bad_name n || bad_key n k, NameOrKey)
    ∷ (ltb 65535 (length v), ValueLength)
    ∷ (no_table l n, NoTable)
    ∷ []
rows l (remove n k) room =
    (bad_name n || bad_key n k, NameOrKey)
    ∷ (no_table l n, NoTable)
    ∷ (not (there (sought l (remove n k))), NoKey)
    ∷ []
rows l (next n k) room =
    (bad_name n || (not (same k []) && bad_key n k), NameOrKey)
    ∷ (no_table l n, NoTable)
    ∷ (not (there (sought l (next n k))), NoKey)
    ∷ short (sought l (next n k)) room
    ∷ []
rows l (create n) room =
    (bad_name n, NameOrKey)
    ∷ (not (no_table l n), TableExists)
    ∷ []

abbrev pub lowest : List (Bool × Refusal) → Option Refusal
lowest [] = none
lowest (x ∷ xs) = cond x.0 (some x.1) (lowest xs)

unfoldable pub refused : Ledger → Op → (room : ℕ) → Option Refusal
refused l op room = lowest (rows l op room)

-- row 10 is for put and create; a remove never wants more pages than its span has (laws: `RemoveWants`)
abbrev pub may_lack : Op → Bool
may_lack check = false
may_lack (get n k) = false
may_lack (put n k v) = true
may_lack (remove n k) = false
may_lack (next n k) = false
may_lack (create n) = true

-- ---- Done

-- the bytes that get and next write at the start of the answer buffer
abbrev pub handed : Ledger → Op → List ℕ
handed l check = []
handed l (get n k) = get_or (sought l (get n k)) []
handed l (put n k v) = []
handed l (remove n k) = []
handed l (next n k) = get_or (sought l (next n k)) []
handed l (create n) = []

-- success returns 0; check P, tables, keys and F; get and next also the length
abbrev pub done_reply : Ledger → (F : ℕ) → Op → Reply
done_reply l F check = record { number = 0; len = 0; pages = l.pages; tables = length l.tables; keys = keys_in l.tables; free = F }
done_reply l F (get n k) = plain 0 (length (handed l (get n k)))
done_reply l F (put n k v) = plain 0 0
done_reply l F (remove n k) = plain 0 0
done_reply l F (next n k) = plain 0 (length (handed l (next n k)))
done_reply l F (create n) = plain 0 0
