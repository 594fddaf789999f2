-- Claims on one image: its tables are finite maps, and its towers are chained as document 01 says.
use Rattle.std.specs.Prelude.{ℕ, ◌+◌, ◌*◌, ◌<◌, ◌≡◌, false, List, ◌∷◌, map, T}
use Rattle.std.proofs.Math.Option.{none, some}
use Rattle.blockfile.specs.Bytes.{pg, be32, Every}
use Rattle.blockfile.specs.Layout.{Keyed, Entry, Table, Layout, towers_of}
use Rattle.blockfile.specs.Order.{KeyRule, name_rule, key_rule, same, Rising, find, insert, erase, above, there}
use Rattle.blockfile.specs.WellFormed.{WellFormed}
use Rattle.blockfile.specs.Refusals.{Ledger, ledger_of}
use Rattle.laws.specs.Maps.{asks}
use Rattle.laws.specs.Chains.{Follows, higher}

-- ---- Finite maps

-- j is a key of the map that is above k, or any key for the empty k; and no such key is below j
pub record SmallestAbove {A : Type 0} (r : KeyRule) (k j : List ℕ) (m : List (Keyed A)) : Type 0 where
  pub present : T (there (find j m))
  pub asked : T (asks r k j)
  pub least : Every (λ y. T (asks r k y.key) → T (r.below y.key j) → ⊥) m

-- `find`, `insert`, `erase` and `above` are looking up, giving a key its value, dropping a key, and the next key, on lists with rising keys
pub record FiniteMaps (A : Type 0) (r : KeyRule) : Type 0 where
  pub given : (k : List ℕ) (v : A) (m : List (Keyed A)) → find k (insert r k v m) ≡ some v
  pub given_others : (k : List ℕ) (v : A) (m : List (Keyed A)) (j : List ℕ) → same j k ≡ false → find j (insert r k v m) ≡ find j m
  pub given_rises : (k : List ℕ) (v : A) (m : List (Keyed A)) → Rising r m → Rising r (insert r k v m)
  pub dropped : (k : List ℕ) (m : List (Keyed A)) → Rising r m → find k (erase k m) ≡ none
  pub dropped_others : (k : List ℕ) (m : List (Keyed A)) (j : List ℕ) → same j k ≡ false → find j (erase k m) ≡ find j m
  pub dropped_rises : (k : List ℕ) (m : List (Keyed A)) → Rising r m → Rising r (erase k m)
  pub next_key : (k j : List ℕ) (m : List (Keyed A)) → Rising r m → above r k m ≡ some j → SmallestAbove r k j m
  pub no_next : (k : List ℕ) (m : List (Keyed A)) → above r k m ≡ none → Every (λ y. T (asks r k y.key) → ⊥) m

-- the tables under their names, and the entries under their keys
unfoldable pub TablesAreMaps : Type 0
TablesAreMaps = FiniteMaps (List Entry) name_rule × ((name : List ℕ) → FiniteMaps (List ℕ) (key_rule name))

-- names and keys rise in the ledger of every well-formed image, so in that of every image of a run
pub record RisingTables (l : Ledger) : Type 0 where
  pub names : Rising name_rule l.tables
  pub keys : Every (λ n. Rising (key_rule n.key) n.value) l.tables

unfoldable pub TablesRise : Type 0
TablesRise = (img : List ℕ) (L : Layout) → WellFormed img L → RisingTables (ledger_of L)

-- ---- Chains

-- at each level i below the head's current, the chain from the head along entry i in the bytes visits exactly the other towers with
-- current above i, in span order, and ends in 0
abbrev pub Chained : (img : List ℕ) → Table → Type 0
Chained img t = (i : ℕ) → i < t.head.height → Follows (pg img) i (be32 (pg img t.head.page) (16 + 4 * i)) (higher i (towers_of t.rest))

-- in the metaindex and in every table
unfoldable pub TowersChained : Type 0
TowersChained = (img : List ℕ) (L : Layout) → WellFormed img L → Every (Chained img) (L.meta ∷ map (λ n. n.value) L.tables)
