-- The tables, as their walks find them.
use Rattle.std.specs.Prelude.{ℕ, ◌+◌, ◌≤◌, ◌≡◌, Bool, ◌&&◌, List, [], ◌∷◌, ◌++◌, map, length, T, eqb}
use Rattle.blockfile.specs.Bytes.{pg, be16, be32, word32, Every, gather}
use Rattle.blockfile.specs.Layout.{Keyed, Entry, Table, columns, towers_of, entries_of}
use Rattle.blockfile.specs.Order.{name_rule, bytes_rule, key_rule}
use Rattle.blockfile.specs.WellFormed.{span, tower, spans_in, towers_in, TableOk, table_pieces}
use Rattle.walks.specs.Found.{Found}
use Rattle.order.specs.declared.sort.Sort.{Sort}
use Rattle.order.specs.Sorts.{rule_as}
use Rattle.entries.specs.declared.place.Place.{Place}
use Rattle.entries.specs.Places.{IsPage}
use Rattle.entries.specs.Keys.{KeyAt}
use Rattle.search.specs.Spans.{Borne, Along}
use Rattle.verify.specs.declared.table.Tally.{Tally}

-- the table on the skip-list page `root`, whose keys sort so, with m keys
pub record TableFound (sort : Sort) (img scr : List ℕ) (root m : ℕ) (out : List ℕ) : Type 0 where
  pub table : Table
  pub named : table.root ≡ root
  pub ok : TableOk (rule_as sort) table
  pub found : Found img scr (table_pieces table) out
  pub keys : m ≡ length (entries_of table)

-- a table's entry in the metaindex: its name, and its skip-list page in four bytes
abbrev pub listing : Keyed Table → Entry
listing n = record { key = n.key; value = word32 n.value.root }

abbrev pub keys_of : List (Keyed Table) → ℕ
keys_of [] = 0
keys_of (n ∷ ns) = length (entries_of n.value) + keys_of ns

-- the tables that the entries of the metaindex name; with n keys before, they have m in all
pub record TablesFound (img scr : List ℕ) (es : List Entry) (n m : ℕ) (out : List ℕ) : Type 0 where
  pub names : Every (λ e. T (name_rule.allowed e.key)) es
  pub tables : List (Keyed Table)
  pub named : es ≡ map listing tables
  pub ok : Every (λ x. TableOk (key_rule x.key) x.value) tables
  pub found : Found img scr (gather (λ x. table_pieces x.value) tables) out
  pub keys : m ≡ n + keys_of tables

-- the spans and towers of the table on the skip-list page `root`, whose keys sort so and whose span size is z
pub record ColumnsFound (sort : Sort) (img scr : List ℕ) (root z : ℕ) (a : Tally) (out : List ℕ) : Type 0 where
  pub table : Table
  pub named : table.root ≡ root
  pub size : table.span_size ≡ z
  pub first : be32 (pg img root) 8 ≡ table.first.page
  pub level : be32 (pg img root) 12 ≡ table.head.page
  pub ok : TableOk (rule_as sort) table
  pub found : Found img scr (map span (spans_in table) ++ map tower (towers_in table)) out
  pub keys_are : a.keys ≡ length (entries_of table)
  pub spans_are : a.spans ≡ length (columns table)
  pub levels_are : a.levels ≡ length (towers_of (columns table))

-- the skip-list page b has these counts
pub record CountsAre (b : List ℕ) (a : Tally) : Type 0 where
  pub size_is : be32 b 16 ≡ a.keys
  pub spans_is : be32 b 20 ≡ a.spans
  pub levels_is : be32 b 24 ≡ a.levels

-- a key may stand in the metaindex, with a value of v bytes: it is a name, and its table's page has four bytes
abbrev pub is_name : (k : List ℕ) (v : ℕ) → Bool
is_name k v = eqb v 4 && name_rule.allowed k

-- whether a key of n bytes, with a value of v bytes, may
pub record NameAt (img : List ℕ) (at : Place) (n v : ℕ) (r : Bool) : Type 0 where
  pub is : (k : List ℕ) → KeyAt img at n k → r ≡ is_name k v

-- es are the entries of the metaindex's span on the page, from place to place; their keys are not empty
pub record NamesOn (img : List ℕ) (page : ℕ) (es : List Entry) : Type 0 where
  pub small : length img ≤ 4194304
  pub inside : IsPage img page
  pub count : be16 (pg img page) 18 ≡ length es
  pub along : Along img (record { page = page; offset = 20 }) es
  pub some : Every (λ e. 1 ≤ length e.key) es

-- the metaindex, on pages of the image that bear it; whether its keys are names is not known yet
pub record MetaOn (img : List ℕ) (meta : Table) : Type 0 where
  pub small : length img ≤ 4194304
  pub page : meta.root ≡ 2
  pub ok : TableOk bytes_rule meta
  pub borne : Every (Borne img) (table_pieces meta)
