-- What reading a table of an image needs, and what the functions on tables answer.
use Rattle.std.specs.Prelude.{ℕ, ◌≤◌, ◌≡◌, List, length, Option, Some, None}
use Rattle.std.proofs.Math.Option.{none, some}
use Rattle.blockfile.specs.Bytes.{Every}
use Rattle.blockfile.specs.Layout.{Table, Layout, entries_of}
use Rattle.blockfile.specs.Order.{KeyRule, find, above}
use Rattle.blockfile.specs.WellFormed.{table_pieces, TableOk, WellFormed}
use Rattle.blockfile.specs.Put.{target, span_at}
use Rattle.order.specs.declared.sort.Sort.TheVariants.{Bytes}
use Rattle.search.specs.declared.span.Extent.{Extent}
use Rattle.search.specs.declared.table.TableRef.{TableRef}
use Rattle.search.specs.Spans.{Sorts, Borne, Answered}

-- a table that keeps its rules, on pages of the image that bear it
pub record Readable (img : List ℕ) (r : KeyRule) (t : Table) : Type 0 where
  pub small : length img ≤ 4194304
  pub borne : Every (Borne img) (table_pieces t)
  pub ok : TableOk r t
  pub order : Sorts r

-- the table whose skip-list page this is
pub record Reading (img : List ℕ) (page : ℕ) : Type 0 where
  pub rule : KeyRule
  pub table : Table
  pub readable : Readable img rule table
  pub root : table.root ≡ page

-- the table that is meant: its keys sort so
pub record ReadingBy (img : List ℕ) (t : TableRef) : Type 0 where
  pub of : Reading img t.root
  pub by : of.readable.order.sort ≡ t.sort

-- the metaindex: its keys, the names of the tables, sort by bytes
abbrev pub metaindex : TableRef
metaindex = record { root = 2; sort = Bytes }

-- ---- Answers, for every table that has the skip-list page and sorts so

-- the page of the target span
pub record TargetIn (img : List ℕ) (t : TableRef) (k : List ℕ) (r : ℕ) : Type 0 where
  pub is : (x : ReadingBy img t) → r ≡ (span_at x.of.table (target x.of.rule k x.of.table)).page

-- the value under the key
pub record FoundIn (img : List ℕ) (t : TableRef) (k : List ℕ) (r : Option Extent) : Type 0 where
  pub is : (x : ReadingBy img t) → Answered img (find k (entries_of x.of.table)) r

-- the smallest key above the one asked; the smallest of all for the empty one
pub record AboveIn (img : List ℕ) (t : TableRef) (k : List ℕ) (r : Option Extent) : Type 0 where
  pub is : (x : ReadingBy img t) → Answered img (above x.of.rule k (entries_of x.of.table)) r

-- the skip-list page of the table of this name
pub record NamedIn (L : Layout) (name : List ℕ) (r : Option ℕ) : Type 0 where
  pub root : (page : ℕ) → r ≡ Some page → (t : Table) × (find name L.tables ≡ some t) × (t.root ≡ page)
  pub unknown : r ≡ None → find name L.tables ≡ none

pub record NamedAs (img name : List ℕ) (r : Option ℕ) : Type 0 where
  pub is : (L : Layout) → WellFormed img L → NamedIn L name r
