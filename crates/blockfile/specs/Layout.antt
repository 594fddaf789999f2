-- The layout: what an image says, as data.
use Rattle.std.specs.Prelude.{ℕ, ◌+◌, ◌*◌, ◌/◌, ◌%◌, List, [], ◌∷◌, map, cond, length, ltb}
use Rattle.std.proofs.Math.Option.{Option, none, some}
use Rattle.blockfile.specs.Bytes.{gather}

-- a value under its key
pub record Keyed (A : Type 0) : Type 0 where
  pub key : List ℕ
  pub value : A

abbrev pub Entry : Type 0
Entry = Keyed (List ℕ)

-- a span: its page, its continuation pages in chain order, its entries
pub record Span : Type 0 where
  pub page : ℕ
  pub conts : List ℕ
  pub entries : List Entry

-- a tower: its page, max height and current height; its span and its entries follow from its place in the table
pub record Tower : Type 0 where
  pub page : ℕ
  pub max_height : ℕ
  pub height : ℕ

-- a span with its tower, if it has one
pub record Column : Type 0 where
  pub span : Span
  pub tower : Option Tower

-- a table: its skip-list page and span size; the first span, and the head, which is its tower; the other spans with their towers
pub record Table : Type 0 where
  pub root : ℕ
  pub span_size : ℕ
  pub first : Span
  pub head : Tower
  pub rest : List Column

-- a free-list block and the pages it lists
pub record Block : Type 0 where
  pub page : ℕ
  pub listed : List ℕ

-- P, the superblock's span size, the metaindex, the tables under their names, and the free list
pub record Layout : Type 0 where
  pub pages : ℕ
  pub span_size : ℕ
  pub meta : Table
  pub tables : List (Keyed Table)
  pub free : List Block

-- all columns of a table; a place in a table is an index into them, the first span's being 0
abbrev pub columns : Table → List Column
columns t = record { span = t.first; tower = some t.head } ∷ t.rest

abbrev pub spans_of : List Column → List Span
spans_of cs = map (λ c. c.span) cs

abbrev pub tower_in : Option Tower → List Tower
tower_in none = []
tower_in (some t) = t ∷ []

abbrev pub towers_of : List Column → List Tower
towers_of cs = gather (λ c. tower_in c.tower) cs

abbrev pub entries_of : Table → List Entry
entries_of t = gather (λ s. s.entries) (spans_of (columns t))

-- F: listed pages and free-list blocks
unfoldable pub free_count : List Block → ℕ
free_count [] = 0
free_count (b ∷ bs) = 1 + length b.listed + free_count bs

-- ---- Entry layout. A span's bytes are one stream: its page from offset 8 on, then each continuation page from offset 8 on.

-- the page of the stream, counted from 0, and the offset there that position v stands for
abbrev pub page_of : (v : ℕ) → ℕ
page_of v = v / 1016

abbrev pub offset_of : (v : ℕ) → ℕ
offset_of v = 8 + v % 1016

-- entries from offset 20 of the span's page, which is position 12
abbrev pub entries_from : ℕ
entries_from = 12

-- where the four length bytes of an entry lie if the one before it ends at position v: they lie on one page, so with 1 to 3
-- bytes left they move to offset 8 of the next page; with none left v is that place
unfoldable pub lens_start : ℕ → ℕ
lens_start v = cond (ltb 1012 (v % 1016)) ((v / 1016 + 1) * 1016) v

-- where an entry ends: key length (2), value length (2), key, value
unfoldable pub entry_end : ℕ → Entry → ℕ
entry_end v e = lens_start v + 4 + length e.key + length e.value

abbrev pub entries_end : ℕ → List Entry → ℕ
entries_end v [] = v
entries_end v (e ∷ es) = entries_end (entry_end v e) es

-- the pages that a span's entries reach, the span's own counted
unfoldable pub reached : List Entry → ℕ
reached es = (entries_end entries_from es + 1015) / 1016
