-- The metaindex and every named table of a well-formed image can be read.
use Prim.Native.Nat.{ℕ, ◌≤◌}
use native.Mathlib.Omega.{arith}
use mathlib.Core.Path.{◌≡◌, refl, sym, ◌∙◌}
use mathlib.Core.List.{List, [], ◌∷◌, ◌++◌}
use mathlib.Core.Option.{some}
use lib.ListN.{length}
use Rattle.blockfile.specs.Bytes.{pg, Every, gather}
use Rattle.blockfile.specs.Layout.{Keyed, Table, Layout}
use Rattle.blockfile.specs.Order.{Within, name_rule, key_rule, find}
use Rattle.blockfile.specs.WellFormed.{Piece, pages_of, Bears, table_pieces, free_pieces, pieces, TableOk, WellFormed}
use Rattle.blockfile.proofs.Every.{every-left, every-right}
use Rattle.blockfile.proofs.Count.{every-counted}
use Rattle.blockfile.proofs.Owned.{owned_by, owned-within}
use Rattle.laws.proofs.Middle.{every-found}
use Rattle.order.specs.declared.sort.Sort.TheVariants.{Bytes}
use Rattle.order.specs.Sorts.{table_sort}
use Rattle.entries.specs.Places.{IsPage}
use Rattle.search.specs.declared.table.TableRef.{TableRef}
use Rattle.search.specs.Spans.{Borne}
use Rattle.search.specs.Tables.{Readable, Reading, ReadingBy, metaindex}
use Rattle.search.proofs.Rules.{names_sort, keys_sort}

-- what holds of all that is gathered holds of what each element gives
every-gathered : {A B : Type 0} (R : B → Type 0) (f : A → List B) (xs : List A) → Every R (gather f xs) → Every (λ x. Every R (f x)) xs
every-gathered R f [] h = tt
every-gathered R f (x ∷ xs) h = (every-left R (f x) (gather f xs) h, every-gathered R f xs (every-right R (f x) (gather f xs) h))

every-both : {A : Type 0} (R S : A → Type 0) (xs : List A) → Every R xs → Every S xs → Every (λ x. R x × S x) xs
every-both R S [] h k = tt
every-both R S (x ∷ xs) h k = ((h.0, k.0), every-both R S xs h.1 k.1)

module _ (img : List ℕ) (L : Layout) (w : WellFormed img L) where
  small : length img ≤ 4194304
  small = omega (arith, w.size, w.pages.1)

  is-page : (n : ℕ) → Within 1 L.pages n → IsPage img n
  is-page n h = record { low = h.0; high = omega (arith, w.size, h.1) }

  all-borne : Every (Borne img) (pieces L)
  all-borne =
      every-both (Bears (pg img)) (λ p. Every (IsPage img) (pages_of p)) (pieces L) w.bears
      (every-gathered (IsPage img) pages_of (pieces L) (every-counted (IsPage img) (owned_by (pieces L)) (λ n h. is-page n (owned-within img L w n h))))

  -- the pieces of the named tables and of the free list
  abbrev others : List Piece
  others = gather (λ n. table_pieces n.value) L.tables ++ free_pieces L.free

  pub meta-readable : Readable img name_rule L.meta
  meta-readable =
      record { small = small; borne = every-left (Borne img) (table_pieces L.meta) others all-borne.1; ok = w.meta_ok; order = names_sort }

  all-readable : Every (λ n. Every (Borne img) (table_pieces n.value) × TableOk (key_rule n.key) n.value) L.tables
  all-readable =
      every-both (λ (n : Keyed Table). Every (Borne img) (table_pieces n.value)) (λ n. TableOk (key_rule n.key) n.value) L.tables
      (every-gathered (Borne img) (λ (n : Keyed Table). table_pieces n.value) L.tables
      (every-left (Borne img) (gather (λ n. table_pieces n.value) L.tables) (free_pieces L.free) (every-right (Borne img) (table_pieces L.meta) others all-borne.1)))
      w.tables_ok

  pub table-readable : (name : List ℕ) (t : Table) → find name L.tables ≡ some t → Readable img (key_rule name) t
  table-readable name t e =
      let h = every-found (λ (n : Keyed Table). Every (Borne img) (table_pieces n.value) × TableOk (key_rule n.key) n.value) name t L.tables all-readable e in
      record { small = small; borne = h.0; ok = h.1; order = keys_sort name }

  -- as the functions on tables ask for it
  abbrev pub meta_reading : Reading img 2
  meta_reading = record { rule = name_rule; table = L.meta; readable = meta-readable; root = w.meta_page }

  abbrev pub table_reading : (name : List ℕ) (t : Table) → find name L.tables ≡ some t → (page : ℕ) → t.root ≡ page → Reading img page
  table_reading name t e page h = record { rule = key_rule name; table = t; readable = table-readable name t e; root = h }

  -- the names sort by bytes, and keys as the table's name says
  pub meta-sort : meta-readable.order.sort ≡ Bytes
  unfolding meta-readable
  meta-sort = refl

  pub table-sort : (name : List ℕ) (t : Table) (e : find name L.tables ≡ some t) → (table-readable name t e).order.sort ≡ table_sort name
  unfolding table-readable
  table-sort name t e = refl

  abbrev pub meta_by : ReadingBy img metaindex
  meta_by = record { of = meta_reading; by = meta-sort }

  abbrev pub table_by : (name : List ℕ) (t : Table) → find name L.tables ≡ some t → (d : TableRef) → t.root ≡ d.root → d.sort ≡ table_sort name → ReadingBy img d
  table_by name t e d h q = record { of = table_reading name t e d.root h; by = table-sort name t e ∙ sym q }
