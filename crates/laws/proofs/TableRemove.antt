-- Remove on a table: the key is dropped from the map, and the table keeps its rules.
use Prim.Native.Nat.{ℕ, suc, ◌-◌, ◌≤◌}
use native.Mathlib.Omega.{arith}
use mathlib.Core.Path.{◌≡◌, ap, sym, ◌∙◌, subst}
use mathlib.Core.List.{List, [], ◌∷◌, ◌++◌}
use mathlib.Core.Option.{some}
use lib.ListN.{length, take, drop}
use Rattle.blockfile.specs.Bytes.{Every}
use Rattle.blockfile.specs.Layout.{Entry, Table, columns, entries_of}
use Rattle.blockfile.specs.Order.{KeyRule, erase}
use Rattle.blockfile.specs.WellFormed.{TableOk}
use Rattle.blockfile.specs.Put.{target, span_at, parts, wanted_by}
use Rattle.blockfile.specs.Remove.{without}
use Rattle.blockfile.proofs.Every.{every-join}
use Rattle.laws.proofs.Orders.{Ordered}
use Rattle.laws.proofs.Middle.{erase-count}
use Rattle.laws.proofs.Places.{every_take, every_drop, entries_in, entries_before, entries_after, entries-append}
use Rattle.laws.proofs.Targets.{Target, target_is, erase-at}
use Rattle.laws.proofs.Columns.{ColumnOk, EntriesOk, entries-ok, erase-ok, first-ok, head_ok, rest_ok, table-ok, span-ok}
use Rattle.laws.proofs.TablePut.{table_with, with_entries, with-ok}

-- the target's entries without the key
abbrev pub left_by : KeyRule → Table → (key : List ℕ) → List Entry
left_by r t k = erase k (span_at t (target r k t)).entries

-- the columns of a table without the span at place i, not the first
pub columns-without : (t : Table) (i : ℕ) → columns (without t (suc i)) ≡ take (suc i) (columns t) ++ drop (suc (suc i)) (columns t)
columns-without t i =
    let e : suc i - 1 ≡ i = omega arith in
    ap (λ (n : ℕ). record { span = t.first; tower = some t.head } ∷ (take n t.rest ++ drop (suc i) t.rest)) e

-- its entries
pub entries-without : (t : Table) (i : ℕ) → entries_of (without t (suc i)) ≡ entries_before t (suc i) ++ entries_after t (suc i)
entries-without t i = ap entries_in (columns-without t i) ∙ entries-append (take (suc i) (columns t)) (drop (suc (suc i)) (columns t))

-- it keeps the rules if its entries do
pub without-ok : (r : KeyRule) (t : Table) → TableOk r t → (i : ℕ) → EntriesOk r (entries_of (without t i)) → TableOk r (without t i)
without-ok r t ok i e =
    let g : Every (ColumnOk t.span_size t.head.height) t.rest = rest_ok r t ok in
    table-ok r (without t i) ok.span_size (first-ok r t ok) (head_ok r t ok)
    (every-join (ColumnOk t.span_size t.head.height) (take (i - 1) t.rest) (drop i t.rest) (every_take (ColumnOk t.span_size t.head.height) (i - 1) t.rest g)
    (every_drop (ColumnOk t.span_size t.head.height) i t.rest g)) e

module _ (r : KeyRule) (o : Ordered r) (t : Table) (ok : TableOk r t) (k : List ℕ) where
  at : Target r k t (target r k t)
  at = target_is r o k t ok

  -- never a split
  pub left-fits : length (left_by r t k) ≤ t.span_size
  left-fits = omega (arith, erase-count k (span_at t (target r k t)).entries, (span-ok r t ok (target r k t) at.place).size)

  left-ok : EntriesOk r (entries_before t (target r k t) ++ (left_by r t k ++ entries_after t (target r k t)))
  left-ok = subst (EntriesOk r) (erase-at r o k t (target r k t) at) (erase-ok r o k (entries_of t) (entries-ok r t ok))

  -- the span rewritten: it is the first, or entries are left
  module _ (ps : List ℕ) (enough : wanted_by (parts t (left_by r t k)) ≤ length ps) where
    -- the table's entries are the map without the key
    pub left-entries : entries_of (table_with t (target r k t) (left_by r t k) ps) ≡ erase k (entries_of t)
    left-entries =
        with_entries r t ok (target r k t) at.place (left_by r t k) (omega (arith, left-fits)) ps enough ∙ sym (erase-at r o k t (target r k t) at)

    -- the table keeps its rules
    pub left-table : (1 ≤ target r k t → 1 ≤ length (left_by r t k)) → TableOk r (table_with t (target r k t) (left_by r t k) ps)
    left-table n = with-ok r t ok (target r k t) at.place (left_by r t k) (omega (arith, left-fits)) ps enough n left-ok

  -- the span gone: it is not the first, and no entry is left
  module _ (i : ℕ) (place : target r k t ≡ suc i) (empty : left_by r t k ≡ []) where
    -- the table's entries are the map without the key
    pub gone-entries : entries_of (without t (suc i)) ≡ erase k (entries_of t)
    gone-entries =
        entries-without t i
        ∙ sym (subst (λ (j : ℕ). erase k (entries_of t) ≡ entries_before t j ++ entries_after t j) place
        (erase-at r o k t (target r k t) at ∙ ap (λ (es : List Entry). entries_before t (target r k t) ++ (es ++ entries_after t (target r k t))) empty))

    -- the table keeps its rules
    pub gone-table : TableOk r (without t (suc i))
    gone-table = without-ok r t ok (suc i) (subst (EntriesOk r) (sym gone-entries) (erase-ok r o k (entries_of t) (entries-ok r t ok)))
