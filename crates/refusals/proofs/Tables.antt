-- Finding the table of a call: one law for each way out.
use Prim.Native.Nat.{ℕ}
use mathlib.Core.Path.{◌≡◌, refl, sym, ap, ◌∙◌, subst}
use mathlib.Core.List.{List, []}
use mathlib.Core.Option.{Option as TextOption, none, some, map, get_or}
use mathlib.Core.Bool.{Bool, true, false, not, ◌||◌}
use lib.ListN.{length}
use Rattle.std.specs.Prelude.{Option, Some, None, Result, Ok, Err, ok_or}
use Rattle.blockfile.specs.declared.Counts.{Counts}
use Rattle.blockfile.specs.declared.Refusal.{Refusal}
use Rattle.blockfile.specs.declared.Refusal.TheVariants.{NameOrKey, ValueLength, NoTable}
use Rattle.blockfile.specs.Layout.{Entry, Table, Layout, entries_of}
use Rattle.blockfile.specs.Order.{name_rule, find, there}
use Rattle.blockfile.specs.Refusals.{Op, ledger_of, refusal, map_of, no_table, lowest, refused}
use Rattle.blockfile.specs.Answers.{refuse, outcome_if, outcome_on}
use Rattle.blockfile.specs.Calls.{cleared, accepted, Keeps}
use Rattle.laws.proofs.Middle.{find-under}
use Rattle.search.specs.Tables.{NamedAs}
use Rattle.refusals.specs.Open.{Opening, Opens}
use Rattle.refusals.specs.Table.{table_rows, OnTable, NamedTable, Entering, Enters}
use Rattle.refusals.proofs.Opens.{ends}
use Rattle.refusals.proofs.Rows.{lowest-first, lowest-later}

-- ---- The table in the ledger

module _ (L : Layout) (name : List ℕ) where
  map_found : find name (ledger_of L).tables ≡ map entries_of (find name L.tables)
  unfolding ledger_of
  map_found = find-under entries_of name L.tables

  pub no_table_lem : find name L.tables ≡ none → no_table (ledger_of L) name ≡ true
  no_table_lem e = ap (λ (o : TextOption (List Entry)). not (there o)) (map_found ∙ ap (map entries_of) e)

  module _ (t : Table) (e : find name L.tables ≡ some t) where
    pub has-table : no_table (ledger_of L) name ≡ false
    has-table = ap (λ (o : TextOption (List Entry)). not (there o)) (map_found ∙ ap (map entries_of) e)

    pub its_map : map_of (ledger_of L) name ≡ entries_of t
    its_map = ap (λ (o : TextOption (List Entry)). get_or o []) (map_found ∙ ap (map entries_of) e)

-- ---- The ways through `named_table`

or-true : (a : Bool) → (a || true) ≡ true
or-true true = refl
or-true false = refl

module _ (img name : List ℕ) (legal short : Bool) where
  pub bad-key : legal ≡ false → NamedTable img name legal short (Err NameOrKey)
  bad-key e = record { is = λ L w. rw (e, or-true (not (name_rule.allowed name))) }

  pub bad-name : name_rule.allowed name ≡ false → NamedTable img name legal short (Err NameOrKey)
  bad-name e = record { is = λ L w. rw e }

  module _ (ok : legal ≡ true) (good : name_rule.allowed name ≡ true) where
    pub long-value : short ≡ false → NamedTable img name legal short (Err ValueLength)
    long-value e = record { is = λ L w. rw (ok, good, e) }

    module _ (fits : short ≡ true) (r : Option ℕ) (n : NamedAs img name r) where
      pub known : NamedTable img name legal short (ok_or r NoTable)
      known = go r refl
        where
          go : (o : Option ℕ) → r ≡ o → NamedTable img name legal short (ok_or o NoTable)
          go None e = record { is = λ L w. rw (ok, good, fits, no_table_lem L name ((n.is L w).unknown e)) }
          go (Some page) e =
              record {
                is = λ L w.
                    let f = (n.is L w).root page e in
                    (rw (ok, good, fits, has-table L name f.0 f.1), record { table = f.0; found = f.1; root = f.2 });
              }

-- ---- What the rows of the table say of a call

module _ {op : Op} {name : List ℕ} {legal short : Bool} (on : OnTable op name legal short) (L : Layout) (room : ℕ) where
  -- one of them holds: it is the outcome
  pub rows-refuse : (f : Refusal) → lowest (table_rows (ledger_of L) name legal short) ≡ some f → outcome_on L op room ≡ refuse f
  unfolding outcome_on refused
  rows-refuse f e =
      ap (outcome_if L op) (on.are (ledger_of L) room ∙ lowest-first (table_rows (ledger_of L) name legal short) (on.more (ledger_of L) room) f e)

  -- none of them holds: the call's other rows are left
  pub rows_left : lowest (table_rows (ledger_of L) name legal short) ≡ none
      → refused (ledger_of L) op room ≡ lowest (on.more (ledger_of L) room)
  unfolding refused
  rows_left e = on.are (ledger_of L) room ∙ lowest-later (table_rows (ledger_of L) name legal short) (on.more (ledger_of L) room) e

-- ---- The ways through `open_table`

module _ (img s name : List ℕ) (legal : Bool) where
  -- refused with 1 to 3
  pub not_entered : (o : Result Counts Refusal) (out : List ℕ) → Opens img s o out → (f : Refusal) → o ≡ Err f → Enters img s name legal (Err f) out
  not_entered o out opens f e = λ op on room. subst (λ (x : Result Counts Refusal). Opens img s x out) e opens op room

  pub entered : (c : Counts) (mid out : List ℕ) → Opening img s c mid → out ≡ cleared (length img) mid
      → (r : Result ℕ Refusal) → NamedTable img name legal true r → Enters img s name legal r out
  entered c mid out o clear (Err f) n = λ op on room.
      accepted o.sized o.enough o.layout o.well
      (sym (rows-refuse on o.layout room f (n.is o.layout o.well)))
      (ends (length img) s mid out o.past clear)
  entered c mid out o clear (Ok page) n =
      let t = n.is o.layout o.well in
      record {
        sized = o.sized;
        enough = o.enough;
        layout = o.layout;
        well = o.well;
        passed = t.0;
        there = t.1;
        clear = ends (length img) s mid out o.past clear;
      }

-- ---- What a call learns

module _ (img s name : List ℕ) (legal : Bool) (r : Result ℕ Refusal) (out : List ℕ) (enters : Enters img s name legal r out) where
  -- refused: the promise of every call on a table is kept
  pub table-stops : (f : Refusal) → r ≡ Err f → (op : Op) → OnTable op name legal true → (b : List ℕ) → Keeps op img s b (refusal f) img out b
  table-stops f e op on b =
      record {
        outcome = refuse f;
        called = subst (λ (x : Result ℕ Refusal). Enters img s name legal x out) e enters op on (length b);
        result = refl;
        image = refl;
        answer = refl;
      }

  pub table-goes-on : (page : ℕ) → r ≡ Ok page → Entering img s name legal page out
  table-goes-on page e = subst (λ (x : Result ℕ Refusal). Enters img s name legal x out) e enters
