-- Remove on an accepted image: what it asks of the edit of a table, and what came of it.
use Prim.Native.Nat.{ℕ}
use mathlib.Core.Path.{◌≡◌, refl, ap, sym, ◌∙◌, subst}
use mathlib.Core.List.{List, [], ◌∷◌}
use mathlib.Core.Option.{Option as TextOption, none, some}
use mathlib.Core.Bool.{Bool, true, false, not}
use Rattle.std.specs.Prelude.{Option, Result, Ok, Err}
use Rattle.blockfile.specs.declared.Refusal.{Refusal}
use Rattle.blockfile.specs.declared.Refusal.TheVariants.{NoKey}
use Rattle.blockfile.specs.Layout.{Table, Layout, entries_of}
use Rattle.blockfile.specs.Order.{find, there}
use Rattle.blockfile.specs.Plan.{Plan, lacks}
use Rattle.blockfile.specs.Remove.{remove_plan}
use Rattle.blockfile.specs.Refusals.{remove, ledger_of, sought, refused}
use Rattle.blockfile.specs.Answers.{plan_of, lacking, outcome_on}
use Rattle.blockfile.proofs.Bools.{holds}
use Rattle.laws.proofs.Ledgers.{layout-ok, on-table}
use Rattle.laws.proofs.Room.{remove-never-lacks}
use Rattle.laws.proofs.Preserves.{few-after}
use Rattle.order.specs.declared.sort.Sort.{Sort}
use Rattle.search.specs.declared.table.TableRef.{TableRef}
use Rattle.remove.specs.Removes.{RemoveReady, RemoveDone}
use Rattle.refusals.specs.Table.{OnTable, NamedTable}
use Rattle.refusals.proofs.Tables.{its_map, rows_left}
use Rattle.change.specs.Change.{Lending, Changed}
use Rattle.change.proofs.Settles.{Tried}
use Rattle.change.proofs.Named.{KeyJudged, legal-is, named-refused, found, table_at, allowed}

module _ {name key : List ℕ} {sort : Sort} {legal : Bool} (j : KeyJudged name key sort legal) where
  abbrev remove_on : OnTable (remove name key) name legal true
  remove_on = record { more = λ l room. (not (there (sought l (remove name key))), NoKey) ∷ []; are = λ l room. rw (legal-is j) }

  module _ {img s : List ℕ} {free : ℕ} (lent : Lending img s free) {r : Result ℕ Refusal} (n : NamedTable img name legal true r) where
    pub remove-refused : (f : Refusal) → r ≡ Err f → Changed (remove name key) img (Err f) img
    remove-refused = named-refused lent n remove_on

    module _ (page : ℕ) (e : r ≡ Ok page) where
      abbrev L : Layout
      L = lent.layout

      abbrev t : Table
      t = (found lent n page e).1.table

      abbrev table : TableRef
      table = record { root = page; sort = sort }

      pub remove-ready : RemoveReady img s table free key
      remove-ready =
          record {
            layout = L;
            name = name;
            table = t;
            is = table_at lent n page e j.sorts;
            pages = lent.pages;
            allowed = holds _ (sym (legal-is j) ∙ (allowed lent n page e).0);
            lent = lent.long;
          }

      -- what is sought in the table's map
      looked : sought (ledger_of L) (remove name key) ≡ find key (entries_of t)
      looked = ap (find key) (its_map L name t (found lent n page e).1.found)

      planned : plan_of L (remove name key) ≡ some (remove_plan L name t key)
      planned = on-table L name t (λ u. remove_plan L name u key) (found lent n page e).1.found

      enough : lacks L (remove_plan L name t key) ≡ false
      enough = subst (λ (o : TextOption Plan). lacking L o ≡ false) planned (remove-never-lacks L (layout-ok img L lent.well) name key)

      pub remove-tried : {a : Option ℕ} {mid : List ℕ} → RemoveDone img table free key a mid → Tried (remove name key) img L NoKey a mid
      unfolding outcome_on
      remove-tried d =
          let at = table_at lent n page e j.sorts in
          record {
            undone = λ h. let f = d.missing h L name t at in (rw (rows_left remove_on L 0 (found lent n page e).0, looked, f.0), f.1);
            made = λ m h.
                let f = d.done m h L name t at lent.pages in
                let passed : refused (ledger_of L) (remove name key) 0 ≡ none = rows_left remove_on L 0 (found lent n page e).0 ∙ rw (looked, f.0.1) refl in
                record {
                  plan = remove_plan L name t key;
                  outcome = rw (passed, planned);
                  carried = f.1;
                  few = few-after img L (remove name key) 0 lent.well passed (remove_plan L name t key) planned enough;
                };
          }
