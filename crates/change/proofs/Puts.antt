-- Put on an accepted image: what it asks of the edit of a table, and what came of it.
use Prim.Native.Nat.{ℕ}
use mathlib.Core.Path.{◌≡◌, refl, sym, ◌∙◌}
use mathlib.Core.List.{List, []}
use mathlib.Core.Option.{none, some}
use mathlib.Core.Bool.{Bool, true, false, not}
use borrow.Author.Tests.{ltb-false, not-true}
use lib.ListN.{length}
use lib.Dec.{ltb}
use Rattle.std.specs.Prelude.{Option, Result, Ok, Err}
use Rattle.blockfile.specs.declared.Refusal.{Refusal}
use Rattle.blockfile.specs.declared.Refusal.TheVariants.{NoRoom}
use Rattle.blockfile.specs.Plan.{Plan}
use Rattle.blockfile.specs.Put.{put_plan}
use Rattle.blockfile.specs.Refusals.{put, ledger_of, refused}
use Rattle.blockfile.specs.Answers.{plan_of, outcome_on}
use Rattle.blockfile.proofs.Bools.{holds}
use Rattle.laws.proofs.Ledgers.{on-table}
use Rattle.laws.proofs.Preserves.{few-after}
use Rattle.order.specs.declared.sort.Sort.{Sort}
use Rattle.search.specs.declared.table.TableRef.{TableRef}
use Rattle.edit.specs.Puts.{PutReady, PutDone}
use Rattle.refusals.specs.Table.{OnTable, NamedTable}
use Rattle.refusals.proofs.Tables.{rows_left}
use Rattle.change.specs.Change.{Lending, Changed}
use Rattle.change.proofs.Settles.{Tried}
use Rattle.change.proofs.Named.{KeyJudged, legal-is, named-refused, found, table_at, allowed}

not-not : (b : Bool) → b ≡ not (not b)
not-not true = refl
not-not false = refl

-- key and value were judged by the rules
pub record Judged (name key value : List ℕ) (sort : Sort) (legal short : Bool) : Type 0 where
  pub of_key : KeyJudged name key sort legal
  pub value_is : short ≡ not (ltb 65535 (length value))

module _ {name key value : List ℕ} {sort : Sort} {legal short : Bool} (j : Judged name key value sort legal short) where
  abbrev put_on : OnTable (put name key value) name legal short
  put_on = record { more = λ l room. []; are = λ l room. rw (legal-is j.of_key, j.value_is, sym (not-not (ltb 65535 (length value)))) }

  module _ {img s : List ℕ} {free : ℕ} (lent : Lending img s free) {r : Result ℕ Refusal} (n : NamedTable img name legal short r) where
    pub put_refused : (f : Refusal) → r ≡ Err f → Changed (put name key value) img (Err f) img
    put_refused = named-refused lent n put_on

    module _ (page : ℕ) (e : r ≡ Ok page) where
      abbrev table : TableRef
      table = record { root = page; sort = sort }

      pub put-ready : PutReady img s table free key value
      put-ready =
          record {
            layout = lent.layout;
            name = name;
            table = (found lent n page e).1.table;
            is = table_at lent n page e j.of_key.sorts;
            pages = lent.pages;
            allowed = holds _ (sym (legal-is j.of_key) ∙ (allowed lent n page e).0);
            short = ltb-false 65535 (length value) (not-true _ (sym j.value_is ∙ (allowed lent n page e).1));
            lent = lent.long;
          }

      -- no row refuses it, and there is a table
      passed : refused (ledger_of lent.layout) (put name key value) 0 ≡ none
      passed = rows_left put_on lent.layout 0 (found lent n page e).0

      abbrev plan : Plan
      plan = put_plan lent.layout name (found lent n page e).1.table key value

      planned : plan_of lent.layout (put name key value) ≡ some plan
      planned = on-table lent.layout name _ (λ u. put_plan lent.layout name u key value) (found lent n page e).1.found

      pub put-tried : {a : Option ℕ} {mid : List ℕ} → PutDone img table free key value a mid → Tried (put name key value) img lent.layout NoRoom a mid
      unfolding outcome_on
      put-tried d =
          let at = table_at lent n page e j.of_key.sorts in
          record {
            undone = λ h. let f = d.refused h lent.layout name _ at lent.pages in (rw (passed, planned, f.0), f.1);
            made = λ m h.
                let f = d.done m h lent.layout name _ at lent.pages in
                record {
                  plan = plan;
                  outcome = rw (passed, planned, f.0);
                  carried = f.1;
                  few = few-after img lent.layout (put name key value) 0 lent.well passed plan planned f.0;
                };
          }
