-- Create on an accepted image: what it asks of the creation of a table, and what came of it.
use Prim.Native.Nat.{ℕ}
use mathlib.Core.Path.{◌≡◌, refl}
use mathlib.Core.List.{List, []}
use mathlib.Core.Option.{none}
use mathlib.Core.Bool.{true, false}
use Rattle.std.specs.Prelude.{Option, Some, None, Err}
use Rattle.blockfile.specs.declared.Refusal.TheVariants.{NameOrKey, TableExists, NoRoom}
use Rattle.blockfile.specs.Order.{name_rule}
use Rattle.blockfile.specs.Create.{create_plan}
use Rattle.blockfile.specs.Refusals.{create, ledger_of, refused}
use Rattle.blockfile.specs.Answers.{outcome_on}
use Rattle.blockfile.proofs.Bools.{holds}
use Rattle.laws.proofs.Preserves.{few-after}
use Rattle.search.specs.Tables.{NamedAs}
use Rattle.create.specs.Creates.{NoTable, CreateReady, Created}
use Rattle.change.specs.Change.{Lending, Changed}
use Rattle.change.proofs.Settles.{Tried}
use Rattle.refusals.proofs.Tables.{no_table_lem, has-table}

module _ {img s : List ℕ} {free : ℕ} (lent : Lending img s free) (name : List ℕ) where
  pub name-refused : name_rule.allowed name ≡ false → Changed (create name) img (Err NameOrKey) img
  unfolding outcome_on refused
  name-refused e = record { layout = lent.layout; well = lent.well; writes = []; outcome = rw e; image = refl }

  module _ (good : name_rule.allowed name ≡ true) {r : Option ℕ} (n : NamedAs img name r) where
    pub table-exists : (page : ℕ) → r ≡ Some page → Changed (create name) img (Err TableExists) img
    unfolding outcome_on refused
    table-exists page e =
        let f = (n.is lent.layout lent.well).root page e in
        record { layout = lent.layout; well = lent.well; writes = []; outcome = rw (good, has-table lent.layout name f.0 f.1); image = refl }

    module _ (e : r ≡ None) where
      none_named : NoTable img free lent.layout name
      none_named = record { well = lent.well; absent = (n.is lent.layout lent.well).unknown e; pages = lent.pages }

      pub create-ready : CreateReady img s free name
      create-ready = record { layout = lent.layout; is = none_named; allowed = holds _ good; lent = lent.long }

      passed : refused (ledger_of lent.layout) (create name) 0 ≡ none
      unfolding refused
      passed = rw (good, no_table_lem lent.layout name none_named.absent)

      pub create-tried : {a : Option ℕ} {mid : List ℕ} → Created img free name a mid → Tried (create name) img lent.layout NoRoom a mid
      unfolding outcome_on
      create-tried d =
          let o = d.is lent.layout none_named in
          record {
            undone = λ h. let f = o.refused h in (rw (passed, f.0), f.1);
            made = λ m h.
                let f = o.done m h in
                record {
                  plan = create_plan lent.layout name;
                  outcome = rw (passed, f.0);
                  carried = f.1;
                  few = few-after img lent.layout (create name) 0 lent.well passed (create_plan lent.layout name) refl f.0;
                };
          }
