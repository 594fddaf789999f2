-- The key and the table of a call on an accepted image: refused by the rows of the table, or found.
use Prim.Native.Nat.{ℕ}
use mathlib.Core.Path.{◌≡◌, refl, ap, subst, ◌∙◌}
use mathlib.Core.List.{List, [], ◌∷◌}
use mathlib.Core.Option.{none}
use mathlib.Core.Bool.{Bool, true, false, not, ◌||◌, true≢false}
use borrow.Author.Tests.{not-false}
use Rattle.std.specs.Prelude.{Result, Ok, Err}
use Rattle.blockfile.specs.declared.Refusal.{Refusal}
use Rattle.blockfile.specs.declared.Refusal.TheVariants.{NameOrKey, ValueLength, NoTable}
use Rattle.blockfile.specs.Order.{KeyRule, key_rule}
use Rattle.blockfile.specs.Refusals.{Op, Ledger, ledger_of, bad_name, no_table, lowest}
use Rattle.order.specs.declared.sort.Sort.{Sort}
use Rattle.order.specs.Sorts.{table_sort, rule_as}
use Rattle.order.proofs.Sorts.{rule-by}
use Rattle.edit.specs.Puts.{TableAt}
use Rattle.refusals.specs.Table.{table_rows, OnTable, TableIn, NamedTable, NamedIn}
use Rattle.refusals.proofs.Rows.{lowest-none}
use Rattle.refusals.proofs.Tables.{rows-refuse}
use Rattle.change.specs.Change.{Lending, Changed}

-- the key was judged as those of its table sort
pub record KeyJudged (name key : List ℕ) (sort : Sort) (legal : Bool) : Type 0 where
  pub sorts : sort ≡ table_sort name
  pub is : legal ≡ (rule_as sort).allowed key

pub legal-is : {name key : List ℕ} {sort : Sort} {legal : Bool} → KeyJudged name key sort legal → legal ≡ (key_rule name).allowed key
legal-is {name} {key} j = j.is ∙ ap (λ (r : KeyRule). r.allowed key) (rule-by name j.sorts)

or-false : (a b : Bool) → (a || b) ≡ false → b ≡ false
or-false true b e = absurd (true≢false e)
or-false false b e = e

-- where no row holds, key and value are allowed
tests-passed : (l : Ledger) (name : List ℕ) (legal short : Bool) → lowest (table_rows l name legal short) ≡ none → (legal ≡ true) × (short ≡ true)
tests-passed l name legal short e =
    let four = lowest-none (bad_name name || not legal, NameOrKey) ((not short, ValueLength) ∷ (no_table l name, NoTable) ∷ []) e in
    let five = lowest-none (not short, ValueLength) ((no_table l name, NoTable) ∷ []) four.1 in
    (not-false legal (or-false (bad_name name) (not legal) four.0), not-false short five.0)

module _ {img s : List ℕ} {free : ℕ} (lent : Lending img s free) {name : List ℕ} {legal short : Bool} {r : Result ℕ Refusal} (n : NamedTable img name legal short r) where
  pub named-refused : {op : Op} → OnTable op name legal short → (f : Refusal) → r ≡ Err f → Changed op img (Err f) img
  named-refused on f e =
      let row : NamedIn lent.layout name legal short (Err f)
      = subst (λ (x : Result ℕ Refusal). NamedIn lent.layout name legal short x) e (n.is lent.layout lent.well) in
      record { layout = lent.layout; well = lent.well; writes = []; outcome = rows-refuse on lent.layout 0 f row; image = refl }

  module _ (page : ℕ) (e : r ≡ Ok page) where
    abbrev pub found : (lowest (table_rows (ledger_of lent.layout) name legal short) ≡ none) × TableIn lent.layout name page
    found = subst (λ (x : Result ℕ Refusal). NamedIn lent.layout name legal short x) e (n.is lent.layout lent.well)

    pub table_at : {sort : Sort} → sort ≡ table_sort name → TableAt img (record { root = page; sort = sort }) lent.layout name found.1.table
    table_at by = record { well = lent.well; found = found.1.found; at = found.1.root; sorts = by }

    pub allowed : (legal ≡ true) × (short ≡ true)
    allowed = tests-passed (ledger_of lent.layout) name legal short found.0
