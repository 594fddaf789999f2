-- `search::table::find_table` meets its contract.
use Rattle.std.specs.Prelude.{ℕ, Option}
use mathlib.Core.Path.{sym, subst}
use Rattle.search.specs.Tables.{NamedIn}
use Rattle.search.proofs.Readables.{meta_by}
use Rattle.search.proofs.Names.{named_none, named-enough, named-root}
use Rattle.search.proofs.table.find_table.Goals as goal

pub find-requires : goal.find-requires
find-requires c = meta_by _ c.requires.0 c.requires.1

pub returns-in_err-value : goal.returns-in_err-value
returns-in_err-value c = record {
  is = λ L w.
      subst (λ (r : Option ℕ). NamedIn L c.args.name.now r) (sym c.from_residual.ensures) (named_none _ L w _ _ c.find.ensures c.in_err-value.was);
}

pub number-requires : goal.number-requires
number-requires c =
    let p = c.requires in
    named-enough _ p.0 p.1 _ _ c.find.ensures _ c.in_ok-value.was

pub returns : goal.returns
returns c = record {
  is = λ L w.
      named-root _ L w _ _ c.find.ensures _ c.in_ok-value.was _ c.number.ensures;
}
