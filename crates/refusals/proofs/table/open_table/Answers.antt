use native.Mathlib.Omega.{arith}
use Rattle.std.proofs.lemmas.Result.{err_from_is_err_and}
use Rattle.refusals.proofs.Opens.{goes_on}
use Rattle.refusals.proofs.Tables.{not_entered, entered}
use Rattle.refusals.proofs.table.open_table.Goals as goal

pub clear-requires : goal.clear-requires
clear-requires c = let o = (goes_on _ _ _ _ c.«open».ensures _ c.in_ok-open.was) in omega (arith, o.enough, o.long)

pub named_table-requires : goal.named_table-requires
named_table-requires c = let o = (goes_on _ _ _ _ c.«open».ensures _ c.in_ok-open.was) in (o.layout, o.well)

pub returns-in_err-open : goal.returns-in_err-open
returns-in_err-open c =
    let p = err_from_is_err_and c.from_residual.result c.from_residual.ensures.1 in
    rw (p.1, p.2) (not_entered _ _ _ _ _ _ c.«open».ensures _ c.in_err-open.was)

pub returns : goal.returns
returns c = entered _ _ _ _ _ _ _ (goes_on _ _ _ _ c.«open».ensures _ c.in_ok-open.was) c.clear.ensures _ c.named_table.ensures
