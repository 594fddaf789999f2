use native.Mathlib.Omega.{arith}
use Rattle.std.proofs.lemmas.Result.{err_from_is_err_and}
use Rattle.refusals.proofs.Opens.{stops, goes_on}
use Rattle.store.proofs.Checks.{check_done}
use Rattle.store.proofs.check.Goals as goal

pub returns-in_err-counts : goal.returns-in_err-counts
returns-in_err-counts c =
    let p = err_from_is_err_and c.from_residual.result c.from_residual.ensures.1 in
    rw (p.1, p.2) (stops _ _ _ _ c.«open».ensures _ c.in_err-counts.was _ _)

pub clear-requires : goal.clear-requires
clear-requires c = let o = goes_on _ _ _ _ c.«open».ensures _ c.in_ok-counts.was in omega arith

pub returns : goal.returns
returns c = check_done _ _ _ _ _ (goes_on _ _ _ _ c.«open».ensures _ c.in_ok-counts.was) c.clear.ensures
