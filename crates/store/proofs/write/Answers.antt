use native.Mathlib.Omega.{arith}
use mathlib.Core.Path.{◌∙◌}
use Rattle.std.proofs.lemmas.Result.{err_from_is_err_and}
use Rattle.refusals.proofs.Opens.{stops, goes_on}
use Rattle.store.proofs.Changes.{lent-enough, lent-long, lending, still-enough, change-kept}
use Rattle.store.proofs.write.Goals as goal

pub returns-in_err-counts : goal.returns-in_err-counts
returns-in_err-counts g c =
    let p = err_from_is_err_and c.from_residual.result c.from_residual.ensures.1 in
    rw (p.1, p.2) (stops _ _ _ _ c.«open».ensures _ c.in_err-counts.was _ _)

pub slice_bounds-make-end : goal.slice_bounds-make-end
slice_bounds-make-end g c = lent-enough (goes_on _ _ _ _ c.«open».ensures _ c.in_ok-counts.was)

pub make-done-requires : goal.make-done-requires
make-done-requires g c = lending (goes_on _ _ _ _ c.«open».ensures _ c.in_ok-counts.was)

pub clear-requires : goal.clear-requires
clear-requires g c =
    let o = goes_on _ _ _ _ c.«open».ensures _ c.in_ok-counts.was in
    omega (arith, still-enough o c.make-done.new.scratch (c.make-done.auto.scratch ∙ lent-long o))

pub returns : goal.returns
returns g c =
    let o = goes_on _ _ _ _ c.«open».ensures _ c.in_ok-counts.was in
    change-kept o _ _ _ c.make-done.ensures c.make-done.new.scratch _ (c.make-done.auto.scratch ∙ lent-long o) c.clear.ensures
