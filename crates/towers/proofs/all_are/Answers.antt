-- `all_are` meets its contract: the lowest level decides, or the bytes above it do.
use native.Mathlib.Omega.{arith}
use mathlib.Core.Path.{sym, ◌∙◌}
use borrow.Author.Tests.{ne_eqb}
use Rattle.walks.proofs.Founds.{decides-false}
use Rattle.towers.proofs.Levels.{lowest-is, all-repeat}
use Rattle.towers.proofs.all_are.Goals as goal

pub returns-then-get-v : goal.returns-then-get-v
returns-then-get-v c =
    all-repeat c.args.levels.now (λ i. omega (arith, c.fits-levels i)) _ _ _ (lowest-is _ _ c.get.ensures.is ∙ c.if-get-v.true) c.repeats.ensures

pub returns-else-get-v : goal.returns-else-get-v
returns-else-get-v c =
    rw (ne_eqb _ _ c.if-get-v.false) (decides-false (λ a. c.if-get-v.false (sym (lowest-is _ _ c.get.ensures.is) ∙ a 0 (omega arith))))
