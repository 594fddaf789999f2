-- `heads::claim::claim` meets its contract: each way out has its law.
use native.Mathlib.Omega.{arith}
use mathlib.Core.Path.{sym, ◌∙◌}
use Rattle.pages.proofs.Marks.{kind-known}
use Rattle.heads.specs.Claims.{claimed}
use Rattle.heads.proofs.Claims.{claim-zero, claim-past, claim-head}
use Rattle.heads.proofs.claim.claim.Goals as goal
use Rattle.heads.proofs.claim.claim.Goals.{then-page-eq0-via-then-page-eq0, then-page-eq0-via-else-page-eq0+then-scratch-page, then-page-eq0-via-else-page-eq0+else-scratch-page+then-not-bears}

pub returns-then-page-eq0 : goal.returns-then-page-eq0
returns-then-page-eq0 c img lent =
    elim c.then-page-eq0.branch [
      | then-page-eq0-via-then-page-eq0 w ↦ claim-zero _ _ _ _ w.if-page-eq0.true
      | then-page-eq0-via-else-page-eq0+then-scratch-page w ↦ claim-past _ _ _ _ (omega (arith, w.if-page-eq0.false)) (omega (arith, w.if-scratch-page.true))
      | then-page-eq0-via-else-page-eq0+else-scratch-page+then-not-bears w ↦
          claim-head _ _ _ _ (omega (arith, w.if-page-eq0.false)) (omega (arith, w.if-scratch-page.false)) lent (kind-known c.args.kind) _ (sym w.if-not-bears.true ∙ w.bears.ensures)
    ]

pub returns : goal.returns
unfolding claimed
returns c img lent = claim-head _ _ _ _ (omega arith) (omega arith) lent (kind-known c.args.kind) _ (sym c.if-not-bears.false ∙ c.bears.ensures)
