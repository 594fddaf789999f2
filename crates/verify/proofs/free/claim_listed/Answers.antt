use native.Mathlib.Omega.{arith}
use Rattle.verify.proofs.Frees.{listing-end, listing-no, listing-next}
use Rattle.verify.proofs.free.claim_listed.Goals as goal

pub returns-then-not-claim : goal.returns-then-not-claim
returns-then-not-claim c =
    let v = c.loop-i.invariant in
    listing-no _ _ _ _ _ _ v (omega arith) _ c.get-listed.ensures.is _ _ (c.claim.ensures _ v.lent)
    c.if-not-claim.true

pub loop-i-preserved : goal.loop-i-preserved
loop-i-preserved c =
    let v = c.loop-i.invariant in
    listing-next _ _ _ _ _ _ v (omega arith) _ c.get-listed.ensures.is _ _ (c.claim.ensures _ v.lent)
    c.if-not-claim.false

pub returns : goal.returns
returns c = listing-end _ _ _ _ _ _ c.loop-i.invariant (λ h. omega arith)
