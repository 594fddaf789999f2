-- `spans::claims::claim_span` meets its contract: the span's page, then its continuation pages.
use native.Mathlib.Omega.{arith}
use Rattle.walks.proofs.Pieces.{claim-lent, claim-in-head, claim-head32}
use Rattle.spans.proofs.PageClaims.{pages-no, pages-then}
use Rattle.spans.proofs.claims.claim_span.Goals as goal

pub from_head-first-requires : goal.from_head-first-requires
from_head-first-requires c =
    let k = c.requires in
    claim-in-head (c.claim.ensures k.0 k.1) c.if-claim.true k.1 (omega arith)

pub claim_conts-requires : goal.claim_conts-requires
claim_conts-requires c =
    let k = c.requires in
    (k.0, claim-lent (c.claim.ensures k.0 k.1) c.if-claim.true k.1)

pub returns-then-claim : goal.returns-then-claim
returns-then-claim c img lent =
    let claim = c.claim.ensures img lent in
    pages-then claim c.if-claim.true _ (claim-head32 claim c.if-claim.true lent (omega arith) (omega arith) c.from_head-first.ensures).is (c.claim_conts.ensures img (claim-lent claim c.if-claim.true lent))

pub returns : goal.returns
returns c img lent = pages-no (c.claim.ensures img lent) c.if-claim.false
