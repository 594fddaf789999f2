use native.Mathlib.Omega.{arith}
use Rattle.walks.proofs.Pieces.{claim-in-head, claim-head32, claim-falls}
use Rattle.spans.proofs.PageClaims.{noting-end, noting-no, noting-few, noting-next}
use Rattle.spans.proofs.claims.claim_conts.Goals as goal

pub returns-then-not-claim : goal.returns-then-not-claim
returns-then-not-claim c img lent =
    let w = c.loop-page.invariant img lent in
    noting-no w c.loop-page-test.true (c.claim.ensures img w.claiming.lent) c.if-not-claim.true

pub note-requires : goal.note-requires
note-requires c =
    let k = c.requires in
    let w = c.loop-page.invariant k.0 k.1 in
    let few = noting-few w c.loop-page-test.true (c.claim.ensures k.0 w.claiming.lent) c.if-not-claim.false in
    few

pub overflow_add-count : goal.overflow_add-count
overflow_add-count c =
    let k = c.requires in
    let w = c.loop-page.invariant k.0 k.1 in
    omega (arith, (noting-few w c.loop-page-test.true (c.claim.ensures k.0 w.claiming.lent) c.if-not-claim.false).0)

pub from_head-page-requires : goal.from_head-page-requires
from_head-page-requires c =
    let k = c.requires in
    let w = c.loop-page.invariant k.0 k.1 in
    claim-in-head (c.claim.ensures k.0 w.claiming.lent) c.if-not-claim.false w.claiming.lent (omega arith)

pub loop-page-smaller : goal.loop-page-smaller
loop-page-smaller c =
    let k = c.requires in
    let w = c.loop-page.invariant k.0 k.1 in
    omega (arith, claim-falls (c.claim.ensures k.0 w.claiming.lent) c.if-not-claim.false)

pub loop-page-preserved : goal.loop-page-preserved
loop-page-preserved c img lent =
    let w = c.loop-page.invariant img lent in
    let claim = c.claim.ensures img w.claiming.lent in
    let done = c.if-not-claim.false in
    noting-next w c.loop-page-test.true claim done c.note.ensures _
    (claim-head32 claim done w.claiming.lent (omega arith) (omega arith) c.from_head-page.ensures).is

pub returns : goal.returns
returns c img lent = noting-end (c.loop-page.invariant img lent) c.loop-page-test.false
