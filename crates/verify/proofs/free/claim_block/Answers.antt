-- `claim_block` meets its contract: the block's page, then the pages it lists.
use native.Mathlib.Omega.{arith}
use Rattle.walks.proofs.Pieces.{claim-lent, claim-inside, claim-in-head, claim-head32}
use Rattle.verify.proofs.Frees.{block_no, block-over, block-not, block-done}
use Rattle.verify.proofs.free.claim_block.Goals as goal

pub returns-then-not-claim : goal.returns-then-not-claim
returns-then-not-claim c = block_no _ _ _ _ _ (c.claim.ensures _ c.requires) c.if-not-claim.true

pub from_head-count-requires : goal.from_head-count-requires
from_head-count-requires c = claim-in-head (c.claim.ensures _ c.requires) c.if-not-claim.false c.requires (omega arith)

pub returns-then-count-gt252 : goal.returns-then-count-gt252
returns-then-count-gt252 c = block-over _ _ _ _ _ (c.claim.ensures _ c.requires) c.if-not-claim.false _ ((claim-head32 (c.claim.ensures _ c.requires) c.if-not-claim.false c.requires (omega arith) (omega arith) c.from_head-count.ensures).is) c.if-count-gt252.true

pub claim_listed-requires : goal.claim_listed-requires
claim_listed-requires c =
    let done = c.if-not-claim.false in
    (claim-lent (c.claim.ensures _ c.requires) done c.requires, claim-inside (c.claim.ensures _ c.requires) done c.requires (omega arith))

pub returns : goal.returns
returns c = block-done _ _ _ _ _ (c.claim.ensures _ c.requires) c.if-not-claim.false _ ((claim-head32 (c.claim.ensures _ c.requires) c.if-not-claim.false c.requires (omega arith) (omega arith) c.from_head-count.ensures).is) _ _ c.claim_listed.ensures c.if-count-gt252.false c.if-not-claim_listed.false

pub returns-then-not-claim_listed : goal.returns-then-not-claim_listed
returns-then-not-claim_listed c = block-not _ _ _ _ _ (c.claim.ensures _ c.requires) c.if-not-claim.false _ ((claim-head32 (c.claim.ensures _ c.requires) c.if-not-claim.false c.requires (omega arith) (omega arith) c.from_head-count.ensures).is) _ _ c.claim_listed.ensures c.if-not-claim_listed.true
