-- `claim_tower` meets its contract, for any image whose heads these are: each return cites the law for the tests that led there.
use native.Mathlib.Omega.{arith}
use Rattle.walks.proofs.Pieces.{claim-in-head, claim-head16}
use Rattle.towers.proofs.Climbs.{tower-not, tower-done}
use Rattle.towers.proofs.claim_tower.Goals as goal

pub from_head-height-requires : goal.from_head-height-requires
from_head-height-requires c =
    let p = c.requires in
    claim-in-head (c.claim.ensures p.0 p.1) c.if-not-claim.false p.1 (omega arith)

pub from_head-requires : goal.from_head-requires
from_head-requires c =
    let p = c.requires in
    claim-in-head (c.claim.ensures p.0 p.1) c.if-not-claim.false p.1 (omega arith)

pub returns-then-not-is_tall : goal.returns-then-not-is_tall
returns-then-not-is_tall c img lent =
    let claim = c.claim.ensures img lent in
    let can = c.if-not-claim.false in
    tower-not _ _ _ _ _ _ _ claim can _ _
    (claim-head16 claim can lent (omega arith) (omega arith) c.from_head-height.ensures).is
    (claim-head16 claim can lent (omega arith) (omega arith) c.from_head.ensures).is
    _ c.is_tall.ensures c.if-not-is_tall.true

pub returns : goal.returns
returns c img lent =
    let claim = c.claim.ensures img lent in
    let can = c.if-not-claim.false in
    tower-done _ _ _ _ _ _ _ claim can _ _
    (claim-head16 claim can lent (omega arith) (omega arith) c.from_head-height.ensures).is
    (claim-head16 claim can lent (omega arith) (omega arith) c.from_head.ensures).is
    _ c.is_tall.ensures c.if-not-is_tall.false
