-- `place_tower` meets its contract, for any image whose heads these are: each return cites the law for the tests that led there.
use native.Mathlib.Omega.{arith}
use Rattle.towers.proofs.Climbs.{found-lent, found-in-head, found-span, placed_off, placed-done}
use Rattle.towers.proofs.place_tower.Goals as goal

pub from_head-span-requires : goal.from_head-span-requires
from_head-span-requires c =
    let p = c.requires.1 in
    let f = (c.claim_tower.ensures p.image p.lent).sound _ c.in_ok-height.was in
    found-in-head f p.lent (omega arith)

pub reaches-requires : goal.reaches-requires
reaches-requires c =
    let p = c.requires.1 in
    let f = (c.claim_tower.ensures p.image p.lent).sound _ c.in_ok-height.was in
    record { image = p.image; lent = found-lent _ _ _ _ _ _ _ f p.lent; linked = p.linked }

pub returns-then-not-reaches : goal.returns-then-not-reaches
returns-then-not-reaches c img lent linked =
    let k = c.claim_tower.ensures img lent in
    let f = k.sound _ c.in_ok-height.was in
    placed_off _ _ _ _ _ _ _ _ k _ c.in_ok-height.was
    _ (found-span f lent c.from_head-span.ensures) _ (c.reaches.ensures img (found-lent _ _ _ _ _ _ _ f lent) linked)
    c.if-not-reaches.true

pub returns : goal.returns
returns c img lent linked =
    let k = c.claim_tower.ensures img lent in
    let f = k.sound _ c.in_ok-height.was in
    placed-done _ _ _ _ _ _ _ _ k _ c.in_ok-height.was
    _ (found-span f lent c.from_head-span.ensures) _ (c.reaches.ensures img (found-lent _ _ _ _ _ _ _ f lent) linked)
    _ c.all_are.ensures c.if-not-reaches.false c.if-not-all_are.false
