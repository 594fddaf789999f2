-- `verify_towers` meets its contract, for any spans that the bytes show: each return cites the law for the tests that led there.
use native.Mathlib.Omega.{arith}
use mathlib.Core.Path.{◌∙◌}
use Rattle.towers.proofs.Climbs.{found-open, found-lent, found-in-head, found-span}
use Rattle.towers.proofs.Heads.{first_next, others-linked, head-no, head-off, towers-climb}
use Rattle.towers.proofs.verify_towers.Goals as goal

pub returns-in_err-top : goal.returns-in_err-top
returns-in_err-top c z s others sp = rw c.from_residual.ensures (head-no _ _ _ _ z s others sp _ _ (c.claim_tower.ensures _ c.requires.0) c.in_err-top.was)

pub from_head-requires : goal.from_head-requires
from_head-requires c =
    let f = (c.claim_tower.ensures _ c.requires.0).sound _ c.in_ok-top.was in
    found-in-head f c.requires.0 (omega arith)

pub returns-then-from_head-first : goal.returns-then-from_head-first
returns-then-from_head-first c z s others sp =
    let k = c.claim_tower.ensures _ c.requires.0 in
    let f = k.sound _ c.in_ok-top.was in
    head-off _ _ _ _ z s others sp _ _ k _ c.in_ok-top.was _ (found-span f c.requires.0 c.from_head.ensures) c.if-from_head-first.true

pub claim_others-requires : goal.claim_others-requires
claim_others-requires c =
    let f = (c.claim_tower.ensures _ c.requires.0).sound _ c.in_ok-top.was in
    let o = found-open _ _ _ _ _ _ _ f in
    let p = c.requires in
    let room = p.0.room in (
      (found-lent _ _ _ _ _ _ _ f c.requires.0),
      record { small = omega (arith, room.size, room.most); low = o.low; high = omega (arith, room.size, room.whole, o.high); fits = omega (arith, f.tall.high) },
      others-linked _ _ _ _ _ p.1.spanned _ (c.from_head-start.ensures.is ∙ first_next _ _ _ _ _ p.1.spanned (found-lent _ _ _ _ _ _ _ f c.requires.0)),
    )

pub returns : goal.returns
returns c z s ss sp =
    let k = c.claim_tower.ensures _ c.requires.0 in
    let f = k.sound _ c.in_ok-top.was in
    towers-climb _ _ _ _ z s ss sp _ _ k _ c.in_ok-top.was
    _ (found-span f c.requires.0 c.from_head.ensures) c.if-from_head-first.false _ (c.from_head-start.ensures.is ∙ first_next _ _ z s ss sp (found-lent _ _ _ _ _ _ _ f c.requires.0)) _ _ c.claim_others.ensures
