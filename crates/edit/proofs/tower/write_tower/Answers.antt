use native.Mathlib.Omega.{arith}
use Rattle.edit.proofs.Risings.{linkable-in, head-rises, head-stays}
use Rattle.edit.proofs.tower.write_tower.Goals as goal

pub link_tower-requires : goal.link_tower-requires
link_tower-requires c = linkable-in _ c.put_tower.auto.image c.requires.links

pub returns-then-new : goal.returns-then-new
returns-then-new c =
    let s = c.args in
    head-rises s.new s.before.now s.after.now s.image.now _ _ (omega (arith, c.requires.links.few)) c.put_tower.ensures c.link_tower.ensures c.if-new.true _ c.put.ensures

pub returns-else-new : goal.returns-else-new
returns-else-new c =
    let s = c.args in
    head-stays s.new s.before.now s.after.now s.image.now _ _ (omega (arith, c.requires.links.few)) c.put_tower.ensures c.link_tower.ensures c.if-new.false
