-- `edit::apply::commit_tall` meets its contract.
use Prim.Native.Nat.{ℕ}
use lib.ListN.{length-replicate}
use Rattle.links.proofs.Leading.{path-pages}
use Rattle.edit.proofs.Committing.{draw-ready}
use Rattle.edit.proofs.Committed.{reading_of, before_at, has-before, tall-ready, committed-tall}
use Rattle.edit.proofs.apply.commit_tall.Goals as goal

pub towers_before-before-requires : goal.towers_before-before-requires
towers_before-before-requires c =
    let p = c.requires.0 in
    path-pages (reading_of p.ready.is) _ p.passed

pub towers_after-after-requires : goal.towers_after-after-requires
towers_after-after-requires c =
    let p = c.requires.0 in
    has-before p.ready.is p.passed (length-replicate {A = ℕ} 252 0) c.towers_before-before.ensures

pub draw_plan-requires : goal.draw_plan-requires
draw_plan-requires c = draw-ready c.requires.0.ready.is

pub write_tall-requires : goal.write_tall-requires
write_tall-requires c =
    let p = c.requires.0 in
    tall-ready p.ready.is _ _ c.draw_plan.ensures c.requires.1 _ (before_at p.ready.is p.passed (length-replicate {A = ℕ} 252 0) c.towers_before-before.ensures)

pub returns : goal.returns
returns c =
    committed-tall _ _ _ _ _ (length-replicate {A = ℕ} 252 0) c.towers_before-before.ensures c.towers_after-after.ensures c.draw_plan.ensures c.requires.1
    c.write_tall.ensures
