use Rattle.edit.proofs.Committing.{draw-ready}
use Rattle.edit.proofs.Committed.{flat-ready, committed-flat}
use Rattle.edit.proofs.apply.commit_flat.Goals as goal

pub draw_plan-given-requires : goal.draw_plan-given-requires
draw_plan-given-requires c = draw-ready c.requires.0.is

pub write_flat-requires : goal.write_flat-requires
write_flat-requires c = flat-ready c.requires.0.is _ _ c.draw_plan-given.ensures

pub returns : goal.returns
returns c = committed-flat _ _ _ c.draw_plan-given.ensures c.requires.1 c.write_flat.ensures
