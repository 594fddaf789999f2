use Rattle.links.proofs.Written.{linking-more}
use Rattle.links.proofs.write.link_levels.Goals as goal

pub loop-level-preserved : goal.loop-level-preserved
loop-level-preserved c = linking-more c.loop-level.invariant c.loop-level-test.true _ c.put.ensures
