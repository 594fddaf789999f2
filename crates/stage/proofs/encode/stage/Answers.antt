use Rattle.stage.proofs.Stagings.{staging-next, staging-end, staging-room}
use Rattle.stage.proofs.encode.stage.Goals as goal

pub stage_entry-part-requires : goal.stage_entry-part-requires
stage_entry-part-requires c = staging-room c.loop-i.invariant c.requires c.loop-i-test.true

pub loop-i-preserved : goal.loop-i-preserved
loop-i-preserved c = staging-next c.loop-i.invariant c.loop-i-test.true _ _ c.stage_entry-part.auto.stream c.stage_entry-part.ensures

pub returns : goal.returns
returns c = staging-end c.loop-i.invariant c.loop-i-test.false
