use Rattle.edit.proofs.PartsStaged.{moved-stageable, moved-staged}
use Rattle.edit.proofs.staging.stage_moved.Goals as goal

pub stage-requires : goal.stage-requires
stage-requires c = moved-stageable c.requires

pub returns : goal.returns
returns c = moved-staged c.requires _ _ c.stage.auto.stream c.stage.ensures
