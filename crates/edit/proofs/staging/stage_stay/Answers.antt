use Rattle.edit.proofs.PartsStaged.{stay-stageable, stay-staged}
use Rattle.edit.proofs.staging.stage_stay.Goals as goal

pub stage-requires : goal.stage-requires
stage-requires c = stay-stageable c.requires _ c.start.ensures

pub returns : goal.returns
returns c = stay-staged c.requires _ c.start.ensures _ _ c.stage.auto.stream c.stage.ensures
