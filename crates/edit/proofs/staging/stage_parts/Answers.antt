use Rattle.edit.proofs.PartsStaged.{parts-moved, only-stay, both-staged}
use Rattle.edit.proofs.staging.stage_parts.Goals as goal

pub returns-then-plan-eq0 : goal.returns-then-plan-eq0
returns-then-plan-eq0 c = only-stay c.if-plan-eq0.true _ _ c.stage_stay-cursor.ensures

pub stage_moved-requires : goal.stage_moved-requires
stage_moved-requires c = parts-moved c.requires c.if-plan-eq0.false _ _ c.stage_stay-cursor.auto.buffer c.stage_stay-cursor.ensures

pub returns : goal.returns
returns c = both-staged c.requires _ _ _ c.stage_stay-cursor.auto.buffer c.stage_moved.auto.buffer c.stage_stay-cursor.ensures c.stage_moved.ensures
