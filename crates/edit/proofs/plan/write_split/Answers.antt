use mathlib.Core.Path.{◌∙◌}
use Rattle.edit.proofs.Plannings.{split-stay, split-moved, split-last, split-follows, follows-inside}
use Rattle.edit.proofs.plan.write_split.Goals as goal

pub write_stay-requires : goal.write_stay-requires
write_stay-requires c = split-stay c.requires

pub write_moved-requires : goal.write_moved-requires
write_moved-requires c = split-moved c.requires _ _ _ c.write_stay.auto.image c.write_stay.ensures

pub put-requires : goal.put-requires
put-requires c = follows-inside c.requires c.if-next-ne0.true _ (c.write_moved.auto.image ∙ c.write_stay.auto.image)

pub returns-then-next-ne0 : goal.returns-then-next-ne0
returns-then-next-ne0 c =
    split-follows _ c.number_at-new.ensures.is _ _ _ c.write_stay.auto.image c.write_stay.ensures c.write_moved.ensures c.if-next-ne0.true _ c.put.ensures

pub returns-else-next-ne0 : goal.returns-else-next-ne0
returns-else-next-ne0 c = split-last _ c.number_at-new.ensures.is _ _ _ c.write_stay.auto.image c.write_stay.ensures c.write_moved.ensures c.if-next-ne0.false
