use mathlib.Core.Path.{◌∙◌}
use Rattle.edit.proofs.Tallness.{tower-ready, counts-ready, tall-written}
use Rattle.edit.proofs.apply.write_tall.Goals as goal

pub write_tower-requires : goal.write_tower-requires
write_tower-requires c = tower-ready c.requires _ _ c.number_at-page.ensures.is _ c.write_spans.auto.image

pub write_counts-requires : goal.write_counts-requires
write_counts-requires c = counts-ready c.requires _ (c.write_tower.auto.image ∙ c.write_spans.auto.image)

pub returns : goal.returns
returns c =
    tall-written c.args.after.now _ _ c.number_at-page.ensures.is c.number_at-span.ensures.is _ _ _ c.write_spans.ensures c.write_tower.ensures c.write_counts.ensures
