use Rattle.edit.proofs.Plannings.{spans-stay, plain-spans, spans-split, split-spans}
use Rattle.edit.proofs.plan.write_spans.Goals as goal

pub write_stay-requires : goal.write_stay-requires
write_stay-requires c = spans-stay c.requires

pub returns-then-plan-eq0 : goal.returns-then-plan-eq0
returns-then-plan-eq0 c = plain-spans c.if-plan-eq0.true _ _ c.write_stay.ensures

pub write_split-requires : goal.write_split-requires
write_split-requires c = spans-split c.requires c.if-plan-eq0.false

pub returns : goal.returns
returns c = split-spans c.if-plan-eq0.false _ c.write_split.ensures
