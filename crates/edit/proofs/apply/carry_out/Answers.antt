-- `edit::apply::carry_out` meets its contract, without a tower and with one.
use mathlib.Core.Path.{◌∙◌}
use Rattle.edit.proofs.Rewritings.{stage-ready, commit-ready, commit-on, carried-flat, carried-tall}
use Rattle.edit.proofs.apply.carry_out.Goals as goal

pub stage_parts-requires : goal.stage_parts-requires
stage_parts-requires c = stage-ready c.requires.ready

pub commit_flat-requires : goal.commit_flat-requires
commit_flat-requires c =
    let p = c.requires in
    (commit-ready p.ready _ c.stage_parts.auto.buffer c.stage_parts.ensures, c.if-plan-eq0.true)

pub returns-then-plan-eq0 : goal.returns-then-plan-eq0
returns-then-plan-eq0 c = carried-flat _ (c.stage_parts.auto.buffer ∙ c.requires.ready.lent) c.stage_parts.ensures _ c.commit_flat.ensures

pub commit_tall-requires : goal.commit_tall-requires
commit_tall-requires c =
    let p = c.requires in
    (commit-on p _ c.stage_parts.auto.buffer c.stage_parts.ensures, c.if-plan-eq0.false)

pub returns : goal.returns
returns c = carried-tall _ (c.stage_parts.auto.buffer ∙ c.requires.ready.lent) c.stage_parts.ensures _ c.commit_tall.ensures
