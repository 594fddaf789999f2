-- `edit::apply::carry_flat` meets its contract.
use mathlib.Core.Path.{◌∙◌}
use Rattle.edit.proofs.Rewritings.{stage-ready, commit-ready, carried}
use Rattle.edit.proofs.apply.carry_flat.Goals as goal

pub stage_parts-requires : goal.stage_parts-requires
stage_parts-requires c = stage-ready c.requires.0

pub commit_flat-requires : goal.commit_flat-requires
commit_flat-requires c =
    let p = c.requires in
    (commit-ready p.0 _ c.stage_parts.auto.buffer c.stage_parts.ensures, p.1)

pub returns : goal.returns
returns c = carried _ (c.stage_parts.auto.buffer ∙ c.requires.0.lent) c.stage_parts.ensures _ c.commit_flat.ensures
