-- `edit::tower::link_tower` meets its contract: the page stands at each level.
use mathlib.Core.Path.{ap, ◌∙◌}
use mathlib.Core.List.{List}
use Rattle.blockfile.specs.Bytes.{Write, apply}
use Rattle.edit.proofs.Risings.{links-on}
use Rattle.edit.proofs.tower.link_tower.Goals as goal

pub returns : goal.returns
returns c = c.link_levels.ensures ∙ ap (λ (ws : List Write). apply ws c.args.image.now) (links-on c.args.before.now _ _ c.requires.few)
