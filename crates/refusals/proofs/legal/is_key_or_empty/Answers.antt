use mathlib.Core.Path.{sym, ◌∙◌}
use Rattle.refusals.proofs.Keys.{same-empty}
use Rattle.refusals.proofs.legal.is_key_or_empty.Goals as goal

pub returns-else-is_empty : goal.returns-else-is_empty
returns-else-is_empty c = rw (same-empty c.args.key.now, sym c.is_empty.ensures ∙ c.if-is_empty.false) c.is_key.ensures
