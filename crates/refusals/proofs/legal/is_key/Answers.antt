use mathlib.Core.Path.{sym, ◌∙◌}
use Rattle.refusals.proofs.legal.is_key.Goals as goal

pub returns : goal.returns
returns c = c.is_within.ensures ∙ sym (c.lengths_of-lengths.ensures.is _)
