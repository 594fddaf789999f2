use mathlib.Core.Path.{sym, ◌∙◌}
use Rattle.blockfile.specs.Calls.{length_ok}
use Rattle.refusals.proofs.open.is_length.Goals as goal

pub returns-then-is_within : goal.returns-then-is_within
unfolding length_ok
returns-then-is_within c = simp (sym c.is_within.ensures ∙ c.if-is_within.true)

pub returns-else-is_within : goal.returns-else-is_within
unfolding length_ok
returns-else-is_within c = simp (c.is_within.ensures, sym c.is_within.ensures ∙ c.if-is_within.false)
