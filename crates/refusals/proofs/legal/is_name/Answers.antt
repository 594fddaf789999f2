use mathlib.Core.Path.{sym, ◌∙◌}
use Rattle.blockfile.specs.Order.{name_rule}
use Rattle.refusals.proofs.legal.is_name.Goals as goal

pub returns-then-is_within : goal.returns-then-is_within
unfolding name_rule
returns-then-is_within c = simp (sym c.is_within.ensures ∙ c.if-is_within.true, c.printable_bytes.ensures)

pub returns-else-is_within : goal.returns-else-is_within
unfolding name_rule
returns-else-is_within c = simp (c.is_within.ensures, sym c.is_within.ensures ∙ c.if-is_within.false)
