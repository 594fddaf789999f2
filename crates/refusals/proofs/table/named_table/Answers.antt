use mathlib.Core.Path.{sym, ◌∙◌}
use Rattle.refusals.proofs.Tables.{bad-key, bad-name, long-value, known}
use Rattle.refusals.proofs.table.named_table.Goals as goal
use Rattle.refusals.proofs.table.named_table.Goals.{then-not-legal-via-then-not-legal, then-not-legal-via-else-not-legal+then-not-is_name}

pub returns-then-not-legal : goal.returns-then-not-legal
returns-then-not-legal c =
    elim c.then-not-legal.branch [
      | then-not-legal-via-then-not-legal w ↦ bad-key _ _ _ _ w.if-not-legal.true
      | then-not-legal-via-else-not-legal+then-not-is_name w ↦ bad-name _ _ _ _ (sym w.is_name.ensures ∙ w.if-not-is_name.true)
    ]

pub returns-then-not-short : goal.returns-then-not-short
returns-then-not-short c = long-value _ _ _ _ c.if-not-legal.false (sym c.is_name.ensures ∙ c.if-not-is_name.false) c.if-not-short.true

pub returns : goal.returns
returns c = rw c.ok_or.ensures.value (known _ _ _ _ c.if-not-legal.false (sym c.is_name.ensures ∙ c.if-not-is_name.false) c.if-not-short.false _ c.find_table.ensures)
