-- `spans::entry::above_number` meets its contract.
use native.Mathlib.Omega.{arith}
use Rattle.spans.proofs.Runs.{number-above}
use Rattle.spans.proofs.entry.above_number.Goals as goal

pub returns-else-last-eq0 : goal.returns-else-last-eq0
returns-else-last-eq0 c =
    number-above (λ i. omega (arith, c.type_inv.image i)) (omega arith) c.requires.0 c.if-last-eq0.false c.number.ensures c.number-else-last-eq0.ensures
    c.turned.ensures c.turned-else-last-eq0.ensures
