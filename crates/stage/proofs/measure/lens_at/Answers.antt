-- `stage::measure::lens_at` meets its contract.
use native.Mathlib.Omega.{arith}
use Rattle.stage.proofs.Sections.{lens-over, lens-here}
use Rattle.stage.proofs.measure.lens_at.Goals as goal

pub returns-then-offset-gt1012 : goal.returns-then-offset-gt1012
returns-then-offset-gt1012 c = (lens-over _ c.if-offset-gt1012.true, omega arith, omega arith)

pub returns-else-offset-gt1012 : goal.returns-else-offset-gt1012
returns-else-offset-gt1012 c = (lens-here _ c.if-offset-gt1012.false, omega arith, omega arith)
