use lib.Count.{trailing_le}
use native.Mathlib.Omega.{arith}
use Rattle.blockfile.specs.Put.{new_height}
use Rattle.edit.proofs.height.tower_height.Goals as goal

pub overflow_cast-zeros-2 : goal.overflow_cast-zeros-2
overflow_cast-zeros-2 c = omega (arith, trailing_le 32 c.args.m)

pub returns : goal.returns
unfolding new_height
returns c = c.min.ensures
