-- `entries::place::step` meets its contract.
use Rattle.std.proofs.Common.{refl, arith}
use Rattle.entries.proofs.Places.{step-enough, step-done}
use Rattle.entries.proofs.place.step.Goals as goal

pub settle-here-requires : goal.settle-here-requires
settle-here-requires c = (omega arith, omega arith, step-enough c.requires)

pub returns : goal.returns
returns c = step-done c.requires _ c.settle-here.ensures _ refl
