use native.Mathlib.Omega.{arith}
use Rattle.edit.proofs.Shapings.{none-fits, one-reached, conts-counted}
use Rattle.edit.proofs.shape.count_conts.Goals as goal

pub measure-ends-requires : goal.measure-ends-requires
measure-ends-requires c = (none-fits c.requires, omega arith)

pub overflow_sub-result : goal.overflow_sub-result
overflow_sub-result c = one-reached c.requires _ c.measure-ends.ensures c.div_ceil.ensures

pub returns : goal.returns
returns c = conts-counted c.requires _ c.measure-ends.ensures c.div_ceil.ensures
