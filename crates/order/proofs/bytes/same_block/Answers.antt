use native.Mathlib.Omega.{arith}
use mathlib.Core.Path.{◌≡◌}
use borrow.Author.Tests.{eqb-true}
use Rattle.order.proofs.Alike.{same_none, same_turn}
use Rattle.order.proofs.bytes.same_block.Goals as goal

pub loop-i-init : goal.loop-i-init
loop-i-init c = λ e. same_none (omega arith)

pub loop-i-preserved : goal.loop-i-preserved
loop-i-preserved c = λ e. same_turn c.loop-i.invariant (omega arith) e

pub returns : goal.returns
returns c = λ e. let is : c.loop-i.i ≡ 64 = omega arith in rw (← is) (c.loop-i.invariant (eqb-true _ _ e))
