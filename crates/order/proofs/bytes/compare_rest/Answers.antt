use native.Mathlib.Omega.{arith}
use Rattle.order.proofs.Alike.{alike-apart, alike-more, alike-ends, equal-numbers}
use Rattle.order.proofs.bytes.compare_rest.Goals as goal

pub loop-i-init : goal.loop-i-init
loop-i-init c = c.requires

pub bounds-x-i : goal.bounds-x-i
bounds-x-i c = omega (arith, c.loop-i.invariant.least.first)

pub bounds-y-i : goal.bounds-y-i
bounds-y-i c = omega (arith, c.loop-i.invariant.least.second)

pub returns-in_default : goal.returns-in_default
returns-in_default c = alike-apart c.loop-i.invariant c.loop-i-test.true c.cmp-order.ensures c.in_default.not-Equal

pub loop-i-preserved : goal.loop-i-preserved
loop-i-preserved c = alike-more c.loop-i.invariant c.loop-i-test.true (equal-numbers c.cmp-order.ensures c.in-Equal.is)

pub returns : goal.returns
returns c = alike-ends c.loop-i.invariant c.loop-i-test.false c.cmp.ensures
