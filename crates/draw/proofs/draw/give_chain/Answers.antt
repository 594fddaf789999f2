use native.Mathlib.Omega.{arith}
use Rattle.draw.proofs.Gives.{give-inside, giveable, giving-start, given-few, giving-next, giving-less, giving-end}
use Rattle.draw.proofs.draw.give_chain.Goals as goal

pub get-next-requires : goal.get-next-requires
get-next-requires c = give-inside (c.loop-page.invariant.left c.requires).chain c.loop-page-test.true 4 4 (omega arith)

pub give_page-requires : goal.give_page-requires
give_page-requires c = giveable (c.loop-page.invariant.left c.requires).chain c.loop-page-test.true

pub overflow_add-given : goal.overflow_add-given
overflow_add-given c = omega (arith, given-few c.loop-page.invariant c.requires)

pub loop-page-smaller : goal.loop-page-smaller
loop-page-smaller c = giving-less c.loop-page.invariant c.requires c.loop-page-test.true _ c.get-next.ensures.is _ c.give_page.ensures

pub loop-page-preserved : goal.loop-page-preserved
loop-page-preserved c = giving-next c.loop-page.invariant c.requires c.loop-page-test.true _ c.get-next.ensures.is _ c.give_page.ensures

pub loop-page-init : goal.loop-page-init
loop-page-init c = giving-start _ _

pub returns : goal.returns
returns c = giving-end c.loop-page.invariant c.loop-page-test.false
