use native.Mathlib.Omega.{arith}
use Rattle.draw.proofs.Takes.{takeable, taking-start, taking-next}
use Rattle.draw.proofs.draw.take_pages.Goals as goal

pub take_page-page-requires : goal.take_page-page-requires
take_page-page-requires c = takeable _ (omega (arith, c.loop-i-test.true)) (c.loop-i.invariant.left c.requires.0).stock

pub loop-i-preserved : goal.loop-i-preserved
loop-i-preserved c = taking-next _ _ _ _ _ _ _ c.loop-i.invariant c.requires.0 c.loop-i-test.true _ _ c.take_page-page.ensures _ c.set_number.ensures

pub loop-i-init : goal.loop-i-init
loop-i-init c = taking-start _ _ _ _
