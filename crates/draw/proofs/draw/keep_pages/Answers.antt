use native.Mathlib.Omega.{arith}
use Rattle.draw.proofs.Keeps.{keeping-inside, keeping-next, keeping-end}
use Rattle.draw.proofs.draw.keep_pages.Goals as goal

pub get-next-requires : goal.get-next-requires
get-next-requires c = keeping-inside _ _ _ _ _ _ _ _ c.loop-count.invariant c.requires.0 c.if-next-ne0.true

pub loop-count-preserved : goal.loop-count-preserved
loop-count-preserved c = keeping-next _ _ _ _ _ _ _ _ c.loop-count.invariant c.loop-count-test.true c.if-next-ne0.true _ c.set_number.ensures _ c.get-next.ensures.is

pub returns-else-next-ne0 : goal.returns-else-next-ne0
returns-else-next-ne0 c = keeping-end _ _ _ _ _ _ _ _ c.loop-count.invariant (λ l. c.if-next-ne0.false)

pub returns-after-loop-count : goal.returns-after-loop-count
returns-after-loop-count c = keeping-end _ _ _ _ _ _ _ _ c.loop-count.invariant (λ l. absurd (omega (arith, c.loop-count-test.false)))
