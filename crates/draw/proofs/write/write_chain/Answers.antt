use native.Mathlib.Omega.{arith}
use Rattle.draw.proofs.Writes.{writing_start, writing-inside, writing-next}
use Rattle.draw.proofs.write.write_chain.Goals as goal

pub put_page-requires : goal.put_page-requires
put_page-requires c =
    let v = c.loop-i.invariant in
    let w = c.requires in
    (v.four, writing-inside _ _ _ _ _ _ _ _ _ v w c.loop-i-test.true, omega arith)

pub loop-i-preserved : goal.loop-i-preserved
loop-i-preserved c = writing-next _ _ _ _ _ _ _ _ _ c.loop-i.invariant c.loop-i-test.true _ c.first_at-next.ensures _ c.put_page.ensures

pub loop-i-init : goal.loop-i-init
loop-i-init c = writing_start _ _ _ _ _ _ c.first_at-page.ensures
