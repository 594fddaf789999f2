use mathlib.Core.Path.{refl}
use Rattle.links.proofs.Written.{entering-none, entering-more}
use Rattle.links.proofs.write.put_entries.Goals as goal

pub loop-i-preserved : goal.loop-i-preserved
loop-i-preserved c = entering-more c.loop-i.invariant c.loop-i-test.true _ refl _ c.put.ensures

pub loop-i-init : goal.loop-i-init
loop-i-init c = entering-none _ _ _
