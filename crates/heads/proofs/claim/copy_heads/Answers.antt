use native.Mathlib.Omega.{arith}
use mathlib.Core.Path.{refl}
use Rattle.heads.proofs.Claims.{heading-none, heading-more, heading-room, heading-all}
use Rattle.heads.proofs.claim.copy_heads.Goals as goal

pub copy_head-requires : goal.copy_head-requires
copy_head-requires c = (heading-room c.loop-index.invariant.1 c.requires, omega (arith, c.loop-index.invariant.1.long, c.loop-index-test.true))

pub loop-index-preserved : goal.loop-index-preserved
loop-index-preserved c = (refl, heading-more c.loop-index.invariant.1 c.copy_head.ensures)

pub returns : goal.returns
returns c = heading-all c.loop-index.invariant.1 c.requires c.loop-index-test.false

pub loop-index-init : goal.loop-index-init
loop-index-init c = (refl, heading-none _ _)

pub shape_of-scratch : goal.shape_of-scratch
shape_of-scratch c = c.loop-index.invariant.1.long
