use Rattle.std.proofs.Common.{arith}
use Rattle.entries.proofs.Places.{going_start, going_next, going_end}
use Rattle.entries.proofs.place.forward.Goals as goal

pub loop-offset-init : goal.loop-offset-init
loop-offset-init c = going_start c.requires

pub loop-offset-preserved : goal.loop-offset-preserved
loop-offset-preserved c = going_next c.loop-offset.invariant c.loop-offset-test.true _ c.get-page.ensures.is

pub returns : goal.returns
returns c = going_end c.loop-offset.invariant c.loop-offset-test.false

pub get-page-requires : goal.get-page-requires
get-page-requires c = record { small = omega arith; low = omega arith; high = omega arith; fits = omega arith }
