use native.Mathlib.Omega.{arith}
use Rattle.spans.proofs.Runs.{skimming-start, skimming-enough, skimming-more}
use Rattle.spans.proofs.entry.pass.Goals as goal

pub loop-init : goal.loop-init
loop-init c = (skimming-start c.requires, omega arith)

pub try_entry-requires : goal.try_entry-requires
try_entry-requires c = (skimming-enough c.loop.invariant.0, c.lengths_of-allowed.ensures)

pub loop-preserved : goal.loop-preserved
loop-preserved c = (skimming-more c.loop.invariant.0 c.try_entry.ensures c.in-Some.is, omega arith)
