-- `links::around::towers_after` meets its contract: the levels that were passed are entries of the last towers.
use Prim.Native.Nat.{◌≤◌}
use Rattle.std.specs.Prelude.{replicate}
use Rattle.search.specs.Paths.{Filled}
use Rattle.links.proofs.Behind.{entry_of}
use Rattle.links.proofs.around.towers_after.Given as goal

abbrev pub invariant-loop-i : goal.invariant-loop-i
invariant-loop-i l = (l.height ≤ 252) × Filled (replicate 252 0) l.i (entry_of l.image l.before) l.after
