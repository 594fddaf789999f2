-- `pages::free::taken_after` meets its contract. The loop's invariant is `Skips`.
use Rattle.pages.proofs.Skips.{Skips}
use Rattle.pages.proofs.free.taken_after.Given as goal

abbrev pub invariant-loop-count : goal.invariant-loop-count
invariant-loop-count l = Skips l.image l.skip l.block l.count l.left

abbrev pub decreases-loop-count : goal.decreases-loop-count
decreases-loop-count l = l.left
