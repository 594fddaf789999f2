-- `links::around::towers_before` meets its contract: the levels that were passed are the path's, or the head.
use lib.ListN.{get_or}
use Rattle.std.specs.Prelude.{replicate}
use Rattle.search.specs.Paths.{Filled}
use Rattle.links.specs.Levels.{page_or_head}
use Rattle.links.proofs.around.towers_before.Given as goal

abbrev pub invariant-loop-i : goal.invariant-loop-i
invariant-loop-i l = Filled (replicate 252 0) l.i (λ k. page_or_head l.head (get_or l.path k 0)) l.before
