-- `draw::draw::give_chain` meets its contract. The loop's invariant is `Giving`; the measure is the number of pages from here on.
use lib.ListN.{length}
use Rattle.blockfile.specs.Bytes.{pg}
use Rattle.draw.proofs.Chains.{pages_from}
use Rattle.draw.proofs.Gives.{Giving}
use Rattle.draw.proofs.draw.give_chain.Given as goal

abbrev pub invariant-loop-page : goal.invariant-loop-page
invariant-loop-page l = Giving l.initial.image l.first l.image l.page l.given

abbrev pub decreases-loop-page : goal.decreases-loop-page
decreases-loop-page l = pages_from (pg l.image) (length l.image) l.page
