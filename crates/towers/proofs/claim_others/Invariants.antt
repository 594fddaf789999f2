-- `claim_others` meets its contract. The loop's invariant is `Climbing`; the measure is the pages that are not claimed.
use Rattle.walks.specs.Found.{unclaimed}
use Rattle.towers.proofs.Climbs.{Climbing}
use Rattle.towers.proofs.claim_others.Given as goal

abbrev pub invariant-loop-page : goal.invariant-loop-page
invariant-loop-page l = Climbing l.image l.initial.scratch l.head l.top l.start l.scratch l.levels l.next l.count l.page

abbrev pub decreases-loop-page : goal.decreases-loop-page
decreases-loop-page l = unclaimed l.scratch
