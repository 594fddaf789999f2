-- `verify_free` meets its contract. The loop's invariant is `Freeing`; the measure is the pages that are not claimed.
use Rattle.walks.specs.Found.{unclaimed}
use Rattle.verify.proofs.Frees.{Freeing}
use Rattle.verify.proofs.free.verify_free.Given as goal

abbrev pub invariant-loop-page : goal.invariant-loop-page
invariant-loop-page l = Freeing l.image l.initial.scratch l.start l.scratch l.page l.free

abbrev pub decreases-loop-page : goal.decreases-loop-page
decreases-loop-page l = unclaimed l.scratch
