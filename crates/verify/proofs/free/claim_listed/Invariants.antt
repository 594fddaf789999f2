use Rattle.verify.proofs.Frees.{Listing}
use Rattle.verify.proofs.free.claim_listed.Given as goal

abbrev pub invariant-loop-i : goal.invariant-loop-i
invariant-loop-i l = Listing l.image l.initial.scratch l.scratch l.page l.count l.i
