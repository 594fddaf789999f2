-- `links::write::put_entries` meets its contract: the entries that were passed are written.
use Rattle.links.proofs.Written.{Entering}
use Rattle.links.proofs.write.put_entries.Given as goal

abbrev pub invariant-loop-i : goal.invariant-loop-i
invariant-loop-i l = Entering l.initial.image l.page l.nexts l.image l.i
