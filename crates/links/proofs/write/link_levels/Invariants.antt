-- `links::write::link_levels` meets its contract: the levels that were passed are linked.
use Rattle.links.proofs.Written.{Linking}
use Rattle.links.proofs.write.link_levels.Given as goal

abbrev pub invariant-loop-level : goal.invariant-loop-level
invariant-loop-level l = Linking l.initial.image l.before l.values l.height l.image l.level
