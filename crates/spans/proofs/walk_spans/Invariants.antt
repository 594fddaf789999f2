-- `spans::walk_spans` meets its contract. Each span claims a page, so unclaimed pages are the measure.
use Rattle.walks.specs.Found.{unclaimed}
use Rattle.spans.proofs.Tables.{Counting}
use Rattle.spans.proofs.walk_spans.Given as goal

abbrev pub invariant-loop-span : goal.invariant-loop-span
invariant-loop-span l = Counting l.rules.sort l.image l.rules.most l.initial.scratch l.start l.scratch l.page l.previous l.last l.keys l.spans

abbrev pub decreases-loop-span : goal.decreases-loop-span
decreases-loop-span l = unclaimed l.scratch
