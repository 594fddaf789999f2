-- `search::span::seek` meets its contract: it keeps in step with the entries of every span that is on the page.
use Rattle.search.specs.Spans.{SpanBy}
use Rattle.search.proofs.Seeks.{Seeking}
use Rattle.search.proofs.span.seek.Given as goal

abbrev pub invariant-loop-left : goal.invariant-loop-left
invariant-loop-left l = (x : SpanBy l.image l.page l.sort) → Seeking l.image x.on.rule l.key x.on.linked.span.entries l.at l.left

abbrev pub decreases-loop-left : goal.decreases-loop-left
decreases-loop-left l = l.left
