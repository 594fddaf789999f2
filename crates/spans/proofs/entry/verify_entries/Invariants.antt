-- `spans::entry::verify_entries` meets its contract: entries read by their prefixes, then the one that was left.
use Prim.Native.Nat.{◌-◌, ◌≤◌}
use Rattle.spans.specs.Charts.{Spread}
use Rattle.spans.proofs.Runs.{Walking}
use Rattle.spans.proofs.entry.verify_entries.Given as goal

abbrev pub invariant-loop-i : goal.invariant-loop-i
invariant-loop-i l = Walking l.sort l.pages.image.now l.initial.here.at l.initial.here.last l.here.at l.here.left l.here.last l.i × (l.i ≤ l.size) × Spread l.pages.image.now l.pages.chart.now l.pages.more l.here.at l.here.left × (l.run ≤ l.size - l.i)

abbrev pub decreases-loop-i : goal.decreases-loop-i
decreases-loop-i l = l.size - l.i
