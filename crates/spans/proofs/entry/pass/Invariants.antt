-- `spans::entry::pass` meets its contract: entries passed on one page.
use Prim.Native.Nat.{◌≤◌}
use Rattle.spans.specs.Entries.{Skimming}
use Rattle.spans.proofs.entry.pass.Given as goal

abbrev pub invariant-loop : goal.invariant-loop
invariant-loop l = Skimming l.sort l.image l.fn.from.at l.fn.from.left l.fn.from.last l.passed × (l.passed.count ≤ l.counter)
