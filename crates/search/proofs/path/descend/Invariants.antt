-- `search::path::descend` meets its contract: it keeps in step with the towers of every table that has the skip-list page.
use Prim.Native.Nat.{◌+◌}
use Rattle.search.specs.Tables.{ReadingBy}
use Rattle.search.specs.Paths.{Refused}
use Rattle.search.proofs.Descents.{Going, Noted}
use Rattle.search.proofs.path.descend.Given as goal

abbrev pub invariant-loop-level : goal.invariant-loop-level
invariant-loop-level l = ((x : ReadingBy l.image (record { root = l.root; sort = l.bound.sort })) → Going x l.key l.bound.strict l.tower l.level l.left × Noted x l.key l.bound.strict l.height l.level l.pages)
    × Refused l.image l.bound l.key l.refused

-- the levels below, and the spans that are left
abbrev pub decreases-loop-level : goal.decreases-loop-level
decreases-loop-level l = l.level + l.left
