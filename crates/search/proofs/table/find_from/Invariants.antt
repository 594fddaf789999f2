-- `search::table::find_from` meets its contract: the walk stays at spans up to the target, and ends at the target.
use mathlib.Core.Path.{◌≡◌}
use Rattle.blockfile.specs.Bytes.{pg, be32}
use Rattle.search.specs.Tables.{ReadingBy}
use Rattle.search.specs.Paths.{Started}
use Rattle.search.proofs.Distinct.{steps}
use Rattle.search.proofs.table.find_from.Given as goal

abbrev pub invariant-loop-next : goal.invariant-loop-next
invariant-loop-next l = ((x : ReadingBy l.image l.fn.table) → Started x.of l.key l.page) × (l.next ≡ be32 (pg l.image l.page) 12)

-- the spans that are left
abbrev pub decreases-loop-next : goal.decreases-loop-next
decreases-loop-next l = steps l.image (be32 (pg l.image l.fn.table.root) 20) l.page
