-- `heads::claim::copy_heads` meets its contract, page by page.
use Prim.Native.Nat.{◌/◌}
use mathlib.Core.Path.{◌≡◌}
use lib.ListN.{length}
use Rattle.heads.proofs.Claims.{Heading}
use Rattle.heads.proofs.claim.copy_heads.Given as goal

abbrev pub invariant-loop-index : goal.invariant-loop-index
invariant-loop-index l = (l.pages ≡ length l.initial.scratch / 20) × Heading l.image l.initial.scratch l.scratch l.index
