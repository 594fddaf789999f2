-- `spans::claims::claim_conts` meets its contract. Each turn claims a page, so unclaimed pages are the measure.
use Prim.Native.Nat.{ℕ}
use mathlib.Core.List.{List}
use Rattle.heads.specs.Claims.{Lent}
use Rattle.walks.specs.Found.{unclaimed}
use Rattle.spans.proofs.PageClaims.{Noting}
use Rattle.spans.proofs.claims.claim_conts.Given as goal

-- of every image whose heads the scratch has
abbrev pub invariant-loop-page : goal.invariant-loop-page
invariant-loop-page l = (img : List ℕ) → Lent img l.initial.scratch → Noting img l.initial.scratch l.start l.scratch l.chart l.page l.count

abbrev pub decreases-loop-page : goal.decreases-loop-page
decreases-loop-page l = unclaimed l.scratch
