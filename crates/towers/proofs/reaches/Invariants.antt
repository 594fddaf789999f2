-- `reaches` meets its contract, for any image whose heads these are. The loop's invariant is `Reaching`; the measure is the number of
-- spans from here on.
use mathlib.Core.List.{List}
use Prim.Native.Nat.{ℕ}
use lib.ListN.{length}
use Rattle.heads.specs.Claims.{Lent}
use Rattle.towers.specs.Climb.{Linked}
use Rattle.towers.proofs.Ways.{steps, Reaching}
use Rattle.towers.proofs.reaches.Given as goal

abbrev pub invariant-loop-span : goal.invariant-loop-span
invariant-loop-span l = (img : List ℕ) → Lent img l.scratch → Linked img l.start → Reaching img l.start l.target l.span

abbrev pub decreases-loop-span : goal.decreases-loop-span
decreases-loop-span l = steps l.scratch (length l.scratch) l.span
