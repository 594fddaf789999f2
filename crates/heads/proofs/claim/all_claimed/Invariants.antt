-- `heads::claim::all_claimed` meets its contract. The loop's invariant: the pages passed are all claimed.
use Prim.Native.Nat.{ℕ, ◌*◌, ◌<◌}
use mathlib.Core.Path.{◌≡◌}
use lib.ListN.{get_or}
use Rattle.heads.proofs.claim.all_claimed.Given as goal

abbrev pub invariant-loop-i : goal.invariant-loop-i
invariant-loop-i l = (k : ℕ) → k < l.i → get_or l.scratch (16 * k) 0 ≡ 0
