-- `spans::entry::nth_page` meets its contract, for any image whose heads these are, link after link.
use Prim.Native.Nat.{ℕ, ◌+◌, ◌*◌, ◌/◌}
use mathlib.Core.List.{List}
use mathlib.Core.Path.{◌≡◌}
use Rattle.spans.specs.Charts.{along, Paged}
use Rattle.spans.proofs.entry.nth_page.Given as goal

abbrev pub invariant-loop : goal.invariant-loop
invariant-loop l = (img : List ℕ) (p : ℕ) → Paged l.scratch l.chart img p l.index → l.page ≡ along img p (16 * (l.index / 16) + l.counter)
