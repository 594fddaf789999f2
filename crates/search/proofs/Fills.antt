-- Levels filled one after another.
use Prim.Native.Nat.{ℕ, ◌+◌, ◌<◌}
use native.Mathlib.Omega.{arith}
use native.Mathlib.Decide.{dec_lt}
use mathlib.Core.Path.{◌≡◌, refl, ◌∙◌}
use mathlib.Core.Logic.{by_cases}
use mathlib.Core.List.{List}
use lib.ListN.{length, set, length-set}
use lib.Seq.{get_or-set_same, get_or-set_other}
use Rattle.search.specs.Paths.{Filled}

pub fill_none : (levels : List ℕ) (f : ℕ → ℕ) → Filled levels 0 f levels
fill_none levels f = record { long = refl; below = λ l b. absurd (omega arith); above = λ l b. refl }

pub fill_more : {levels out : List ℕ} {h : ℕ} {f : ℕ → ℕ} → Filled levels h f out → h < length out → (v : ℕ) → v ≡ f h → Filled levels (h + 1) f (set out h v)
fill_more {levels} {out} {h} {f} d room v e =
    record {
      long = length-set out h v ∙ d.long;
      below = λ l b. by_cases (dec_lt l h) (λ a. get_or-set_other out h l v 0 (omega arith) ∙ d.below l a)
          (λ a. let here : l ≡ h = omega arith in rw here (get_or-set_same out h v 0 room ∙ e));
      above = λ l b. get_or-set_other out h l v 0 (omega arith) ∙ d.above l (omega arith);
    }
