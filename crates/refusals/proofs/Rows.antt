-- The lowest of two lists of rows.
use Prim.Native.Nat.{ℕ}
use native.Mathlib.Omega.{arith}
use mathlib.Core.Path.{◌≡◌, refl}
use mathlib.Core.List.{List, [], ◌∷◌, ◌++◌}
use mathlib.Core.Option.{none, some}
use mathlib.Core.Bool.{Bool, true, false, cond}
use Rattle.blockfile.specs.declared.Refusal.{Refusal}
use Rattle.blockfile.specs.Refusals.{lowest}

pub lowest-first : (xs ys : List (Bool × Refusal)) (f : Refusal) → lowest xs ≡ some f → lowest (xs ++ ys) ≡ some f
lowest-first [] ys f e = absurd (let z : ◌≡◌ {A = ℕ} 0 1 = cc in omega arith)
lowest-first (x ∷ xs) ys f e = go x.0 e (lowest-first xs ys f)
  where
    go : (b : Bool) → cond b (some x.1) (lowest xs) ≡ some f → (lowest xs ≡ some f → lowest (xs ++ ys) ≡ some f)
        → cond b (some x.1) (lowest (xs ++ ys)) ≡ some f
    go true e more = e
    go false e more = more e

pub lowest-later : (xs ys : List (Bool × Refusal)) → lowest xs ≡ none → lowest (xs ++ ys) ≡ lowest ys
lowest-later [] ys e = refl
lowest-later (x ∷ xs) ys e = go x.0 e (lowest-later xs ys)
  where
    go : (b : Bool) → cond b (some x.1) (lowest xs) ≡ none → (lowest xs ≡ none → lowest (xs ++ ys) ≡ lowest ys)
        → cond b (some x.1) (lowest (xs ++ ys)) ≡ lowest ys
    go true e more = absurd (let z : ◌≡◌ {A = ℕ} 0 1 = cc in omega arith)
    go false e more = more e

pub lowest-none : (x : Bool × Refusal) (xs : List (Bool × Refusal)) → lowest (x ∷ xs) ≡ none → (x.0 ≡ false) × (lowest xs ≡ none)
lowest-none x xs e = go x.0 e
  where
    go : (b : Bool) → cond b (some x.1) (lowest xs) ≡ none → (b ≡ false) × (lowest xs ≡ none)
    go true e = absurd (let z : ◌≡◌ {A = ℕ} 0 1 = cc in omega arith)
    go false e = (refl, e)
