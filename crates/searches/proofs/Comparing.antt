-- A key copied to a buffer.
use Rattle.std.proofs.Common.{◌≡◌, ℕ, ◌≤◌, Bool, true, false, cond, not, ltb, List, [], length, arith, ltb-false}
use mathlib.Core.Option.{Option, none, some, get_or}
use Rattle.blockfile.specs.declared.Refusal.{Refusal}
use Rattle.blockfile.specs.declared.Refusal.TheVariants.{NoKey, BufferShort}
use Rattle.std.specs.Prelude.{Result, Ok, Err, IfOk}
use Rattle.blockfile.specs.Order.{there}
use Rattle.refusals.specs.Answer.{Hands}

-- what the answer buffer holds fits it
pub hands-fit : (o : Option (List ℕ)) (old : List ℕ) (r : Result ℕ Refusal) (new : List ℕ) → Hands o old r new → IfOk r (λ m. m ≤ length old)
hands-fit o old (Err f) new h = tt
hands-fit o old (Ok m) new h =
    let n : ℕ = length (get_or o []) in
    omega (arith, h.1, ltb-false (length old) n (second (not (there o)) (ltb (length old) n) NoKey (BufferShort n) h.0))
  where
    second : (a b : Bool) (x y : Refusal) → cond a (some x) (cond b (some y) none) ≡ none → b ≡ false
    second true b x y q = absurd (let z : ◌≡◌ {A = ℕ} 0 1 = cc in omega arith)
    second false true x y q = absurd (let z : ◌≡◌ {A = ℕ} 0 1 = cc in omega arith)
    second false false x y q = cc
