-- The promise of a call of C, from that of the call and the numbers of the answer.
use Prim.Native.Nat.{ℕ}
use mathlib.Core.Path.{sym, subst}
use mathlib.Core.List.{List}
use Rattle.blockfile.specs.Refusals.{Op, Reply}
use Rattle.blockfile.specs.Calls.{Keeps}
use Rattle.calstore.specs.declared.Answer.{Answer}
use Rattle.calstore.specs.Answers.{Bears, Answers}

module _ (op : Op) (img s b : List ℕ) (img' s' b' : List ℕ) where
  pub answers : (reply : Reply) (a : Answer) → Keeps op img s b reply img' s' b' → Bears reply a → Answers op img s b a img' s' b'
  answers reply a k h =
      record { keeps = subst (λ (r : Reply). Keeps op img s b r img' s' b') (sym h.numbers) k; page = h.page }
