-- The list that a change makes: how long it is, and how it goes on from an index.
use Prim.Native.Nat.{ℕ, suc, ◌+◌, ◌-◌, ◌≤◌, ◌<◌}
use native.Mathlib.Omega.{arith}
use native.Mathlib.Nat.{add-zero}
use native.Mathlib.Numerals.{add-one}
use mathlib.Core.Path.{◌≡◌, ap, sym, ◌∙◌}
use mathlib.Core.Bool.{Bool, true, false}
use mathlib.Core.List.{List, [], ◌∷◌, ◌++◌, append_assoc}
use lib.ListN.{length, take, drop, get_or, length-append, length-drop, get_or-append}
use lib.Seq.{length-take-le, drop-cons, drop-drop, drop_at, drop-append-add, get_or-take, get_or-drop}
use Rattle.std.specs.Int.{from_bool}
use Rattle.blockfile.specs.Layout.{Entry}
use Rattle.stage.specs.declared.change.Change.{Change}
use Rattle.stage.specs.Changes.{spliced, Fits}

-- no entry or one
pub bit : (b : Bool) → from_bool b ≤ 1
bit true = omega arith
bit false = omega arith

-- a list from an index on that is in it
pub record FromOn (es : List Entry) (n : ℕ) : Type 0 where
  pub first : Entry
  pub is : drop n es ≡ first ∷ drop (n + 1) es

pub from_on : (es : List Entry) (n : ℕ) → n < length es → FromOn es n
from_on [] n h = absurd (omega arith)
from_on (e ∷ es) n h = record { first = get_or (e ∷ es) n e; is = rw (add-one n) (drop-cons (e ∷ es) n e h) }

module _ (c : Change) (e : Entry) (es : List Entry) (f : Fits c es) where
  before-long : length (take c.index es) ≡ c.index
  before-long = length-take-le c.index es (omega (arith, f.inside))

  new-long : length (take (from_bool c.adds) (e ∷ [])) ≡ from_bool c.adds
  new-long = length-take-le (from_bool c.adds) (e ∷ []) (bit c.adds)

  pub length-spliced : length (spliced c e es) + from_bool c.drops ≡ length es + from_bool c.adds
  unfolding spliced
  length-spliced = rw (length-append, length-append, before-long, new-long, length-drop) (omega (arith, f.inside))

  -- before the index the entries are the old ones
  pub splice-before : (i : ℕ) (x : Entry) (xs : List Entry) → i < c.index → drop i es ≡ x ∷ xs → drop i (spliced c e es) ≡ x ∷ drop (i + 1) (spliced c e es)
  unfolding spliced
  splice-before i x xs h q =
      let at : get_or (spliced c e es) i x ≡ x = get_or-append (take c.index es) _ x i (omega (arith, before-long)) ∙ get_or-take c.index es i x h
      ∙ ap (λ (j : ℕ). get_or es j x) (sym (add-zero i)) ∙ sym (get_or-drop i es 0 x) ∙ ap (λ (l : List Entry). get_or l 0 x) q in
      rw (add-one i) (drop-cons (spliced c e es) i x (omega (arith, length-spliced, f.inside)) ∙ ap (λ (y : Entry). y ∷ drop (suc i) (spliced c e es)) at)

  -- behind the entry that comes they are the old ones again
  pub splice-behind : (i old : ℕ) → c.index + from_bool c.adds ≤ i → old + from_bool c.adds ≡ i + from_bool c.drops → drop i (spliced c e es) ≡ drop old es
  unfolding spliced
  splice-behind i old h q =
      let front : List Entry = take c.index es ++ take (from_bool c.adds) (e ∷ []) in
      let long : length front ≡ c.index + from_bool c.adds = length-append (take c.index es) (take (from_bool c.adds) (e ∷ [])) ∙ omega (arith, before-long, new-long) in
      let sum : i ≡ length front + (i - (c.index + from_bool c.adds)) = omega arith in
      let on : c.index + from_bool c.drops + (i - (c.index + from_bool c.adds)) ≡ old = omega arith in
      ap (drop i) (sym (append_assoc (take c.index es) (take (from_bool c.adds) (e ∷ [])) (drop (c.index + from_bool c.drops) es)))
      ∙ ap (λ (n : ℕ). drop n (front ++ drop (c.index + from_bool c.drops) es)) sum
      ∙ drop-append-add front (drop (c.index + from_bool c.drops) es) (i - (c.index + from_bool c.adds))
      ∙ drop-drop (i - (c.index + from_bool c.adds)) (c.index + from_bool c.drops) es
      ∙ ap (λ (n : ℕ). drop n es) on

  -- the entry that comes
  pub splice-new : c.adds ≡ true → drop c.index (spliced c e es) ≡ e ∷ drop (c.index + 1) (spliced c e es)
  unfolding spliced
  splice-new a =
      let here : drop c.index (spliced c e es) ≡ take (from_bool c.adds) (e ∷ []) ++ drop (c.index + from_bool c.drops) es
      = drop_at (take c.index es) (take (from_bool c.adds) (e ∷ []) ++ drop (c.index + from_bool c.drops) es) c.index before-long in
      let one : from_bool c.adds ≡ 1 = ap from_bool a in
      here ∙ ap (λ (n : ℕ). take n (e ∷ []) ++ drop (c.index + from_bool c.drops) es) one
      ∙ ap (λ (l : List Entry). e ∷ l) (sym (splice-behind (c.index + 1) (c.index + from_bool c.drops) (omega arith) (omega arith)))

  -- an old entry at or behind the index, where none comes
  pub splice-old : (i old : ℕ) (x : Entry) → c.index + from_bool c.adds ≤ i → old + from_bool c.adds ≡ i + from_bool c.drops → drop old es ≡ x ∷ drop (old + 1) es
      → drop i (spliced c e es) ≡ x ∷ drop (i + 1) (spliced c e es)
  splice-old i old x h q o =
      splice-behind i old h q ∙ o ∙ ap (λ (l : List Entry). x ∷ l) (sym (splice-behind (i + 1) (old + 1) (omega arith) (omega arith)))
