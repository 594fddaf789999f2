-- Positions of entries: where entries end grows with where they start and with what they hold.
use Prim.Native.Nat.{ℕ, ◌+◌, ◌*◌, ◌/◌, ◌%◌, ◌<◌, ◌≤◌}
use native.Mathlib.Omega.{arith}
use mathlib.Core.Path.{◌≡◌, refl}
use mathlib.Core.Bool.{Bool, true, false, cond}
use mathlib.Core.List.{List, [], ◌∷◌, ◌++◌}
use lib.Dec.{ltb}
use borrow.Author.Tests.{ltb-true, ltb-false}
use Rattle.blockfile.specs.Layout.{Entry, entries_from, lens_start, entry_end, entries_end, reached}
use Rattle.blockfile.specs.Order.{same, erase}

-- the lengths are at v, or at the start of the next page where 1 to 3 bytes are left
module _ (v : ℕ) {X : Type 0} where
  pub lens-cases : (v % 1016 ≤ 1012 → lens_start v ≡ v → X) → (1012 < v % 1016 → lens_start v ≡ (v / 1016 + 1) * 1016 → X) → X
  unfolding lens_start
  lens-cases f g = go (ltb 1012 (v % 1016)) refl f g
    where
      go : (b : Bool) → ltb 1012 (v % 1016) ≡ b → (v % 1016 ≤ 1012 → cond b ((v / 1016 + 1) * 1016) v ≡ v → X)
          → (1012 < v % 1016 → cond b ((v / 1016 + 1) * 1016) v ≡ (v / 1016 + 1) * 1016 → X) → X
      go true e f g = g (ltb-true 1012 (v % 1016) e) refl
      go false e f g = f (ltb-false 1012 (v % 1016) e) refl

pub lens-after : (v : ℕ) → v ≤ lens_start v
lens-after v = lens-cases v (λ l e. omega arith) (λ l e. omega arith)

pub lens-near : (v : ℕ) → lens_start v ≤ v + 3
lens-near v = lens-cases v (λ l e. omega arith) (λ l e. omega arith)

-- the four length bytes lie on one page
pub lens-on-page : (v : ℕ) → lens_start v % 1016 ≤ 1012
lens-on-page v = lens-cases v (λ l e. omega arith) (λ l e. omega arith)

pub lens-mono : (v w : ℕ) → v ≤ w → lens_start v ≤ lens_start w
lens-mono v w h =
    lens-cases v (λ l e. let k : w ≤ lens_start w = lens-after w in omega arith)
    (λ l e. lens-cases w (λ m f. omega arith) (λ m f. omega arith))

pub entries-after : (v : ℕ) (es : List Entry) → v ≤ entries_end v es
unfolding entry_end
entries-after v [] = omega arith
entries-after v (e ∷ es) =
    let k : v ≤ lens_start v = lens-after v in
    let i : entry_end v e ≤ entries_end (entry_end v e) es = entries-after (entry_end v e) es in
    omega arith

pub entries-mono : (v w : ℕ) (es : List Entry) → v ≤ w → entries_end v es ≤ entries_end w es
unfolding entry_end
entries-mono v w [] h = h
entries-mono v w (e ∷ es) h = entries-mono (entry_end v e) (entry_end w e) es (let k : lens_start v ≤ lens_start w = lens-mono v w h in omega arith)

pub entries-append : (v : ℕ) (es fs : List Entry) → entries_end v (es ++ fs) ≡ entries_end (entries_end v es) fs
entries-append v [] fs = refl
entries-append v (e ∷ es) fs = entries-append (entry_end v e) es fs

-- taking an entry out never makes the others reach further, page breaks included
pub reach-no-further : (v : ℕ) (es : List Entry) (e : Entry) (fs : List Entry) → entries_end v (es ++ fs) ≤ entries_end v (es ++ (e ∷ fs))
unfolding entry_end
reach-no-further v [] e fs = entries-mono v (entry_end v e) fs (let l : v ≤ lens_start v = lens-after v in omega arith)
reach-no-further v (x ∷ es) e fs = reach-no-further (entry_end v x) es e fs

-- so dropping a key does not
erase-end : (v : ℕ) (k : List ℕ) (es : List Entry) → entries_end v (erase k es) ≤ entries_end v es
erase-end v k [] = omega arith
erase-end v k (e ∷ es) = go (same k e.key) (erase-end (entry_end v e) k es)
  where
    go : (b : Bool) → entries_end (entry_end v e) (erase k es) ≤ entries_end (entry_end v e) es → entries_end v (cond b es (e ∷ erase k es)) ≤ entries_end v (e ∷ es)
    go true ih = reach-no-further v [] e es
    go false ih = ih

pub reached-mono : (a b : ℕ) → a ≤ b → (a + 1015) / 1016 ≤ (b + 1015) / 1016
reached-mono a b h = omega arith

pub erase-reached : (k : List ℕ) (es : List Entry) → reached (erase k es) ≤ reached es
unfolding reached
erase-reached k es = reached-mono _ _ (erase-end entries_from k es)

-- a span has at least its own page
pub reached-one : (es : List Entry) → 1 ≤ reached es
unfolding reached
reached-one es = let h : entries_from ≤ entries_end entries_from es = entries-after entries_from es in omega arith
