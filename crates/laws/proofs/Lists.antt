-- Runs of stores, and lists that agree over some bytes.
use Prim.Native.Nat.{ℕ, zero, suc, ◌+◌, ◌<◌, ◌≤◌}
use native.Mathlib.Omega.{arith}
use native.Mathlib.Nat.{add-suc, suc-add, add-zero, zero-add}
use native.Mathlib.Numerals.{add-one}
use mathlib.Core.Path.{◌≡◌, refl, ap, sym, ◌∙◌}
use mathlib.Core.Logic.{inl, inr}
use mathlib.Core.List.{List, [], ◌∷◌, ◌++◌, append-nil}
use lib.ListN.{length, get_or, take, drop, set, length-take, length-set, drop_of_length-le, get_or-append}
use lib.Seq.{sets, sets-eq, take-suc, take-set-le, take-set-lt, take-append-le, drop-set-add, get_or-take, get_or-set_same, get_or-set_other, get_or-append-add, ext_get_or}
use Rattle.laws.specs.Lists.{Apart, Agree}

module _ {A : Type 0} where
  pub sets-append : (xs ys l : List A) (i : ℕ) → sets l i (xs ++ ys) ≡ sets (sets l i xs) (i + length xs) ys
  sets-append [] ys l i = rw add-zero
  sets-append (x ∷ xs) ys l i = rw (add-suc, ← suc-add i (length xs)) (sets-append xs ys (set l i x) (suc i))

  -- a turn of a loop that stores bs from index a on
  pub sets-turn : (l bs : List A) (a i : ℕ) (d : A) → i < length bs → set (sets l a (take i bs)) (a + i) (get_or bs i d) ≡ sets l a (take (i + 1) bs)
  sets-turn l bs a i d h =
      let n : length (take i bs) ≡ i = rw length-take (omega arith) in
      sym (rw (add-one i, take-suc bs i d h, sets-append (take i bs) (get_or bs i d ∷ []) l a, n))

  -- the whole list stored anew
  pub sets-whole : (vs l : List A) → length vs ≡ length l → sets l 0 vs ≡ vs
  sets-whole vs l e =
      let past : length l ≤ 0 + length vs = omega arith in
      sets-eq vs l 0 (omega arith) ∙ ap (λ (r : List A). vs ++ r) (drop_of_length-le l past) ∙ append-nil vs

  pub take-sets-in : (vs l : List A) (i n : ℕ) → i + length vs ≤ n → take n (sets l i vs) ≡ sets (take n l) i vs
  take-sets-in [] l i n h = refl
  take-sets-in (v ∷ vs) l i n h =
      take-sets-in vs (set l i v) (suc i) n (omega arith) ∙ ap (λ (r : List A). sets r (suc i) vs) (take-set-lt n l i v (omega arith))

  pub drop-sets : (vs l : List A) (n i : ℕ) → drop n (sets l (n + i) vs) ≡ sets (drop n l) i vs
  drop-sets [] l n i = refl
  drop-sets (v ∷ vs) l n i = rw (← add-suc n i) (drop-sets vs (set l (n + i) v) n (suc i) ∙ ap (λ (r : List A). sets r (suc i) vs) (drop-set-add n l i v))

  -- the list before a run of stores, and from one on that covers it
  pub take-sets-before : (vs l : List A) (i n : ℕ) → n ≤ i → take n (sets l i vs) ≡ take n l
  take-sets-before [] l i n h = refl
  take-sets-before (v ∷ vs) l i n h = take-sets-before vs (set l i v) (suc i) n (omega arith) ∙ take-set-le n l i v h

  pub take-sets-start : (vs l : List A) (n : ℕ) → n ≤ length vs → length vs ≤ length l → take n (sets l 0 vs) ≡ take n vs
  take-sets-start vs l n h f = ap (take n) (sets-eq vs l 0 (omega arith)) ∙ take-append-le n vs (drop (0 + length vs) l) h

-- ---- elements after a run of stores

sets-before : (vs l : List ℕ) (i j : ℕ) → j < i → get_or (sets l i vs) j 0 ≡ get_or l j 0
sets-before [] l i j h = refl
sets-before (v ∷ vs) l i j h = sets-before vs (set l i v) (suc i) j (omega arith) ∙ get_or-set_other l i j v 0 (omega arith)

sets-after : (vs l : List ℕ) (i j : ℕ) → i + length vs ≤ j → get_or (sets l i vs) j 0 ≡ get_or l j 0
sets-after [] l i j h = refl
sets-after (v ∷ vs) l i j h = sets-after vs (set l i v) (suc i) j (omega arith) ∙ get_or-set_other l i j v 0 (omega arith)

sets-at : (vs l : List ℕ) (i k : ℕ) → k < length vs → i + length vs ≤ length l → get_or (sets l i vs) (i + k) 0 ≡ get_or vs k 0
sets-at [] l i k h f = absurd (omega arith)
sets-at (v ∷ vs) l i zero h f = rw add-zero (sets-before vs (set l i v) (suc i) i (omega arith) ∙ get_or-set_same l i v 0 (omega arith))
sets-at (v ∷ vs) l i (suc k) h f = rw (add-suc, ← suc-add i k) (sets-at vs (set l i v) (suc i) k (omega arith) (simp length-set (omega arith)))

-- ---- where lists agree

-- off a run of stores, and in it
pub agree-off : (w : ℕ) (vs l : List ℕ) (o a : ℕ) → Apart a w o (length vs) → Agree w (sets l o vs) a l a
agree-off w vs l o a (inl h) k q = sets-before vs l o (a + k) (omega arith)
agree-off w vs l o a (inr h) k q = sets-after vs l o (a + k) (omega arith)

pub agree-in : (w : ℕ) (vs l : List ℕ) (o i : ℕ) → i + w ≤ length vs → o + length vs ≤ length l → Agree w (sets l o vs) (o + i) vs i
agree-in w vs l o i h f k q =
    let e : o + i + k ≡ o + (i + k) = omega arith in
    rw e (sets-at vs l o (i + k) (omega arith) f)

-- in the first and in the second of two lists
pub agree_left : (w : ℕ) (xs ys : List ℕ) (i : ℕ) → i + w ≤ length xs → Agree w (xs ++ ys) i xs i
agree_left w xs ys i h k q = get_or-append xs ys 0 (i + k) (omega arith)

pub agree_right : (w : ℕ) (xs ys : List ℕ) (n i : ℕ) → length xs ≡ n → Agree w (xs ++ ys) (n + i) ys i
agree_right w xs ys n i e k q =
    let s : n + i + k ≡ length xs + (i + k) = omega arith in
    rw s (get_or-append-add xs ys (i + k) 0)

-- from the start on
pub agree-take : (w : ℕ) (b c : List ℕ) → w ≤ length b → w ≤ length c → Agree w b 0 c 0 → take w b ≡ take w c
agree-take w b c h g e =
    let lb : length (take w b) ≡ w = rw length-take (omega arith) in
    let lc : length (take w c) ≡ w = rw length-take (omega arith) in
    ext_get_or 0 (take w b) (take w c) (lb ∙ sym lc) at
  where
    at : (i : ℕ) → i < length (take w b) → get_or (take w b) i 0 ≡ get_or (take w c) i 0
    at i l =
        let q : i < w = omega (arith, simp length-take at l) in
        get_or-take w b i 0 q ∙ simp zero-add at (e i q) ∙ sym (get_or-take w c i 0 q)
