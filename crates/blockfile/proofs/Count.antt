-- How often a number is in a list.
use Prim.Native.Nat.{ℕ, zero, suc, ◌+◌, ◌≤◌}
use native.Mathlib.Omega.{arith}
use mathlib.Core.Path.{◌≡◌, sym, subst}
use mathlib.Core.Logic.{◌≢◌}
use mathlib.Core.List.{List, [], ◌∷◌, ◌++◌}
use lib.Dec.{eqb, eqb_refl}
use Rattle.blockfile.specs.Bytes.{Every}
use Rattle.blockfile.specs.WellFormed.{count}
use Rattle.blockfile.proofs.Bools.{so}

pub count-here : (n : ℕ) (ns : List ℕ) → count n (n ∷ ns) ≡ 1 + count n ns
count-here n ns = rw (so (eqb n n) (eqb_refl n))

pub count-more : (n m : ℕ) (ns : List ℕ) → count n ns ≤ count n (m ∷ ns)
count-more n m ns = omega arith

pub count-append : (n : ℕ) (xs ys : List ℕ) → count n (xs ++ ys) ≡ count n xs + count n ys
count-append n [] ys = omega arith
count-append n (x ∷ xs) ys = let h : count n (xs ++ ys) ≡ count n xs + count n ys = count-append n xs ys in omega arith

-- no number of the list is 0
abbrev pub Positive : List ℕ → Type 0
Positive ns = Every (λ n. 1 ≤ n) ns

pub no_zero : (ns : List ℕ) → count 0 ns ≡ 0 → Positive ns
no_zero [] h = tt
no_zero (zero ∷ ns) h = absurd (let e : count 0 (0 ∷ ns) ≡ 1 + count 0 ns = count-here 0 ns in omega arith)
no_zero (suc n ∷ ns) h = (omega arith, no_zero ns (omega arith))

-- what holds of every number that is counted holds of every element
pub every-counted : (R : ℕ → Type 0) (ns : List ℕ) → ((n : ℕ) → 1 ≤ count n ns → R n) → Every R ns
every-counted R [] h = tt
every-counted R (m ∷ ns) h = (
  h m (let e : count m (m ∷ ns) ≡ 1 + count m ns = count-here m ns in omega arith),
  every-counted R ns (λ n l. h n (let e : count n ns ≤ count n (m ∷ ns) = count-more n m ns in omega arith)),
)

-- a number that is not in the list is not its first
pub not_first : (n m : ℕ) (ms : List ℕ) → count n (m ∷ ms) ≡ 0 → m ≢ n
not_first n m ms h e =
    let k : count n (m ∷ ms) ≡ 1 + count n ms = subst (λ (x : ℕ). count n (x ∷ ms) ≡ 1 + count n ms) (sym e) (count-here n ms) in
    omega arith
