-- The pages that pieces own.
use Prim.Native.Nat.{ℕ, ◌+◌, ◌≤◌}
use native.Mathlib.Omega.{arith}
use mathlib.Core.Path.{◌≡◌, refl, ap, sym, ◌∙◌, subst}
use mathlib.Core.List.{List, [], ◌∷◌, ◌++◌, append_assoc}
use Rattle.blockfile.specs.Bytes.{gather}
use Rattle.blockfile.specs.Layout.{Layout}
use Rattle.blockfile.specs.Order.{Within, within}
use Rattle.blockfile.specs.WellFormed.{Piece, pages_of, count, pieces, WellFormed}
use Rattle.blockfile.proofs.Bools.{bit-low, bit-true, within-is}
use Rattle.blockfile.proofs.Every.{every-left, every-right}
use Rattle.blockfile.proofs.Count.{Positive, count-append, no_zero}

abbrev pub owned_by : List Piece → List ℕ
owned_by ps = gather pages_of ps

pub owned-append : (ps qs : List Piece) → owned_by (ps ++ qs) ≡ owned_by ps ++ owned_by qs
owned-append [] qs = refl
owned-append (p ∷ ps) qs = ap (λ (l : List ℕ). pages_of p ++ l) (owned-append ps qs) ∙ sym (append_assoc (pages_of p) (owned_by ps) (owned_by qs))

pub count-owned : (n : ℕ) (ps qs : List Piece) → count n (owned_by (ps ++ qs)) ≡ count n (owned_by ps) + count n (owned_by qs)
count-owned n ps qs = ap (count n) (owned-append ps qs) ∙ count-append n (owned_by ps) (owned_by qs)

-- some of the pieces: no page 0, no page twice
pub record Clean (ps : List Piece) : Type 0 where
  pub positive : Positive (owned_by ps)
  pub once : (n : ℕ) → count n (owned_by ps) ≤ 1

part_of : (a b c : ℕ) → a ≡ b + c → a ≤ 1 → (b ≤ 1) × (c ≤ 1)
part_of a b c e o = omega arith

module _ (ps qs : List Piece) (c : Clean (ps ++ qs)) where
  split-once : (n : ℕ) → (count n (owned_by ps) ≤ 1) × (count n (owned_by qs) ≤ 1)
  split-once n = part_of (count n (owned_by (ps ++ qs))) (count n (owned_by ps)) (count n (owned_by qs)) (count-owned n ps qs) (c.once n)

  split-positive : Positive (owned_by ps ++ owned_by qs)
  split-positive = subst Positive (owned-append ps qs) c.positive

  pub clean-left : Clean ps
  clean-left = record { positive = every-left (λ n. 1 ≤ n) (owned_by ps) (owned_by qs) split-positive; once = λ n. (split-once n).0 }

  pub clean-right : Clean qs
  clean-right = record { positive = every-right (λ n. 1 ≤ n) (owned_by ps) (owned_by qs) split-positive; once = λ n. (split-once n).1 }

-- ---- An image's pieces

module _ (img : List ℕ) (L : Layout) (w : WellFormed img L) where
  pub clean : Clean (pieces L)
  clean =
      record {
        positive = no_zero (owned_by (pieces L)) (w.once 0);
        once = λ n. subst (λ (m : ℕ). m ≤ 1) (sym (w.once n)) (bit-low (within 1 L.pages n));
      }

  -- a page that is owned is one of 1 to P
  pub owned-within : (n : ℕ) → 1 ≤ count n (owned_by (pieces L)) → Within 1 L.pages n
  owned-within n h = within-is 1 L.pages n (bit-true (within 1 L.pages n) (subst (λ (m : ℕ). 1 ≤ m) (w.once n) h))
