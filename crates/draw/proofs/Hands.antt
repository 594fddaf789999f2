-- Pages in hand: they are pages of the image, no more than it has, and the bytes show its free list.
use Prim.Native.Nat.{ℕ, zero, suc, ◌+◌, ◌<◌, ◌≤◌}
use native.Mathlib.Omega.{arith}
use native.Mathlib.Decide.{ℕ_discrete}
use mathlib.Core.Path.{◌≡◌, refl, ap, sym, ◌∙◌}
use mathlib.Core.Bool.{Bool, ◌&&◌, cond}
use mathlib.Core.List.{List, [], ◌∷◌, ◌++◌}
use lib.ListN.{length}
use lib.Dec.{eqb, leb}
use borrow.Author.Tests.{eq-eqb, ne_eqb, le-leb}
use Rattle.blockfile.specs.Bytes.{pg, Every}
use Rattle.blockfile.specs.Order.{Within, within}
use Rattle.blockfile.specs.WellFormed.{Piece, Bears, free_pieces, count}
use Rattle.blockfile.proofs.Bools.{bit-low}
use Rattle.blockfile.proofs.Every.{every-right}
use Rattle.blockfile.proofs.Count.{count-append, every-counted}
use Rattle.blockfile.proofs.Owned.{owned_by, count-owned}
use Rattle.laws.specs.FreeList.{FreeList, free_pages}
use Rattle.laws.proofs.Steps.{in-range, lies_in, at-most-once}
use Rattle.laws.proofs.Opens.{all_pieces}
use Rattle.draw.specs.Hands.{InHand}
use Rattle.draw.specs.Writing.{PageOf}

-- ---- Different numbers from 1 to p are at most p

abbrev sum_to : (ℕ → ℕ) → ℕ → ℕ
sum_to f zero = 0
sum_to f (suc p) = f (suc p) + sum_to f p

abbrev bit : Bool → ℕ
bit b = cond b 1 0

sum-most : (f : ℕ → ℕ) (p : ℕ) → ((n : ℕ) → f n ≤ 1) → sum_to f p ≤ p
sum-most f zero h = omega arith
sum-most f (suc p) h = omega (arith, h (suc p), sum-most f p h)

sum-none : (x p : ℕ) → p < x → sum_to (λ n. bit (eqb n x)) p ≡ 0
sum-none x zero l = refl
sum-none x (suc p) l = omega (arith, ap bit (ne_eqb (suc p) x (λ e. omega arith)), sum-none x p (omega arith))

sum_one : (x p : ℕ) → 1 ≤ x → x ≤ p → sum_to (λ n. bit (eqb n x)) p ≡ 1
sum_one x zero low high = absurd (omega arith)
sum_one x (suc p) low high = go (ℕ_discrete (suc p) x) (sum_one x p low)
  where
    go : Dec (suc p ≡ x) → (x ≤ p → sum_to (λ n. bit (eqb n x)) p ≡ 1) → sum_to (λ n. bit (eqb n x)) (suc p) ≡ 1
    go (yes e) more = omega (arith, ap bit (eq-eqb (suc p) x e), sum-none x p (omega arith))
    go (no e) more = omega (arith, ap bit (ne_eqb (suc p) x e), more (omega (arith, e)))

sum-nil : (p : ℕ) → sum_to (λ n. count n []) p ≡ 0
sum-nil zero = refl
sum-nil (suc p) = omega (arith, sum-nil p)

sum-cons : (x : ℕ) (xs : List ℕ) (p : ℕ) → sum_to (λ n. count n (x ∷ xs)) p ≡ sum_to (λ n. bit (eqb n x)) p + sum_to (λ n. count n xs) p
sum-cons x xs zero = refl
sum-cons x xs (suc p) = omega (arith, sum-cons x xs p)

sum-length : (xs : List ℕ) (p : ℕ) → Every (Within 1 p) xs → sum_to (λ n. count n xs) p ≡ length xs
sum-length [] p h = sum-nil p
sum-length (x ∷ xs) p h = omega (arith, sum-cons x xs p, sum_one x p h.0.0 h.0.1, sum-length xs p h.1)

different-few : (xs : List ℕ) (p : ℕ) → Every (Within 1 p) xs → ((n : ℕ) → count n xs ≤ 1) → length xs ≤ p
different-few xs p h o = omega (arith, sum-length xs p h, sum-most (λ n. count n xs) p o)

-- ---- The free list

-- a page of the free list is not the superblock's
not_first : (p n a t f s : ℕ) → a ≡ bit (eqb n 1) + (t + f) → a + s ≡ bit (within 1 p n) → f ≤ bit (within 2 p n)
not_first p zero a t f s e o = omega arith
not_first p (suc zero) a t f s e o = omega (arith, bit-low (within 1 p 1))
not_first p (suc (suc n)) a t f s e o =
    let m : ℕ = suc (suc n) in
    omega (arith, ap (λ (b : Bool). bit (b && leb m p)) (le-leb 1 m (omega arith) ∙ sym (le-leb 2 m (omega arith))))

module _ {img old : List ℕ} (h : InHand img old) where
  -- the bytes show the free list
  pub shown : FreeList img h.free
  shown =
      let R : Piece → Type 0 = Bears (pg img) in
      record {
        pages = h.pages;
        range = h.holds.pages;
        size = h.holds.size;
        first = h.holds.bears.0.free;
        bears = every-right R h.things (free_pieces h.free) h.holds.bears.1;
        few = h.few;
        once = λ n. not_first h.pages n (count n (owned_by (all_pieces h.pages h.span_size h.things h.free))) (count n (owned_by h.things))
            (count n (free_pages h.free)) (count n (old ++ h.spare))
            (ap (λ (k : ℕ). bit (eqb n 1) + k) (count-owned n h.things (free_pieces h.free))) (h.holds.once n);
      }

  -- ---- The pages in hand

  counted : (n : ℕ) → 1 ≤ count n old → 1 ≤ count n (owned_by (all_pieces h.pages h.span_size h.things h.free)) + count n (old ++ h.spare)
  counted n l = omega (arith, count-append n old h.spare)

  pub hand-pages : Every (PageOf (length img)) old
  hand-pages = every-counted (PageOf (length img)) old (λ n l. ((in-range h.holds n (counted n l)).0, lies_in h.holds n (counted n l)))

  pub hand-few : length old ≤ h.pages
  hand-few =
      different-few old h.pages (every-counted (Within 1 h.pages) old (λ n l. in-range h.holds n (counted n l)))
      (λ n. omega (arith, at-most-once h.holds n, count-append n old h.spare))
