-- Page numbers that an image shows: they are small, none is there twice, and so what is held is not many.
use Prim.Native.Nat.{ℕ, zero, suc, ◌+◌, ◌<◌, ◌≤◌}
use native.Mathlib.Omega.{arith}
use native.Mathlib.Decide.{ℕ_discrete}
use mathlib.Core.Path.{◌≡◌, refl, ap, sym, subst}
use mathlib.Core.Bool.{Bool, true, false, cond}
use mathlib.Core.List.{List, [], ◌∷◌, ◌++◌, map}
use lib.ListN.{length, length-append, length-map}
use lib.Dec.{eqb}
use borrow.Author.Tests.{eqb-true}
use Rattle.blockfile.specs.Bytes.{Every}
use Rattle.blockfile.specs.Layout.{Block, free_count}
use Rattle.blockfile.specs.Order.{Within, within}
use Rattle.blockfile.specs.Fields.{LinkedSpan}
use Rattle.blockfile.specs.WellFormed.{Piece, free_page, free_pieces, count}
use Rattle.blockfile.proofs.Bools.{bit-low, bit-true, within-is}
use Rattle.blockfile.proofs.Count.{count-here, count-more, count-append, every-counted}
use Rattle.blockfile.proofs.Owned.{owned_by, owned-append}
use Rattle.laws.proofs.State.{Held, Shows, skip_pages, span_pages, tower_pages, held_pages}

-- a number that four bytes hold
abbrev pub Word : ℕ → Type 0
Word n = n < 4294967296

-- what holds of every element holds of a number that is counted
pub counted-every : (R : ℕ → Type 0) (ns : List ℕ) (n : ℕ) → Every R ns → 1 ≤ count n ns → R n
counted-every R [] n h c = absurd (omega arith)
counted-every R (m ∷ ns) n h c = go (eqb n m) refl c (counted-every R ns n h.1)
  where
    go : (b : Bool) → eqb n m ≡ b → 1 ≤ cond b 1 0 + count n ns → (1 ≤ count n ns → R n) → R n
    go true e c k = subst R (sym (eqb-true n m e)) h.0
    go false e c k = k (omega arith)

-- ---- Distinct numbers of 1 to p are at most p

-- how often the numbers 1 to p are in the list
abbrev total : (p : ℕ) → List ℕ → ℕ
total zero ns = 0
total (suc p) ns = count (suc p) ns + total p ns

total-more : (p n : ℕ) (ns : List ℕ) → total p ns ≤ total p (n ∷ ns)
total-more zero n ns = omega arith
total-more (suc p) n ns = omega (arith, total-more p n ns, count-more (suc p) n ns)

total-one : (p n : ℕ) (ns : List ℕ) → 1 ≤ n → n ≤ p → 1 + total p ns ≤ total p (n ∷ ns)
total-one zero n ns a b = absurd (omega arith)
total-one (suc p) n ns a b = go (ℕ_discrete n (suc p)) (total-one p n ns a)
  where
    go : Dec (n ≡ suc p) → (n ≤ p → 1 + total p ns ≤ total p (n ∷ ns)) → 1 + total (suc p) ns ≤ total (suc p) (n ∷ ns)
    go (yes e) k =
        subst (λ (m : ℕ). 1 + total (suc p) ns ≤ total (suc p) (m ∷ ns)) (sym e)
        (omega (arith, total-more p (suc p) ns, count-here (suc p) ns))
    go (no e) k = omega (arith, k (omega (arith, e)), count-more (suc p) n ns)

total-few : (p : ℕ) (ns : List ℕ) → ((n : ℕ) → count n ns ≤ 1) → total p ns ≤ p
total-few zero ns o = omega arith
total-few (suc p) ns o = omega (arith, total-few p ns o, o (suc p))

total-all : (p : ℕ) (ns : List ℕ) → Every (Within 1 p) ns → length ns ≤ total p ns
total-all p [] h = omega arith
total-all p (n ∷ ns) h = omega (arith, total-all p ns h.1, total-one p n ns h.0.0 h.0.1)

-- pages of 1 to p, none twice
pub at_most : (p : ℕ) (ns : List ℕ) → Every (Within 1 p) ns → ((n : ℕ) → count n ns ≤ 1) → length ns ≤ p
at_most p ns h o = omega (arith, total-all p ns h, total-few p ns o)

-- ---- Of an image

abbrev own_pages : List LinkedSpan → List ℕ
own_pages xs = map (λ x. x.span.page) xs

count-own : (n : ℕ) (xs : List LinkedSpan) → count n (own_pages xs) ≤ count n (span_pages xs)
count-own n [] = omega arith
count-own n (x ∷ xs) = omega (arith, count-own n xs, count-append n x.span.conts (span_pages xs))

listed-length : (ns : List ℕ) → length (owned_by (map free_page ns)) ≡ length ns
listed-length [] = refl
listed-length (n ∷ ns) = omega (arith, listed-length ns)

-- F is the number of pages that the free list owns
free-length : (bs : List Block) → length (owned_by (free_pieces bs)) ≡ free_count bs
unfolding free_count
free-length [] = refl
free-length (b ∷ bs) =
    let more : List Piece = map free_page b.listed in
    omega (
      arith,
      ap length (owned-append more (free_pieces bs)),
      length-append (owned_by more) (owned_by (free_pieces bs)),
      listed-length b.listed,
      free-length bs,
    )

module _ {p z : ℕ} {img : List ℕ} {h : Held} (s : Shows p z img h) where
  -- a page that is held is a page of the image
  pub held-within : (n : ℕ) → 1 ≤ count n (held_pages h) → Within 1 p n
  held-within n c = within-is 1 p n (bit-true (within 1 p n) (subst (λ (k : ℕ). 1 ≤ k) (s.once n) c))

  -- it is held once
  pub held-once : (n : ℕ) → count n (held_pages h) ≤ 1
  held-once n = subst (λ (k : ℕ). k ≤ 1) (sym (s.once n)) (bit-low (within 1 p n))

  held-counts : (n : ℕ)
      → count n (span_pages h.spans) + (count n (tower_pages h.towers) + (count n (owned_by (free_pieces h.free)) + count n h.spare)) ≤ count n (held_pages h)
  held-counts n =
      omega (
        arith,
        count-append n (skip_pages h.skips) (span_pages h.spans ++ (tower_pages h.towers ++ (owned_by (free_pieces h.free) ++ h.spare))),
        count-append n (span_pages h.spans) (tower_pages h.towers ++ (owned_by (free_pieces h.free) ++ h.spare)),
        count-append n (tower_pages h.towers) (owned_by (free_pieces h.free) ++ h.spare),
        count-append n (owned_by (free_pieces h.free)) h.spare,
      )

  word_of : (n : ℕ) → 1 ≤ count n (held_pages h) → Word n
  word_of n c = let r : Within 1 p n = held-within n c in omega (arith, s.pages.1)

  -- the pages of spans are small
  pub spans-small : Every Word (span_pages h.spans)
  spans-small = every-counted Word (span_pages h.spans) (λ n c. word_of n (omega (arith, held-counts n)))

  -- so are those of towers
  pub towers-small : Every Word (tower_pages h.towers)
  towers-small = every-counted Word (tower_pages h.towers) (λ n c. word_of n (omega (arith, held-counts n)))

  -- and those in hand
  pub spare-small : Every Word h.spare
  spare-small = every-counted Word h.spare (λ n c. word_of n (omega (arith, held-counts n)))

  -- a tower's page is no other tower's, and not in hand
  pub towers-once : (n : ℕ) → count n (tower_pages h.towers) + count n h.spare ≤ 1
  towers-once n = omega (arith, held-counts n, held-once n)

  -- there are at most 4,096 spans
  pub spans-few : length h.spans ≤ 4096
  spans-few =
      let within-own : Every (Within 1 p) (own_pages h.spans)
      = every-counted (Within 1 p) (own_pages h.spans) (λ n c. held-within n (omega (arith, held-counts n, count-own n h.spans))) in
      let few : length (own_pages h.spans) ≤ p = at_most p (own_pages h.spans) within-own (λ n. omega (arith, held-once n, held-counts n, count-own n h.spans)) in
      omega (arith, length-map h.spans (λ (x : LinkedSpan). x.span.page), s.pages.1)

  -- and as many free pages
  pub free-few : free_count h.free ≤ 4096
  free-few =
      let ns : List ℕ = owned_by (free_pieces h.free) in
      let few : length ns ≤ p = at_most p ns (every-counted (Within 1 p) ns (λ n c. held-within n (omega (arith, held-counts n)))) (λ n. omega (arith, held-once n, held-counts n)) in
      omega (arith, free-length h.free, s.pages.1)

  -- a page of a tower or in hand is small
  pub tower-or-spare : (n : ℕ) → 1 ≤ count n (tower_pages h.towers) + count n h.spare → Word n
  tower-or-spare n c = word_of n (omega (arith, held-counts n))
