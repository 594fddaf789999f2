-- No two spans of a table that can be read are on one page: next links lead from a page to one page, and end in 0.
use Prim.Native.Nat.{ℕ, zero, suc, ◌+◌, ◌-◌, ◌≤◌, ◌<◌}
use native.Mathlib.Omega.{arith}
use native.Mathlib.Decide.{dec_lt}
use mathlib.Core.Logic.{by_cases}
use mathlib.Core.Path.{◌≡◌, refl, ap, sym, ◌∙◌}
use mathlib.Core.Bool.{cond}
use mathlib.Core.List.{List, map}
use lib.ListN.{length, drop, drop_of_length-le}
use lib.Seq.{drop-cons}
use lib.Dec.{eqb}
use borrow.Author.Tests.{ne_eqb}
use Rattle.blockfile.specs.Bytes.{pg, be32, first_of}
use Rattle.blockfile.specs.Layout.{Span, columns}
use Rattle.blockfile.specs.Put.{span_at}
use Rattle.pages.specs.Places.{Inside}
use Rattle.search.specs.Tables.{Reading}
use Rattle.search.proofs.Seeks.{span-inside}
use Rattle.search.proofs.Tables.{spans_here, length-spans, reading-span, reading-spans, next-at}

-- how many spans there are from page p on, f at most
unfoldable pub steps : (img : List ℕ) (f p : ℕ) → ℕ
steps img zero p = 0
steps img (suc f) p = cond (eqb p 0) 0 (suc (steps img f (be32 (pg img p) 12)))

steps-end : (img : List ℕ) (f : ℕ) → steps img f 0 ≡ 0
unfolding steps
steps-end img zero = refl
steps-end img (suc f) = refl

module _ {img : List ℕ} {root : ℕ} (t : Reading img root) where
  abbrev pub page_at : ℕ → ℕ
  page_at i = (span_at t.table i).page

  abbrev pub places : ℕ
  places = length (columns t.table)

  pub place_inside : (i : ℕ) → i < places → (o n : ℕ) → o + n ≤ 1024 → Inside img (page_at i) o n
  place_inside i l o n h = span-inside (reading-span t i l (page_at i) refl) o n h

  next-link : (i : ℕ) → i < places → be32 (pg img (page_at i)) 12 ≡ first_of (map (λ s. s.page) (drop (suc i) (spans_here t)))
  next-link i l = next-at t i l (page_at i) refl

  -- the next link of a span that is not the last
  pub next-page : (i : ℕ) → suc i < places → be32 (pg img (page_at i)) 12 ≡ page_at (suc i)
  unfolding span_at
  next-page i l =
      next-link i (omega arith) ∙ ap (λ (ss : List Span). first_of (map (λ s. s.page) ss)) (drop-cons (spans_here t) (suc i) t.table.first (omega (arith, length-spans t)))

  pub last-page : (i : ℕ) → suc i ≡ places → be32 (pg img (page_at i)) 12 ≡ 0
  last-page i e =
      next-link i (omega arith)
      ∙ ap (λ (ss : List Span). first_of (map (λ s. s.page) ss)) (drop_of_length-le (spans_here t) {i = suc i} (omega (arith, length-spans t)))

  later-page : (k i j : ℕ) → i < j → j + suc k ≡ places → page_at i ≡ page_at j → ⊥
  later-page zero i j l e p =
      let same : be32 (pg img (page_at i)) 12 ≡ be32 (pg img (page_at j)) 12 = ap (λ (n : ℕ). be32 (pg img n) 12) p in
      let low : 1 ≤ page_at (suc i) = (place_inside (suc i) (omega arith) 0 0 (omega arith)).low in
      omega (arith, next-page i (omega arith), last-page j (omega arith))
  later-page (suc k) i j l e p =
      later-page k (suc i) (suc j) (omega arith) (omega arith)
      (sym (next-page i (omega arith)) ∙ ap (λ (n : ℕ). be32 (pg img n) 12) p ∙ next-page j (omega arith))

  -- a page is that of one span
  pub one_place : (i j : ℕ) → i < places → j < places → page_at i ≡ page_at j → i ≡ j
  one_place i j a b p =
      by_cases (dec_lt i j) (λ l. absurd (later-page (places - suc j) i j l (omega arith) p))
      (λ l. by_cases (dec_lt j i) (λ m. absurd (later-page (places - suc i) j i m (omega arith) (sym p))) (λ m. omega arith))

  steps-at : (f i : ℕ) → i < places → places ≤ i + f → steps img f (page_at i) ≡ places - i
  unfolding steps
  steps-at zero i l h = absurd (omega arith)
  steps-at (suc f) i l h =
      rw (ne_eqb (page_at i) 0 (λ z. omega (arith, (place_inside i l 0 0 (omega arith)).low)))
      (by_cases (dec_lt (suc i) places)
      (λ m. let e : steps img f (be32 (pg img (page_at i)) 12) ≡ places - suc i = rw (next-page i m) (steps-at f (suc i) m (omega arith)) in omega arith)
      (λ m. let e : steps img f (be32 (pg img (page_at i)) 12) ≡ 0 = rw (last-page i (omega arith)) (steps-end img f) in omega arith))

  -- the spans from a place on, where the number on the skip-list page bounds them
  pub steps-from : (i : ℕ) → i < places → steps img (be32 (pg img root) 20) (page_at i) ≡ places - i
  steps-from i l = steps-at (be32 (pg img root) 20) i l (omega (arith, reading-spans t))
