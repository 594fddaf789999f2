-- Continuation pages along their links.
use Prim.Native.Nat.{ℕ, zero, suc, ◌+◌, ◌<◌, ◌≤◌}
use native.Mathlib.Omega.{arith}
use mathlib.Core.Path.{◌≡◌, refl, ap}
use mathlib.Core.Bool.{cond}
use mathlib.Core.List.{List, [], ◌∷◌, map}
use lib.ListN.{length, drop}
use lib.Dec.{eqb}
use borrow.Author.Tests.{ne_eqb}
use Rattle.blockfile.specs.Bytes.{pg, be32, Every, first_of}
use Rattle.blockfile.specs.Fields.{AreConts}
use Rattle.pages.specs.Places.{Inside}
use Rattle.draw.specs.Hands.{Chained}
use Rattle.draw.specs.Writing.{PageOf}
use Rattle.draw.proofs.Hands.{hand-pages, hand-few}

-- ---- Parts of a chain

module _ (g : ℕ → List ℕ) where
  -- the chain from a page on
  pub conts-drop : (i : ℕ) (ns : List ℕ) → AreConts ns (map g ns) → AreConts (drop i ns) (map g (drop i ns))
  conts-drop zero ns h = h
  conts-drop (suc i) [] h = tt
  conts-drop (suc i) (n ∷ ns) h = conts-drop i ns h.2

  -- a page is linked to the one after it
  pub conts-link : (i : ℕ) (ns : List ℕ) → i < length ns → AreConts ns (map g ns) → be32 (g (first_of (drop i ns))) 4 ≡ first_of (drop (suc i) ns)
  conts-link zero [] l h = absurd (omega arith)
  conts-link zero (n ∷ ns) l h = h.1
  conts-link (suc i) [] l h = absurd (omega arith)
  conts-link (suc i) (n ∷ ns) l h = conts-link i ns (omega arith) h.2

-- where the number is not 0 there is a page
pub first_some : (i : ℕ) (ns : List ℕ) → (first_of (drop i ns) ≡ 0 → ⊥) → i < length ns
first_some zero [] z = absurd (z refl)
first_some zero (n ∷ ns) z = omega arith
first_some (suc i) [] z = absurd (z refl)
first_some (suc i) (n ∷ ns) z = omega (arith, first_some i ns z)

first-page : (bytes i : ℕ) (ns : List ℕ) → Every (PageOf bytes) ns → i < length ns → PageOf bytes (first_of (drop i ns))
first-page bytes zero [] h l = absurd (omega arith)
first-page bytes zero (n ∷ ns) h l = h.0
first-page bytes (suc i) [] h l = absurd (omega arith)
first-page bytes (suc i) (n ∷ ns) h l = first-page bytes i ns h.1 (omega arith)

-- ---- The pages from one on, counted

-- how many continuation pages there are from page n on, f at most
unfoldable pub pages_from : (g : ℕ → List ℕ) (f n : ℕ) → ℕ
pages_from g zero n = 0
pages_from g (suc f) n = cond (eqb n 0) 0 (suc (pages_from g f (be32 (g n) 4)))

pages-conts : (g : ℕ → List ℕ) (bytes f : ℕ) (ns : List ℕ) → AreConts ns (map g ns) → Every (PageOf bytes) ns → length ns ≤ f
    → pages_from g f (first_of ns) ≡ length ns
unfolding pages_from
pages-conts g bytes zero [] h p l = refl
pages-conts g bytes zero (n ∷ ns) h p l = absurd (omega arith)
pages-conts g bytes (suc f) [] h p l = refl
pages-conts g bytes (suc f) (n ∷ ns) h p l = rw (ne_eqb n 0 (λ e. omega (arith, p.0.0)), h.1) (ap suc (pages-conts g bytes f ns h.2 p.1 (omega arith)))

module _ {img : List ℕ} {start : ℕ} (c : Chained img start) where
  pub chain_length : pages_from (pg img) (length img) start ≡ length c.old
  chain_length =
      rw c.first (pages-conts (pg img) (length img) (length img) c.old c.linked (hand-pages c.hand) (omega (arith, hand-few c.hand, c.hand.holds.size)))

  -- a page of the chain is a page of the image
  pub chain-inside : (i o w : ℕ) → i < length c.old → o + w ≤ 1024 → Inside img (first_of (drop i c.old)) o w
  chain-inside i o w l f =
      let p : PageOf (length img) (first_of (drop i c.old)) = first-page (length img) i c.old (hand-pages c.hand) l in
      record { small = omega (arith, c.hand.holds.size, c.hand.holds.pages); low = p.0; high = p.1; fits = f }
