-- Towers in the bytes: the chain from the head along entry i visits exactly the other towers with current above i, in span
-- order, and ends in 0.
use Prim.Native.Nat.{ℕ, zero, suc, ◌+◌, ◌*◌, ◌<◌}
use native.Mathlib.Omega.{arith}
use native.Mathlib.Nat.{zero-add}
use mathlib.Core.Path.{◌≡◌, refl, ap, sym, ◌∙◌, subst}
use mathlib.Core.Bool.{Bool, true, false, cond}
use mathlib.Core.List.{List, [], ◌∷◌, ◌++◌, map}
use mathlib.Core.Option.{Option, none, some}
use lib.Dec.{ltb}
use borrow.Author.Tests.{ltb-true}
use Rattle.blockfile.specs.Bytes.{be32, Every, from}
use Rattle.blockfile.specs.Layout.{Tower, Column, Table, towers_of, tower_in}
use Rattle.blockfile.specs.Fields.{LinkedTower, Numbers}
use Rattle.blockfile.specs.WellFormed.{Bears, tower, next_at, link_towers, towers_in}
use Rattle.laws.specs.Chains.{Follows, higher}

number_at : (b : List ℕ) (f : ℕ → ℕ) (o j n i : ℕ) → Numbers b o (map f (from j n)) → i < n → be32 b (o + 4 * i) ≡ f (j + i)
number_at b f o j zero i h l = absurd (omega arith)
number_at b f o j (suc n) zero h l =
    let e : o + 4 * 0 ≡ o = omega arith in
    let d : j + 0 ≡ j = omega arith in
    rw (e, d) h.0
number_at b f o j (suc n) (suc i) h l =
    let e : o + 4 * suc i ≡ o + 4 + 4 * i = omega arith in
    let d : j + suc i ≡ suc j + i = omega arith in
    rw (e, d) (number_at b f (o + 4) (suc j) n i h.1 (omega arith))

-- a tower's entry i, below its height n
pub entry-at : (b : List ℕ) (f : ℕ → ℕ) (n i : ℕ) → Numbers b 16 (map f (from 0 n)) → i < n → be32 b (16 + 4 * i) ≡ f i
entry-at b f n i h l = number_at b f 16 0 n i h l ∙ ap f (zero-add i)

-- and back: numbers at these places are the entries
numbers-from : (b : List ℕ) (f : ℕ → ℕ) (o j n : ℕ) → ((i : ℕ) → i < n → be32 b (o + 4 * i) ≡ f (j + i)) → Numbers b o (map f (from j n))
numbers-from b f o j zero h = tt
numbers-from b f o j (suc n) h =
    let e : o + 4 * 0 ≡ o = omega arith in
    let d : j + 0 ≡ j = omega arith in
    (rw (e, d) at (h 0 (omega arith)), numbers-from b f (o + 4) (suc j) n more)
  where
    more : (i : ℕ) → i < n → be32 b (o + 4 + 4 * i) ≡ f (suc j + i)
    more i l =
        let e : o + 4 * suc i ≡ o + 4 + 4 * i = omega arith in
        let d : j + suc i ≡ suc j + i = omega arith in
        rw (e, d) at (h (suc i) (omega arith))

pub at-entries : (b : List ℕ) (f : ℕ → ℕ) (n : ℕ) → ((i : ℕ) → i < n → be32 b (16 + 4 * i) ≡ f i) → Numbers b 16 (map f (from 0 n))
at-entries b f n h = numbers-from b f 16 0 n (λ i l. h i l ∙ ap f (sym (zero-add i)))

module _ (g : ℕ → List ℕ) (i : ℕ) where
  chain-from : (cs : List Column) → Every (Bears g) (map tower (link_towers cs)) → Follows g i (next_at i (towers_of cs)) (higher i (towers_of cs))
  chain-from [] h = refl
  chain-from (c ∷ cs) h = go c.tower h (chain-from cs)
    where
      raised : Tower → LinkedTower
      raised t = record { tower = t; span_page = c.span.page; nexts = map (λ j. next_at j (towers_of cs)) (from 0 t.height) }

      go : (o : Option Tower) → Every (Bears g) (map tower (map raised (tower_in o) ++ link_towers cs))
          → (Every (Bears g) (map tower (link_towers cs)) → Follows g i (next_at i (towers_of cs)) (higher i (towers_of cs)))
          → Follows g i (next_at i (tower_in o ++ towers_of cs)) (higher i (tower_in o ++ towers_of cs))
      go none h ih = ih h
      go (some t) h ih = by (ltb i t.height) refl
        where
          by : (b : Bool) → ltb i t.height ≡ b
              → Follows g i (cond b t.page (next_at i (towers_of cs))) (cond b (t.page ∷ higher i (towers_of cs)) (higher i (towers_of cs)))
          by true e =
              let n : be32 (g t.page) (16 + 4 * i) ≡ next_at i (towers_of cs)
              = entry-at (g t.page) (λ j. next_at j (towers_of cs)) t.height i h.0.nexts (ltb-true i t.height e) in
              (refl, subst (λ (p : ℕ). Follows g i p (higher i (towers_of cs))) (sym n) (ih h.1))
          by false e = ih h.1

-- document 01's rule on chains, of the bytes of a table's towers
pub chain : (g : ℕ → List ℕ) (t : Table) → Every (Bears g) (map tower (towers_in t)) → (i : ℕ) → i < t.head.height
    → Follows g i (be32 (g t.head.page) (16 + 4 * i)) (higher i (towers_of t.rest))
chain g t h i l =
    subst (λ (p : ℕ). Follows g i p (higher i (towers_of t.rest)))
    (sym (entry-at (g t.head.page) (λ j. next_at j (towers_of t.rest)) t.head.height i h.0.nexts l))
    (chain-from g i t.rest h.1)
