-- Towers in the bytes: where they stand, and the next ones.
use Prim.Native.Nat.{ℕ, suc, ◌+◌, ◌*◌, ◌<◌}
use native.Mathlib.Omega.{arith}
use mathlib.Core.Path.{◌≡◌, refl, sym, subst}
use mathlib.Core.Bool.{Bool, true, false, cond}
use mathlib.Core.Logic.{◌⊎◌, inl, inr}
use mathlib.Core.Option.{Option, none, some}
use mathlib.Core.List.{List, [], ◌∷◌, ◌++◌, map}
use lib.ListN.{length, get_or, take, drop}
use lib.Dec.{ltb}
use borrow.Author.Tests.{ltb-true}
use Rattle.blockfile.specs.Bytes.{pg, be32, Every}
use Rattle.blockfile.specs.Layout.{Span, Tower, Column, columns, spans_of, towers_of, tower_in}
use Rattle.blockfile.specs.Order.{Within}
use Rattle.blockfile.specs.WellFormed.{tower, next_at, link_towers}
use Rattle.blockfile.specs.Put.{last_at}
use Rattle.blockfile.proofs.Every.{every-left}
use Rattle.laws.proofs.Relinks.{towers-cut}
use Rattle.entries.specs.Places.{IsPage}
use Rattle.search.specs.Spans.{Borne}
use Rattle.search.specs.Tables.{Reading}
use Rattle.search.proofs.Towers.{linked, entry_here, AllBorne, tower-pages, last-is, all-towers, head-borne}
use Rattle.links.specs.Levels.{Before}

-- ---- Towers in a row

-- n is a page of the image and names as its span the one at a place of the columns
pub record Stands (img : List ℕ) (n : ℕ) (cs : List Column) (d : Span) : Type 0 where
  pub page : IsPage img n
  pub place : ℕ
  pub there : place < length cs
  pub on : be32 (pg img n) 12 ≡ (get_or (spans_of cs) place d).page

-- the next tower stands on one of the spans
pub next-stands : (img : List ℕ) (d : Span) (cs : List Column) → AllBorne img cs → (next_at 0 (towers_of cs) ≡ 0 → ⊥) → Stands img (next_at 0 (towers_of cs)) cs d
next-stands img d [] b z = absurd (z refl)
next-stands img d (c ∷ cs) b z = go c.tower b z (next-stands img d cs)
  where
    later : (n : ℕ) → Stands img n cs d → Stands img n (c ∷ cs) d
    later n s = record { page = s.page; place = suc s.place; there = omega (arith, s.there); on = s.on }

    go : (o : Option Tower) → Every (λ x. Borne img (tower x)) (map (λ t. linked t c.span.page (towers_of cs)) (tower_in o) ++ link_towers cs)
        → (next_at 0 (tower_in o ++ towers_of cs) ≡ 0 → ⊥)
        → (AllBorne img cs → (next_at 0 (towers_of cs) ≡ 0 → ⊥) → Stands img (next_at 0 (towers_of cs)) cs d)
        → Stands img (next_at 0 (tower_in o ++ towers_of cs)) (c ∷ cs) d
    go none b z ih = later (next_at 0 (towers_of cs)) (ih b z)
    go (some w) b z ih = by (ltb 0 w.height) z
      where
        by : (v : Bool) → (cond v w.page (next_at 0 (towers_of cs)) ≡ 0 → ⊥) → Stands img (cond v w.page (next_at 0 (towers_of cs))) (c ∷ cs) d
        by true z = record { page = b.0.1.0; place = 0; there = omega arith; on = b.0.0.span_page }
        by false z = later (next_at 0 (towers_of cs)) (ih b.1 z)

-- a column's own tower
pub record Own (img : List ℕ) (m : ℕ) (c : Column) (cs : List Column) : Type 0 where
  pub own : Tower
  pub has : tower_in c.tower ≡ own ∷ []
  pub borne : Borne img (tower (linked own c.span.page (towers_of cs)))
  pub range : Within 1 m own.height

-- it has one or not
pub own-or-not : (img : List ℕ) (m : ℕ) (c : Column) (cs : List Column) → AllBorne img (c ∷ cs) → Every (λ w. Within 1 m w.height) (towers_of (c ∷ cs))
    → (tower_in c.tower ≡ []) ⊎ Own img m c cs
own-or-not img m c cs b r = go c.tower refl b r
  where
    go : (o : Option Tower) → tower_in c.tower ≡ tower_in o → Every (λ x. Borne img (tower x)) (map (λ t. linked t c.span.page (towers_of cs)) (tower_in o) ++ link_towers cs)
        → Every (λ w. Within 1 m w.height) (tower_in o ++ towers_of cs) → (tower_in c.tower ≡ []) ⊎ Own img m c cs
    go none e b r = inl e
    go (some w) e b r = inr (record { own = w; has = e; borne = b.0; range = r.0 })

-- the last tower above level l leads to the next one behind
pub last-leads : (img : List ℕ) (l : ℕ) (ds : List Column) (p : ℕ) (cs : List Column) → AllBorne img (cs ++ ds)
    → be32 (pg img p) (16 + 4 * l) ≡ next_at l (towers_of (cs ++ ds)) → be32 (pg img (last_at l p (towers_of cs))) (16 + 4 * l) ≡ next_at l (towers_of ds)
last-leads img l ds p [] b h = h
last-leads img l ds p (c ∷ cs) b h = go c.tower b h (λ q. last-leads img l ds q cs)
  where
    go : (o : Option Tower) → Every (λ x. Borne img (tower x)) (map (λ t. linked t c.span.page (towers_of (cs ++ ds))) (tower_in o) ++ link_towers (cs ++ ds))
        → be32 (pg img p) (16 + 4 * l) ≡ next_at l (tower_in o ++ towers_of (cs ++ ds))
        → ((q : ℕ) → AllBorne img (cs ++ ds) → be32 (pg img q) (16 + 4 * l) ≡ next_at l (towers_of (cs ++ ds))
        → be32 (pg img (last_at l q (towers_of cs))) (16 + 4 * l) ≡ next_at l (towers_of ds))
        → be32 (pg img (last_at l p (tower_in o ++ towers_of cs))) (16 + 4 * l) ≡ next_at l (towers_of ds)
    go none b h ih = ih p b h
    go (some w) b h ih = by (ltb l w.height) refl h
      where
        by : (v : Bool) → ltb l w.height ≡ v → be32 (pg img p) (16 + 4 * l) ≡ cond v w.page (next_at l (towers_of (cs ++ ds)))
            → be32 (pg img (last_at l (cond v w.page p) (towers_of cs))) (16 + 4 * l) ≡ next_at l (towers_of ds)
        by true e k = ih w.page b.1 (entry_here img w c.span.page (towers_of (cs ++ ds)) b.0 l (ltb-true l w.height e))
        by false e k = ih p b.1 k

-- ---- The towers of a table

module _ {img : List ℕ} {root : ℕ} (t : Reading img root) where
  -- the last towers before a place are on pages of the image
  pub before-page : {j h : ℕ} {levels : List ℕ} → Before t.table j h levels → (l : ℕ) → l < h → IsPage img (get_or levels l 0)
  before-page {j} b l m =
      let cs : List Column = columns t.table in
      subst (IsPage img) (sym (b.last l m))
      (last-is (IsPage img) l t.table.head.page (towers_of (take j cs)) (head-borne t).1.0
      (every-left (λ (w : Tower). IsPage img w.page) (towers_of (take j cs)) (towers_of (drop j cs))
      (subst (Every (λ (w : Tower). IsPage img w.page)) (towers-cut j cs) (tower-pages img cs (all-towers t)))))
