-- Towers in the bytes: where they stand, their entries, and the last one at a level.
use Prim.Native.Nat.{ℕ, zero, suc, ◌+◌, ◌*◌, ◌≤◌, ◌<◌}
use native.Mathlib.Omega.{arith}
use mathlib.Core.Path.{◌≡◌, refl, ap, sym, ◌∙◌, subst}
use mathlib.Core.Bool.{Bool, true, false, cond}
use mathlib.Core.Option.{Option, none, some}
use mathlib.Core.List.{List, [], ◌∷◌, ◌++◌, map}
use lib.ListN.{get_or, take, drop}
use lib.Dec.{ltb}
use Rattle.blockfile.specs.Bytes.{pg, be16, be32, Every, from}
use Rattle.blockfile.specs.Layout.{Span, Tower, Column, columns, spans_of, towers_of, tower_in}
use Rattle.blockfile.specs.Order.{Within}
use Rattle.blockfile.specs.Fields.{LinkedTower}
use Rattle.blockfile.specs.WellFormed.{span, tower, next_at, link_towers, spans_in, towers_in}
use Rattle.blockfile.specs.Put.{last_at}
use Rattle.blockfile.proofs.Every.{every-right, every-so, every-unmap}
use Rattle.laws.proofs.Chains.{entry-at}
use Rattle.laws.proofs.TowerLinks.{next-or, next_low}
use Rattle.laws.proofs.Relinks.{towers-at, towers_before, towers-cut}
use Rattle.pages.specs.Places.{Inside}
use Rattle.entries.specs.Places.{IsPage}
use Rattle.search.specs.Spans.{Borne}
use Rattle.search.specs.Tables.{Reading}

-- ---- One tower

-- a tower on the span q, where the towers ts follow
abbrev pub linked : (w : Tower) (q : ℕ) (ts : List Tower) → LinkedTower
linked w q ts = record { tower = w; span_page = q; nexts = map (λ i. next_at i ts) (from 0 w.height) }

module _ (img : List ℕ) (w : Tower) (q : ℕ) (ts : List Tower) (b : Borne img (tower (linked w q ts))) where
  pub entry_here : (l : ℕ) → l < w.height → be32 (pg img w.page) (16 + 4 * l) ≡ next_at l ts
  entry_here l h = entry-at (pg img w.page) (λ i. next_at i ts) w.height l b.0.nexts h

-- ---- Towers in a row

abbrev pub AllBorne : (img : List ℕ) → List Column → Type 0
AllBorne img cs = Every (λ x. Borne img (tower x)) (link_towers cs)

-- the towers are on pages of the image
pub tower-pages : (img : List ℕ) (cs : List Column) → AllBorne img cs → Every (λ w. IsPage img w.page) (towers_of cs)
tower-pages img [] b = tt
tower-pages img (c ∷ cs) b = go c.tower b (tower-pages img cs)
  where
    go : (o : Option Tower) → Every (λ x. Borne img (tower x)) (map (λ t. linked t c.span.page (towers_of cs)) (tower_in o) ++ link_towers cs)
        → (AllBorne img cs → Every (λ w. IsPage img w.page) (towers_of cs)) → Every (λ w. IsPage img w.page) (tower_in o ++ towers_of cs)
    go none b ih = ih b
    go (some w) b ih = (b.0.1.0, ih b.1)

-- n names one of the first m of these spans
abbrev pub Names : (img : List ℕ) (d : Span) (m : ℕ) (cs : List Column) (n : ℕ) → Type 0
Names img d m cs n = (q : ℕ) × (q < m) × (be32 (pg img n) 12 ≡ (get_or (spans_of cs) q d).page)

-- as the towers of the first m columns do
pub tower-names : (img : List ℕ) (d : Span) (m : ℕ) (cs : List Column) → AllBorne img cs → Every (λ w. Names img d m cs w.page) (towers_of (take m cs))
tower-names img d zero cs b = tt
tower-names img d (suc m) [] b = tt
tower-names img d (suc m) (c ∷ cs) b =
    go c.tower b (λ h. every-so (λ (w : Tower). Names img d m cs w.page) (λ w n. (suc n.0, omega (arith, n.1), n.2)) (towers_of (take m cs)) (tower-names img d m cs h))
  where
    go : (o : Option Tower) → Every (λ x. Borne img (tower x)) (map (λ t. linked t c.span.page (towers_of cs)) (tower_in o) ++ link_towers cs)
        → (AllBorne img cs → Every (λ w. Names img d (suc m) (c ∷ cs) w.page) (towers_of (take m cs)))
        → Every (λ w. Names img d (suc m) (c ∷ cs) w.page) (tower_in o ++ towers_of (take m cs))
    go none b ih = ih b
    go (some w) b ih = ((0, omega arith, b.0.0.span_page), ih b.1)

-- ---- The last tower

-- it is one of the towers, or the page given
pub last-is : (R : ℕ → Type 0) (l p : ℕ) (ts : List Tower) → R p → Every (λ w. R w.page) ts → R (last_at l p ts)
last-is R l p [] r h = r
last-is R l p (t ∷ ts) r h = last-is R l (cond (ltb l t.height) t.page p) ts (go (ltb l t.height)) h.1
  where
    go : (b : Bool) → R (cond b t.page p)
    go true = h.0
    go false = r

-- where no other is higher it is the first, whatever its height
pub last-first : (l : ℕ) (w : Tower) (ts : List Tower) → last_at l w.page (w ∷ ts) ≡ last_at l w.page ts
last-first l w ts = ap (λ (p : ℕ). last_at l p ts) (go (ltb l w.height))
  where
    go : (b : Bool) → cond b w.page w.page ≡ w.page
    go true = refl
    go false = refl

-- ---- The towers of a table

module _ {img : List ℕ} {root : ℕ} (t : Reading img root) where
  pub all-towers : AllBorne img (columns t.table)
  all-towers =
      every-unmap (Borne img) tower (towers_in t.table) (every-right (Borne img) (map span (spans_in t.table)) (map tower (towers_in t.table)) t.readable.borne.1)

  -- from a place on
  pub towers-from : (i : ℕ) → AllBorne img (drop i (columns t.table))
  towers-from i =
      every-right (λ (x : LinkedTower). Borne img (tower x)) (towers_before t.table i) (link_towers (drop i (columns t.table)))
      (subst (Every (λ (x : LinkedTower). Borne img (tower x))) (towers-at t.table i) all-towers)

  pub head-tall : t.table.head.height ≤ 252
  head-tall = omega (arith, t.readable.ok.heights.0)

  pub others-from : (j : ℕ) → Every (λ w. Within 1 t.table.head.height w.height) (towers_of (drop j t.table.rest))
  others-from j =
      every-right (λ (w : Tower). Within 1 t.table.head.height w.height) (towers_of (take j t.table.rest)) (towers_of (drop j t.table.rest))
      (subst (Every (λ (w : Tower). Within 1 t.table.head.height w.height)) (towers-cut j t.table.rest) t.readable.ok.others)

  -- none is higher than the head
  pub above-head : (j l : ℕ) → t.table.head.height ≤ l → next_at l (towers_of (drop j t.table.rest)) ≡ 0
  above-head j l h =
      let ws : List Tower = towers_of (drop j t.table.rest) in
      next-or l ws
      ∙ next_low l 0 t.table.head.height ws (every-so (λ (w : Tower). Within 1 t.table.head.height w.height) (λ w h. h.1) ws (others-from j)) h

  -- the head
  pub head-borne : Borne img (tower (linked t.table.head t.table.first.page (towers_of t.table.rest)))
  head-borne = all-towers.0

  pub reading-head : be32 (pg img root) 12 ≡ t.table.head.page
  reading-head = subst (λ (p : ℕ). be32 (pg img p) 12 ≡ t.table.head.page) t.root t.readable.borne.0.0.level

  -- the last tower before a place, not the first, names a span before it
  pub last-names : (j l : ℕ) → Names img t.table.first (suc j) (columns t.table) (last_at l t.table.head.page (towers_of (take (suc j) (columns t.table))))
  last-names j l =
      last-is (Names img t.table.first (suc j) (columns t.table)) l t.table.head.page (towers_of (take (suc j) (columns t.table)))
      (0, omega arith, head-borne.0.span_page) (tower-names img t.table.first (suc j) (columns t.table) all-towers)

  pub head-inside : (head : ℕ) → head ≡ be32 (pg img root) 12 → (o w : ℕ) → o + w ≤ 1024 → Inside img head o w
  head-inside head e o w h =
      subst (λ (p : ℕ). Inside img p o w) (sym (e ∙ reading-head))
      (record { small = t.readable.small; low = head-borne.1.0.low; high = head-borne.1.0.high; fits = h })

  -- the head's current, as it is read
  pub head-height : (head height : ℕ) → head ≡ be32 (pg img root) 12 → height ≡ be16 (pg img head) 10 → height ≡ t.table.head.height
  head-height head height e f = f ∙ ap (λ (p : ℕ). be16 (pg img p) 10) (e ∙ reading-head) ∙ head-borne.0.height
