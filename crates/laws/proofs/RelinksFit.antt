-- The links that a relinking writes can be written: a tower on the page of each has its level.
use Prim.Native.Nat.{ℕ, suc, ◌+◌, ◌<◌, ◌≤◌}
use native.Mathlib.Omega.{arith}
use mathlib.Core.Path.{◌≡◌, refl, ap, ap₂, sym, ◌∙◌, subst}
use mathlib.Core.Bool.{Bool, true, false, cond}
use mathlib.Core.List.{List, [], ◌∷◌, ◌++◌}
use lib.ListN.{length, take, drop, length-append}
use lib.Dec.{lit<, ltb}
use borrow.Author.Tests.{lt-ltb}
use Rattle.blockfile.specs.Bytes.{Every}
use Rattle.blockfile.specs.Layout.{Tower, Table, columns, towers_of}
use Rattle.blockfile.specs.Fields.{LinkedTower}
use Rattle.blockfile.specs.WellFormed.{next_at, count}
use Rattle.blockfile.specs.Put.{last_at}
use Rattle.blockfile.proofs.Every.{every-right, every-so, every_map}
use Rattle.blockfile.proofs.Count.{count-here, count-more}
use Rattle.laws.specs.Owned.{pages_in}
use Rattle.laws.proofs.TowerLinks.{Seat, seated, next_or, nexts_before, link_seats, Link, link_at, stretch}
use Rattle.laws.proofs.Relinks.{relinks, every-from, relinks-levels, relinks-to, towers-cut}
use Rattle.laws.proofs.Inside.{Word, counted-every}
use Rattle.laws.proofs.LinksWritten.{tall, LinkFits}
use Rattle.laws.proofs.Fitting.{SmallPages, length-levels}

-- the pages of the towers whose current is above k
abbrev pub above : (k : ℕ) → List Tower → List ℕ
above k [] = []
above k (t ∷ ts) = cond (ltb k t.height) (t.page ∷ above k ts) (above k ts)

-- ---- How many links towers have

-- the towers of two lists that have more than k links
pub tall-append : (k : ℕ) (xs ys : List LinkedTower) → tall k (xs ++ ys) ≡ tall k xs ++ tall k ys
tall-append k [] ys = refl
tall-append k (x ∷ xs) ys = go (ltb k (length x.nexts)) (tall-append k xs ys)
  where
    go : (b : Bool) → tall k (xs ++ ys) ≡ tall k xs ++ tall k ys
        → cond b (x.tower.page ∷ tall k (xs ++ ys)) (tall k (xs ++ ys)) ≡ cond b (x.tower.page ∷ tall k xs) (tall k xs) ++ tall k ys
    go true e = ap (λ (l : List ℕ). x.tower.page ∷ l) e
    go false e = e

length-nexts : (f : ℕ → ℕ) (n : ℕ) (ts : List Tower) → length (nexts_before f n ts) ≡ n
length-nexts f n ts = length-levels (λ i. next_or i (f i) ts) 0 n

-- towers linked have as many links as their height
pub tall-links : (k : ℕ) (f : ℕ → ℕ) (xs : List Seat) → tall k (link_seats f xs) ≡ above k (seated xs)
tall-links k f [] = refl
tall-links k f (x ∷ xs) =
    ap₂ (λ (n : ℕ) (l : List ℕ). cond (ltb k n) (x.tower.page ∷ l) l) (length-nexts f x.tower.height (seated xs)) (tall-links k f xs)

-- with the first one's links followed by further ones, as if it were a higher tower v
pub tall-stretched : (k : ℕ) (f : ℕ → ℕ) (x : Seat) (xs : List Seat) (ys : List LinkedTower) (ms : List ℕ) (v : Tower) → v.page ≡ x.tower.page → x.tower.height + length ms ≡ v.height
    → tall k (stretch ms (link_seats f (x ∷ xs) ++ ys)) ≡ above k (v ∷ seated xs) ++ tall k ys
tall-stretched k f x xs ys ms v e h =
    ap₂ (λ (n : ℕ) (l : List ℕ). cond (ltb k n) (x.tower.page ∷ l) l)
    (length-append (nexts_before f x.tower.height (seated xs)) ms ∙ ap (λ (n : ℕ). n + length ms) (length-nexts f x.tower.height (seated xs)) ∙ h)
    (tall-append k (link_seats f xs) ys ∙ ap (λ (l : List ℕ). l ++ tall k ys) (tall-links k f xs))
    ∙ ap (λ (n : ℕ). cond (ltb k v.height) (n ∷ (above k (seated xs) ++ tall k ys)) (above k (seated xs) ++ tall k ys)) (sym e)
    ∙ go (ltb k v.height)
  where
    go : (b : Bool) → cond b (v.page ∷ (above k (seated xs) ++ tall k ys)) (above k (seated xs) ++ tall k ys)
        ≡ cond b (v.page ∷ above k (seated xs)) (above k (seated xs)) ++ tall k ys
    go true = refl
    go false = refl

-- ---- Where the links are

last-above : (k p : ℕ) (ts : List Tower) → 1 ≤ count (last_at k p ts) (p ∷ above k ts)
last-above k p [] = omega (arith, count-here p [])
last-above k p (t ∷ ts) = go (ltb k t.height) (λ q. last-above k q ts)
  where
    go : (b : Bool) → ((q : ℕ) → 1 ≤ count (last_at k q ts) (q ∷ above k ts))
        → 1 ≤ count (last_at k (cond b t.page p) ts) (p ∷ cond b (t.page ∷ above k ts) (above k ts))
    go true ih = omega (arith, ih t.page, count-more (last_at k t.page ts) p (t.page ∷ above k ts))
    go false ih = ih p

-- a head above level k
head-above : (k : ℕ) (t : Tower) (ts : List Tower) → k < t.height → 1 ≤ count (last_at k t.page (t ∷ ts)) (above k (t ∷ ts))
head-above k t ts h = rw (lt-ltb k t.height h) (last-above k t.page ts)

both : {A : Type 0} (R S : A → Type 0) (xs : List A) → Every R xs → Every S xs → Every (λ x. R x × S x) xs
both R S [] h k = tt
both R S (x ∷ xs) h k = ((h.0, k.0), both R S xs h.1 k.1)

module _ (a : Table) (j h : ℕ) (ws : List LinkedTower) where
  abbrev On : Link → Type 0
  On l = 1 ≤ count l.page (above l.level (towers_of (take (suc j) (columns a))))

  on-towers : h ≤ a.head.height → Every On (relinks a (suc j) h)
  on-towers l =
      every-from On (link_at (λ i. next_at i (towers_of (drop (suc j) (columns a)))) a.head.page (towers_of (take (suc j) (columns a)))) 0 h
      (λ k m. head-above k a.head (towers_of (take j a.rest)) (omega arith))

  to-words : SmallPages a → Every (λ l. Word l.to) (relinks a (suc j) h)
  to-words s =
      let b : Every (λ (w : Tower). Word w.page) (towers_of (drop (suc j) (columns a)))
      = every-right (λ (w : Tower). Word w.page) (towers_of (take (suc j) (columns a))) (towers_of (drop (suc j) (columns a)))
      (subst (Every (λ (w : Tower). Word w.page)) (towers-cut (suc j) (columns a)) s.towers) in
      every-so (λ (l : Link). 1 ≤ count l.to (0 ∷ pages_in (towers_of (drop (suc j) (columns a)))))
      (λ l c. counted-every Word (0 ∷ pages_in (towers_of (drop (suc j) (columns a)))) l.to (lit< tt, every_map Word (λ (w : Tower). w.page) (towers_of (drop (suc j) (columns a))) b) c)
      (relinks a (suc j) h) (relinks-to a (suc j) h)

  -- the links of the table a at the levels below h can be written on ws, if in ws at least the towers before place j + 1 have their levels
  pub relinks-fit : h ≤ a.head.height → h ≤ 252 → SmallPages a
      → ((k n : ℕ) → count n (above k (towers_of (take (suc j) (columns a)))) ≤ count n (tall k ws))
      → Every (LinkFits ws) (relinks a (suc j) h)
  relinks-fit l m s c =
      every-so (λ (l : Link). On l × ((l.level < h) × Word l.to)) (λ l g. record { there = omega (arith, g.0, c l.level l.page); low = omega (arith, g.1.0); small = g.1.1 })
      (relinks a (suc j) h)
      (both On (λ (l : Link). (l.level < h) × Word l.to) (relinks a (suc j) h) (on-towers l)
      (both (λ (l : Link). l.level < h) (λ (l : Link). Word l.to) (relinks a (suc j) h) (relinks-levels a (suc j) h) (to-words s)))
