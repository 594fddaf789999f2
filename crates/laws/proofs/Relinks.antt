-- A table's towers relinked: the writes of the text as edits of links, and where they lead when a span is split or unlinked.
use Prim.Native.Nat.{ℕ, zero, suc, ◌+◌, ◌<◌, ◌≤◌, max}
use native.Mathlib.Omega.{arith}
use mathlib.Core.Path.{◌≡◌, refl, ap, ap₂, sym, ◌∙◌, subst}
use mathlib.Core.Logic.{◌⊎◌, inl, inr}
use mathlib.Core.Bool.{Bool, true, false, cond}
use mathlib.Core.List.{List, [], ◌∷◌, ◌++◌, map, map-append, map-map, append-nil}
use lib.ListN.{length, take, drop, take-append-drop}
use lib.Dec.{ltb}
use Rattle.blockfile.specs.Bytes.{Every, gather, from}
use Rattle.blockfile.specs.Layout.{Tower, Column, Table, columns, towers_of, tower_in}
use Rattle.blockfile.specs.Fields.{LinkedTower}
use Rattle.blockfile.specs.WellFormed.{next_at, link_towers, towers_in, count}
use Rattle.blockfile.specs.Put.{last_at, relink}
use Rattle.blockfile.proofs.Every.{every-left, every-join, every-so}
use Rattle.blockfile.proofs.Count.{count-here, count-more, count-append}
use Rattle.laws.specs.Owned.{pages_in}
use Rattle.laws.proofs.Numbers.{length-word32}
use Rattle.laws.proofs.Writes.{Fits}
use Rattle.laws.proofs.State.{tower_pages}
use Rattle.laws.proofs.TowerLinks.{Seat, seats_of, seated, Distinct, nexts_before, link_seats, Link, link_write, set_nexts, link_at, links_to, stretch, head_as, Low, High, Rise, low_or_high, gather_append, seated-towers, link-split, link-seats, sets-append, sets-apart, link-pages, head-sets, relinking}

-- ---- The text's writes as edits

-- the edits that `relink` writes
abbrev pub relinks : (after : Table) (j h : ℕ) → List Link
relinks a j h = links_to (λ i. next_at i (towers_of (drop j (columns a)))) a.head.page (towers_of (take j (columns a))) 0 h

-- the text's writes are these edits
pub relink-writes : (a : Table) (j h : ℕ) → relink a j h ≡ map link_write (relinks a j h)
unfolding relink
relink-writes a j h = sym (map-map link_write (link_at (λ i. next_at i (towers_of (drop j (columns a)))) a.head.page (towers_of (take j (columns a)))) (from 0 h))

-- ---- Where they are, and where they lead

-- what holds of f at each of n numbers in a row
pub every-from : {A : Type 0} (R : A → Type 0) (f : ℕ → A) (j n : ℕ) → ((i : ℕ) → i < j + n → R (f i)) → Every R (map f (from j n))
every-from R f j zero h = tt
every-from R f j (suc n) h = (h j (omega arith), every-from R f (suc j) n (λ i l. h i (omega arith)))

-- what holds of each list gathered holds of all
pub every-gather : {A B : Type 0} (P : A → Type 0) (R : B → Type 0) (f : A → List B) → ((x : A) → P x → Every R (f x)) → (xs : List A) → Every P xs → Every R (gather f xs)
every-gather P R f h [] e = tt
every-gather P R f h (x ∷ xs) e = every-join R (f x) (gather f xs) (h x e.0) (every-gather P R f h xs e.1)

last-among : (i : ℕ) (t : Tower) (ts : List Tower) → 1 ≤ count (last_at i t.page (t ∷ ts)) (pages_in (t ∷ ts))
last-among i t ts = go (low_or_high i (t ∷ ts))
  where
    go : Low i (t ∷ ts) ⊎ High i (t ∷ ts) → 1 ≤ count (last_at i t.page (t ∷ ts)) (pages_in (t ∷ ts))
    go (inl l) = subst (λ (p : ℕ). 1 ≤ count p (pages_in (t ∷ ts))) (sym (l.last t.page)) (omega (arith, count-here t.page (pages_in ts)))
    go (inr l) = l.last t.page

next-among : (i : ℕ) (ts : List Tower) → 1 ≤ count (next_at i ts) (0 ∷ pages_in ts)
next-among i [] = omega arith
next-among i (t ∷ ts) = go (ltb i t.height) (next-among i ts)
  where
    go : (b : Bool) → 1 ≤ count (next_at i ts) (0 ∷ pages_in ts) → 1 ≤ count (cond b t.page (next_at i ts)) (0 ∷ (t.page ∷ pages_in ts))
    go true h = omega (arith, count-here t.page (pages_in ts), count-more t.page 0 (t.page ∷ pages_in ts))
    go false h = omega arith

-- each is on the page of a tower before place j
pub relinks-pages : (a : Table) (j h : ℕ) → Every (λ l. 1 ≤ count l.page (pages_in (towers_of (take (suc j) (columns a))))) (relinks a (suc j) h)
relinks-pages a j h =
    every-from (λ (l : Link). 1 ≤ count l.page (pages_in (towers_of (take (suc j) (columns a)))))
    (link_at (λ i. next_at i (towers_of (drop (suc j) (columns a)))) a.head.page (towers_of (take (suc j) (columns a)))) 0 h
    (λ i l. last-among i a.head (towers_of (take j a.rest)))

module _ (a : Table) (j h : ℕ) where
  each : ℕ → Link
  each = link_at (λ i. next_at i (towers_of (drop j (columns a)))) a.head.page (towers_of (take j (columns a)))

  -- each is at a level below h
  pub relinks-levels : Every (λ l. l.level < h) (relinks a j h)
  unfolding each
  relinks-levels = every-from (λ (l : Link). l.level < h) each 0 h (λ i l. omega arith)

  -- each leads to a tower from place j on, or to 0
  pub relinks-to : Every (λ l. 1 ≤ count l.to (0 ∷ pages_in (towers_of (drop j (columns a))))) (relinks a j h)
  unfolding each
  relinks-to = every-from (λ (l : Link). 1 ≤ count l.to (0 ∷ pages_in (towers_of (drop j (columns a))))) each 0 h (λ i l. next-among i (towers_of (drop j (columns a))))

  -- each write lies on its page
  pub relink-fits : h ≤ 252 → Every Fits (relink a j h)
  unfolding each relink
  relink-fits l = every-from Fits (λ i. link_write (each i)) 0 h (λ i k. omega (arith, length-word32 (each i).to))

-- ---- A table's towers around a place

-- a table's towers before place j, linked as they are in the table
abbrev pub towers_before : Table → (j : ℕ) → List LinkedTower
towers_before t j = link_seats (λ i. next_at i (towers_of (drop j (columns t)))) (seats_of (take j (columns t)))

-- a table's towers, by the ones before place j and the ones from it on
pub towers-at : (t : Table) (j : ℕ) → towers_in t ≡ towers_before t j ++ link_towers (drop j (columns t))
towers-at t j = ap link_towers (sym (take-append-drop j (columns t))) ∙ link-split (take j (columns t)) (drop j (columns t))

-- the pages of the towers of two rows
pub pages-append : (cs ds : List Column) → pages_in (towers_of (cs ++ ds)) ≡ pages_in (towers_of cs) ++ pages_in (towers_of ds)
pages-append cs ds = ap pages_in (gather_append (λ (c : Column). tower_in c.tower) cs ds) ∙ map-append (λ (t : Tower). t.page) (towers_of cs) (towers_of ds)

-- links are of the columns' towers
pub links-pages : (f : ℕ → ℕ) (cs : List Column) → tower_pages (link_seats f (seats_of cs)) ≡ pages_in (towers_of cs)
links-pages f cs = link-pages f (seats_of cs) ∙ ap pages_in (sym (seated-towers cs))

-- pages of towers before a place are no pages of towers behind it
apart-behind : (cs ds : List Column) → Distinct (towers_of (cs ++ ds)) → (n : ℕ) → 1 ≤ count n (pages_in (towers_of cs)) → count n (tower_pages (link_towers ds)) ≡ 0
apart-behind cs ds o n h =
    let e : pages_in (towers_of (cs ++ ds)) ≡ pages_in (towers_of cs) ++ pages_in (towers_of ds) = pages-append cs ds in
    let p : tower_pages (link_towers ds) ≡ pages_in (towers_of ds) = ap tower_pages (link-seats ds) ∙ links-pages (λ i. 0) ds in
    rw p (omega (arith, o n, ap (count n) e, count-append n (pages_in (towers_of cs)) (pages_in (towers_of ds))))

-- towers behind, on other pages, stand aside
aside : (v : Tower) (ls : List Link) (x : LinkedTower) (xs ys : List LinkedTower) → v.page ≡ x.tower.page → Every (λ l. count l.page (tower_pages ys) ≡ 0) ls
    → head_as v (set_nexts ls (x ∷ xs)) ++ ys ≡ head_as v (set_nexts ls (x ∷ (xs ++ ys)))
aside v ls x xs ys e h =
    ap₂ (λ (k l : List LinkedTower). k ++ l) (head-sets v ls x xs e) (sym (sets-apart ls ys h))
    ∙ sym (sets-append ls (head_as v (x ∷ xs)) ys)
    ∙ sym (head-sets v ls x (xs ++ ys) e)

-- The links of the table a, from links f behind place j + 1 and a head w: where f agrees with a from level h on, a's `relinks` lead
-- to a's links
pub table-relinked : (a : Table) (w : Tower) (j h : ℕ) (ms : List ℕ) (f : ℕ → ℕ)
    → Rise w a.head (seats_of (take j a.rest)) h ms → Distinct (towers_of (columns a))
    → ((i : ℕ) → h ≤ i → i < w.height → f i ≡ next_at i (towers_of (drop j a.rest)))
    → towers_in a
    ≡ head_as a.head
    (set_nexts (relinks a (suc j) h)
    (stretch ms (link_seats f (record { span_page = a.first.page; tower = w } ∷ seats_of (take j a.rest)) ++ link_towers (drop j a.rest))))
table-relinked a w j h ms f r o e =
    towers-at a (suc j)
    ∙ ap (λ (l : List LinkedTower). l ++ link_towers (drop j a.rest)) (sym (relinking f g h a.first.page w a.head xs ms r e))
    ∙ ap (λ (ts : List Tower). head_as a.head (set_nexts (links_to g a.head.page (a.head ∷ ts) 0 h) start) ++ link_towers (drop j a.rest))
    (sym (seated-towers (take j a.rest)))
    ∙ aside a.head (relinks a (suc j) h) (record { tower = w; span_page = a.first.page; nexts = nexts_before f w.height (seated xs) ++ ms }) (link_seats f xs)
    (link_towers (drop j a.rest)) r.same_page others
  where
    g : ℕ → ℕ
    g i = next_at i (towers_of (drop j a.rest))

    xs : List Seat
    xs = seats_of (take j a.rest)

    start : List LinkedTower
    start = stretch ms (link_seats f (record { span_page = a.first.page; tower = w } ∷ xs))

    once : Distinct (towers_of (take (suc j) (columns a) ++ drop (suc j) (columns a)))
    once = subst (λ (cs : List Column). Distinct (towers_of cs)) (sym (take-append-drop (suc j) (columns a))) o

    others : Every (λ l. count l.page (tower_pages (link_towers (drop j a.rest))) ≡ 0) (relinks a (suc j) h)
    others =
        every-so (λ (l : Link). 1 ≤ count l.page (pages_in (towers_of (take (suc j) (columns a))))) (λ l. apart-behind (take (suc j) (columns a)) (drop (suc j) (columns a)) once l.page)
        (relinks a (suc j) h) (relinks-pages a j h)

-- ---- What relinking asks

-- as many links as towers
pub length-links : (f : ℕ → ℕ) (cs : List Column) → length (link_seats f (seats_of cs)) ≡ length (towers_of cs)
length-links f cs = go (seats_of cs) ∙ ap length (sym (seated-towers cs))
  where
    go : (xs : List Seat) → length (link_seats f xs) ≡ length (seated xs)
    go [] = refl
    go (x ∷ xs) = ap suc (go xs)

prefix-distinct : (w : Tower) (cs ds : List Column) → Distinct (w ∷ towers_of (cs ++ ds)) → Distinct (w ∷ towers_of cs)
prefix-distinct w cs ds o n =
    let e : pages_in (towers_of (cs ++ ds)) ≡ pages_in (towers_of cs) ++ pages_in (towers_of ds) = pages-append cs ds in
    omega (arith, o n, ap (count n) e, count-append n (pages_in (towers_of cs)) (pages_in (towers_of ds)))

-- towers up to a place and from it on
pub towers-cut : (j : ℕ) (cs : List Column) → towers_of cs ≡ towers_of (take j cs) ++ towers_of (drop j cs)
towers-cut j cs = ap towers_of (sym (take-append-drop j cs)) ∙ gather_append (λ (c : Column). tower_in c.tower) (take j cs) (drop j cs)

-- what holds of all towers holds of the first ones
pub every-taken : (R : Tower → Type 0) (j : ℕ) (cs : List Column) → Every R (towers_of cs) → Every R (seated (seats_of (take j cs)))
every-taken R j cs h =
    subst (Every R) (seated-towers (take j cs))
    (every-left R (towers_of (take j cs)) (towers_of (drop j cs))
    (subst (Every R) (towers-cut j cs) h))

-- the head before and after, of a table a whose towers are distinct and before place j + 1 no higher than the head was
pub rise : (a : Table) (w : Tower) (j h : ℕ) (ms : List ℕ) → a.head.page ≡ w.page → a.head.height ≡ max w.height h → w.height + length ms ≡ a.head.height
    → Every (λ u. u.height ≤ w.height) (seated (seats_of (take j a.rest))) → Distinct (towers_of (columns a)) → Rise w a.head (seats_of (take j a.rest)) h ms
rise a w j h ms e k m l o =
    record {
      same_page = e;
      highest = k;
      numbers = m;
      lower = l;
      distinct = subst (λ (ts : List Tower). Distinct (w ∷ ts)) (seated-towers (take j a.rest)) (prefix-distinct w (take j a.rest) (drop j a.rest) once);
    }
  where
    once : Distinct (w ∷ towers_of (take j a.rest ++ drop j a.rest))
    once n = rw (take-append-drop j a.rest) (subst (λ (q : ℕ). count n (q ∷ pages_in (towers_of a.rest)) ≤ 1) e (o n))

-- the same where the head does not rise
pub table-relinked-low : (a : Table) (j h : ℕ) (f : ℕ → ℕ) → h ≤ a.head.height → Every (λ w. w.height ≤ a.head.height) (seated (seats_of (take j a.rest)))
    → Distinct (towers_of (columns a)) → ((i : ℕ) → h ≤ i → i < a.head.height → f i ≡ next_at i (towers_of (drop j a.rest)))
    → towers_in a ≡ set_nexts (relinks a (suc j) h) (link_seats f (record { span_page = a.first.page; tower = a.head } ∷ seats_of (take j a.rest)) ++ link_towers (drop j a.rest))
table-relinked-low a j h f k low o e =
    table-relinked a a.head j h [] f
    (rise a a.head j h [] refl (omega arith) (omega arith) low o) o e
    ∙ head-sets a.head (relinks a (suc j) h) (first (nexts_before f a.head.height (seated xs) ++ [])) (link_seats f xs ++ link_towers (drop j a.rest)) refl
    ∙ ap (λ (ns : List ℕ). set_nexts (relinks a (suc j) h) (first ns ∷ (link_seats f xs ++ link_towers (drop j a.rest)))) (append-nil (nexts_before f a.head.height (seated xs)))
  where
    xs : List Seat
    xs = seats_of (take j a.rest)

    first : List ℕ → LinkedTower
    first ns = record { tower = a.head; span_page = a.first.page; nexts = ns }
