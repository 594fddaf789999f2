-- Links of towers as data: the links of towers in a row, what comes behind them given by a function, and edits of single links.
use Prim.Native.Nat.{ℕ, zero, suc, ◌+◌, ◌*◌, ◌-◌, ◌<◌, ◌≤◌, max}
use native.Mathlib.Omega.{arith}
use native.Mathlib.Decide.{ℕ_discrete}
use mathlib.Core.Path.{◌≡◌, refl, ap, ap₂, sym, ◌∙◌, subst}
use mathlib.Core.Logic.{◌≢◌, ◌⊎◌, inl, inr}
use mathlib.Core.Bool.{Bool, true, false, cond}
use mathlib.Core.Option.{Option, none, some}
use mathlib.Core.List.{List, [], ◌∷◌, ◌++◌, map, map-append, map-map, append_assoc}
use lib.ListN.{length, get_or, set}
use lib.Dec.{ltb, eqb}
use borrow.Author.Tests.{ltb-true, ltb-false, lt-ltb, le-ltb, eq-eqb, ne_eqb}
use Rattle.blockfile.specs.Bytes.{Write, on, word32, Every, gather, from}
use Rattle.blockfile.specs.Layout.{Tower, Column, towers_of, tower_in}
use Rattle.blockfile.specs.Fields.{LinkedTower}
use Rattle.blockfile.specs.WellFormed.{next_at, link_towers, count}
use Rattle.blockfile.specs.Put.{last_at}
use Rattle.blockfile.proofs.Every.{every-so}
use Rattle.blockfile.proofs.Count.{count-here, count-more}
use Rattle.laws.specs.Owned.{pages_in}
use Rattle.laws.proofs.State.{tower_pages}

-- ---- Definitions

-- a tower and the page of its span: what linking reads of a column that has a tower
pub record Seat : Type 0 where
  pub span_page : ℕ
  pub tower : Tower

-- the seat of a column, if it has a tower
abbrev pub seat_in : Column → List Seat
seat_in c = map (λ w. record { span_page = c.span.page; tower = w }) (tower_in c.tower)

abbrev pub seats_of : List Column → List Seat
seats_of cs = gather seat_in cs

-- the towers of seats
abbrev pub seated : List Seat → List Tower
seated xs = map (λ x. x.tower) xs

-- no two towers on one page
abbrev pub Distinct : List Tower → Type 0
Distinct ts = (n : ℕ) → count n (pages_in ts) ≤ 1

-- the first of these towers whose current is above i; e if none is
abbrev pub next_or : (i e : ℕ) → List Tower → ℕ
next_or i e [] = e
next_or i e (t ∷ ts) = cond (ltb i t.height) t.page (next_or i e ts)

-- the n links of a tower before ts, where behind these the next one at level i is f i
abbrev pub nexts_before : (f : ℕ → ℕ) (n : ℕ) → List Tower → List ℕ
nexts_before f n ts = map (λ i. next_or i (f i) ts) (from 0 n)

-- the links of towers in a row, where behind all of them the next one at level i is f i
abbrev pub link_seats : (f : ℕ → ℕ) → List Seat → List LinkedTower
link_seats f [] = []
link_seats f (x ∷ xs) =
    record { tower = x.tower; span_page = x.span_page; nexts = nexts_before f x.tower.height (seated xs) } ∷ link_seats f xs

-- an edit of one link: entry `level` of the tower on this page becomes `to`
pub record Link : Type 0 where
  pub page : ℕ
  pub level : ℕ
  pub to : ℕ

-- such an edit as a write
abbrev pub link_write : Link → Write
link_write l = on l.page (16 + 4 * l.level) (word32 l.to)

-- the tower, where it is on this page, with entry i set to m
abbrev pub set_entry : (page i m : ℕ) → LinkedTower → LinkedTower
set_entry p i m x = record { tower = x.tower; span_page = x.span_page; nexts = cond (eqb p x.tower.page) (set x.nexts i m) x.nexts }

-- of the towers, the one on this page gets entry i set to m
abbrev pub set_next : (page i m : ℕ) → List LinkedTower → List LinkedTower
set_next p i m xs = map (set_entry p i m) xs

-- several edits, the first one first
abbrev pub set_nexts : List Link → List LinkedTower → List LinkedTower
set_nexts [] xs = xs
set_nexts (l ∷ ls) xs = set_nexts ls (set_next l.page l.level l.to xs)

-- ---- Seats of columns

-- what is gathered from two lists
pub gather_append : {A B : Type 0} (f : A → List B) (xs ys : List A) → gather f (xs ++ ys) ≡ gather f xs ++ gather f ys
gather_append f [] ys = refl
gather_append f (x ∷ xs) ys = rw (gather_append f xs ys) (sym (append_assoc (f x) (gather f xs) (gather f ys)))

-- seats hold the columns' towers
pub seated-towers : (cs : List Column) → towers_of cs ≡ seated (seats_of cs)
seated-towers [] = refl
seated-towers (c ∷ cs) = go c.tower (seated-towers cs)
  where
    go : (o : Option Tower) → towers_of cs ≡ seated (seats_of cs)
        → tower_in o ++ towers_of cs ≡ seated (map (λ w. record { span_page = c.span.page; tower = w }) (tower_in o) ++ seats_of cs)
    go none h = h
    go (some w) h = ap (λ (l : List Tower). w ∷ l) h

-- ---- The next tower

-- the next tower as the text has it
pub next-or : (i : ℕ) (ts : List Tower) → next_at i ts ≡ next_or i 0 ts
next-or i [] = refl
next-or i (t ∷ ts) = ap (cond (ltb i t.height) t.page) (next-or i ts)

-- the next tower in two rows
pub next-append : (i e : ℕ) (ts us : List Tower) → next_or i e (ts ++ us) ≡ next_or i (next_or i e us) ts
next-append i e [] us = refl
next-append i e (t ∷ ts) us = ap (cond (ltb i t.height) t.page) (next-append i e ts us)

-- the next tower among columns, by their seats
pub next-seats : (i : ℕ) (cs : List Column) → next_at i (towers_of cs) ≡ next_or i 0 (seated (seats_of cs))
next-seats i cs = next-or i (towers_of cs) ∙ ap (next_or i 0) (seated-towers cs)

-- the links that the text computes
pub link-seats : (cs : List Column) → link_towers cs ≡ link_seats (λ i. 0) (seats_of cs)
link-seats [] = refl
link-seats (c ∷ cs) = go c.tower (link-seats cs)
  where
    go : (o : Option Tower) → link_towers cs ≡ link_seats (λ i. 0) (seats_of cs)
        → map (λ t. record { tower = t; span_page = c.span.page; nexts = map (λ i. next_at i (towers_of cs)) (from 0 t.height) }) (tower_in o) ++ link_towers cs
        ≡ link_seats (λ i. 0) (map (λ w. record { span_page = c.span.page; tower = w }) (tower_in o) ++ seats_of cs)
    go none h = h
    go (some t) h = λ j. record { tower = t; span_page = c.span.page; nexts = map (λ i. next-seats i cs j) (from 0 t.height) } ∷ h j

-- towers in a row, by the ones before and the ones behind
pub link-append : (f : ℕ → ℕ) (xs ys : List Seat) → link_seats f (xs ++ ys) ≡ link_seats (λ i. next_or i (f i) (seated ys)) xs ++ link_seats f ys
link-append f [] ys = refl
link-append f (x ∷ xs) ys = λ j. record { tower = x.tower; span_page = x.span_page; nexts = map (λ i. next i j) (from 0 x.tower.height) } ∷ link-append f xs ys j
  where
    next : (i : ℕ) → next_or i (f i) (seated (xs ++ ys)) ≡ next_or i (next_or i (f i) (seated ys)) (seated xs)
    next i = ap (next_or i (f i)) (map-append (λ (x : Seat). x.tower) xs ys) ∙ next-append i (f i) (seated xs) (seated ys)

-- the towers of columns, by the ones before and the ones behind
pub link-split : (cs ds : List Column) → link_towers (cs ++ ds) ≡ link_seats (λ i. next_at i (towers_of ds)) (seats_of cs) ++ link_towers ds
link-split cs ds =
    link-seats (cs ++ ds)
    ∙ ap (link_seats (λ i. 0)) (gather_append seat_in cs ds)
    ∙ link-append (λ i. 0) (seats_of cs) (seats_of ds)
    ∙ sym (λ j. link_seats (λ i. next-seats i ds j) (seats_of cs) ++ link-seats ds j)

-- ---- Pages

-- a page that is on the list, and one that is not
other-page : (p q : ℕ) (ns : List ℕ) → 1 ≤ count p ns → count q ns ≡ 0 → eqb p q ≡ false
other-page p q ns h z = ne_eqb p q (λ e. let c : 1 ≤ count q ns = subst (λ (m : ℕ). 1 ≤ count m ns) e h in omega arith)

first-apart : (p q : ℕ) (ns : List ℕ) → count p (q ∷ ns) ≡ 0 → eqb p q ≡ false
first-apart p q ns z = ne_eqb p q (λ e. let c : 1 + count p ns ≡ 0 = sym (count-here p ns) ∙ subst (λ (m : ℕ). count p (m ∷ ns) ≡ 0) (sym e) z in omega arith)

fresh-first : (q : ℕ) (ns : List ℕ) → ((n : ℕ) → count n (q ∷ ns) ≤ 1) → count q ns ≡ 0
fresh-first q ns o = let c : count q (q ∷ ns) ≡ 1 + count q ns = count-here q ns in omega (arith, o q)

distinct-rest : (t : Tower) (ts : List Tower) → Distinct (t ∷ ts) → Distinct ts
distinct-rest t ts o n = omega (arith, o n, count-more n t.page (pages_in ts))

-- ---- Edits

-- edits of two rows
pub sets-append : (ls : List Link) (xs ys : List LinkedTower) → set_nexts ls (xs ++ ys) ≡ set_nexts ls xs ++ set_nexts ls ys
sets-append [] xs ys = refl
sets-append (l ∷ ls) xs ys =
    ap (set_nexts ls) (map-append (set_entry l.page l.level l.to) xs ys) ∙ sets-append ls (set_next l.page l.level l.to xs) (set_next l.page l.level l.to ys)

-- towers on other pages are left as they are
set_apart : (p i m : ℕ) (xs : List LinkedTower) → count p (tower_pages xs) ≡ 0 → set_next p i m xs ≡ xs
set_apart p i m [] z = refl
set_apart p i m (x ∷ xs) z =
    ap₂ (λ (ns : List ℕ) (l : List LinkedTower). record { tower = x.tower; span_page = x.span_page; nexts = ns } ∷ l)
    (rw (first-apart p x.tower.page (tower_pages xs) z))
    (set_apart p i m xs (omega (arith, count-more p x.tower.page (tower_pages xs))))

-- edits on no page of theirs leave towers as they are
pub sets-apart : (ls : List Link) (xs : List LinkedTower) → Every (λ l. count l.page (tower_pages xs) ≡ 0) ls → set_nexts ls xs ≡ xs
sets-apart [] xs h = refl
sets-apart (l ∷ ls) xs h = ap (set_nexts ls) (set_apart l.page l.level l.to xs h.0) ∙ sets-apart ls xs h.1

-- edits leave towers on their pages
pub sets-pages : (ls : List Link) (xs : List LinkedTower) → tower_pages (set_nexts ls xs) ≡ tower_pages xs
sets-pages [] xs = refl
sets-pages (l ∷ ls) xs = sets-pages ls (set_next l.page l.level l.to xs) ∙ map-map (λ (x : LinkedTower). x.tower.page) (set_entry l.page l.level l.to) xs

-- links are of the towers in the seats
pub link-pages : (f : ℕ → ℕ) (xs : List Seat) → tower_pages (link_seats f xs) ≡ pages_in (seated xs)
link-pages f [] = refl
link-pages f (x ∷ xs) = ap (λ (l : List ℕ). x.tower.page ∷ l) (link-pages f xs)

-- ---- One level relinked

-- numbers in a row, mapped
pub map-from : {A : Type 0} (F G : ℕ → A) (j n : ℕ) → ((i : ℕ) → j ≤ i → i < j + n → F i ≡ G i) → map F (from j n) ≡ map G (from j n)
map-from F G j zero e = refl
map-from {A} F G j (suc n) e =
    ap₂ (λ (x : A) (xs : List A). x ∷ xs) (e j (omega arith) (omega arith)) (map-from F G (suc j) n (λ i l m. e i (omega arith) (omega arith)))

set-from : (F G : ℕ → ℕ) (j n k : ℕ) → ((i : ℕ) → i ≢ j + k → F i ≡ G i) → set (map F (from j n)) k (G (j + k)) ≡ map G (from j n)
set-from F G j zero k e = refl
set-from F G j (suc n) zero e =
    let z : j + 0 ≡ j = omega arith in
    ap₂ (λ (x : ℕ) (xs : List ℕ). x ∷ xs) (ap G z) (map-from F G (suc j) n (λ i l m. e i (omega arith)))
set-from F G j (suc n) (suc k) e =
    let z : j + suc k ≡ suc j + k = omega arith in
    ap₂ (λ (x : ℕ) (xs : List ℕ). x ∷ xs) (e j (omega arith)) (rw z (set-from F G (suc j) n k (λ i q. e i (omega arith))))

-- whether a tower of the list is above level k
pub record Low (k : ℕ) (ts : List Tower) : Type 0 where
  pub last : (p : ℕ) → last_at k p ts ≡ p
  pub next : (e : ℕ) → next_or k e ts ≡ e

pub record High (k : ℕ) (ts : List Tower) : Type 0 where
  pub last : (p : ℕ) → 1 ≤ count (last_at k p ts) (pages_in ts)
  pub next : (e d : ℕ) → next_or k e ts ≡ next_or k d ts

-- a level has no tower of the list above it, or one
pub low_or_high : (k : ℕ) (ts : List Tower) → Low k ts ⊎ High k ts
low_or_high k [] = inl (record { last = λ p. refl; next = λ e. refl })
low_or_high k (t ∷ ts) = go (ltb k t.height) refl (low_or_high k ts)
  where
    listed : (p n : ℕ) → last_at k p (t ∷ ts) ≡ n → 1 ≤ count n (pages_in ts) → 1 ≤ count (last_at k p (t ∷ ts)) (pages_in (t ∷ ts))
    listed p n same h = subst (λ (m : ℕ). 1 ≤ count m (pages_in (t ∷ ts))) (sym same) (omega (arith, h, count-more n t.page (pages_in ts)))

    go : (b : Bool) → ltb k t.height ≡ b → Low k ts ⊎ High k ts → Low k (t ∷ ts) ⊎ High k (t ∷ ts)
    go true e (inl h) = inr (record { last = λ p. rw (e, h.last t.page) (omega (arith, count-here t.page (pages_in ts))); next = λ m d. rw e })
    go true e (inr h) = inr (record { last = λ p. listed p (last_at k t.page ts) (rw e) (h.last t.page); next = λ m d. rw e })
    go false e (inl h) = inl (record { last = λ p. rw e (h.last p); next = λ m. rw e (h.next m) })
    go false e (inr h) = inr (record { last = λ p. listed p (last_at k p ts) (rw e) (h.last p); next = λ m d. rw e (h.next m d) })

either : (b : Bool) (n : ℕ) → cond b n n ≡ n
either true n = refl
either false n = refl

-- links of one tower at level k: f and g are what comes behind all, and differ at most at level k
module _ (k : ℕ) (f g : ℕ → ℕ) (same : (i : ℕ) → i ≢ k → f i ≡ g i) where
  -- where a tower behind is above k, or the tower itself is not, nothing changes
  kept_high : (n : ℕ) (ts : List Tower) → High k ts → nexts_before f n ts ≡ nexts_before g n ts
  kept_high n ts h = map-from (λ i. next_or i (f i) ts) (λ i. next_or i (g i) ts) 0 n (λ i l m. at i (ℕ_discrete i k))
    where
      at : (i : ℕ) → Dec (i ≡ k) → next_or i (f i) ts ≡ next_or i (g i) ts
      at i (yes e) = subst (λ (j : ℕ). next_or j (f j) ts ≡ next_or j (g j) ts) (sym e) (h.next (f k) (g k))
      at i (no q) = ap (λ (e : ℕ). next_or i e ts) (same i q)

  kept_low : (n : ℕ) (ts : List Tower) → n ≤ k → nexts_before f n ts ≡ nexts_before g n ts
  kept_low n ts l = map-from (λ i. next_or i (f i) ts) (λ i. next_or i (g i) ts) 0 n (λ i a b. ap (λ (e : ℕ). next_or i e ts) (same i (omega arith)))

  -- and else entry k becomes what comes behind all
  turned : (n : ℕ) (ts : List Tower) → Low k ts → set (nexts_before f n ts) k (g k) ≡ nexts_before g n ts
  turned n ts h =
      let z : 0 + k ≡ k = omega arith in
      ap (set (nexts_before f n ts) k) (sym (h.next (g k)) ∙ ap (λ (j : ℕ). next_or j (g j) ts) (sym z))
      ∙ set-from (λ i. next_or i (f i) ts) (λ i. next_or i (g i) ts) 0 n k (λ i q. ap (λ (e : ℕ). next_or i e ts) (same i (omega arith)))

  module _ (x : Seat) (xs : List Seat) (o : Distinct (seated (x ∷ xs))) where
    -- the first tower changes as its links do
    first-too : (p : ℕ) → cond (eqb p x.tower.page) (set (nexts_before f x.tower.height (seated xs)) k (g k)) (nexts_before f x.tower.height (seated xs))
        ≡ nexts_before g x.tower.height (seated xs)
        → set_next p k (g k) (link_seats f xs) ≡ link_seats g xs
        → set_next p k (g k) (link_seats f (x ∷ xs)) ≡ link_seats g (x ∷ xs)
    first-too p e ih = λ j. record { tower = x.tower; span_page = x.span_page; nexts = e j } ∷ ih j

    -- a tower above level k
    step-high : set_next (last_at k x.tower.page (seated xs)) k (g k) (link_seats f xs) ≡ link_seats g xs
        → set_next (last_at k x.tower.page (seated xs)) k (g k) (link_seats f (x ∷ xs)) ≡ link_seats g (x ∷ xs)
    step-high ih = go (low_or_high k (seated xs))
      where
        p : ℕ
        p = last_at k x.tower.page (seated xs)

        go : Low k (seated xs) ⊎ High k (seated xs) → set_next p k (g k) (link_seats f (x ∷ xs)) ≡ link_seats g (x ∷ xs)
        go (inl h) = first-too p (rw (eq-eqb p x.tower.page (h.last x.tower.page)) (turned x.tower.height (seated xs) h)) ih
        go (inr h) =
            let e : eqb p x.tower.page ≡ false
            = other-page p x.tower.page (pages_in (seated xs)) (h.last x.tower.page) (fresh-first x.tower.page (pages_in (seated xs)) o) in
            first-too p (rw e (kept_high x.tower.height (seated xs) h)) ih

    -- a tower that is not, where p is the page of none of them
    step-low : (p : ℕ) → x.tower.height ≤ k → count p (pages_in (seated (x ∷ xs))) ≡ 0
        → set_next (last_at k p (seated xs)) k (g k) (link_seats f xs) ≡ link_seats g xs
        → set_next (last_at k p (seated xs)) k (g k) (link_seats f (x ∷ xs)) ≡ link_seats g (x ∷ xs)
    step-low p l z ih = first-too (last_at k p (seated xs)) (rw (off (low_or_high k (seated xs))) (kept_low x.tower.height (seated xs) l)) ih
      where
        off : Low k (seated xs) ⊎ High k (seated xs) → eqb (last_at k p (seated xs)) x.tower.page ≡ false
        off (inl h) = rw (h.last p) (first-apart p x.tower.page (pages_in (seated xs)) z)
        off (inr h) = other-page (last_at k p (seated xs)) x.tower.page (pages_in (seated xs)) (h.last p) (fresh-first x.tower.page (pages_in (seated xs)) o)

  step : (p : ℕ) (xs : List Seat) → Distinct (seated xs) → count p (pages_in (seated xs)) ≡ 0 → set_next (last_at k p (seated xs)) k (g k) (link_seats f xs) ≡ link_seats g xs
  step p [] o z = refl
  step p (x ∷ xs) o z = go (ltb k x.tower.height) refl (λ q y. step q xs (distinct-rest x.tower (seated xs) o) y)
    where
      go : (b : Bool) → ltb k x.tower.height ≡ b
          → ((q : ℕ) → count q (pages_in (seated xs)) ≡ 0 → set_next (last_at k q (seated xs)) k (g k) (link_seats f xs) ≡ link_seats g xs)
          → set_next (last_at k (cond b x.tower.page p) (seated xs)) k (g k) (link_seats f (x ∷ xs)) ≡ link_seats g (x ∷ xs)
      go true e ih = step-high x xs o (ih x.tower.page (fresh-first x.tower.page (pages_in (seated xs)) o))
      go false e ih = step-low x xs o p (ltb-false k x.tower.height e) z (ih p (omega (arith, count-more p x.tower.page (pages_in (seated xs)))))

  -- one link changes: that of the last tower above level k, or of the first if none is
  pub relink-level : (x : Seat) (xs : List Seat) → Distinct (seated (x ∷ xs))
      → set_next (last_at k x.tower.page (seated (x ∷ xs))) k (g k) (link_seats f (x ∷ xs)) ≡ link_seats g (x ∷ xs)
  relink-level x xs o =
      subst (λ (q : ℕ). set_next (last_at k q (seated xs)) k (g k) (link_seats f (x ∷ xs)) ≡ link_seats g (x ∷ xs))
      (sym (either (ltb k x.tower.height) x.tower.page))
      (step-high x xs o (step x.tower.page xs (distinct-rest x.tower (seated xs) o) (fresh-first x.tower.page (pages_in (seated xs)) o)))

-- ---- All levels below h relinked

-- only the levels below the towers' heights matter
link-same : (f g : ℕ → ℕ) (h : ℕ) → ((i : ℕ) → i < h → f i ≡ g i) → (xs : List Seat) → Every (λ w. w.height ≤ h) (seated xs) → link_seats f xs ≡ link_seats g xs
link-same f g h e [] l = refl
link-same f g h e (x ∷ xs) l = λ j. record { tower = x.tower; span_page = x.span_page; nexts = nexts j } ∷ link-same f g h e xs l.1 j
  where
    nexts : nexts_before f x.tower.height (seated xs) ≡ nexts_before g x.tower.height (seated xs)
    nexts = map-from (λ i. next_or i (f i) (seated xs)) (λ i. next_or i (g i) (seated xs)) 0 x.tower.height (λ i a b. ap (λ (m : ℕ). next_or i m (seated xs)) (e i (omega (arith, l.0))))

-- at level i the last of the towers ts above it, or else the one on page p, is linked to f i
abbrev pub link_at : (f : ℕ → ℕ) (p : ℕ) (ts : List Tower) (i : ℕ) → Link
link_at f p ts i = record { page = last_at i p ts; level = i; to = f i }

-- so at n levels from j on
abbrev pub links_to : (f : ℕ → ℕ) (p : ℕ) (ts : List Tower) (j n : ℕ) → List Link
links_to f p ts j n = map (link_at f p ts) (from j n)

-- g below level k, f from there on
abbrev mixed : (f g : ℕ → ℕ) (k i : ℕ) → ℕ
mixed f g k i = cond (ltb i k) (g i) (f i)

module _ (f g : ℕ → ℕ) (x : Seat) (xs : List Seat) (o : Distinct (seated (x ∷ xs))) where
  mixed-step : (k i : ℕ) → i ≢ k → mixed f g k i ≡ mixed f g (suc k) i
  mixed-step k i q = go (ltb i k) refl
    where
      go : (b : Bool) → ltb i k ≡ b → cond b (g i) (f i) ≡ mixed f g (suc k) i
      go true e = rw (lt-ltb i (suc k) (omega (arith, ltb-true i k e)))
      go false e = rw (le-ltb i (suc k) (omega (arith, ltb-false i k e)))

  mixed-here : (k : ℕ) → mixed f g (suc k) k ≡ g k
  mixed-here k = rw (lt-ltb k (suc k) (omega arith))

  levels : (j n : ℕ) → set_nexts (links_to g x.tower.page (seated (x ∷ xs)) j n) (link_seats (mixed f g j) (x ∷ xs)) ≡ link_seats (mixed f g (j + n)) (x ∷ xs)
  levels j zero = let z : j + 0 ≡ j = omega arith in ap (λ (k : ℕ). link_seats (mixed f g k) (x ∷ xs)) (sym z)
  levels j (suc n) =
      let z : j + suc n ≡ suc j + n = omega arith in
      let e : set_next (last_at j x.tower.page (seated (x ∷ xs))) j (g j) (link_seats (mixed f g j) (x ∷ xs)) ≡ link_seats (mixed f g (suc j)) (x ∷ xs)
      = subst (λ (m : ℕ). set_next (last_at j x.tower.page (seated (x ∷ xs))) j m (link_seats (mixed f g j) (x ∷ xs)) ≡ link_seats (mixed f g (suc j)) (x ∷ xs))
      (mixed-here j) (relink-level j (mixed f g j) (mixed f g (suc j)) (mixed-step j) x xs o) in
      ap (set_nexts (links_to g x.tower.page (seated (x ∷ xs)) (suc j) n)) e ∙ levels (suc j) n ∙ ap (λ (k : ℕ). link_seats (mixed f g k) (x ∷ xs)) (sym z)

  -- f and g agree from level h on: the links to g at the levels below h lead from f to g
  pub relink-levels : (h top : ℕ) → Every (λ w. w.height ≤ top) (seated (x ∷ xs)) → ((i : ℕ) → h ≤ i → i < top → f i ≡ g i)
      → set_nexts (links_to g x.tower.page (seated (x ∷ xs)) 0 h) (link_seats f (x ∷ xs)) ≡ link_seats g (x ∷ xs)
  relink-levels h top l e =
      ap (set_nexts (links_to g x.tower.page (seated (x ∷ xs)) 0 h)) (link-same f (mixed f g 0) top start (x ∷ xs) l)
      ∙ levels 0 h
      ∙ link-same (mixed f g (0 + h)) g top (λ i a. end i a (ltb i (0 + h)) refl) (x ∷ xs) l
    where
      start : (i : ℕ) → i < top → f i ≡ mixed f g 0 i
      start i a = rw (le-ltb i 0 (omega arith))

      end : (i : ℕ) → i < top → (b : Bool) → ltb i (0 + h) ≡ b → cond b (g i) (f i) ≡ g i
      end i a true q = refl
      end i a false q = e i (omega (arith, ltb-false i (0 + h) q)) a

-- ---- The first tower, the head, rises

-- the first tower's links followed by ms: numbers that its page holds above its current height
abbrev pub stretch : List ℕ → List LinkedTower → List LinkedTower
stretch ms [] = []
stretch ms (x ∷ xs) = record { tower = x.tower; span_page = x.span_page; nexts = x.nexts ++ ms } ∷ xs

-- the first tower's fields are those of w
abbrev pub head_as : Tower → List LinkedTower → List LinkedTower
head_as w [] = []
head_as w (x ∷ xs) = record { tower = w; span_page = x.span_page; nexts = x.nexts } ∷ xs

-- edits of links leave the other fields as they are
pub head-sets : (w : Tower) (ls : List Link) (x : LinkedTower) (xs : List LinkedTower) → w.page ≡ x.tower.page
    → head_as w (set_nexts ls (x ∷ xs)) ≡ set_nexts ls (head_as w (x ∷ xs))
head-sets w [] x xs e = refl
head-sets w (l ∷ ls) x xs e =
    head-sets w ls (set_entry l.page l.level l.to x) (set_next l.page l.level l.to xs) e
    ∙ ap (λ (p : ℕ). set_nexts ls (record { tower = w; span_page = x.span_page; nexts = cond (eqb l.page p) (set x.nexts l.level l.to) x.nexts } ∷ set_next l.page l.level l.to xs)) (sym e)

pub next_low : (i e h : ℕ) (ts : List Tower) → Every (λ v. v.height ≤ h) ts → h ≤ i → next_or i e ts ≡ e
next_low i e h [] l a = refl
next_low i e h (t ∷ ts) l a = rw (le-ltb i t.height (omega (arith, l.0))) (next_low i e h ts l.1 a)

pub from-append : (j n m : ℕ) → from j (n + m) ≡ from j n ++ from (j + n) m
from-append j zero m = let z : 0 + m ≡ m = omega arith in let y : j + 0 ≡ j = omega arith in rw (z, y)
from-append j (suc n) m =
    let z : suc n + m ≡ suc (n + m) = omega arith in
    let y : j + suc n ≡ suc j + n = omega arith in
    rw (z, y) (ap (λ (l : List ℕ). j ∷ l) (from-append (suc j) n m))

map-listed : (G : ℕ → ℕ) (j : ℕ) (ms : List ℕ) → ((i : ℕ) → i < length ms → G (j + i) ≡ get_or ms i 0) → map G (from j (length ms)) ≡ ms
map-listed G j [] e = refl
map-listed G j (m ∷ ms) e =
    let z : j + 0 ≡ j = omega arith in
    ap₂ (λ (x : ℕ) (xs : List ℕ). x ∷ xs) (ap G (sym z) ∙ e 0 (omega arith)) (map-listed G (suc j) ms (λ i l. let y : suc j + i ≡ j + suc i = omega arith in rw y (e (suc i) (omega arith))))

-- f below h, the numbers ms from there on
abbrev onwards : (f : ℕ → ℕ) (ms : List ℕ) (h i : ℕ) → ℕ
onwards f ms h i = cond (ltb i h) (f i) (get_or ms (i - h) 0)

below-onwards : (f : ℕ → ℕ) (ms : List ℕ) (h i : ℕ) → i < h → onwards f ms h i ≡ f i
below-onwards f ms h i l = rw (lt-ltb i h l)

module _ (f : ℕ → ℕ) (ms : List ℕ) (h : ℕ) (ts : List Tower) (low : Every (λ v. v.height ≤ h) ts) where
  nexts-onwards : nexts_before f h ts ++ ms ≡ nexts_before (onwards f ms h) (h + length ms) ts
  nexts-onwards =
      ap₂ (λ (a b : List ℕ). a ++ b)
      (map-from (λ i. next_or i (f i) ts) (λ i. next_or i (f' i) ts) 0 h (λ i l m. ap (λ (n : ℕ). next_or i n ts) (sym (below-onwards f ms h i (omega arith)))))
      (sym (map-listed (λ i. next_or i (f' i) ts) (0 + h) ms past))
      ∙ sym (map-append (λ i. next_or i (f' i) ts) (from 0 h) (from (0 + h) (length ms)))
      ∙ ap (map (λ i. next_or i (f' i) ts)) (sym (from-append 0 h (length ms)))
    where
      f' : ℕ → ℕ
      f' = onwards f ms h

      past : (i : ℕ) → i < length ms → next_or (0 + h + i) (f' (0 + h + i)) ts ≡ get_or ms i 0
      past i l =
          let z : 0 + h + i - h ≡ i = omega arith in
          next_low (0 + h + i) (f' (0 + h + i)) h ts low (omega arith) ∙ rw (le-ltb (0 + h + i) h (omega arith), z)

-- the first tower before and after, and the others in the row
pub record Rise (w v : Tower) (xs : List Seat) (h : ℕ) (ms : List ℕ) : Type 0 where
  pub same_page : v.page ≡ w.page
  pub highest : v.height ≡ max w.height h
  pub numbers : w.height + length ms ≡ v.height
  pub lower : Every (λ u. u.height ≤ w.height) (seated xs)
  pub distinct : Distinct (w ∷ seated xs)

-- Relinking: f and g agree from level h on. The links to g at the levels below h, where the first tower may rise to h, lead from
-- f to g
pub relinking : (f g : ℕ → ℕ) (h q : ℕ) (w v : Tower) (xs : List Seat) (ms : List ℕ) → Rise w v xs h ms → ((i : ℕ) → h ≤ i → i < w.height → f i ≡ g i)
    → head_as v (set_nexts (links_to g v.page (v ∷ seated xs) 0 h) (stretch ms (link_seats f (record { span_page = q; tower = w } ∷ xs))))
    ≡ link_seats g (record { span_page = q; tower = v } ∷ xs)
relinking f g h q w v xs ms r e =
    head-sets v ls (record { tower = w; span_page = q; nexts = nexts_before f w.height (seated xs) ++ ms }) (link_seats f xs) r.same_page
    ∙ ap (set_nexts ls) start
    ∙ relink-levels f' g (record { span_page = q; tower = v }) xs once h v.height (omega arith, all) agree
  where
    ls : List Link
    ls = links_to g v.page (v ∷ seated xs) 0 h

    f' : ℕ → ℕ
    f' = onwards f ms w.height

    start : record { tower = v; span_page = q; nexts = nexts_before f w.height (seated xs) ++ ms } ∷ link_seats f xs ≡ link_seats f' (record { span_page = q; tower = v } ∷ xs)
    start =
        ap₂ (λ (ns : List ℕ) (r : List LinkedTower). record { tower = v; span_page = q; nexts = ns } ∷ r)
        (nexts-onwards f ms w.height (seated xs) r.lower ∙ ap (λ (n : ℕ). nexts_before f' n (seated xs)) r.numbers)
        (link-same f f' w.height (λ i l. sym (below-onwards f ms w.height i l)) xs r.lower)

    once : Distinct (v ∷ seated xs)
    once n = subst (λ (p : ℕ). count n (p ∷ pages_in (seated xs)) ≤ 1) (sym r.same_page) (r.distinct n)

    all : Every (λ u. u.height ≤ v.height) (seated xs)
    all = every-so (λ (u : Tower). u.height ≤ w.height) (λ u l. omega (arith, r.highest)) (seated xs) r.lower

    agree : (i : ℕ) → h ≤ i → i < v.height → f' i ≡ g i
    agree i a b = let l : i < w.height = omega (arith, r.highest) in below-onwards f ms w.height i l ∙ e i a l
