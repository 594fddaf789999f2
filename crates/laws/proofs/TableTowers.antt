-- The towers and the counts of a table whose span is rewritten, split or unlinked.
use Prim.Native.Nat.{ℕ, zero, suc, ◌+◌, ◌-◌, ◌<◌, ◌≤◌, min, max}
use native.Mathlib.Omega.{arith}
use native.Mathlib.Numerals.{add-one}
use mathlib.Core.Path.{◌≡◌, refl, ap, ap₂, sym, ◌∙◌, subst}
use mathlib.Core.Option.{Option, none, some}
use mathlib.Core.List.{List, [], ◌∷◌, ◌++◌, map, map-append, append-nil}
use lib.ListN.{length, get_or, take, drop, length-append, length-take, length-map, take-append-drop}
use lib.Seq.{take_at, drop_at, drop-drop}
use borrow.Author.Tests.{le-ltb}
use Rattle.blockfile.specs.Bytes.{Write, Every, gather}
use Rattle.blockfile.specs.Layout.{Span, Tower, Column, Table, columns, spans_of, towers_of, tower_in, entries_of}
use Rattle.blockfile.specs.Fields.{LinkedTower, SkipList}
use Rattle.blockfile.specs.WellFormed.{next_at, link_towers, towers_in, count, skip_list_of}
use Rattle.blockfile.specs.Put.{Parts, Shared, span_at, set_span, new_column, new_columns, table_after, relink}
use Rattle.blockfile.specs.Remove.{without, towers_at}
use Rattle.blockfile.proofs.Every.{every-left, every-right}
use Rattle.blockfile.proofs.Count.{count-append}
use Rattle.laws.specs.Owned.{pages_in}
use Rattle.laws.proofs.SpanLinks.{size-after}
use Rattle.laws.proofs.TowerLinks.{Seat, seat_in, seats_of, seated, Distinct, nexts_before, link_seats, Link, link_write, set_nexts, stretch, head_as, head-sets, gather_append, seated-towers, link-split}
use Rattle.laws.proofs.Relinks.{relinks, relink-writes, towers_before, towers-at, length-links, pages-append, towers-cut, every-taken, rise, table-relinked, table-relinked-low}

-- ---- The table after a rewriting, as linking sees it

seats-take-set : (n j : ℕ) (x d : Span) (cs : List Column) → x.page ≡ (get_or (spans_of cs) j d).page → seats_of (take n (set_span j x cs)) ≡ seats_of (take n cs)
seats-take-set zero j x d cs e = refl
seats-take-set (suc n) j x d [] e = refl
seats-take-set (suc n) zero x d (c ∷ cs) e = ap (λ (q : ℕ). map (λ w. record { span_page = q; tower = w }) (tower_in c.tower) ++ seats_of (take n cs)) e
seats-take-set (suc n) (suc j) x d (c ∷ cs) e = ap (λ (l : List Seat). seat_in c ++ l) (seats-take-set n j x d cs e)

drop-set-span : (j : ℕ) (x : Span) (cs : List Column) → drop (suc j) (set_span j x cs) ≡ drop (suc j) cs
drop-set-span j x [] = refl
drop-set-span zero x (c ∷ cs) = refl
drop-set-span (suc j) x (c ∷ cs) = drop-set-span j x cs

length-set-span : (j : ℕ) (x : Span) (cs : List Column) → length (set_span j x cs) ≡ length cs
length-set-span j x [] = refl
length-set-span zero x (c ∷ cs) = refl
length-set-span (suc j) x (c ∷ cs) = ap suc (length-set-span j x cs)

module _ (t : Table) (p : Parts) (s : Shared) where
  -- the first span's page and the head's page and max height stay; the head's current rises to the new tower's
  pub first-after : (i : ℕ) → (table_after t i p s).first.page ≡ t.first.page
  unfolding table_after span_at
  first-after zero = refl
  first-after (suc i) = refl

  pub head-after : (i : ℕ) → (table_after t i p s).head ≡ record { page = t.head.page; max_height = t.head.max_height; height = max t.head.height p.height }
  unfolding table_after
  head-after zero = refl
  head-after (suc i) = refl

  -- the other columns up to place i, as linking sees them, and those behind it
  pub seats-after : (i : ℕ) → i < length (columns t) → seats_of (take i (table_after t i p s).rest) ≡ seats_of (take i t.rest)
  unfolding table_after span_at
  seats-after zero l = refl
  seats-after (suc j) l =
      ap seats_of (take_at (take (suc j) cs) (new_columns t p s ++ drop (suc j) cs) (suc j) (simp length-take (omega (arith, length-set-span j x t.rest))))
      ∙ seats-take-set (suc j) j x t.first t.rest refl
    where
      x : Span
      x = record { page = (span_at t (suc j)).page; conts = s.conts; entries = p.stay }

      cs : List Column
      cs = set_span j x t.rest

  pub behind-after : (i : ℕ) → i < length (columns t) → drop i (table_after t i p s).rest ≡ new_columns t p s ++ drop i t.rest
  unfolding table_after
  behind-after zero l = refl
  behind-after (suc j) l =
      drop_at (take (suc j) cs) (new_columns t p s ++ drop (suc j) cs) (suc j) (simp length-take (omega (arith, length-set-span j x t.rest)))
      ∙ ap (λ (l : List Column). new_columns t p s ++ l) (drop-set-span j x t.rest)
    where
      x : Span
      x = record { page = (span_at t (suc j)).page; conts = s.conts; entries = p.stay }

      cs : List Column
      cs = set_span j x t.rest

-- the new tower is not above its own height
next-new : (t : Table) (p : Parts) (s : Shared) (ds : List Column) (i : ℕ) → p.height ≤ i → next_at i (towers_of ds) ≡ next_at i (towers_of (new_columns t p s ++ ds))
next-new t p s ds i l = go s.span s.tower
  where
    go : (ns ms : List ℕ) → next_at i (towers_of ds) ≡ next_at i (towers_of (new_column t p ns ms ++ ds))
    go [] ms = refl
    go (n ∷ ns) [] = refl
    go (n ∷ ns) (m ∷ ms) = rw (le-ltb i p.height l)

-- the new column's tower, if it has one, with its links
abbrev pub new_linked : Table → (i : ℕ) → Parts → Shared → List LinkedTower
new_linked t i p s = link_seats (λ l. next_at l (towers_of (drop (suc i) (columns t)))) (seats_of (new_columns t p s))

-- where no higher tower comes, the head stays
pub head-kept : (t : Table) (i : ℕ) (p : Parts) (s : Shared) → p.height ≤ t.head.height → (table_after t i p s).head ≡ t.head
head-kept t i p s l =
    let e : max t.head.height p.height ≡ t.head.height = omega arith in
    head-after t p s i ∙ ap (λ (h : ℕ). record { page = t.head.page; max_height = t.head.max_height; height = h }) e

-- ---- A span split

module _ (t : Table) (i : ℕ) (p : Parts) (s : Shared) (inside : i < length (columns t)) where
  -- from place i + 1 on: the new tower, and the towers that were there, as they were
  behind-linked : link_towers (drop i (table_after t i p s).rest) ≡ new_linked t i p s ++ link_towers (drop (suc i) (columns t))
  behind-linked = ap link_towers (behind-after t p s i inside) ∙ link-split (new_columns t p s) (drop i t.rest)

  -- Split: the new tower stands between those before it and those behind it. The towers before it get their links at its levels,
  -- the head's list of links being followed by the numbers ms above its current height; then the head's current height rises.
  -- With no new tower nothing changes
  pub towers-split : (ms : List ℕ) → t.head.height + length ms ≡ max t.head.height p.height
      → Every (λ w. w.height ≤ t.head.height) (towers_of t.rest) → Distinct (towers_of (columns (table_after t i p s)))
      → towers_in (table_after t i p s)
      ≡ head_as (table_after t i p s).head
      (set_nexts (relinks (table_after t i p s) (suc i) p.height) (stretch ms (towers_before t (suc i) ++ (new_linked t i p s ++ link_towers (drop (suc i) (columns t))))))
  towers-split ms m low o =
      table-relinked a t.head i p.height ms f
      (rise a t.head i p.height ms (ap (λ (w : Tower). w.page) top) (ap (λ (w : Tower). w.height) top) (m ∙ sym (ap (λ (w : Tower). w.height) top)) lower o) o agree
      ∙ ap₂ (λ (q : ℕ) (xs : List Seat). made (link_seats f (record { span_page = q; tower = t.head } ∷ xs) ++ link_towers (drop i a.rest))) (first-after t p s i) (seats-after t p s i inside)
      ∙ ap (λ (l : List LinkedTower). made (towers_before t (suc i) ++ l)) behind-linked
    where
      a : Table
      a = table_after t i p s

      made : List LinkedTower → List LinkedTower
      made l = head_as a.head (set_nexts (relinks a (suc i) p.height) (stretch ms l))

      top : a.head ≡ record { page = t.head.page; max_height = t.head.max_height; height = max t.head.height p.height }
      top = head-after t p s i

      f : ℕ → ℕ
      f l = next_at l (towers_of (drop i t.rest))

      lower : Every (λ u. u.height ≤ t.head.height) (seated (seats_of (take i a.rest)))
      lower = rw (seats-after t p s i inside) (every-taken (λ (u : Tower). u.height ≤ t.head.height) i t.rest low)

      agree : (l : ℕ) → p.height ≤ l → l < t.head.height → f l ≡ next_at l (towers_of (drop i a.rest))
      agree l k b = rw (behind-after t p s i inside) (next-new t p s (drop i t.rest) l k)

  -- where the head does not rise
  pub towers-split-low : p.height ≤ t.head.height → Every (λ w. w.height ≤ t.head.height) (towers_of t.rest) → Distinct (towers_of (columns (table_after t i p s)))
      → towers_in (table_after t i p s)
      ≡ set_nexts (relinks (table_after t i p s) (suc i) p.height) (towers_before t (suc i) ++ (new_linked t i p s ++ link_towers (drop (suc i) (columns t))))
  towers-split-low b low o =
      towers-split [] (omega arith) low o
      ∙ head-sets (table_after t i p s).head ls (first t.head (ns ++ [])) others (ap (λ (w : Tower). w.page) (head-after t p s i))
      ∙ ap₂ (λ (w : Tower) (l : List ℕ). set_nexts ls (first w l ∷ others)) (head-kept t i p s b) (append-nil ns)
    where
      ls : List Link
      ls = relinks (table_after t i p s) (suc i) p.height

      f : ℕ → ℕ
      f l = next_at l (towers_of (drop i t.rest))

      ns : List ℕ
      ns = nexts_before f t.head.height (seated (seats_of (take i t.rest)))

      others : List LinkedTower
      others = link_seats f (seats_of (take i t.rest)) ++ (new_linked t i p s ++ link_towers (drop (suc i) (columns t)))

      first : Tower → List ℕ → LinkedTower
      first w l = record { tower = w; span_page = t.first.page; nexts = l }

  -- the new tower is what is written whole
  pub tower-written : length (towers_of (new_columns t p s)) ≡ min 1 p.height
      → take (min 1 p.height) (link_towers (drop (i + 1) (columns (table_after t i p s)))) ≡ new_linked t i p s
  tower-written e =
      ap (λ (n : ℕ). take (min 1 p.height) (link_towers (drop n (columns (table_after t i p s))))) (add-one i)
      ∙ ap (take (min 1 p.height)) behind-linked
      ∙ take_at (new_linked t i p s) (link_towers (drop (suc i) (columns t))) (min 1 p.height)
      (length-links (λ l. next_at l (towers_of (drop (suc i) (columns t)))) (new_columns t p s) ∙ e)

  -- and the links are what is written at its levels
  pub split-written : relink (table_after t i p s) (i + 1) p.height ≡ map link_write (relinks (table_after t i p s) (suc i) p.height)
  split-written = ap (λ (n : ℕ). relink (table_after t i p s) n p.height) (add-one i) ∙ relink-writes (table_after t i p s) (suc i) p.height

-- ---- A span unlinked

pub take_rest : (k : ℕ) (cs : List Column) → k < length cs → take k (take (suc k - 1) cs ++ drop (suc k) cs) ≡ take k cs
take_rest k cs l =
    let e : suc k - 1 ≡ k = omega arith in
    rw e (take_at (take k cs) (drop (suc k) cs) k (simp length-take (omega arith)))

drop-rest : (k : ℕ) (cs : List Column) → k < length cs → drop k (take (suc k - 1) cs ++ drop (suc k) cs) ≡ drop (suc k) cs
drop-rest k cs l =
    let e : suc k - 1 ≡ k = omega arith in
    rw e (drop_at (take k cs) (drop (suc k) cs) k (simp length-take (omega arith)))

-- the text's writes as edits
pub relinks-gone : (a : Table) (j : ℕ) (ts : List Tower) → gather (λ w. relink a j w.height) ts ≡ map link_write (gather (λ w. relinks a j w.height) ts)
relinks-gone a j [] = refl
relinks-gone a j (w ∷ ts) =
    ap₂ (λ (k l : List Write). k ++ l) (relink-writes a j w.height) (relinks-gone a j ts)
    ∙ sym (map-append link_write (relinks a j w.height) (gather (λ w. relinks a j w.height) ts))

-- the tower of the column at place k + 1, if it has one, with its links
abbrev pub gone_linked : Table → (k : ℕ) → List LinkedTower
gone_linked t k = link_seats (λ l. next_at l (towers_of (drop (suc (suc k)) (columns t)))) (seats_of (take 1 (drop (suc k) (columns t))))

at_most_one : (cs : List Column) → length (towers_of (take 1 cs)) ≤ 1
at_most_one [] = omega arith
at_most_one (c ∷ cs) = go c.tower
  where
    go : (w : Option Tower) → length (tower_in w ++ []) ≤ 1
    go none = omega arith
    go (some w) = omega arith

module _ (t : Table) (k : ℕ) (inside : suc k < length (columns t)) where
  -- the columns behind the one that is gone
  pub behind-gone : drop (suc k) (columns (without t (suc k))) ≡ drop (suc (suc k)) (columns t)
  behind-gone = drop-rest k t.rest (omega arith)

  at-gone : drop k t.rest ≡ take 1 (drop k t.rest) ++ drop (suc k) t.rest
  at-gone =
      sym (take-append-drop 1 (drop k t.rest))
      ∙ ap (λ (l : List Column). take 1 (drop k t.rest) ++ l) (drop-drop 1 k t.rest ∙ ap (λ (n : ℕ). drop n t.rest) (add-one k))

  towers-gone : towers_of (drop k t.rest) ≡ towers_at t (suc k) ++ towers_of (drop (suc k) t.rest)
  towers-gone = ap towers_of at-gone ∙ gather_append (λ (c : Column). tower_in c.tower) (take 1 (drop k t.rest)) (drop (suc k) t.rest)

  -- before: its tower stands between those before it and those behind it
  pub towers-with : towers_in t ≡ towers_before t (suc k) ++ (gone_linked t k ++ link_towers (drop (suc (suc k)) (columns t)))
  towers-with =
      towers-at t (suc k) ∙ ap (λ (l : List LinkedTower). towers_before t (suc k) ++ l) (ap link_towers at-gone ∙ link-split (take 1 (drop k t.rest)) (drop (suc k) t.rest))

  module _ (low : Every (λ w. w.height ≤ t.head.height) (towers_of t.rest)) (o : Distinct (towers_of (columns (without t (suc k))))) where
    -- with a tower of height h gone
    one-gone : (h : ℕ) → h ≤ t.head.height → ((l : ℕ) → h ≤ l → next_at l (towers_of (drop k t.rest)) ≡ next_at l (towers_of (drop (suc k) t.rest)))
        → towers_in (without t (suc k))
        ≡ set_nexts (relinks (without t (suc k)) (suc k) h) (towers_before t (suc k) ++ link_towers (drop (suc (suc k)) (columns t)))
    one-gone h b e =
        table-relinked-low a k h f b lower o (λ l m n. e l m ∙ ap (λ (cs : List Column). next_at l (towers_of cs)) (sym (drop-rest k t.rest (omega arith))))
        ∙ ap (λ (cs : List Column). set_nexts (relinks a (suc k) h) (link_seats f (record { span_page = t.first.page; tower = t.head } ∷ seats_of cs) ++ link_towers (drop k a.rest)))
        (take_rest k t.rest (omega arith))
        ∙ ap (λ (cs : List Column). set_nexts (relinks a (suc k) h) (towers_before t (suc k) ++ link_towers cs)) behind-gone
      where
        a : Table
        a = without t (suc k)

        f : ℕ → ℕ
        f l = next_at l (towers_of (drop k t.rest))

        lower : Every (λ u. u.height ≤ t.head.height) (seated (seats_of (take k a.rest)))
        lower = rw (take_rest k t.rest (omega arith)) (every-taken (λ (u : Tower). u.height ≤ t.head.height) k t.rest low)

    all-gone : (ts : List Tower) → length ts ≤ 1 → Every (λ w. w.height ≤ t.head.height) ts → towers_of (drop k t.rest) ≡ ts ++ towers_of (drop (suc k) t.rest)
        → towers_in (without t (suc k))
        ≡ set_nexts (gather (λ w. relinks (without t (suc k)) (suc k) w.height) ts)
        (towers_before t (suc k) ++ link_towers (drop (suc (suc k)) (columns t)))
    all-gone [] n b e = one-gone 0 (omega arith) (λ l m. ap (next_at l) e)
    all-gone (w ∷ []) n b e =
        one-gone w.height b.0 (λ l m. ap (next_at l) e ∙ rw (le-ltb l w.height m))
        ∙ ap (λ (ls : List Link). set_nexts ls (towers_before t (suc k) ++ link_towers (drop (suc (suc k)) (columns t))))
        (sym (append-nil (relinks (without t (suc k)) (suc k) w.height)))
    all-gone (w ∷ (v ∷ ts)) n b e = absurd (omega arith)

    -- Unlinked: the towers before it have their links to it turned to what is behind it. With no tower gone nothing changes
    pub towers-unlinked : towers_in (without t (suc k))
        ≡ set_nexts (gather (λ w. relinks (without t (suc k)) (suc k) w.height) (towers_at t (suc k)))
        (towers_before t (suc k) ++ link_towers (drop (suc (suc k)) (columns t)))
    towers-unlinked = all-gone (towers_at t (suc k)) (at_most_one (drop k t.rest)) below towers-gone
      where
        below : Every (λ w. w.height ≤ t.head.height) (towers_at t (suc k))
        below =
            every-left (λ (w : Tower). w.height ≤ t.head.height) (towers_at t (suc k)) (towers_of (drop (suc k) t.rest))
            (subst (Every (λ (w : Tower). w.height ≤ t.head.height)) towers-gone (every-right (λ (w : Tower). w.height ≤ t.head.height) (towers_of (take k t.rest)) (towers_of (drop k t.rest))
            (subst (Every (λ (w : Tower). w.height ≤ t.head.height)) (towers-cut k t.rest) low)))

-- ---- Which towers there are

-- what a list put in between adds
module _ (xs ns ys whole part : List ℕ) (e : whole ≡ xs ++ (ns ++ ys)) (d : part ≡ xs ++ ys) where
  count-between : (n : ℕ) → count n whole ≡ count n part + count n ns
  count-between n = rw (e, d) (omega (arith, count-append n xs (ns ++ ys), count-append n ns ys, count-append n xs ys))

  length-between : length whole ≡ length part + length ns
  length-between = rw (e, d) (simp length-append (omega arith))

pages-cut : (j : ℕ) (cs : List Column) → pages_in (towers_of cs) ≡ pages_in (towers_of (take j cs)) ++ pages_in (towers_of (drop j cs))
pages-cut j cs = ap (λ (ds : List Column). pages_in (towers_of ds)) (sym (take-append-drop j cs)) ∙ pages-append (take j cs) (drop j cs)

pages-many : (ts : List Tower) → length (pages_in ts) ≡ length ts
pages-many ts = length-map ts (λ (t : Tower). t.page)

module _ (t : Table) (i : ℕ) (p : Parts) (s : Shared) (inside : i < length (columns t)) where
  pages_split : pages_in (towers_of (columns (table_after t i p s)))
      ≡ (t.head.page ∷ pages_in (towers_of (take i t.rest))) ++ (pages_in (towers_of (new_columns t p s)) ++ pages_in (towers_of (drop i t.rest)))
  pages_split =
      ap₂ (λ (q : ℕ) (l : List ℕ). q ∷ l) (ap (λ (w : Tower). w.page) (head-after t p s i))
      (pages-cut i (table_after t i p s).rest
      ∙ ap₂ (λ (k l : List ℕ). k ++ l)
      (ap pages_in (seated-towers (take i (table_after t i p s).rest) ∙ ap seated (seats-after t p s i inside) ∙ sym (seated-towers (take i t.rest))))
      (ap (λ (cs : List Column). pages_in (towers_of cs)) (behind-after t p s i inside) ∙ pages-append (new_columns t p s) (drop i t.rest)))

  pages-now : pages_in (towers_of (columns t)) ≡ (t.head.page ∷ pages_in (towers_of (take i t.rest))) ++ pages_in (towers_of (drop i t.rest))
  pages-now = ap (λ (l : List ℕ). t.head.page ∷ l) (pages-cut i t.rest)

  -- after a split the towers are on the pages they were on, and on the new tower's
  pub split-count : (n : ℕ) → count n (pages_in (towers_of (columns (table_after t i p s)))) ≡ count n (pages_in (towers_of (columns t))) + count n (pages_in (towers_of (new_columns t p s)))
  split-count =
      count-between (t.head.page ∷ pages_in (towers_of (take i t.rest))) (pages_in (towers_of (new_columns t p s))) (pages_in (towers_of (drop i t.rest)))
      (pages_in (towers_of (columns (table_after t i p s)))) (pages_in (towers_of (columns t))) pages_split pages-now

  -- as many towers more as new ones
  pub split-levels : length (towers_of (columns (table_after t i p s))) ≡ length (towers_of (columns t)) + length (towers_of (new_columns t p s))
  split-levels =
      omega (
        arith,
        length-between (t.head.page ∷ pages_in (towers_of (take i t.rest))) (pages_in (towers_of (new_columns t p s))) (pages_in (towers_of (drop i t.rest)))
            (pages_in (towers_of (columns (table_after t i p s)))) (pages_in (towers_of (columns t))) pages_split pages-now,
        pages-many (towers_of (columns (table_after t i p s))),
        pages-many (towers_of (columns t)),
        pages-many (towers_of (new_columns t p s)),
      )

module _ (t : Table) (k : ℕ) (inside : suc k < length (columns t)) where
  pages-with : pages_in (towers_of (columns t))
      ≡ (t.head.page ∷ pages_in (towers_of (take k t.rest))) ++ (pages_in (towers_at t (suc k)) ++ pages_in (towers_of (drop (suc k) t.rest)))
  pages-with =
      ap (λ (l : List ℕ). t.head.page ∷ l)
      (pages-cut k t.rest
      ∙ ap (λ (l : List ℕ). pages_in (towers_of (take k t.rest)) ++ l)
      (ap pages_in (towers-gone t k inside) ∙ map-append (λ (w : Tower). w.page) (towers_at t (suc k)) (towers_of (drop (suc k) t.rest))))

  pages-without : pages_in (towers_of (columns (without t (suc k)))) ≡ (t.head.page ∷ pages_in (towers_of (take k t.rest))) ++ pages_in (towers_of (drop (suc k) t.rest))
  pages-without =
      let e : suc k - 1 ≡ k = omega arith in
      ap (λ (l : List ℕ). t.head.page ∷ l)
      (ap (λ (n : ℕ). pages_in (towers_of (take n t.rest ++ drop (suc k) t.rest))) e ∙ pages-append (take k t.rest) (drop (suc k) t.rest))

  -- after an unlinking the towers are on the pages they were on, but for the one that is gone
  pub unlinked-count : (n : ℕ) → count n (pages_in (towers_of (columns t))) ≡ count n (pages_in (towers_of (columns (without t (suc k))))) + count n (pages_in (towers_at t (suc k)))
  unlinked-count =
      count-between (t.head.page ∷ pages_in (towers_of (take k t.rest))) (pages_in (towers_at t (suc k))) (pages_in (towers_of (drop (suc k) t.rest)))
      (pages_in (towers_of (columns t))) (pages_in (towers_of (columns (without t (suc k))))) pages-with pages-without

  -- as many fewer as are gone
  pub unlinked-levels : length (towers_of (columns t)) ≡ length (towers_of (columns (without t (suc k)))) + length (towers_at t (suc k))
  unlinked-levels =
      omega (
        arith,
        length-between (t.head.page ∷ pages_in (towers_of (take k t.rest))) (pages_in (towers_at t (suc k))) (pages_in (towers_of (drop (suc k) t.rest)))
            (pages_in (towers_of (columns t))) (pages_in (towers_of (columns (without t (suc k))))) pages-with pages-without,
        pages-many (towers_of (columns t)),
        pages-many (towers_of (columns (without t (suc k)))),
        pages-many (towers_at t (suc k)),
      )

  -- so no two are on one page, where none were
  pub unlinked-distinct : Distinct (towers_of (columns t)) → Distinct (towers_of (columns (without t (suc k))))
  unlinked-distinct o n = omega (arith, o n, unlinked-count n)

-- ---- The skip-list page

-- other counts
abbrev pub recounted : SkipList → (size spans levels : ℕ) → SkipList
recounted k x y z = record { page = k.page; first = k.first; level = k.level; size = x; spans = y; levels = z; span_size = k.span_size }

-- the skip-list page stays
pub root-after : (t : Table) (i : ℕ) (p : Parts) (s : Shared) → (table_after t i p s).root ≡ t.root
unfolding table_after
root-after t zero p s = refl
root-after t (suc i) p s = refl

-- a rewriting changes no more than the counts
pub counts-after : (t : Table) (i : ℕ) (p : Parts) (s : Shared)
    → skip_list_of (table_after t i p s)
    ≡ recounted (skip_list_of t) (length (entries_of (table_after t i p s))) (length (columns (table_after t i p s))) (length (towers_of (columns (table_after t i p s))))
counts-after t i p s =
    λ j. record {
      page = root-after t i p s j;
      first = first-after t p s i j;
      level = (head-after t p s i j).page;
      size = length (entries_of (table_after t i p s));
      spans = length (columns (table_after t i p s));
      levels = length (towers_of (columns (table_after t i p s)));
      span_size = size-after t i p s j;
    }

-- and neither does an unlinking
pub counts-without : (t : Table) (i : ℕ)
    → skip_list_of (without t i)
    ≡ recounted (skip_list_of t) (length (entries_of (without t i))) (length (columns (without t i))) (length (towers_of (columns (without t i))))
counts-without t i = refl
