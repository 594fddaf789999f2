-- What the text writes where a span is rewritten is what the code writes, from what it read before.
use Prim.Native.Nat.{ℕ, zero, suc, ◌+◌, ◌*◌, ◌<◌, ◌≤◌, min, max}
use native.Mathlib.Omega.{arith}
use mathlib.Core.Path.{◌≡◌, refl, ap, ap₂, sym, ◌∙◌}
use mathlib.Core.Bool.{Bool, true, false, cond}
use mathlib.Core.List.{List, [], ◌∷◌, ◌++◌, map, map-map, append-nil, append_assoc}
use lib.ListN.{length, get_or, take, drop}
use lib.Dec.{ltb}
use borrow.Author.Tests.{lt-ltb, le-ltb, ltb-true, ltb-false}
use Rattle.blockfile.specs.Bytes.{Write, on, word16, word32, Every, gather, from, first_of}
use Rattle.blockfile.specs.Layout.{Span, Tower, Column, Table, columns, spans_of, towers_of, entries_of}
use Rattle.blockfile.specs.Fields.{LinkedTower}
use Rattle.blockfile.specs.WellFormed.{next_at}
use Rattle.blockfile.specs.Encode.{whole_span, whole_tower, counts}
use Rattle.blockfile.specs.Put.{Parts, Shared, span_at, new_column, new_columns, table_after, prev_link, last_at, raise, counts_on, rewriting}
use Rattle.laws.proofs.SpanLinks.{linked, first_page, last_page, link_between, new_span, spans_to, spans_past}
use Rattle.laws.proofs.TowerLinks.{seated, seats_of, seated-towers, link_seats, link_at, link_write, map-from}
use Rattle.laws.proofs.Relinks.{relinks}
use Rattle.laws.proofs.TableTowers.{new_linked, head-after, root-after, seats-after, behind-after}
use Rattle.laws.proofs.TableWrites.{rewriting-is}
use Rattle.links.specs.Links.{levels_below, tower_as}
use Rattle.search.proofs.Towers.{last-first}
use Rattle.links.specs.Levels.{Before, After}
use Rattle.edit.specs.Cuts.{Cut, stayed, moved, prev_on, span_writes, Rise, links_on, tower_writes, counts_at}

-- ---- Spans

-- the span at place i, with these parts and pages
abbrev pub cut_at : Table → (i : ℕ) → Parts → Shared → Cut
cut_at t i p s =
    record {
      page = (span_at t i).page;
      prev = last_page 0 (spans_to t i);
      next = first_page 0 (spans_past t i);
      most = t.span_size;
      conts = s.conts;
      stay = p.stay;
      move = p.move;
    }

-- the previous link of the span that follows, if there is one
pub prev-on : (z q : ℕ) (ss : List Span) → Every (λ x. 1 ≤ x.page) ss → map prev_link (take 1 (link_between z q 0 ss)) ≡ prev_on (first_page 0 ss) q
prev-on z q [] e = refl
prev-on z q (x ∷ ss) e = go x.page e.0
  where
    go : (n : ℕ) → 1 ≤ n → on n 8 (word32 q) ∷ [] ≡ prev_on n q
    go zero l = absurd (omega arith)
    go (suc n) l = refl

module _ {A : Type 0} where
  three : (a b c : List A) → (a ++ (b ++ [])) ++ c ≡ a ++ (b ++ c)
  three a b c = simp (append-nil, append_assoc)

-- the spans that the text writes whole, and the one whose previous link it writes, with these new columns
abbrev wholly : Table → (i : ℕ) → Parts → Shared → List Column → List Write
wholly t i p s cs =
    gather whole_span
    (linked t.span_size (last_page 0 (spans_to t i)) (first_page (first_page 0 (spans_past t i)) (spans_of cs)) (new_span t i p s)
    ∷ link_between t.span_size (span_at t i).page (first_page 0 (spans_past t i)) (spans_of cs))

abbrev followers : Table → (i : ℕ) → List Column → List Write
followers t i cs = map prev_link (take (length cs) (link_between t.span_size (last_page (span_at t i).page (spans_of cs)) 0 (spans_past t i)))

-- the spans written
cut-spans : (t : Table) (i : ℕ) (p : Parts) (s : Shared) → Every (λ x. 1 ≤ x.page) (spans_past t i)
    → wholly t i p s (new_columns t p s) ++ followers t i (new_columns t p s) ≡ span_writes (cut_at t i p s) s.span
cut-spans t i p s e = go s.span
  where
    c : Cut
    c = cut_at t i p s

    go : (ns : List ℕ) → wholly t i p s (new_column t p ns s.tower) ++ followers t i (new_column t p ns s.tower) ≡ span_writes c ns
    go [] = append-nil (stayed c c.next ++ []) ∙ append-nil (stayed c c.next)
    go (q ∷ qs) =
        ap (λ (l : List Write). (stayed c q ++ (moved c q qs ++ [])) ++ l) (prev-on t.span_size q (spans_past t i) e)
        ∙ three (stayed c q) (moved c q qs) (prev_on c.next q)

-- ---- Towers

-- the new tower, with these parts and pages, from the towers before it and behind it at each level
abbrev pub rise_at : Table → Parts → (span : ℕ) (before after : List ℕ) → Rise
rise_at t p q before after =
    record { head = t.head.page; top = t.head.height; max = t.head.max_height; height = p.height; span = q; before = before; after = after }

-- the lists hold the towers before and behind the new span at each level
pub record Around (t : Table) (i : ℕ) (before after : List ℕ) : Type 0 where
  pub last : Before t (suc i) 252 before
  pub next : After t (suc i) 252 after

-- the head's current height is written where the new tower is above it
raise-to : (n top h : ℕ) → cond (ltb top (max top h)) (on n 10 (word16 (max top h)) ∷ []) [] ≡ cond (ltb top h) (on n 10 (word16 h) ∷ []) []
raise-to n top h = go (ltb top h) refl
  where
    go : (b : Bool) → ltb top h ≡ b → cond (ltb top (max top h)) (on n 10 (word16 (max top h)) ∷ []) [] ≡ cond b (on n 10 (word16 h) ∷ []) []
    go true e =
        let m : max top h ≡ h = omega (arith, ltb-true top h e) in
        rw (m, e)
    go false e =
        let m : max top h ≡ top = omega (arith, ltb-false top h e) in
        rw (m, le-ltb top top (omega arith))

module _ (t : Table) (i : ℕ) (p : Parts) (s : Shared) (inside : i < length (columns t)) where
  abbrev after : Table
  after = table_after t i p s

  -- the towers up to place i are the same but for the head's height, which makes no difference to which is the last
  last-after : (l : ℕ) → last_at l after.head.page (towers_of (take (suc i) (columns after))) ≡ last_at l t.head.page (towers_of (take (suc i) (columns t)))
  last-after l =
      last-first l after.head (towers_of (take i after.rest)) ∙ ap₂ (last_at l) (ap (λ (w : Tower). w.page) (head-after t p s i)) same
      ∙ sym (last-first l t.head (towers_of (take i t.rest)))
    where
      same : towers_of (take i after.rest) ≡ towers_of (take i t.rest)
      same = seated-towers (take i after.rest) ∙ ap seated (seats-after t p s i inside) ∙ sym (seated-towers (take i t.rest))

  module _ (q : ℕ) (qs : List ℕ) (n : ℕ) (ns : List ℕ) (span : s.span ≡ q ∷ qs) (tower : s.tower ≡ n ∷ ns) where
    new_is : new_columns t p s ≡ new_column t p (q ∷ qs) (n ∷ ns)
    new_is = ap₂ (new_column t p) span tower

    -- the next tower at each of its levels is the new one
    next-after : (l : ℕ) → l < p.height → next_at l (towers_of (drop (suc i) (columns after))) ≡ n
    next-after l b =
        ap (λ (cs : List Column). next_at l (towers_of cs)) (behind-after t p s i inside)
        ∙ ap (λ (cs : List Column). next_at l (towers_of (cs ++ drop i t.rest))) new_is
        ∙ rw (lt-ltb l p.height b)

    module _ (before behind : List ℕ) (around : Around t i before behind) (low : p.height ≤ 252) where
      links : map link_write (relinks after (suc i) p.height) ≡ links_on before n p.height
      links =
          map-map link_write (link_at (λ l. next_at l (towers_of (drop (suc i) (columns after)))) after.head.page (towers_of (take (suc i) (columns after)))) (from 0 p.height)
          ∙ map-from _ _ 0 p.height
          (λ l a b. ap₂ (λ (m v : ℕ). on m (16 + 4 * l) (word32 v)) (last-after l ∙ sym (around.last.last l (omega arith)))
          (next-after l (omega arith)))

      -- the tower whole, the links to it, the head's current height
      tower-cut : gather whole_tower (new_linked t i p s) ++ (map link_write (relinks after (suc i) p.height) ++ raise t.head after.head)
          ≡ tower_writes (rise_at t p q before behind) (n ∷ ns)
      tower-cut =
          λ j. whole j ++ (links j ++ raised j)
        where
          x : LinkedTower
          x = tower_as n t.head.max_height p.height q (levels_below behind p.height)

          whole : gather whole_tower (new_linked t i p s) ≡ whole_tower x
          whole =
              ap (λ (cs : List Column). gather whole_tower (link_seats (λ l. next_at l (towers_of (drop (suc i) (columns t)))) (seats_of cs))) new_is
              ∙ append-nil _
              ∙ ap (λ (l : List ℕ). whole_tower (tower_as n t.head.max_height p.height q l))
              (map-from (λ l. next_at l (towers_of (drop (suc i) (columns t)))) (λ l. get_or behind l 0) 0 p.height (λ l a b. sym (around.next.next l (omega arith))))

          raised : raise t.head after.head ≡ cond (ltb t.head.height p.height) (on t.head.page 10 (word16 p.height) ∷ []) []
          raised = ap (raise t.head) (head-after t p s i) ∙ raise-to t.head.page t.head.height p.height

  -- with no tower nothing is written for one
  no-tower : s.tower ≡ [] → length (towers_of (new_columns t p s)) ≡ min 1 p.height
      → gather whole_tower (new_linked t i p s) ++ (map link_write (relinks after (suc i) p.height) ++ raise t.head after.head) ≡ []
  no-tower e m =
      λ j. whole s.span j ++ (map link_write (relinks after (suc i) (flat j)) ++ raised j)
    where
      none : (ns : List ℕ) → length (towers_of (new_column t p ns [])) ≡ 0
      none [] = refl
      none (q ∷ qs) = refl

      flat : p.height ≡ 0
      flat = omega (arith, m, ap (λ (ns : List ℕ). length (towers_of (new_column t p s.span ns))) e, none s.span)

      whole : (ns : List ℕ) → gather whole_tower (link_seats (λ l. next_at l (towers_of (drop (suc i) (columns t)))) (seats_of (new_column t p ns s.tower))) ≡ []
      whole ns = ap (λ (ms : List ℕ). gather whole_tower (link_seats (λ l. next_at l (towers_of (drop (suc i) (columns t)))) (seats_of (new_column t p ns ms)))) e ∙ go ns
        where
          go : (ns : List ℕ) → gather whole_tower (link_seats (λ l. next_at l (towers_of (drop (suc i) (columns t)))) (seats_of (new_column t p ns []))) ≡ []
          go [] = refl
          go (q ∷ qs) = refl

      raised : raise t.head after.head ≡ []
      raised =
          ap (raise t.head) (head-after t p s i) ∙ raise-to t.head.page t.head.height p.height
          ∙ rw (le-ltb t.head.height p.height (omega (arith, flat)))

-- ---- Counts

-- the counts of the table after, from those before and the numbers of entries of the span
counts-are : (t : Table) (i : ℕ) (p : Parts) (s : Shared) (size spans levels : ℕ)
    → size ≡ length (entries_of (table_after t i p s)) → spans ≡ length (columns (table_after t i p s)) → levels ≡ length (towers_of (columns (table_after t i p s)))
    → counts_on (table_after t i p s) ≡ counts_at t.root size spans levels
unfolding counts
counts-are t i p s size spans levels a b c = λ j. counts_at (root-after t i p s j) (sym a j) (sym b j) (sym c j)

-- ---- All that is written

module _ {A : Type 0} where
  regrouped : (a b c d e f : List A) → a ++ (b ++ (c ++ (d ++ (e ++ f)))) ≡ (a ++ b) ++ ((c ++ (d ++ e)) ++ f)
  regrouped a b c d e f = simp append_assoc

-- the writes of the text, where the span at place i is rewritten with these parts and pages
pub rewriting-coded : (t : Table) (i : ℕ) (p : Parts) (s : Shared) (before behind : List ℕ) (size spans levels : ℕ) → i < length (columns t)
    → Every (λ x. 1 ≤ x.page) (spans_past t i)
    → length (towers_of (new_columns t p s)) ≡ min 1 p.height → p.height ≤ 252 → (1 ≤ length s.tower → 1 ≤ length s.span)
    → (1 ≤ length s.tower → Around t i before behind)
    → size ≡ length (entries_of (table_after t i p s)) → spans ≡ length (columns (table_after t i p s)) → levels ≡ length (towers_of (columns (table_after t i p s)))
    → rewriting t i (length (new_columns t p s)) p.height (table_after t i p s)
    ≡ span_writes (cut_at t i p s) s.span
    ++ (tower_writes (rise_at t p (first_of s.span) before behind) s.tower ++ (counts_at t.root size spans levels ∷ []))
rewriting-coded t i p s before behind size spans levels l low one short both around a b c =
    rewriting-is t i p s l one
    ∙ regrouped (wholly t i p s (new_columns t p s)) (followers t i (new_columns t p s)) (gather whole_tower (new_linked t i p s))
    (map link_write (relinks (table_after t i p s) (suc i) p.height)) (raise t.head (table_after t i p s).head) (counts_on (table_after t i p s) ∷ [])
    ∙ (λ j. cut-spans t i p s low j ++ (towers j ++ (counts-are t i p s size spans levels a b c j ∷ [])))
  where
    towers : gather whole_tower (new_linked t i p s) ++ (map link_write (relinks (table_after t i p s) (suc i) p.height) ++ raise t.head (table_after t i p s).head)
        ≡ tower_writes (rise_at t p (first_of s.span) before behind) s.tower
    towers = go s.span s.tower refl refl
      where
        go : (ns ms : List ℕ) → s.span ≡ ns → s.tower ≡ ms
            → gather whole_tower (new_linked t i p s) ++ (map link_write (relinks (table_after t i p s) (suc i) p.height) ++ raise t.head (table_after t i p s).head)
            ≡ tower_writes (rise_at t p (first_of ns) before behind) ms
        go ns [] e d = no-tower t i p s l d one
        go [] (n ∷ ms) e d = absurd (omega (arith, both (omega (arith, ap length d)), ap length e))
        go (q ∷ qs) (n ∷ ms) e d = tower-cut t i p s l q qs n ms e d before behind (around (omega (arith, ap length d))) short
