-- The pages of an image by their owners: the superblock, the tables and their parts, the free list.
use Prim.Native.Nat.{ℕ, zero, suc, ◌+◌, ◌-◌, ◌<◌, ◌≤◌}
use native.Mathlib.Omega.{arith}
use mathlib.Core.Path.{◌≡◌, refl, ap, sym, ◌∙◌}
use mathlib.Core.Bool.{Bool, true, false, cond}
use mathlib.Core.Option.{some}
use mathlib.Core.List.{List, [], ◌∷◌, ◌++◌, map, map-append}
use lib.ListN.{length, get_or, take, drop, take-append-drop}
use lib.Seq.{take-suc, take_all}
use Rattle.blockfile.specs.Bytes.{gather}
use Rattle.blockfile.specs.Layout.{Keyed, Span, Tower, Table, Block, Layout, columns, spans_of, towers_of}
use Rattle.blockfile.specs.Order.{same, find}
use Rattle.blockfile.specs.WellFormed.{span, tower, free_page, count, spans_in, towers_in, table_pieces, free_pieces, pieces}
use Rattle.blockfile.specs.Free.{Drawn, take_from, take_page, take_many, give_many, draw}
use Rattle.blockfile.specs.Put.{span_at}
use Rattle.blockfile.specs.Remove.{without, towers_at}
use Rattle.blockfile.proofs.Bools.{holds, same-eq}
use Rattle.blockfile.proofs.Count.{count-append}
use Rattle.blockfile.proofs.Owned.{owned_by, owned-append, count-owned}
use Rattle.laws.specs.FreeList.{free_pages}
use Rattle.laws.specs.Owned.{table_pages, named_pages, in_option, pages_under, first_pages, cont_pages, pages_in}
use Rattle.laws.proofs.Maps.{differ}
use Rattle.laws.proofs.Places.{gather_append}
use Rattle.laws.proofs.State.{span_pages}
use Rattle.laws.proofs.Opens.{owned-spans, owned-towers}
use Rattle.laws.proofs.Draws.{none-given}
use Rattle.laws.proofs.SpanLinks.{spans_to, spans_past, link-between, spans-here, past_next, spans-out}
use Rattle.laws.proofs.Relinks.{towers-cut}
use Rattle.laws.proofs.Pagewise.{all_pages, between-pages, tower-pages}

-- ---- Counts

module _ (n : ℕ) where
  -- the pages of an image, by who owns them
  pub count-pages : (L : Layout) → count n (owned_by (pieces L)) ≡ count n (1 ∷ []) + (count n (table_pages L.meta) + (count n (named_pages L.tables) + count n (free_pages L.free)))
  count-pages L = simp count-owned (omega arith)

  -- ---- The table of a name, and another one

  -- the pages under a name are pages of named tables
  pub under-named : (name : List ℕ) (ns : List (Keyed Table)) → count n (pages_under name ns) ≤ count n (named_pages ns)
  under-named name [] = omega arith
  under-named name (x ∷ xs) = go (same name x.key) (under-named name xs)
    where
      go : (b : Bool) → count n (pages_under name xs) ≤ count n (named_pages xs)
          → count n (gather table_pages (in_option (cond b (some x.value) (find name xs)))) ≤ count n (named_pages (x ∷ xs))
      go true h = omega (arith, count-append n (table_pages x.value) [], count-owned n (table_pieces x.value) (gather (λ y. table_pieces y.value) xs))
      go false h = omega (arith, count-owned n (table_pieces x.value) (gather (λ y. table_pieces y.value) xs))

  -- and two names have different pages
  pub names_apart : (name other : List ℕ) → same other name ≡ false → (ns : List (Keyed Table))
      → count n (pages_under name ns) + count n (pages_under other ns) ≤ count n (named_pages ns)
  names_apart name other d [] = omega arith
  names_apart name other d (x ∷ xs) = go (same name x.key) refl (same other x.key) refl (names_apart name other d xs)
    where
      go : (b : Bool) → same name x.key ≡ b → (c : Bool) → same other x.key ≡ c → count n (pages_under name xs) + count n (pages_under other xs) ≤ count n (named_pages xs)
          → count n (gather table_pages (in_option (cond b (some x.value) (find name xs)))) + count n (gather table_pages (in_option (cond c (some x.value) (find other xs))))
          ≤ count n (named_pages (x ∷ xs))
      go true e true f h =
          absurd (differ other name d (same-eq other x.key (holds (same other x.key) f) ∙ sym (same-eq name x.key (holds (same name x.key) e))))
      go true e false f h =
          omega (arith, count-append n (table_pages x.value) [], count-owned n (table_pieces x.value) (gather (λ y. table_pieces y.value) xs), under-named other xs)
      go false e true f h =
          omega (arith, count-append n (table_pages x.value) [], count-owned n (table_pieces x.value) (gather (λ y. table_pieces y.value) xs), under-named name xs)
      go false e false f h = omega (arith, count-owned n (table_pieces x.value) (gather (λ y. table_pieces y.value) xs))

-- ---- The pages of a table, part by part

pub table-pages : (t : Table) → table_pages t ≡ t.root ∷ (all_pages (spans_of (columns t)) ++ pages_in (towers_of (columns t)))
table-pages t =
    ap (λ (l : List ℕ). t.root ∷ l)
    (owned-append (map span (spans_in t)) (map tower (towers_in t))
    ∙ (λ j. owned-spans (spans_in t) j ++ owned-towers (towers_in t) j)
    ∙ (λ j. span_pages (link-between t.span_size 0 (spans_of (columns t)) j) ++ tower-pages (columns t) j)
    ∙ ap (λ (l : List ℕ). l ++ pages_in (towers_of (columns t))) (between-pages t.span_size 0 0 (spans_of (columns t))))

module _ (n : ℕ) where
  spans-split : (ss : List Span) → count n (all_pages ss) ≡ count n (first_pages ss) + count n (cont_pages ss)
  spans-split [] = refl
  spans-split (s ∷ ss) = omega (arith, spans-split ss, count-append n s.conts (all_pages ss), count-append n s.conts (cont_pages ss))

  -- a table's pages: its skip-list page, its spans, their continuation pages, its towers
  pub count-table : (t : Table)
      → count n (table_pages t) ≡ count n (t.root ∷ []) + (count n (first_pages (spans_of (columns t))) + (count n (cont_pages (spans_of (columns t))) + count n (pages_in (towers_of (columns t)))))
  count-table t =
      ap (count n) (table-pages t)
      ∙ omega (arith, count-append n (all_pages (spans_of (columns t))) (pages_in (towers_of (columns t))), spans-split (spans_of (columns t)))

  -- the span at a place is one of them
  pub count-span : (t : Table) (i : ℕ) → i < length (columns t)
      → (count n ((span_at t i).page ∷ []) ≤ count n (first_pages (spans_of (columns t)))) × (count n (span_at t i).conts ≤ count n (cont_pages (spans_of (columns t))))
  count-span t i l = (
    omega (
      arith,
      ap (λ (ss : List Span). count n (first_pages ss)) (spans-here t i l),
      ap (count n) (map-append (λ (s : Span). s.page) (spans_to t i) (span_at t i ∷ spans_past t i)),
      count-append n (first_pages (spans_to t i)) ((span_at t i).page ∷ first_pages (spans_past t i)),
    ),
    omega (
      arith,
      ap (λ (ss : List Span). count n (cont_pages ss)) (spans-here t i l),
      ap (count n) (gather_append (λ (s : Span). s.conts) (spans_to t i) (span_at t i ∷ spans_past t i)),
      count-append n (cont_pages (spans_to t i)) ((span_at t i).conts ++ cont_pages (spans_past t i)),
      count-append n (span_at t i).conts (cont_pages (spans_past t i)),
    ),
  )

  -- without a span, its page is missing
  pub firsts-without : (t : Table) (k : ℕ) → suc k < length (columns t)
      → count n (first_pages (spans_of (columns t))) ≡ count n (first_pages (spans_of (columns (without t (suc k))))) + count n ((span_at t (suc k)).page ∷ [])
  firsts-without t k l =
      omega (
        arith,
        ap (λ (ss : List Span). count n (first_pages ss)) (spans-here t k (omega arith) ∙ ap (λ (ss : List Span). spans_to t k ++ span_at t k ∷ ss) (past_next t k l)),
        ap (count n) (map-append (λ (s : Span). s.page) (spans_to t k) (span_at t k ∷ (span_at t (suc k) ∷ spans_past t (suc k)))),
        count-append n (first_pages (spans_to t k)) ((span_at t k).page ∷ ((span_at t (suc k)).page ∷ first_pages (spans_past t (suc k)))),
        ap (λ (ss : List Span). count n (first_pages ss)) (spans-out t k l),
        ap (count n) (map-append (λ (s : Span). s.page) (spans_to t k) (span_at t k ∷ spans_past t (suc k))),
        count-append n (first_pages (spans_to t k)) ((span_at t k).page ∷ first_pages (spans_past t (suc k))),
      )

  -- so are the towers at a place
  pub count-towers : (t : Table) (i : ℕ) → count n (pages_in (towers_at t i)) ≤ count n (pages_in (towers_of (columns t)))
  count-towers t i =
      omega (
        arith,
        ap (λ (ws : List Tower). count n (pages_in ws)) (towers-cut i (columns t)),
        ap (count n) (map-append (λ (w : Tower). w.page) (towers_of (take i (columns t))) (towers_of (drop i (columns t)))),
        count-append n (pages_in (towers_of (take i (columns t)))) (pages_in (towers_of (drop i (columns t)))),
        ap (λ (ws : List Tower). count n (pages_in ws)) (towers-cut 1 (drop i (columns t))),
        ap (count n) (map-append (λ (w : Tower). w.page) (towers_at t i) (towers_of (drop 1 (drop i (columns t))))),
        count-append n (pages_in (towers_at t i)) (pages_in (towers_of (drop 1 (drop i (columns t))))),
      )

  -- ---- Free pages

  count-free : (b : Block) (bs : List Block) → count n (free_pages (b ∷ bs)) ≡ count n (b.page ∷ []) + (count n b.listed + count n (free_pages bs))
  count-free b bs = omega (arith, count-owned n (map free_page b.listed) (free_pieces bs), count-listed b.listed)
    where
      count-listed : (ls : List ℕ) → count n (owned_by (map free_page ls)) ≡ count n ls
      count-listed [] = refl
      count-listed (l ∷ ls) = omega (arith, count-listed ls)

  -- blocks are free pages
  pub blocks-count : (bs : List Block) → count n (map (λ b. b.page) bs) ≤ count n (free_pages bs)
  blocks-count [] = omega arith
  blocks-count (b ∷ bs) = omega (arith, count-free b bs, blocks-count bs)

  take_count : (q : ℕ) (ws : List ℕ) (c : ℕ) (bs : List Block) → length ws ≡ c
      → count n (take_from q ws c bs).pages + count n (free_pages (take_from q ws c bs).free) ≤ count n (q ∷ []) + (count n ws + count n (free_pages bs))
  take_count q ws zero bs e = omega arith
  take_count q ws (suc c) bs e =
      let s : ws ≡ take c ws ++ get_or ws c 0 ∷ [] = sym (take_all (suc c) ws (omega arith)) ∙ take-suc ws c 0 (omega arith) in
      omega (arith, ap (count n) s, count-append n (take c ws) (get_or ws c 0 ∷ []), count-free (record { page = q; listed = take c ws }) bs)

  taken-count : (k : ℕ) (bs : List Block) → count n (take_many k bs).pages + count n (free_pages (take_many k bs).free) ≤ count n (free_pages bs)
  taken-count zero bs = omega arith
  taken-count (suc k) [] = taken-count k []
  taken-count (suc k) (b ∷ bs) =
      omega (
        arith,
        count-append n (take_page (b ∷ bs)).pages (take_many k (take_page (b ∷ bs)).free).pages,
        taken-count k (take_page (b ∷ bs)).free,
        take_count b.page b.listed (length b.listed) bs refl,
        count-free b bs,
      )

  pub take-drop-count : (k : ℕ) (ns : List ℕ) → count n ns ≡ count n (take k ns) + count n (drop k ns)
  take-drop-count k ns = ap (count n) (sym (take-append-drop k ns)) ∙ count-append n (take k ns) (drop k ns)

  -- pages drawn, and those left over, are old pages and free ones
  pub drawn-count : (old : List ℕ) (wanted : ℕ) (gone : List ℕ) (bs : List Block)
      → count n (draw old wanted gone bs).pages + count n (drop wanted old) ≤ count n old + count n (free_pages bs)
  unfolding draw
  drawn-count old wanted gone bs =
      let t : Drawn = take_many (wanted - length old) bs in
      let g : List ℕ = (give_many (drop wanted old ++ gone) t.free).pages in
      omega (
        arith,
        count-append n (take wanted old) (t.pages ++ g),
        count-append n t.pages g,
        ap (count n) (none-given (drop wanted old ++ gone) t.free),
        taken-count (wanted - length old) bs,
        take-drop-count wanted old,
      )
