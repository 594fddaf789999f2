-- Well-formed: the image's bytes show a layout, the layout keeps the rules, and each page is owned exactly once.
use Rattle.std.specs.Prelude.{ℕ, ◌+◌, ◌*◌, ◌≤◌, ◌≡◌, List, [], ◌∷◌, ◌++◌, map, ◌⊎◌, cond, length, T, ltb, eqb}
use Rattle.blockfile.specs.Bytes.{pg, be32, word32, Every, gather, from, first_of}
use Rattle.blockfile.specs.Layout.{Span, Tower, Column, Table, Block, Layout, columns, spans_of, towers_of, tower_in, entries_of, free_count, reached}
use Rattle.blockfile.specs.Order.{KeyRule, name_rule, key_rule, Within, within, Rising}
use Rattle.blockfile.specs.Fields.{SkipList, LinkedSpan, LinkedTower, IsSuperblock, IsSkipList, IsTower, IsSpan, IsBlock, IsFree}

-- ---- What pages are owned as, with the values of their fields. A span owns its continuation pages.

pub data Piece : Type 0 where
  superblock : (pages free span_size : ℕ) → Piece
  skip_list : SkipList → Piece
  tower : LinkedTower → Piece
  span : LinkedSpan → Piece
  block : Block → (next : ℕ) → Piece
  free_page : ℕ → Piece

-- the pages that a piece owns
abbrev pub pages_of : Piece → List ℕ
pages_of (superblock p f z) = 1 ∷ []
pages_of (skip_list k) = k.page ∷ []
pages_of (tower x) = x.tower.page ∷ []
pages_of (span x) = x.span.page ∷ x.span.conts
pages_of (block b n) = b.page ∷ []
pages_of (free_page n) = n ∷ []

-- the pages of a piece bear its mark and its fields; g gives the bytes of a page
abbrev pub Bears : (g : ℕ → List ℕ) → Piece → Type 0
Bears g (superblock p f z) = IsSuperblock p f z (g 1)
Bears g (skip_list k) = IsSkipList k (g k.page)
Bears g (tower x) = IsTower x (g x.tower.page)
Bears g (span x) = IsSpan x (g x.span.page) (map g x.span.conts)
Bears g (block b n) = IsBlock b.listed n (g b.page)
Bears g (free_page n) = IsFree (g n)

-- ---- The pieces of a table: links and counts follow from the layout

-- spans are linked from the first by next, previous links agree, ends are 0; max keys is the table's span size
abbrev pub link_spans : (span_size prev : ℕ) → List Span → List LinkedSpan
link_spans z p [] = []
link_spans z p (s ∷ ss) = record { span = s; prev = p; next = first_of (map (λ x. x.page) ss); max_keys = z } ∷ link_spans z s.page ss

-- the first of these towers whose current is above i; 0 if none is
abbrev pub next_at : (i : ℕ) → List Tower → ℕ
next_at i [] = 0
next_at i (t ∷ ts) = cond (ltb i t.height) t.page (next_at i ts)

-- a tower's entry i is the next tower in span order whose current is above i: so the chain from the head along entry i
-- visits exactly the other towers with current above i, in span order, and ends in 0
abbrev pub link_towers : List Column → List LinkedTower
link_towers [] = []
link_towers (c ∷ cs) =
    map (λ t. record { tower = t; span_page = c.span.page; nexts = map (λ i. next_at i (towers_of cs)) (from 0 t.height) }) (tower_in c.tower)
    ++ link_towers cs

abbrev pub spans_in : Table → List LinkedSpan
spans_in t = link_spans t.span_size 0 (spans_of (columns t))

abbrev pub towers_in : Table → List LinkedTower
towers_in t = link_towers (columns t)

-- size, spans and levels are the true numbers of keys, spans and towers, first tower counted
abbrev pub skip_list_of : Table → SkipList
skip_list_of t =
    record {
      page = t.root;
      first = t.first.page;
      level = t.head.page;
      size = length (entries_of t);
      spans = length (columns t);
      levels = length (towers_of (columns t));
      span_size = t.span_size;
    }

abbrev pub table_pieces : Table → List Piece
table_pieces t = skip_list (skip_list_of t) ∷ (map span (spans_in t) ++ map tower (towers_in t))

-- ---- The pieces of the image

abbrev pub first_block : List Block → ℕ
first_block bs = first_of (map (λ b. b.page) bs)

-- the chain of free-list blocks ends in 0; listed pages are free pages
abbrev pub free_pieces : List Block → List Piece
free_pieces [] = []
free_pieces (b ∷ bs) = block b (first_block bs) ∷ (map free_page b.listed ++ free_pieces bs)

abbrev pub pieces : Layout → List Piece
pieces L =
    superblock L.pages (first_block L.free) L.span_size
    ∷ (table_pieces L.meta ++ (gather (λ n. table_pieces n.value) L.tables ++ free_pieces L.free))

-- ---- Rules for a table

pub record TableOk (r : KeyRule) (t : Table) : Type 0 where
  pub span_size : Within 2 128 t.span_size
  -- size at most max keys; only the first span may be empty; as many continuation pages as the entries reach
  pub sizes : Every (λ s. length s.entries ≤ t.span_size) (spans_of (columns t))
  pub filled : Every (λ s. 1 ≤ length s.entries) (spans_of t.rest)
  pub reach : Every (λ s. 1 + length s.conts ≡ reached s.entries) (spans_of (columns t))
  -- keys as the rule has them, values at most 65,535 bytes; keys increase strictly through the whole table
  pub keys : Every (λ e. T (r.allowed e.key)) (entries_of t)
  pub values : Every (λ e. length e.value ≤ 65535) (entries_of t)
  pub rising : Rising r (entries_of t)
  -- max height 1 to 252, current at most max; of other towers current 1 to the head's
  pub heights : Every (λ w. Within 1 252 w.max_height × (w.height ≤ w.max_height)) (towers_of (columns t))
  pub others : Every (λ w. Within 1 t.head.height w.height) (towers_of t.rest)

-- ---- The image

-- how often n is in a list
abbrev pub count : (n : ℕ) → List ℕ → ℕ
count n [] = 0
count n (m ∷ ms) = cond (eqb n m) 1 0 + count n ms

-- the superblock's count n of the free pages f: 0 for not kept, else f plus 1
abbrev pub KeptCount : (f n : ℕ) → Type 0
KeptCount f n = (n ≡ 0) ⊎ (n ≡ f + 1)

pub record WellFormed (img : List ℕ) (L : Layout) : Type 0 where
  pub pages : Within 4 4096 L.pages
  pub size : length img ≡ 1024 * L.pages
  pub span_size : Within 2 128 L.span_size
  -- page 2 is the metaindex's skip-list page; its keys are the table names, each value the table's skip-list page
  pub meta_page : L.meta.root ≡ 2
  pub meta_ok : TableOk name_rule L.meta
  pub meta_entries : entries_of L.meta ≡ map (λ n. record { key = n.key; value = word32 n.value.root }) L.tables
  pub tables_ok : Every (λ n. TableOk (key_rule n.key) n.value) L.tables
  -- at most 252 pages listed in a block
  pub blocks_ok : Every (λ b. length b.listed ≤ 252) L.free
  -- superblock 28 to 31: the count of free pages, kept or not
  pub kept : KeptCount (free_count L.free) (be32 (pg img 1) 28)
  -- every page bears the mark, and keeps the field rules, of the kind it is owned as
  pub bears : Every (Bears (pg img)) (pieces L)
  -- each of the P pages is owned exactly once; no other number, 0 among them, is owned
  pub once : (n : ℕ) → count n (gather pages_of (pieces L)) ≡ cond (within 1 L.pages n) 1 0

-- some layout fits
abbrev pub Accepted : List ℕ → Type 0
Accepted img = (L : Layout) × WellFormed img L

-- no layout fits: refusal 3 is given exactly there
abbrev pub Rejected : List ℕ → Type 0
Rejected img = (L : Layout) → WellFormed img L → ⊥
