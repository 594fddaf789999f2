-- The image in four stages: superblock, metaindex, named tables, free list. What is to be found from a stage on is what is to be
-- found from the start; at the end every page is claimed exactly if each is owned once.
use Prim.Native.Nat.{ℕ, ◌*◌, ◌≤◌}
use native.Mathlib.Omega.{arith}
use mathlib.Core.Path.{◌≡◌, refl, ap, sym, ◌∙◌, subst}
use mathlib.Core.Bool.{Bool, true, false, cond, true≢false}
use mathlib.Core.List.{List, [], ◌∷◌, ◌++◌, map}
use lib.ListN.{length, length-map}
use lib.Dec.{T, leb, le→leb}
use Rattle.blockfile.specs.declared.Counts.{Counts}
use Rattle.blockfile.specs.Bytes.{pg, be32, Every, gather}
use Rattle.blockfile.specs.Layout.{Keyed, Entry, Table, Block, Layout, entries_of, free_count}
use Rattle.blockfile.specs.Order.{Within, within, all_within, KeyRule, name_rule, bytes_rule, key_rule, Rising}
use Rattle.blockfile.specs.WellFormed.{Piece, superblock, pages_of, Bears, TableOk, table_pieces, free_pieces, first_block, pieces, KeptCount, WellFormed}
use Rattle.blockfile.proofs.Bools.{and_both, both-and, within-is}
use Rattle.blockfile.proofs.Every.{every-so}
use Rattle.heads.specs.Claims.{pages_in, Room, Lent, Headed, full}
use Rattle.heads.proofs.Claims.{room-long}
use Rattle.std.proofs.Common.{Option as Answer, Some, None}
use Rattle.std.proofs.lemmas.Option.{none-some, same_Some}
use Rattle.walks.specs.Found.{claims, Fresh, Found, FindsAt}
use Rattle.walks.proofs.Founds.{SameAt, same_turn, found-join, found_first, found-second, found-lent, fresh-left, fresh-right, length-claims}
use Rattle.walks.proofs.Once.{AllOpen, claimed-once, once-claimed}
use Rattle.search.specs.Spans.{Borne}
use Rattle.order.specs.declared.sort.Sort.TheVariants.{Bytes}
use Rattle.spans.proofs.PageClaims.{inside-fresh}
use Rattle.verify.specs.Free.{FreeFound}
use Rattle.verify.specs.Superblock.{SuperFound}
use Rattle.verify.specs.Tables.{TableFound, listing, keys_of, TablesFound, MetaOn}
use Rattle.verify.specs.Image.{counts_of, Judged}

abbrev tables_pieces : List (Keyed Table) → List Piece
tables_pieces ns = gather (λ x. table_pieces x.value) ns

abbrev counted : (p tables keys free : ℕ) → Counts
counted p t k f = record { pages = p; tables = t; keys = k; free = f }

-- ---- What is to be found from each stage on. c are the counts and out the scratch at the end

-- from the start: all of the layout L
pub record Whole (img scr : List ℕ) (c : Counts) (out : List ℕ) : Type 0 where
  pub layout : Layout
  pub pages : layout.pages ≡ pages_in scr
  pub span_size : Within 2 128 layout.span_size
  pub meta_page : layout.meta.root ≡ 2
  pub meta_ok : TableOk name_rule layout.meta
  pub meta_entries : entries_of layout.meta ≡ map listing layout.tables
  pub tables_ok : Every (λ x. TableOk (key_rule x.key) x.value) layout.tables
  pub blocks_ok : Every (λ b. length b.listed ≤ 252) layout.free
  pub found : Found img scr (pieces layout) out
  pub counts : c ≡ counts_of layout

-- after the superblock
pub record Tabled (img : List ℕ) (p first : ℕ) (scr : List ℕ) (c : Counts) (out : List ℕ) : Type 0 where
  pub meta : Table
  pub tables : List (Keyed Table)
  pub free : List Block
  pub meta_page : meta.root ≡ 2
  pub meta_ok : TableOk name_rule meta
  pub meta_entries : entries_of meta ≡ map listing tables
  pub tables_ok : Every (λ x. TableOk (key_rule x.key) x.value) tables
  pub start : first ≡ first_block free
  pub blocks_ok : Every (λ b. length b.listed ≤ 252) free
  pub found : Found img scr (table_pieces meta ++ (tables_pieces tables ++ free_pieces free)) out
  pub counts : c ≡ counted p (length tables) (keys_of tables) (free_count free)

-- the metaindex that was found between two states of the scratch, with m keys; whether they are names is seen with the tables
abbrev pub MetaFound : (img scr : List ℕ) (m : ℕ) (mid : List ℕ) → Type 0
MetaFound img scr m mid = TableFound Bytes img scr 2 m mid

-- after the metaindex
pub record Named (img : List ℕ) (p first : ℕ) (scr : List ℕ) (m : ℕ) (mid : List ℕ) (c : Counts) (out : List ℕ) : Type 0 where
  pub meta : MetaFound img scr m mid
  pub names : Every (λ e. T (name_rule.allowed e.key)) (entries_of meta.table)
  pub tables : List (Keyed Table)
  pub free : List Block
  pub meta_entries : entries_of meta.table ≡ map listing tables
  pub tables_ok : Every (λ x. TableOk (key_rule x.key) x.value) tables
  pub start : first ≡ first_block free
  pub blocks_ok : Every (λ b. length b.listed ≤ 252) free
  pub found : Found img mid (tables_pieces tables ++ free_pieces free) out
  pub counts : c ≡ counted p m (keys_of tables) (free_count free)

-- after the named tables
pub record Listed (img : List ℕ) (p first : ℕ) (scr : List ℕ) (m : ℕ) (mid : List ℕ) (k : ℕ) (late : List ℕ) (c : Counts) (out : List ℕ) : Type 0 where
  pub meta : MetaFound img scr m mid
  pub tables : TablesFound img mid (entries_of meta.table) 0 k late
  pub free : List Block
  pub start : first ≡ first_block free
  pub blocks_ok : Every (λ b. length b.listed ≤ 252) free
  pub found : Found img late (free_pieces free) out
  pub counts : c ≡ counted p m k (free_count free)

-- ---- The superblock

module _ (img scr : List ℕ) (r : Answer ℕ) (s : List ℕ) (f : FindsAt Some (SuperFound img scr) r s) where
  super-of : (c : Counts) (out : List ℕ) (w : Whole img scr c out)
      → SuperFound img scr (first_block w.layout.free) (claims scr (1 ∷ []))
  super-of c out w =
      record {
        size = w.layout.span_size;
        range = w.span_size;
        found = subst (λ (n : ℕ). Found img scr (superblock n (first_block w.layout.free) w.layout.span_size ∷ []) (claims scr (1 ∷ []))) w.pages
            (found_first img scr (superblock w.layout.pages (first_block w.layout.free) w.layout.span_size ∷ [])
            (table_pieces w.layout.meta ++ (tables_pieces w.layout.tables ++ free_pieces w.layout.free)) out w.found);
      }

  pub no-super : r ≡ None → (c : Counts) (out : List ℕ) → Whole img scr c out → ⊥
  no-super e c out w =
      none-some _ (sym e ∙ (f.complete _ _ (super-of c out w)).0)

  pub past-super : (a : ℕ) → r ≡ Some a → SameAt (Tabled img (pages_in scr) a s) (Whole img scr)
  past-super a e = record { to = to; back = back }
    where
      to : (c : Counts) (out : List ℕ) → Tabled img (pages_in scr) a s c out → Whole img scr c out
      to c out t =
          let x : SuperFound img scr a s = f.sound a e in
          record {
            layout = record { pages = pages_in scr; span_size = x.size; meta = t.meta; tables = t.tables; free = t.free };
            pages = refl;
            span_size = x.range;
            meta_page = t.meta_page;
            meta_ok = t.meta_ok;
            meta_entries = t.meta_entries;
            tables_ok = t.tables_ok;
            blocks_ok = t.blocks_ok;
            found = found-join img scr (superblock (pages_in scr) (first_block t.free) x.size ∷ []) (table_pieces t.meta ++ (tables_pieces t.tables ++ free_pieces t.free)) s out
                (subst (λ (n : ℕ). Found img scr (superblock (pages_in scr) n x.size ∷ []) s) t.start x.found) t.found;
            counts = t.counts;
          }

      back : (c : Counts) (out : List ℕ) → Whole img scr c out → Tabled img (pages_in scr) a s c out
      back c out w =
          let d = f.complete _ _ (super-of c out w) in
          let i : a ≡ first_block w.layout.free = same_Some a _ (sym e ∙ d.0) in
          record {
            meta = w.layout.meta;
            tables = w.layout.tables;
            free = w.layout.free;
            meta_page = w.meta_page;
            meta_ok = w.meta_ok;
            meta_entries = w.meta_entries;
            tables_ok = w.tables_ok;
            start = i;
            blocks_ok = w.blocks_ok;
            found = subst (λ (x : List ℕ). Found img x (table_pieces w.layout.meta ++ (tables_pieces w.layout.tables ++ free_pieces w.layout.free)) out) (sym d.1)
                (found-second img scr (superblock w.layout.pages (first_block w.layout.free) w.layout.span_size ∷ [])
                (table_pieces w.layout.meta ++ (tables_pieces w.layout.tables ++ free_pieces w.layout.free)) out w.found);
            counts = w.counts ∙ ap (λ (n : ℕ). counted n (length w.layout.tables) (keys_of w.layout.tables) (free_count w.layout.free)) w.pages;
          }

-- ---- The metaindex

-- a table under another rule with the same order
module _ (r s : KeyRule) (order : r.below ≡ s.below) where
  rising-same : (es : List Entry) → Rising r es → Rising s es
  rising-same [] h = tt
  rising-same (e ∷ es) h = (subst (λ (b : List ℕ → List ℕ → Bool). Every (λ (y : Entry). T (b e.key y.key)) es) order h.0, rising-same es h.1)

  other-rule : (t : Table) → TableOk r t → Every (λ e. T (s.allowed e.key)) (entries_of t) → TableOk s t
  other-rule t ok keys =
      record {
        span_size = ok.span_size;
        sizes = ok.sizes;
        filled = ok.filled;
        reach = ok.reach;
        keys = keys;
        values = ok.values;
        rising = rising-same (entries_of t) ok.rising;
        heights = ok.heights;
        others = ok.others;
      }

-- a name is a key, and names sort by bytes
name-order : name_rule.below ≡ bytes_rule.below
unfolding name_rule
name-order = refl

name-key : (k : List ℕ) → T (name_rule.allowed k) → T (bytes_rule.allowed k)
unfolding name_rule
name-key k h =
    let w : Within 1 255 (length k) = within-is 1 255 (length k) (and_both (within 1 255 (length k)) (all_within 0x21 0x7e k) h).0 in
    both-and (leb 1 (length k)) (leb (length k) 65535) (le→leb 1 (length k) w.0) (le→leb (length k) 65535 (omega arith))

module _ (img : List ℕ) (p first : ℕ) (scr : List ℕ) (r : Answer ℕ) (s : List ℕ) (f : FindsAt Some (MetaFound img scr) r s) where
  meta-of : (c : Counts) (out : List ℕ) (t : Tabled img p first scr c out) → MetaFound img scr (length (entries_of t.meta)) (claims scr (gather pages_of (table_pieces t.meta)))
  meta-of c out t =
      record {
        table = t.meta;
        named = t.meta_page;
        ok = other-rule name_rule bytes_rule name-order t.meta t.meta_ok
            (every-so (λ (e : Entry). T (name_rule.allowed e.key)) (λ e. name-key e.key) (entries_of t.meta) t.meta_ok.keys);
        found = found_first img scr (table_pieces t.meta) (tables_pieces t.tables ++ free_pieces t.free) out t.found;
        keys = refl;
      }

  pub no-meta : r ≡ None → (c : Counts) (out : List ℕ) → Tabled img p first scr c out → ⊥
  no-meta e c out t = none-some _ (sym e ∙ (f.complete _ _ (meta-of c out t)).0)

  names : (c : Counts) (out : List ℕ) (t : Tabled img p first scr c out) → length (entries_of t.meta) ≡ length t.tables
  names c out t = ap length t.meta_entries ∙ length-map t.tables listing

  pub past-meta : (m : ℕ) → r ≡ Some m → SameAt (Named img p first scr m s) (Tabled img p first scr)
  unfolding meta-of
  past-meta m e = record { to = to; back = back }
    where
      to : (c : Counts) (out : List ℕ) → Named img p first scr m s c out → Tabled img p first scr c out
      to c out n =
          record {
            meta = n.meta.table;
            tables = n.tables;
            free = n.free;
            meta_page = n.meta.named;
            meta_ok = other-rule bytes_rule name_rule (sym name-order) n.meta.table n.meta.ok n.names;
            meta_entries = n.meta_entries;
            tables_ok = n.tables_ok;
            start = n.start;
            blocks_ok = n.blocks_ok;
            found = found-join img scr (table_pieces n.meta.table) (tables_pieces n.tables ++ free_pieces n.free) s out n.meta.found n.found;
            counts = n.counts ∙ ap (λ (x : ℕ). counted p x (keys_of n.tables) (free_count n.free)) (n.meta.keys ∙ ap length n.meta_entries ∙ length-map n.tables listing);
          }

      back : (c : Counts) (out : List ℕ) → Tabled img p first scr c out → Named img p first scr m s c out
      back c out t =
          let d = f.complete _ _ (meta-of c out t) in
          let i : m ≡ length (entries_of t.meta) = same_Some m _ (sym e ∙ d.0) in
          record {
            meta = record {
              table = t.meta;
              named = t.meta_page;
              ok = (meta-of c out t).ok;
              found = subst (Found img scr (table_pieces t.meta)) (sym d.1) (meta-of c out t).found;
              keys = i;
            };
            names = t.meta_ok.keys;
            tables = t.tables;
            free = t.free;
            meta_entries = t.meta_entries;
            tables_ok = t.tables_ok;
            start = t.start;
            blocks_ok = t.blocks_ok;
            found = subst (λ (x : List ℕ). Found img x (tables_pieces t.tables ++ free_pieces t.free) out) (sym d.1)
                (found-second img scr (table_pieces t.meta) (tables_pieces t.tables ++ free_pieces t.free) out t.found);
            counts = t.counts ∙ ap (λ (x : ℕ). counted p x (keys_of t.tables) (free_count t.free)) (sym (names c out t) ∙ sym i);
          }

-- ---- The named tables

-- the walk over the tables that a metaindex names answers r and leaves the scratch s, whatever metaindex is read there
module _ (img : List ℕ) (p first : ℕ) (scr : List ℕ) (m : ℕ) (mid : List ℕ) (r : Answer ℕ) (s : List ℕ)
    (f : (x : MetaFound img scr m mid) → FindsAt Some (TablesFound img mid (entries_of x.table) 0) r s) where
  tables-of : (c : Counts) (out : List ℕ) (n : Named img p first scr m mid c out)
      → TablesFound img mid (entries_of n.meta.table) 0 (keys_of n.tables) (claims mid (gather pages_of (tables_pieces n.tables)))
  tables-of c out n =
      record {
        names = n.names;
        tables = n.tables;
        named = n.meta_entries;
        ok = n.tables_ok;
        found = found_first img mid (tables_pieces n.tables) (free_pieces n.free) out n.found;
        keys = omega arith;
      }

  pub no-tables : r ≡ None → (c : Counts) (out : List ℕ) → Named img p first scr m mid c out → ⊥
  no-tables e c out n = none-some _ (sym e ∙ ((f n.meta).complete _ _ (tables-of c out n)).0)

  pub past-tables : (k : ℕ) → r ≡ Some k → SameAt (Listed img p first scr m mid k s) (Named img p first scr m mid)
  unfolding tables-of
  past-tables k e = record { to = to; back = back }
    where
      to : (c : Counts) (out : List ℕ) → Listed img p first scr m mid k s c out → Named img p first scr m mid c out
      to c out l =
          record {
            meta = l.meta;
            names = l.tables.names;
            tables = l.tables.tables;
            free = l.free;
            meta_entries = l.tables.named;
            tables_ok = l.tables.ok;
            start = l.start;
            blocks_ok = l.blocks_ok;
            found = found-join img mid (tables_pieces l.tables.tables) (free_pieces l.free) s out l.tables.found l.found;
            counts = l.counts ∙ ap (λ (x : ℕ). counted p m x (free_count l.free)) (let q : k ≡ keys_of l.tables.tables = omega (arith, l.tables.keys) in q);
          }

      back : (c : Counts) (out : List ℕ) → Named img p first scr m mid c out → Listed img p first scr m mid k s c out
      back c out n =
          let d = (f n.meta).complete _ _ (tables-of c out n) in
          let i : k ≡ keys_of n.tables = same_Some k _ (sym e ∙ d.0) in
          record {
            meta = n.meta;
            tables = record {
              names = n.names;
              tables = n.tables;
              named = n.meta_entries;
              ok = n.tables_ok;
              found = subst (Found img mid (tables_pieces n.tables)) (sym d.1) (tables-of c out n).found;
              keys = omega arith;
            };
            free = n.free;
            start = n.start;
            blocks_ok = n.blocks_ok;
            found = subst (λ (x : List ℕ). Found img x (free_pieces n.free) out) (sym d.1) (found-second img mid (tables_pieces n.tables) (free_pieces n.free) out n.found);
            counts = n.counts ∙ ap (λ (x : ℕ). counted p m x (free_count n.free)) (sym i);
          }

-- ---- The free list

module _ (img : List ℕ) (p first : ℕ) (scr : List ℕ) (m : ℕ) (mid : List ℕ) (k : ℕ) (late : List ℕ) (r : Answer ℕ) (s : List ℕ)
    (f : FindsAt Some (FreeFound img late first 0) r s) where
  free_of : (c : Counts) (out : List ℕ) (l : Listed img p first scr m mid k late c out) → FreeFound img late first 0 (free_count l.free) out
  free_of c out l = record { blocks = l.free; first = l.start; few = l.blocks_ok; found = l.found; total = omega arith }

  pub no-free : r ≡ None → (c : Counts) (out : List ℕ) → Listed img p first scr m mid k late c out → ⊥
  no-free e c out l = none-some _ (sym e ∙ (f.complete _ _ (free_of c out l)).0)

  -- what is found then, and nothing else
  pub free-only : (n : ℕ) → r ≡ Some n → (c : Counts) (out : List ℕ) → Listed img p first scr m mid k late c out → (c ≡ counted p m k n) × (out ≡ s)
  free-only n e c out l =
      let d = f.complete _ _ (free_of c out l) in
      (l.counts ∙ ap (counted p m k) (sym (same_Some n _ (sym e ∙ d.0))), sym d.1)

  pub free-there : (n : ℕ) → r ≡ Some n → (x : MetaFound img scr m mid) → TablesFound img mid (entries_of x.table) 0 k late → Listed img p first scr m mid k late (counted p m k n) s
  free-there n e x t =
      let g : FreeFound img late first 0 n s = f.sound n e in
      record {
        meta = x;
        tables = t;
        free = g.blocks;
        start = g.first;
        blocks_ok = g.few;
        found = g.found;
        counts = ap (counted p m k) (let q : n ≡ free_count g.blocks = omega (arith, g.total) in q);
      }

-- ---- The verdict. No page is claimed at the start

-- what is tested at the end: every page is claimed, and the superblock's count of free pages is true, if it is kept
pub record AtEnd (img : List ℕ) (c : Counts) (out : List ℕ) : Type 0 where
  pub all : full out ≡ true
  pub kept : KeptCount c.free (be32 (pg img 1) 28)

module _ (img : List ℕ) (p : ℕ) (size : length img ≡ 1024 * p) (range : Within 4 4096 p) (scr : List ℕ) (none : AllOpen p scr) where
  count-is : pages_in scr ≡ p
  count-is = omega (arith, none.long)

  -- what is found from the start, with what is tested at the end, is the layout of a well-formed image
  well : (c : Counts) (out : List ℕ) (w : Whole img scr c out) → AtEnd img c out → WellFormed img w.layout
  well c out w e =
      let q : w.layout.pages ≡ p = w.pages ∙ count-is in
      record {
        pages = subst (Within 4 4096) (sym q) range;
        size = size ∙ ap (λ (n : ℕ). 1024 * n) (sym q);
        span_size = w.span_size;
        meta_page = w.meta_page;
        meta_ok = w.meta_ok;
        meta_entries = w.meta_entries;
        tables_ok = w.tables_ok;
        blocks_ok = w.blocks_ok;
        kept = subst (λ (d : Counts). KeptCount d.free (be32 (pg img 1) 28)) w.counts e.kept;
        bears = w.found.bears;
        once = λ n. claimed-once p scr none (gather pages_of (pieces w.layout)) w.found.fresh (subst (λ (s : List ℕ). full s ≡ true) w.found.left e.all) n ∙ ap (λ (k : ℕ). once-at k n) (sym q);
      }
    where
      once-at : ℕ → ℕ → ℕ
      once-at k n = cond (within 1 k n) 1 0

  -- a well-formed image's layout is found from the start, and the tests at the end hold
  whole : (L : Layout) → WellFormed img L → (out : List ℕ) × Whole img scr (counts_of L) out × AtEnd img (counts_of L) out
  whole L w =
      let q : L.pages ≡ p = same (length img) L.pages p w.size size in
      let o = once-claimed p scr none (gather pages_of (pieces L)) (λ n. w.once n ∙ ap (λ (k : ℕ). once-at k n) q) in (
        claims scr (gather pages_of (pieces L)),
        record {
          layout = L;
          pages = q ∙ sym count-is;
          span_size = w.span_size;
          meta_page = w.meta_page;
          meta_ok = w.meta_ok;
          meta_entries = w.meta_entries;
          tables_ok = w.tables_ok;
          blocks_ok = w.blocks_ok;
          found = record { bears = w.bears; fresh = o.0; left = refl };
          counts = refl;
        },
        record { all = o.1; kept = w.kept },
      )
    where
      same : (n a b : ℕ) → n ≡ 1024 * a → n ≡ 1024 * b → a ≡ b
      same n a b e f = omega arith

      once-at : ℕ → ℕ → ℕ
      once-at k n = cond (within 1 k n) 1 0

  pub verdict-bad : ((c : Counts) (out : List ℕ) → Whole img scr c out → AtEnd img c out → ⊥) → Judged img None
  verdict-bad n =
      record {
        sound = λ c e. absurd (none-some c e);
        complete = λ L w. let x = whole L w in absurd (n (counts_of L) x.0 x.1 x.2);
      }

  pub verdict-good : (c : Counts) (out : List ℕ) → Whole img scr c out → AtEnd img c out → ((d : Counts) (t : List ℕ) → Whole img scr d t → d ≡ c) → Judged img (Some c)
  verdict-good c out w e only =
      record {
        sound = λ d q. let i : c ≡ d = same_Some c d q in (w.layout, well c out w e, sym i ∙ w.counts);
        complete = λ L x. let y = whole L x in ap Some (sym (only (counts_of L) y.0 y.1));
      }

-- ---- The metaindex that was found, to be read

borne-found : (img scr : List ℕ) (ps : List Piece) → Room img scr → Every (Bears (pg img)) ps → Fresh scr (gather pages_of ps) → Every (Borne img) ps
borne-found img scr [] room b f = tt
borne-found img scr (x ∷ ps) room b f = (
  (b.0, inside-fresh img scr (pages_of x) room (fresh-left scr (pages_of x) (gather pages_of ps) f)),
  borne-found img (claims scr (pages_of x)) ps (room-long (length-claims scr (pages_of x)) room) b.1 (fresh-right scr (pages_of x) (gather pages_of ps) f),
)

meta-on : (img scr : List ℕ) (m : ℕ) (mid : List ℕ) → Lent img scr → (x : MetaFound img scr m mid) → MetaOn img x.table
meta-on img scr m mid lent x =
    record {
      small = omega (arith, lent.room.size, lent.room.most);
      page = x.named;
      ok = x.ok;
      borne = borne-found img scr (table_pieces x.table) lent.room x.found.bears x.found.fresh;
    }

-- ---- The verdict at each stage

module _ (img scr : List ℕ) (headed : Headed img scr) (enough : 4096 ≤ length img) where
  size : length img ≡ 1024 * pages_in scr
  size = headed.lent.room.size

  range : Within 4 4096 (pages_in scr)
  range = let room = headed.lent.room in (omega (arith, room.size, enough), room.most)

  all-open : AllOpen (pages_in scr) scr
  all-open = record { long = headed.lent.room.whole; free = headed.unclaimed }

  bad : ((c : Counts) (out : List ℕ) → Whole img scr c out → AtEnd img c out → ⊥) → Judged img None
  bad = verdict-bad img (pages_in scr) size range scr all-open

  module _ (r : Answer ℕ) (s : List ℕ) (f : FindsAt Some (SuperFound img scr) r s) where
    pub bad-super : r ≡ None → Judged img None
    bad-super q = bad (λ c out w e. no-super img scr r s f q c out w)

    pub super-lent : (a : ℕ) → r ≡ Some a → Lent img s
    super-lent a e = found-lent headed.lent (f.sound a e).found

    module _ (a : ℕ) (e : r ≡ Some a) (r₁ : Answer ℕ) (s₁ : List ℕ) (f₁ : FindsAt Some (MetaFound img s) r₁ s₁) where
      started : SameAt (Tabled img (pages_in scr) a s) (Whole img scr)
      started = past-super img scr r s f a e

      pub bad-meta : r₁ ≡ None → Judged img None
      bad-meta q = bad (λ c out w e. no-meta img (pages_in scr) a s r₁ s₁ f₁ q c out (started.back c out w))

      module _ (m : ℕ) (e₁ : r₁ ≡ Some m) where
        pub meta-there : (meta : Table) × MetaOn img meta
        meta-there = let x : MetaFound img s m s₁ = f₁.sound m e₁ in (x.table, meta-on img s m s₁ (super-lent a e) x)

        pub meta-lent : Lent img s₁
        meta-lent = found-lent (super-lent a e) (f₁.sound m e₁).found

        module _ (r₂ : Answer ℕ) (s₂ : List ℕ) (f₂ : (meta : Table) → MetaOn img meta → FindsAt Some (TablesFound img s₁ (entries_of meta) 0) r₂ s₂) where
          walked : (x : MetaFound img s m s₁) → FindsAt Some (TablesFound img s₁ (entries_of x.table) 0) r₂ s₂
          walked x = f₂ x.table (meta-on img s m s₁ (super-lent a e) x)

          known : SameAt (Named img (pages_in scr) a s m s₁) (Whole img scr)
          known = same_turn (past-meta img (pages_in scr) a s r₁ s₁ f₁ m e₁) started

          pub bad-tables : r₂ ≡ None → Judged img None
          bad-tables q = bad (λ c out w e. no-tables img (pages_in scr) a s m s₁ r₂ s₂ walked q c out (known.back c out w))

          pub tables-lent : (k : ℕ) → r₂ ≡ Some k → Lent img s₂
          tables-lent k e₂ = found-lent meta-lent ((walked (f₁.sound m e₁)).sound k e₂).found

          module _ (k : ℕ) (e₂ : r₂ ≡ Some k) (r₃ : Answer ℕ) (s₃ : List ℕ) (f₃ : FindsAt Some (FreeFound img s₂ a 0) r₃ s₃) where
            tabled : SameAt (Listed img (pages_in scr) a s m s₁ k s₂) (Whole img scr)
            tabled = same_turn (past-tables img (pages_in scr) a s m s₁ r₂ s₂ walked k e₂) known

            pub bad-free : r₃ ≡ None → Judged img None
            bad-free q = bad (λ c out w e. no-free img (pages_in scr) a s m s₁ k s₂ r₃ s₃ f₃ q c out (tabled.back c out w))

            module _ (n : ℕ) (e₃ : r₃ ≡ Some n) where
              only : (c : Counts) (out : List ℕ) → Whole img scr c out → (c ≡ counted (pages_in scr) m k n) × (out ≡ s₃)
              only c out w = free-only img (pages_in scr) a s m s₁ k s₂ r₃ s₃ f₃ n e₃ c out (tabled.back c out w)

              pub bad-unowned : full s₃ ≡ false → Judged img None
              bad-unowned q = bad (λ c out w e. true≢false (sym e.all ∙ ap full (only c out w).1 ∙ q))

              pub bad-kept : (KeptCount n (be32 (pg img 1) 28) → ⊥) → Judged img None
              bad-kept q = bad (λ c out w e. q (subst (λ (d : Counts). KeptCount d.free (be32 (pg img 1) 28)) (only c out w).0 e.kept))

              pub good : (p : ℕ) → p ≡ pages_in scr → full s₃ ≡ true → KeptCount n (be32 (pg img 1) 28) → Judged img (Some (counted p m k n))
              good p i q kept =
                  let x : MetaFound img s m s₁ = f₁.sound m e₁ in
                  let l : Listed img (pages_in scr) a s m s₁ k s₂ (counted (pages_in scr) m k n) s₃
                  = free-there img (pages_in scr) a s m s₁ k s₂ r₃ s₃ f₃ n e₃ x ((walked x).sound k e₂) in
                  subst (λ (x : ℕ). Judged img (Some (counted x m k n))) (sym i)
                  (verdict-good img (pages_in scr) size range scr all-open (counted (pages_in scr) m k n) s₃
                  (tabled.to (counted (pages_in scr) m k n) s₃ l) (record { all = q; kept = kept })
                  (λ d t w. (only d t w).0))
