-- What is held, as pieces; a well-formed image opened into what is held, and closed again.
use Prim.Native.Nat.{ℕ, ◌+◌, ◌≤◌}
use native.Mathlib.Omega.{arith}
use mathlib.Core.Path.{◌≡◌, refl, ap, sym, ◌∙◌, subst}
use mathlib.Core.List.{List, [], ◌∷◌, ◌++◌, map, append_assoc, map-append}
use lib.ListN.{length}
use Rattle.blockfile.specs.Bytes.{pg, be32, word32, Every, gather}
use Rattle.blockfile.specs.Layout.{Keyed, Table, Block, Layout, entries_of, free_count}
use Rattle.blockfile.specs.Order.{name_rule, key_rule, Within}
use Rattle.blockfile.specs.Fields.{SkipList, LinkedSpan, LinkedTower}
use Rattle.blockfile.specs.WellFormed.{KeptCount, Piece, superblock, skip_list, tower, span, Bears, free_pieces, first_block, count, skip_list_of, spans_in, towers_in, table_pieces, pieces, TableOk, WellFormed}
use Rattle.blockfile.proofs.Every.{every-left, every-right, every-join, every_map, every-unmap}
use Rattle.blockfile.proofs.Count.{count-append}
use Rattle.blockfile.proofs.Owned.{owned_by, owned-append, count-owned}
use Rattle.laws.proofs.State.{Held, Shows, skip_pages, span_pages, tower_pages, held_pages, held_by}
use Rattle.laws.proofs.Steps.{Holds}

-- what is held, from its lists
abbrev pub held : List SkipList → List LinkedSpan → List LinkedTower → List Block → (spare : List ℕ) → Held
held ks xs ts bs sp = record { skips = ks; spans = xs; towers = ts; free = bs; spare = sp }

-- skip lists, spans and towers as pieces
abbrev pub thing_pieces : List SkipList → List LinkedSpan → List LinkedTower → List Piece
thing_pieces ks xs ts = map skip_list ks ++ (map span xs ++ map tower ts)

-- the superblock, these things, and the free list
abbrev pub all_pieces : (p z : ℕ) (things : List Piece) → List Block → List Piece
all_pieces p z qs bs = superblock p (first_block bs) z ∷ (qs ++ free_pieces bs)

-- ---- The pages of pieces of one kind

owned-skips : (ks : List SkipList) → owned_by (map skip_list ks) ≡ skip_pages ks
owned-skips [] = refl
owned-skips (k ∷ ks) = ap (λ (l : List ℕ). k.page ∷ l) (owned-skips ks)

pub owned-spans : (xs : List LinkedSpan) → owned_by (map span xs) ≡ span_pages xs
owned-spans [] = refl
owned-spans (x ∷ xs) = ap (λ (l : List ℕ). x.span.page ∷ (x.span.conts ++ l)) (owned-spans xs)

pub owned-towers : (ts : List LinkedTower) → owned_by (map tower ts) ≡ tower_pages ts
owned-towers [] = refl
owned-towers (t ∷ ts) = ap (λ (l : List ℕ). t.tower.page ∷ l) (owned-towers ts)

module _ (p z : ℕ) (ks : List SkipList) (xs : List LinkedSpan) (ts : List LinkedTower) (bs : List Block) (sp : List ℕ) where
  owned-all : owned_by (all_pieces p z (thing_pieces ks xs ts) bs) ++ sp ≡ held_pages (held ks xs ts bs sp)
  owned-all = simp (owned-append, owned-skips, owned-spans, owned-towers, append_assoc)

  count-all : (n : ℕ) → count n (owned_by (all_pieces p z (thing_pieces ks xs ts) bs)) + count n sp ≡ count n (held_pages (held ks xs ts bs sp))
  count-all n = sym (count-append n (owned_by (all_pieces p z (thing_pieces ks xs ts) bs)) sp) ∙ ap (count n) owned-all

  module _ (img : List ℕ) where
    -- an image that shows what is held holds its pieces
    pub to-pieces : Shows p z img (held ks xs ts bs sp) → Holds p img (all_pieces p z (thing_pieces ks xs ts) bs) sp
    to-pieces s =
        let R : Piece → Type 0 = Bears (pg img) in
        record {
          pages = s.pages;
          size = s.size;
          bears = (
            s.super,
            every-join R (thing_pieces ks xs ts) (free_pieces bs)
                (every-join R (map skip_list ks) (map span xs ++ map tower ts) (every_map R skip_list ks s.skips)
                (every-join R (map span xs) (map tower ts) (every_map R span xs s.spans) (every_map R tower ts s.towers)))
                s.free,
          );
          once = λ n. count-all n ∙ s.once n;
        }

    -- and the other way round
    pub from_pieces : Holds p img (all_pieces p z (thing_pieces ks xs ts) bs) sp → Shows p z img (held ks xs ts bs sp)
    from_pieces s =
        let R : Piece → Type 0 = Bears (pg img) in
        let a : Every R (thing_pieces ks xs ts) = every-left R (thing_pieces ks xs ts) (free_pieces bs) s.bears.1 in
        let b : Every R (map span xs ++ map tower ts) = every-right R (map skip_list ks) (map span xs ++ map tower ts) a in
        record {
          pages = s.pages;
          size = s.size;
          super = s.bears.0;
          skips = every-unmap R skip_list ks (every-left R (map skip_list ks) (map span xs ++ map tower ts) a);
          spans = every-unmap R span xs (every-left R (map span xs) (map tower ts) b);
          towers = every-unmap R tower ts (every-right R (map span xs) (map tower ts) b);
          free = every-right R (thing_pieces ks xs ts) (free_pieces bs) s.bears.1;
          once = λ n. sym (count-all n) ∙ s.once n;
        }

-- ---- Table by table, or kind by kind

-- tables, and their pieces kind by kind
abbrev pub tables_of : Layout → List Table
tables_of L = L.meta ∷ map (λ n. n.value) L.tables

abbrev kind_pieces : List Table → List Piece
kind_pieces ts = thing_pieces (map skip_list_of ts) (gather spans_in ts) (gather towers_in ts)

-- one table's pieces before those of the others
kinds-cons : (k : SkipList) (ks : List SkipList) (xs xs' : List LinkedSpan) (ts ts' : List LinkedTower)
    → thing_pieces (k ∷ ks) (xs ++ xs') (ts ++ ts') ≡ skip_list k ∷ (map skip_list ks ++ ((map span xs ++ map span xs') ++ (map tower ts ++ map tower ts')))
kinds-cons k ks xs xs' ts ts' = rw (map-append span xs xs', map-append tower ts ts')

module _ (R : Piece → Type 0) where
  mix : (k a a' b b' : List Piece) → Every R (a ++ b) × Every R (k ++ (a' ++ b')) → Every R (k ++ ((a ++ a') ++ (b ++ b')))
  mix k a a' b b' h =
      let r : Every R (a' ++ b') = every-right R k (a' ++ b') h.1 in
      every-join R k ((a ++ a') ++ (b ++ b')) (every-left R k (a' ++ b') h.1)
      (every-join R (a ++ a') (b ++ b')
      (every-join R a a' (every-left R a b h.0) (every-left R a' b' r))
      (every-join R b b' (every-right R a b h.0) (every-right R a' b' r)))

  unmix : (k a a' b b' : List Piece) → Every R (k ++ ((a ++ a') ++ (b ++ b'))) → Every R (a ++ b) × Every R (k ++ (a' ++ b'))
  unmix k a a' b b' h =
      let r : Every R ((a ++ a') ++ (b ++ b')) = every-right R k ((a ++ a') ++ (b ++ b')) h in
      let u : Every R (a ++ a') = every-left R (a ++ a') (b ++ b') r in
      let v : Every R (b ++ b') = every-right R (a ++ a') (b ++ b') r in (
        every-join R a b (every-left R a a' u) (every-left R b b' v),
        every-join R k (a' ++ b') (every-left R k ((a ++ a') ++ (b ++ b')) h) (every-join R a' b' (every-right R a a' u) (every-right R b b' v)),
      )

  -- one table and the others
  to-kinds : (t : Table) (ts : List Table) → Every R (table_pieces t) → Every R (kind_pieces ts) → Every R (kind_pieces (t ∷ ts))
  to-kinds t ts u v =
      subst (Every R) (sym (kinds-cons (skip_list_of t) (map skip_list_of ts) (spans_in t) (gather spans_in ts) (towers_in t) (gather towers_in ts)))
      (u.0, mix (map skip_list (map skip_list_of ts)) (map span (spans_in t)) (map span (gather spans_in ts)) (map tower (towers_in t)) (map tower (gather towers_in ts)) (u.1, v))

  from-kinds : (t : Table) (ts : List Table) → Every R (kind_pieces (t ∷ ts)) → Every R (table_pieces t) × Every R (kind_pieces ts)
  from-kinds t ts h =
      let k : Every R (skip_list (skip_list_of t) ∷ (map skip_list (map skip_list_of ts) ++ ((map span (spans_in t) ++ map span (gather spans_in ts)) ++ (map tower (towers_in t) ++ map tower (gather towers_in ts)))))
      = subst (Every R) (kinds-cons (skip_list_of t) (map skip_list_of ts) (spans_in t) (gather spans_in ts) (towers_in t) (gather towers_in ts)) h in
      let u : Every R (map span (spans_in t) ++ map tower (towers_in t)) × Every R (kind_pieces ts)
      = unmix (map skip_list (map skip_list_of ts)) (map span (spans_in t)) (map span (gather spans_in ts)) (map tower (towers_in t)) (map tower (gather towers_in ts)) k.1 in
      ((k.0, u.0), u.1)

  by_kind : (ts : List Table) → Every R (gather table_pieces ts) → Every R (kind_pieces ts)
  by_kind [] h = tt
  by_kind (t ∷ ts) h = to-kinds t ts (every-left R (table_pieces t) (gather table_pieces ts) h) (by_kind ts (every-right R (table_pieces t) (gather table_pieces ts) h))

  by-table : (ts : List Table) → Every R (kind_pieces ts) → Every R (gather table_pieces ts)
  by-table [] h = tt
  by-table (t ∷ ts) h =
      let u : Every R (table_pieces t) × Every R (kind_pieces ts) = from-kinds t ts h in
      every-join R (table_pieces t) (gather table_pieces ts) u.0 (by-table ts u.1)

-- the counts are the same
mixed-count : (n : ℕ) (k : Piece) (ks a a' b b' : List Piece)
    → count n (owned_by (k ∷ (ks ++ ((a ++ a') ++ (b ++ b'))))) ≡ count n (owned_by (k ∷ (a ++ b))) + count n (owned_by (ks ++ (a' ++ b')))
mixed-count n k ks a a' b b' = simp (count-append, count-owned) (omega arith)

kinds-count : (n : ℕ) (ts : List Table) → count n (owned_by (kind_pieces ts)) ≡ count n (owned_by (gather table_pieces ts))
kinds-count n [] = refl
kinds-count n (t ∷ ts) =
    ap (λ (l : List Piece). count n (owned_by l)) (kinds-cons (skip_list_of t) (map skip_list_of ts) (spans_in t) (gather spans_in ts) (towers_in t) (gather towers_in ts))
    ∙ mixed-count n (skip_list (skip_list_of t)) (map skip_list (map skip_list_of ts)) (map span (spans_in t)) (map span (gather spans_in ts)) (map tower (towers_in t)) (map tower (gather towers_in ts))
    ∙ ap (λ (m : ℕ). count n (owned_by (table_pieces t)) + m) (kinds-count n ts)
    ∙ sym (count-owned n (table_pieces t) (gather table_pieces ts))

-- ---- Opening and closing

gather-map : (ns : List (Keyed Table)) → gather (λ n. table_pieces n.value) ns ≡ gather table_pieces (map (λ n. n.value) ns)
gather-map [] = refl
gather-map (n ∷ ns) = ap (λ (l : List Piece). table_pieces n.value ++ l) (gather-map ns)

-- the pieces of a layout: superblock, tables, free list
pieces_are : (L : Layout) → pieces L ≡ all_pieces L.pages L.span_size (gather table_pieces (tables_of L)) L.free
pieces_are L = rw (gather-map L.tables, append_assoc (table_pieces L.meta) (gather table_pieces (map (λ n. n.value) L.tables)) (free_pieces L.free))

top_count : (n : ℕ) (q : Piece) (qs rs fs : List Piece) → count n (owned_by qs) ≡ count n (owned_by rs)
    → count n (owned_by (q ∷ (qs ++ fs))) + count n [] ≡ count n (owned_by (q ∷ (rs ++ fs)))
top_count n q qs rs fs e = simp (count-append, count-owned, e) (omega arith)

-- the pure rules on a layout
pub record Ruled (L : Layout) : Type 0 where
  pub span_size : Within 2 128 L.span_size
  pub meta_page : L.meta.root ≡ 2
  pub meta_ok : TableOk name_rule L.meta
  pub meta_entries : entries_of L.meta ≡ map (λ n. record { key = n.key; value = word32 n.value.root }) L.tables
  pub tables_ok : Every (λ n. TableOk (key_rule n.key) n.value) L.tables
  pub blocks_ok : Every (λ b. length b.listed ≤ 252) L.free

-- a well-formed image's layout keeps them
pub ruled : (img : List ℕ) (L : Layout) → WellFormed img L → Ruled L
ruled img L w =
    record {
      span_size = w.span_size;
      meta_page = w.meta_page;
      meta_ok = w.meta_ok;
      meta_entries = w.meta_entries;
      tables_ok = w.tables_ok;
      blocks_ok = w.blocks_ok;
    }

held_same : (ks ks' : List SkipList) (xs xs' : List LinkedSpan) (ts ts' : List LinkedTower) (bs bs' : List Block) (sp : List ℕ)
    → ks ≡ ks' → xs ≡ xs' → ts ≡ ts' → bs ≡ bs' → held ks xs ts bs sp ≡ held ks' xs' ts' bs' sp
held_same ks ks' xs xs' ts ts' bs bs' sp ek ex et eb = cc

module _ (img : List ℕ) (L : Layout) where
  same_once : (n : ℕ) → count n (owned_by (all_pieces L.pages L.span_size (kind_pieces (tables_of L)) L.free)) + count n [] ≡ count n (owned_by (pieces L))
  same_once n =
      top_count n (superblock L.pages (first_block L.free) L.span_size) (kind_pieces (tables_of L)) (gather table_pieces (tables_of L)) (free_pieces L.free)
      (kinds-count n (tables_of L))
      ∙ ap (λ (l : List Piece). count n (owned_by l)) (sym (pieces_are L))

  -- an image of a layout shows what the layout holds
  pub opens : WellFormed img L → Shows L.pages L.span_size img (held_by L)
  opens w =
      let R : Piece → Type 0 = Bears (pg img) in
      let b : Every R (all_pieces L.pages L.span_size (gather table_pieces (tables_of L)) L.free) = subst (Every R) (pieces_are L) w.bears in
      from_pieces L.pages L.span_size (map skip_list_of (tables_of L)) (gather spans_in (tables_of L)) (gather towers_in (tables_of L)) L.free [] img
      (record {
        pages = w.pages;
        size = w.size;
        bears = (
          b.0,
          every-join R (kind_pieces (tables_of L)) (free_pieces L.free)
              (by_kind R (tables_of L) (every-left R (gather table_pieces (tables_of L)) (free_pieces L.free) b.1))
              (every-right R (gather table_pieces (tables_of L)) (free_pieces L.free) b.1),
        );
        once = λ n. same_once n ∙ w.once n;
      })

  -- and an image that shows it is well-formed where the rules hold
  pub closes : Ruled L → KeptCount (free_count L.free) (be32 (pg img 1) 28) → Shows L.pages L.span_size img (held_by L) → WellFormed img L
  closes r k s =
      let R : Piece → Type 0 = Bears (pg img) in
      let h : Holds L.pages img (all_pieces L.pages L.span_size (kind_pieces (tables_of L)) L.free) []
      = to-pieces L.pages L.span_size (map skip_list_of (tables_of L)) (gather spans_in (tables_of L)) (gather towers_in (tables_of L)) L.free [] img s in
      record {
        pages = h.pages;
        size = h.size;
        span_size = r.span_size;
        meta_page = r.meta_page;
        meta_ok = r.meta_ok;
        meta_entries = r.meta_entries;
        tables_ok = r.tables_ok;
        blocks_ok = r.blocks_ok;
        kept = k;
        bears = subst (Every R) (sym (pieces_are L)) (
          h.bears.0,
          every-join R (gather table_pieces (tables_of L)) (free_pieces L.free)
              (by-table R (tables_of L) (every-left R (kind_pieces (tables_of L)) (free_pieces L.free) h.bears.1))
              (every-right R (kind_pieces (tables_of L)) (free_pieces L.free) h.bears.1),
        );
        once = λ n. sym (same_once n) ∙ h.once n;
      }
