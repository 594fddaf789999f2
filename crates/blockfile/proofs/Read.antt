-- A well-formed image has no other layout than the one read from its bytes. So an image is well-formed exactly if that one
-- breaks no rule.
use Prim.Native.Nat.{ℕ, zero, suc, ◌+◌, ◌*◌, ◌/◌, ◌<◌, ◌≤◌}
use native.Mathlib.Omega.{arith}
use mathlib.Core.Path.{◌≡◌, refl, ap, ap₂, sym, ◌∙◌, subst}
use mathlib.Core.List.{List, [], ◌∷◌, ◌++◌, map, head-eq_of_cons-eq, nil≢cons, cons≢nil}
use mathlib.Core.Option.{Option, none, some}
use mathlib.Core.Bool.{Bool, true, false, cond}
use lib.ListN.{length, take, drop, length-append}
use lib.Seq.{slice, take_at, take-nil, drop-nil, drop-append-add}
use lib.Dec.{T, eqb, ltb, eqb→eq, eqb_refl, lt→ltb}
use Rattle.blockfile.specs.Bytes.{pg, be16, be32, word32, Every, gather, from, first_of}
use Rattle.blockfile.specs.Layout.{Keyed, Entry, Span, Tower, Column, Table, Block, Layout, spans_of, towers_of, tower_in, entries_of, entries_from, lens_start, entry_end}
use Rattle.blockfile.specs.Order.{KeyRule, name_rule, key_rule, Within, within}
use Rattle.blockfile.specs.Fields.{LinkedSpan, LinkedTower, Numbers, EntriesAt, AreConts}
use Rattle.blockfile.specs.WellFormed.{Piece, span, tower, free_page, skip_list, Bears, free_pieces, link_spans, link_towers, next_at, skip_list_of, spans_in, towers_in, table_pieces, pieces, count, TableOk, WellFormed, Accepted, Rejected}
use Rattle.blockfile.proofs.Every.{every-left, every-right}
use Rattle.blockfile.proofs.Count.{Positive, count-here, count-append}
use Rattle.blockfile.proofs.Owned.{owned_by, owned-append}
use Rattle.blockfile.proofs.Tested.{Rule, Passed, Once, once-small, failed, j_image}
use Rattle.blockfile.proofs.Reading.{chain, read_numbers, read_entry, read_entries, follow, read_block, stream, read_span, read_tower, other_towers, tower_here, towers_left, read_columns, read_table, read_layout, broken_on, broken, joined, Full, page_in}

-- ---- A chain of pages, none 0, at most k

abbrev Linked : (next : ℕ → ℕ) → List ℕ → Type 0
Linked next [] = Unit {0}
Linked next (p ∷ ps) = (next p ≡ first_of ps) × Linked next ps

chained : (next : ℕ → ℕ) (k : ℕ) (ps : List ℕ) → Positive ps → Linked next ps → length ps ≤ k → chain next k (first_of ps) ≡ ps
chained next zero [] s l h = refl
chained next (suc k) [] s l h = refl
chained next zero (p ∷ ps) s l h = absurd (omega arith)
chained next (suc k) (zero ∷ ps) s l h = absurd (let x : ◌≤◌ 1 0 = s.0 in omega arith)
chained next (suc k) (suc m ∷ ps) s l h =
    ap (λ (qs : List ℕ). suc m ∷ qs) (ap (chain next k) l.0 ∙ chained next k ps s.1 l.1 (omega arith))

numbers_read : (b : List ℕ) (o : ℕ) (ns : List ℕ) → Numbers b o ns → ns ≡ read_numbers b o (length ns)
numbers_read b o [] h = refl
numbers_read b o (n ∷ ns) h = ap₂ (λ (x : ℕ) (xs : List ℕ). x ∷ xs) (sym h.0) (numbers_read b (o + 4) ns h.1)

entry_read : (s : List ℕ) (v : ℕ) (e : Entry) (es : List Entry) → EntriesAt s v (e ∷ es) → e ≡ read_entry s (lens_start v)
unfolding entry_end
entry_read s v e es h =
    let a : ℕ = lens_start v in
    let ke : e.key ≡ slice (a + 4) (a + 4 + be16 s a) s = sym h.2 ∙ ap (λ (n : ℕ). slice (a + 4) (a + 4 + n) s) (sym h.0) in
    let ve : e.value ≡ slice (a + 4 + be16 s a) (a + 4 + be16 s a + be16 s (a + 2)) s
    = sym h.3 ∙ ap₂ (λ (n m : ℕ). slice (a + 4 + n) (a + 4 + n + m) s) (sym h.0) (sym h.1) in
    λ j. record { key = ke j; value = ve j }

entries_read : (s : List ℕ) (v : ℕ) (es : List Entry) → EntriesAt s v es → es ≡ read_entries s v (length es)
entries_read s v [] h = refl
entries_read s v (e ∷ es) h =
    let x : e ≡ read_entry s (lens_start v) = entry_read s v e es h in
    ap₂ (λ (y : Entry) (ys : List Entry). y ∷ ys) x
    (entries_read s (entry_end v e) es h.4 ∙ ap (λ (y : Entry). read_entries s (entry_end v y) (length es)) x)

-- ---- Pieces own pages: none 0, none twice, at most k

record Clean (k : ℕ) (ns : List ℕ) : Type 0 where
  pub some : Positive ns
  pub once : (n : ℕ) → count n ns ≤ 1
  pub few : length ns ≤ k

module _ (k : ℕ) (xs ys : List ℕ) (c : Clean k (xs ++ ys)) where
  clean-left : Clean k xs
  clean-left =
      record {
        some = every-left (λ n. 1 ≤ n) xs ys c.some;
        once = λ n. let o : count n (xs ++ ys) ≤ 1 = c.once n in omega (arith, count-append n xs ys);
        few = let o : length (xs ++ ys) ≤ k = c.few in omega (arith, length-append xs ys);
      }

  clean-right : Clean k ys
  clean-right =
      record {
        some = every-right (λ n. 1 ≤ n) xs ys c.some;
        once = λ n. let o : count n (xs ++ ys) ≤ 1 = c.once n in omega (arith, count-append n xs ys);
        few = let o : length (xs ++ ys) ≤ k = c.few in omega (arith, length-append xs ys);
      }

-- the pages of the first and of the second part of pieces
first-of : (k : ℕ) (ps qs : List Piece) → Clean k (owned_by (ps ++ qs)) → Clean k (owned_by ps)
first-of k ps qs c = clean-left k (owned_by ps) (owned_by qs) (subst (Clean k) (owned-append ps qs) c)

second-of : (k : ℕ) (ps qs : List Piece) → Clean k (owned_by (ps ++ qs)) → Clean k (owned_by qs)
second-of k ps qs c = clean-right k (owned_by ps) (owned_by qs) (subst (Clean k) (owned-append ps qs) c)

-- ms are some of the ns, in number at most as often
record Part (ms ns : List ℕ) : Type 0 where
  pub some : Positive ns → Positive ms
  pub once : (n : ℕ) → count n ms ≤ count n ns
  pub few : length ms ≤ length ns

part-nil : Part [] []
part-nil = record { some = λ h. tt; once = λ n. omega arith; few = omega arith }

part-keep : (x : ℕ) {ms ns : List ℕ} → Part ms ns → Part (x ∷ ms) (x ∷ ns)
part-keep x p = record { some = λ h. (h.0, p.some h.1); once = λ n. omega (arith, p.once n); few = omega (arith, p.few) }

part-skip : (xs : List ℕ) {ms ns : List ℕ} → Part ms ns → Part ms (xs ++ ns)
part-skip xs {ms} {ns} p =
    record {
      some = λ h. p.some (every-right (λ n. 1 ≤ n) xs ns h);
      once = λ n. omega (arith, p.once n, count-append n xs ns);
      few = omega (arith, p.few, length-append xs ns);
    }

part-clean : (k : ℕ) {ms ns : List ℕ} → Part ms ns → Clean k ns → Clean k ms
part-clean k p c = record { some = p.some c.some; once = λ n. omega (arith, p.once n, c.once n); few = omega (arith, p.few, c.few) }

-- ---- Each kind of page

abbrev span_pages : List Span → List ℕ
span_pages ss = map (λ s. s.page) ss

abbrev tower_pages : List Tower → List ℕ
tower_pages ts = map (λ w. w.page) ts

abbrev raised : ℕ → List Column → Tower → LinkedTower
raised p cs t = record { tower = t; span_page = p; nexts = map (λ i. next_at i (towers_of cs)) (from 0 t.height) }

so : (b : Bool) → T b → b ≡ true
so true h = refl
so false h = absurd h

differs : (m n : ℕ) → (m ≡ n → ⊥) → eqb m n ≡ false
differs m n h = go (eqb m n) refl
  where
    go : (b : Bool) → eqb m n ≡ b → b ≡ false
    go true q = absurd (h (eqb→eq m n (subst T (sym q) tt)))
    go false q = refl

equals : (m n : ℕ) → m ≡ n → eqb m n ≡ true
equals m n e = so (eqb m n) (subst (λ (i : ℕ). T (eqb m i)) e (eqb_refl m))

-- where all have current 1 or more, the chain along entry 0 visits all
next0 : (ts : List Tower) → Every (λ w. 1 ≤ w.height) ts → next_at 0 ts ≡ first_of (tower_pages ts)
next0 [] h = refl
next0 (t ∷ ts) h = rw (so (ltb 0 t.height) (lt→ltb 0 t.height h.0))

high : (h : ℕ) (ts : List Tower) → Every (λ w. Within 1 h w.height) ts → Every (λ w. 1 ≤ w.height) ts
high h [] e = tt
high h (t ∷ ts) e = (e.0.0, high h ts e.1)

entry0 : (b : List ℕ) (h : ℕ) (f : ℕ → ℕ) → 1 ≤ h → Numbers b 16 (map f (from 0 h)) → be32 b 16 ≡ f 0
entry0 b zero f l n = absurd (omega arith)
entry0 b (suc h) f l n = n.0

module _ (g : ℕ → List ℕ) (k : ℕ) where
  -- free-list blocks
  block_part : (bs : List Block) → Part (map (λ b. b.page) bs) (owned_by (free_pieces bs))
  block_part [] = part-nil
  block_part (b ∷ bs) =
      part-keep b.page
      (subst (Part (map (λ b. b.page) bs)) (sym (owned-append (map free_page b.listed) (free_pieces bs))) (part-skip (owned_by (map free_page b.listed)) (block_part bs)))

  blocks_read : (bs : List Block) → Every (Bears g) (free_pieces bs)
      → Linked (λ q. be32 (g q) 8) (map (λ b. b.page) bs) × (bs ≡ map (read_block g k) (map (λ b. b.page) bs))
  blocks_read [] h = (tt, refl)
  blocks_read (b ∷ bs) h =
      let r : Linked (λ q. be32 (g q) 8) (map (λ b. b.page) bs) × (bs ≡ map (read_block g k) (map (λ b. b.page) bs))
      = blocks_read bs (every-right (Bears g) (map free_page b.listed) (free_pieces bs) h.1) in
      let l : b.listed ≡ read_numbers (g b.page) 16 (be32 (g b.page) 12)
      = numbers_read (g b.page) 16 b.listed h.0.listed ∙ ap (read_numbers (g b.page) 16) (sym h.0.count) in
      ((h.0.next, r.0), λ j. record { page = b.page; listed = l j } ∷ r.1 j)

  -- spans
  conts_linked : (ns : List ℕ) → AreConts ns (map g ns) → Linked (λ q. be32 (g q) 4) ns
  conts_linked [] h = tt
  conts_linked (n ∷ ns) h = (h.1, conts_linked ns h.2)

  span_read : (x : LinkedSpan) → Bears g (span x) → Clean k (x.span.page ∷ x.span.conts) → x.span ≡ read_span g k x.span.page
  span_read x h c =
      let p : ℕ = x.span.page in
      let cs : x.span.conts ≡ follow g k 4 (be32 (g p) 4)
      = sym (ap (follow g k 4) h.cont ∙ chained (λ q. be32 (g q) 4) k x.span.conts c.some.1 (conts_linked x.span.conts h.conts) (omega (arith, c.few))) in
      let es : x.span.entries ≡ read_entries (stream g k p x.span.conts) entries_from (be16 (g p) 18)
      = entries_read (stream g k p x.span.conts) entries_from x.span.entries h.entries
      ∙ ap (read_entries (stream g k p x.span.conts) entries_from) (sym h.size) in
      let fs : x.span.entries ≡ read_entries (stream g k p (follow g k 4 (be32 (g p) 4))) entries_from (be16 (g p) 18)
      = es ∙ ap (λ (ns : List ℕ). read_entries (stream g k p ns) entries_from (be16 (g p) 18)) cs in
      λ j. record { page = p; conts = cs j; entries = fs j }

  span_part : (z p : ℕ) (ss : List Span) → Part (span_pages ss) (owned_by (map span (link_spans z p ss)))
  span_part z p [] = part-nil
  span_part z p (s ∷ ss) = part-keep s.page (part-skip s.conts (span_part z s.page ss))

  spans_read : (z p : ℕ) (ss : List Span) → Every (Bears g) (map span (link_spans z p ss)) → Clean k (owned_by (map span (link_spans z p ss)))
      → Linked (λ q. be32 (g q) 12) (span_pages ss) × (ss ≡ map (read_span g k) (span_pages ss))
  spans_read z p [] h c = (tt, refl)
  spans_read z p (s ∷ ss) h c =
      let rest : List ℕ = owned_by (map span (link_spans z s.page ss)) in
      let r : Linked (λ q. be32 (g q) 12) (span_pages ss) × (ss ≡ map (read_span g k) (span_pages ss))
      = spans_read z s.page ss h.1 (clean-right k (s.page ∷ s.conts) rest c) in
      let e : s ≡ read_span g k s.page
      = span_read (record { span = s; prev = p; next = first_of (span_pages ss); max_keys = z }) h.0 (clean-left k (s.page ∷ s.conts) rest c) in
      ((h.0.next, r.0), ap₂ (λ (u : Span) (us : List Span). u ∷ us) e r.1)

  -- towers
  abbrev Raised : ℕ → Option Tower → List Column → Type 0
  Raised p o cs = Every (Bears g) (map tower (map (raised p cs) (tower_in o) ++ link_towers cs))

  tower_part : (cs : List Column) → Part (tower_pages (towers_of cs)) (owned_by (map tower (link_towers cs)))
  tower_part [] = part-nil
  tower_part (c ∷ cs) = go c.tower (tower_part cs)
    where
      go : (o : Option Tower) → Part (tower_pages (towers_of cs)) (owned_by (map tower (link_towers cs)))
          → Part (tower_pages (tower_in o ++ towers_of cs)) (owned_by (map tower (map (raised c.span.page cs) (tower_in o) ++ link_towers cs)))
      go none p = p
      go (some t) p = part-keep t.page p

  towers_linked : (cs : List Column) → Every (Bears g) (map tower (link_towers cs)) → Every (λ w. 1 ≤ w.height) (towers_of cs)
      → Linked (λ q. be32 (g q) 16) (tower_pages (towers_of cs))
  towers_linked [] b h = tt
  towers_linked (c ∷ cs) b h = go c.tower b h (towers_linked cs)
    where
      go : (o : Option Tower) → Raised c.span.page o cs → Every (λ w. 1 ≤ w.height) (tower_in o ++ towers_of cs)
          → (Every (Bears g) (map tower (link_towers cs)) → Every (λ w. 1 ≤ w.height) (towers_of cs) → Linked (λ q. be32 (g q) 16) (tower_pages (towers_of cs)))
          → Linked (λ q. be32 (g q) 16) (tower_pages (tower_in o ++ towers_of cs))
      go none b h ih = ih b h
      go (some t) b h ih = (
        entry0 (g t.page) t.height (λ i. next_at i (towers_of cs)) h.0 b.0.nexts ∙ next0 (towers_of cs) h.1,
        ih b.1 h.1,
      )

  -- the first of the towers names a span of these columns
  owner : (cs : List Column) → Every (Bears g) (map tower (link_towers cs)) → (w : ℕ) (ws : List ℕ) → tower_pages (towers_of cs) ≡ w ∷ ws
      → 1 ≤ count (be32 (g w) 12) (span_pages (spans_of cs))
  owner [] b w ws e = absurd (nil≢cons e)
  owner (c ∷ cs) b w ws e = go c.tower b e (owner cs)
    where
      go : (o : Option Tower) → Raised c.span.page o cs → tower_pages (tower_in o ++ towers_of cs) ≡ w ∷ ws
          → (Every (Bears g) (map tower (link_towers cs)) → (w : ℕ) (ws : List ℕ) → tower_pages (towers_of cs) ≡ w ∷ ws → 1 ≤ count (be32 (g w) 12) (span_pages (spans_of cs)))
          → 1 ≤ count (be32 (g w) 12) (c.span.page ∷ span_pages (spans_of cs))
      go none b e ih = let y : 1 ≤ count (be32 (g w) 12) (span_pages (spans_of cs)) = ih b w ws e in omega arith
      go (some t) b e ih =
          let p : be32 (g w) 12 ≡ c.span.page = ap (λ (m : ℕ). be32 (g m) 12) (sym (head-eq_of_cons-eq e)) ∙ b.0.span_page in
          subst (λ (m : ℕ). 1 ≤ count m (c.span.page ∷ span_pages (spans_of cs))) (sym p)
          (omega (arith, count-here c.span.page (span_pages (spans_of cs))))

  -- a span without a tower is passed by
  passed_by : (q : ℕ) (ws : List ℕ) → ((w : ℕ) (vs : List ℕ) → ws ≡ w ∷ vs → be32 (g w) 12 ≡ q → ⊥) → (none ≡ tower_here g k q ws) × (ws ≡ towers_left g k q ws)
  passed_by q [] h = (refl, refl)
  passed_by q (w ∷ ws) h =
      let e : eqb (be32 (g w) 12) q ≡ false = differs (be32 (g w) 12) q (h w ws refl) in
      (rw e, rw e)

  columns_read : (cs : List Column) → Every (Bears g) (map tower (link_towers cs)) → ((n : ℕ) → count n (span_pages (spans_of cs)) ≤ 1)
      → cs ≡ read_columns g k (spans_of cs) (tower_pages (towers_of cs))
  columns_read [] b o = refl
  columns_read (c ∷ cs) b o = go c.tower b (columns_read cs)
    where
      q : ℕ
      q = c.span.page

      fewer : (n : ℕ) → count n (span_pages (spans_of cs)) ≤ 1
      fewer n = let h : count n (q ∷ span_pages (spans_of cs)) ≤ 1 = o n in omega arith

      apart : (b : Every (Bears g) (map tower (link_towers cs))) (w : ℕ) (vs : List ℕ) → tower_pages (towers_of cs) ≡ w ∷ vs → be32 (g w) 12 ≡ q → ⊥
      apart b w vs e x =
          let y : 1 ≤ count q (span_pages (spans_of cs)) = subst (λ (m : ℕ). 1 ≤ count m (span_pages (spans_of cs))) x (owner cs b w vs e) in
          let z : count q (q ∷ span_pages (spans_of cs)) ≤ 1 = o q in
          omega (arith, count-here q (span_pages (spans_of cs)))

      go : (t : Option Tower) → Raised q t cs
          → (Every (Bears g) (map tower (link_towers cs)) → ((n : ℕ) → count n (span_pages (spans_of cs)) ≤ 1) → cs ≡ read_columns g k (spans_of cs) (tower_pages (towers_of cs)))
          → Path (List Column) (record { span = c.span; tower = t } ∷ cs) (read_columns g k (c.span ∷ spans_of cs) (tower_pages (tower_in t ++ towers_of cs)))
      go none b ih =
          let a : (none ≡ tower_here g k q (tower_pages (towers_of cs))) × (tower_pages (towers_of cs) ≡ towers_left g k q (tower_pages (towers_of cs)))
          = passed_by q (tower_pages (towers_of cs)) (apart b) in
          let r : cs ≡ read_columns g k (spans_of cs) (towers_left g k q (tower_pages (towers_of cs))) = ih b fewer ∙ ap (read_columns g k (spans_of cs)) a.1 in
          λ j. record { span = c.span; tower = a.0 j } ∷ r j
      go (some t) b ih =
          let e : eqb (be32 (g t.page) 12) q ≡ true = equals (be32 (g t.page) 12) q b.0.span_page in
          let r : cs ≡ read_columns g k (spans_of cs) (tower_pages (towers_of cs)) = ih b.1 fewer in
          let w : t ≡ read_tower g k t.page = λ j. record { page = t.page; max_height = sym b.0.max_height j; height = sym b.0.height j } in
          rw e (λ j. record { span = c.span; tower = some (w j) } ∷ r j)

  others_read : (h p : ℕ) (ts : List Tower) → Every (λ w. Within 1 h w.height) ts → Numbers (g p) 16 (map (λ i. next_at i ts) (from 0 h))
      → Clean k (tower_pages ts) → Linked (λ q. be32 (g q) 16) (tower_pages ts) → tower_pages ts ≡ other_towers g k h p
  others_read zero p [] h b c l = refl
  others_read zero p (t ∷ ts) h b c l = absurd (let x : Within 1 0 t.height = h.0 in omega arith)
  others_read (suc m) p ts h b c l =
      sym (ap (follow g k 16) (b.0 ∙ next0 ts (high (suc m) ts h)) ∙ chained (λ q. be32 (g q) 16) k (tower_pages ts) c.some l c.few)

  -- a table
  table_read : (r : KeyRule) (t : Table) → TableOk r t → Every (Bears g) (table_pieces t) → Clean k (owned_by (table_pieces t)) → t ≡ read_table g k t.root
  table_read r t ok h c =
      let ps : List Piece = map span (spans_in t) in
      let qs : List Piece = map tower (towers_in t) in
      let hs : Every (Bears g) ps = every-left (Bears g) ps qs h.1 in
      let ht : Every (Bears g) qs = every-right (Bears g) ps qs h.1 in
      let both : Clean k (owned_by (ps ++ qs)) = second-of k (skip_list (skip_list_of t) ∷ []) (ps ++ qs) c in
      let cs : Clean k (owned_by ps) = first-of k ps qs both in
      let ct : Clean k (owned_by (map tower (link_towers t.rest))) = clean-right k (t.head.page ∷ []) (owned_by (map tower (link_towers t.rest))) (second-of k ps qs both) in
      -- the first span and the others
      let ss : List Span = spans_of t.rest in
      let rest : List ℕ = owned_by (map span (link_spans t.span_size t.first.page ss)) in
      let own : List ℕ = t.first.page ∷ t.first.conts in
      let fp : t.first.page ≡ be32 (g t.root) 8 = sym h.0.first in
      let fs : t.first ≡ read_span g k t.first.page
      = span_read (record { span = t.first; prev = 0; next = first_of (span_pages ss); max_keys = t.span_size }) hs.0 (clean-left k own rest cs) in
      let cr : Clean k rest = clean-right k own rest cs in
      let cp : Clean k (span_pages ss) = part-clean k (span_part t.span_size t.first.page ss) cr in
      let sr : Linked (λ q. be32 (g q) 12) (span_pages ss) × (ss ≡ map (read_span g k) (span_pages ss)) = spans_read t.span_size t.first.page ss hs.1 cr in
      let sp : span_pages ss ≡ follow g k 12 (be32 (g (be32 (g t.root) 8)) 12)
      = sym (chained (λ q. be32 (g q) 12) k (span_pages ss) cp.some sr.0 cp.few) ∙ ap (follow g k 12) (sym hs.0.next ∙ ap (λ (n : ℕ). be32 (g n) 12) fp) in
      -- the head and the other towers
      let ts : List Tower = towers_of t.rest in
      let hp : t.head.page ≡ be32 (g t.root) 12 = sym h.0.level in
      let hd : t.head ≡ read_tower g k t.head.page
      = λ j. record { page = t.head.page; max_height = sym ht.0.max_height j; height = sym ht.0.height j } in
      let ws : tower_pages ts ≡ other_towers g k (be16 (g (be32 (g t.root) 12)) 10) (be32 (g t.root) 12)
      = others_read t.head.height t.head.page ts ok.others ht.0.nexts (part-clean k (tower_part t.rest) ct)
      (towers_linked t.rest ht.1 (high t.head.height ts ok.others))
      ∙ ap (λ (n : ℕ). other_towers g k n t.head.page) (sym ht.0.height)
      ∙ ap (λ (n : ℕ). other_towers g k (be16 (g n) 10) n) hp in
      let cols : t.rest ≡ read_columns g k ss (tower_pages ts) = columns_read t.rest ht.1 cp.once in
      let rs : t.rest ≡ (read_table g k t.root).rest
      = cols ∙ ap₂ (read_columns g k) (sr.1 ∙ ap (map (read_span g k)) sp) ws in
      λ j. record {
        root = t.root;
        span_size = sym h.0.span_size j;
        first = (fs ∙ ap (read_span g k) fp) j;
        head = (hd ∙ ap (read_tower g k) hp) j;
        rest = rs j;
      }

-- ---- Each page once: at most P of them

abbrev total : (ℕ → ℕ) → List ℕ → ℕ
total f [] = 0
total f (n ∷ ns) = f n + total f ns

total-add : (f h : ℕ → ℕ) (ns : List ℕ) → total (λ n. f n + h n) ns ≡ total f ns + total h ns
total-add f h [] = refl
total-add f h (n ∷ ns) = omega (arith, total-add f h ns)

total-le : (f : ℕ → ℕ) (i k : ℕ) → ((n : ℕ) → f n ≤ 1) → total f (from i k) ≤ k
total-le f i zero h = omega arith
total-le f i (suc k) h = omega (arith, h i, total-le f (suc i) k h)

hit : (m i k : ℕ) → i ≤ m → m < i + k → 1 ≤ total (λ n. cond (eqb n m) 1 0) (from i k)
hit m i zero l u = absurd (omega arith)
hit m i (suc k) l u = go (eqb i m) refl (hit m (suc i) k)
  where
    go : (b : Bool) → eqb i m ≡ b → (suc i ≤ m → m < suc i + k → 1 ≤ total (λ n. cond (eqb n m) 1 0) (from (suc i) k))
        → 1 ≤ cond b 1 0 + total (λ n. cond (eqb n m) 1 0) (from (suc i) k)
    go true q ih = omega arith
    go false q ih =
        let d : i ≡ m → ⊥ = λ e. unequal (sym (equals i m e) ∙ q) in
        omega (arith, ih (less d) (omega arith))
      where
        unequal : true ≡ false → ⊥
        unequal e = subst T e tt

        less : (i ≡ m → ⊥) → suc i ≤ m
        less d = omega arith

length-total : (p : ℕ) (ms : List ℕ) → Every (λ m. m ≤ p) ms → length ms ≤ total (λ n. count n ms) (from 0 (suc p))
length-total p [] h = omega arith
length-total p (m ∷ ms) h =
    omega (
      arith,
      hit m 0 (suc p) (omega arith) (let x : m ≤ p = h.0 in omega arith),
      length-total p ms h.1,
      total-add (λ n. cond (eqb n m) 1 0) (λ n. count n ms) (from 0 (suc p)),
    )

bit : (b : Bool) → cond b 1 0 ≤ 1
bit true = omega arith
bit false = omega arith

no_zero : (ns : List ℕ) → count 0 ns ≡ 0 → Positive ns
no_zero [] h = tt
no_zero (zero ∷ ns) h = absurd (omega (arith, count-here 0 ns))
no_zero (suc n ∷ ns) h = (omega arith, no_zero ns (omega arith))

once-clean : (p : ℕ) (ms : List ℕ) → Once p ms → Clean p ms
once-clean p ms w =
    record {
      some = no_zero ms (w 0);
      once = most;
      few = omega (arith, length-total p ms (once-small p ms w), total-le (λ n. count n ms) 1 p most, w 0);
    }
  where
    most : (n : ℕ) → count n ms ≤ 1
    most n = subst (λ (m : ℕ). m ≤ 1) (sym (w n)) (bit (within 1 p n))

-- ---- The layout

word32-read : (n : ℕ) → n ≤ 4096 → be32 (word32 n) 0 ≡ n
unfolding word32 be32 be16
word32-read n h = omega arith

abbrev listed : Keyed Table → Entry
listed n = record { key = n.key; value = word32 n.value.root }

abbrev tables_pieces : List (Keyed Table) → List Piece
tables_pieces ns = gather (λ n. table_pieces n.value) ns

abbrev read_named : (g : ℕ → List ℕ) (k : ℕ) → Entry → Keyed Table
read_named g k e = record { key = e.key; value = read_table g k (be32 e.value 0) }

tables_read : (g : ℕ → List ℕ) (k : ℕ) (ns : List (Keyed Table)) → Every (λ n. TableOk (key_rule n.key) n.value) ns
    → Every (Bears g) (tables_pieces ns) → Clean k (owned_by (tables_pieces ns)) → Every (λ n. n ≤ 4096) (owned_by (tables_pieces ns))
    → ns ≡ map (read_named g k) (map listed ns)
tables_read g k [] o h c l = refl
tables_read g k (n ∷ ns) o h c l =
    let ps : List Piece = table_pieces n.value in
    let l1 : Every (λ n. n ≤ 4096) (owned_by ps ++ owned_by (tables_pieces ns)) = subst (Every (λ n. n ≤ 4096)) (owned-append ps (tables_pieces ns)) l in
    let t : n.value ≡ read_table g k n.value.root
    = table_read g k (key_rule n.key) n.value o.0 (every-left (Bears g) ps (tables_pieces ns) h) (first-of k ps (tables_pieces ns) c) in
    let u : n.value ≡ read_table g k (be32 (word32 n.value.root) 0) = t ∙ ap (read_table g k) (sym (word32-read n.value.root l1.0)) in
    let r : ns ≡ map (read_named g k) (map listed ns)
    = tables_read g k ns o.1 (every-right (Bears g) ps (tables_pieces ns) h) (second-of k ps (tables_pieces ns) c)
    (every-right (λ n. n ≤ 4096) (owned_by ps) (owned_by (tables_pieces ns)) l1) in
    λ j. record { key = n.key; value = u j } ∷ r j

every-weaken : (p q : ℕ) → p ≤ q → (ns : List ℕ) → Every (λ n. n ≤ p) ns → Every (λ n. n ≤ q) ns
every-weaken p q l [] h = tt
every-weaken p q l (n ∷ ns) h = (omega (arith, h.0), every-weaken p q l ns h.1)

pub read : (img : List ℕ) (L : Layout) → WellFormed img L → L ≡ read_layout (pg img) (length img / 1024)
read img L w =
    let g : ℕ → List ℕ = pg img in
    let k : ℕ = L.pages in
    let ps : List Piece = table_pieces L.meta in
    let qs : List Piece = tables_pieces L.tables in
    let fs : List Piece = free_pieces L.free in
    let b1 : Every (Bears g) (ps ++ (qs ++ fs)) = w.bears.1 in
    let b2 : Every (Bears g) (qs ++ fs) = every-right (Bears g) ps (qs ++ fs) b1 in
    let c1 : Clean k (owned_by (ps ++ (qs ++ fs))) = clean-right k (1 ∷ []) (owned_by (ps ++ (qs ++ fs))) (once-clean k (owned_by (pieces L)) w.once) in
    let c2 : Clean k (owned_by (qs ++ fs)) = second-of k ps (qs ++ fs) c1 in
    let s1 : Every (λ n. n ≤ 4096) (owned_by (ps ++ (qs ++ fs)))
    = every-weaken k 4096 w.pages.1 (owned_by (ps ++ (qs ++ fs))) (once-small k (owned_by (pieces L)) w.once).1 in
    let s2 : Every (λ n. n ≤ 4096) (owned_by qs)
    = every-left (λ n. n ≤ 4096) (owned_by qs) (owned_by fs)
    (subst (Every (λ n. n ≤ 4096)) (owned-append qs fs)
    (every-right (λ n. n ≤ 4096) (owned_by ps) (owned_by (qs ++ fs)) (subst (Every (λ n. n ≤ 4096)) (owned-append ps (qs ++ fs)) s1))) in
    let m : L.meta ≡ read_table g k 2
    = table_read g k name_rule L.meta w.meta_ok (every-left (Bears g) ps (qs ++ fs) b1) (first-of k ps (qs ++ fs) c1) ∙ ap (read_table g k) w.meta_page in
    let t : L.tables ≡ map (read_named g k) (entries_of (read_table g k 2))
    = tables_read g k L.tables w.tables_ok (every-left (Bears g) qs fs b2) (first-of k qs fs c2) s2
    ∙ ap (map (read_named g k)) (sym w.meta_entries ∙ ap entries_of m) in
    let cf : Clean k (map (λ b. b.page) L.free) = part-clean k (block_part g k L.free) (second-of k qs fs c2) in
    let r : Linked (λ q. be32 (g q) 8) (map (λ b. b.page) L.free) × (L.free ≡ map (read_block g k) (map (λ b. b.page) L.free))
    = blocks_read g k L.free (every-right (Bears g) qs fs b2) in
    let f : L.free ≡ map (read_block g k) (follow g k 8 (be32 (g 1) 16))
    = r.1 ∙ ap (map (read_block g k))
    (sym (chained (λ q. be32 (g q) 8) k (map (λ b. b.page) L.free) cf.some r.0 cf.few) ∙ ap (follow g k 8) (sym w.bears.0.free)) in
    let whole : L ≡ read_layout g k
    = λ j. record { pages = k; span_size = sym w.bears.0.span_size j; meta = m j; tables = t j; free = f j } in
    whole ∙ ap (read_layout g) (let e : length img ≡ 1024 * k = w.size in omega arith)

-- ---- An image is well-formed exactly if it breaks no rule

failed-none : (vs : List (Rule × Bool)) → Passed vs → failed vs ≡ []
failed-none [] h = refl
failed-none (v ∷ vs) h = go v.1 h.0 (failed-none vs h.1)
  where
    go : (b : Bool) → T b → failed vs ≡ [] → cond b [] (v.0 ∷ []) ++ failed vs ≡ []
    go true h e = e
    go false h e = absurd h

none-failed : (vs : List (Rule × Bool)) → failed vs ≡ [] → Passed vs
none-failed [] e = tt
none-failed (v ∷ vs) e = go v.1 e (none-failed vs)
  where
    go : (b : Bool) → cond b [] (v.0 ∷ []) ++ failed vs ≡ [] → (failed vs ≡ [] → Passed vs) → T b × Passed vs
    go true e ih = (tt, ih e)
    go false e ih = absurd (cons≢nil e)

abbrev layout_in : List ℕ → Layout
layout_in img = read_layout (pg img) (length img / 1024)

pub accepts : (img : List ℕ) → broken img ≡ [] → Accepted img
accepts img e = (layout_in img, (j_image img (layout_in img)).sound (none-failed (j_image img (layout_in img)).verdicts e))

pub rejects : (img : List ℕ) (r : Rule) (rs : List Rule) → broken img ≡ r ∷ rs → Rejected img
rejects img r rs e L w =
    nil≢cons (sym (failed-none (j_image img (layout_in img)).verdicts ((j_image img (layout_in img)).complete (subst (WellFormed img) (read img L w) w))) ∙ e)

-- ---- An image as a list of pages of 1024 bytes

joined_length : (ps : List (List ℕ)) → Full ps → length (joined ps) ≡ 1024 * length ps
joined_length [] h = refl
joined_length (p ∷ ps) h = omega (arith, length-append p (joined ps), joined_length ps h.1, h.0)

joined-page : (ps : List (List ℕ)) → Full ps → (n : ℕ) → pg (joined ps) n ≡ page_in ps n
unfolding pg
joined-page ps h zero = refl
joined-page [] h (suc k) = ap (take 1024) (drop-nil (1024 * k)) ∙ take-nil 1024
joined-page (p ∷ ps) h (suc zero) = take_at p (joined ps) 1024 h.0
joined-page (p ∷ ps) h (suc (suc k)) =
    let e : 1024 * suc k ≡ length p + 1024 * k = omega (arith, h.0) in
    ap (λ (n : ℕ). take 1024 (drop n (p ++ joined ps))) e ∙ ap (take 1024) (drop-append-add p (joined ps) (1024 * k)) ∙ joined-page ps h.1 (suc k)

pub broken-joined : (ps : List (List ℕ)) → Full ps → broken (joined ps) ≡ broken_on (page_in ps) (1024 * length ps)
broken-joined ps h = ap₂ broken_on (λ i n. joined-page ps h n i) (joined_length ps h)
