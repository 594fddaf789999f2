-- What the text writes, field by field: a property that all writes of the fields named have is one of every write of a list.
use Prim.Native.Nat.{ℕ, zero, suc, ◌+◌, ◌*◌, ◌-◌, ◌<◌, ◌≤◌, min}
use native.Mathlib.Omega.{arith}
use mathlib.Core.Path.{◌≡◌, refl, subst}
use mathlib.Core.Bool.{Bool, true, false, cond}
use mathlib.Core.Option.{Option, none, some}
use mathlib.Core.List.{List, [], ◌∷◌, ◌++◌, map}
use lib.ListN.{length, take, drop}
use lib.Dec.{ltb}
use borrow.Author.Tests.{ltb-true}
use Rattle.blockfile.specs.Bytes.{Write, on, word16, word32, Every, gather, from, first_of, padded}
use Rattle.blockfile.specs.Marks.{span_mark, cont_mark, block_mark, free_mark}
use Rattle.blockfile.specs.Layout.{Span, Tower, Column, Table, Block, columns, spans_of, towers_of, tower_in}
use Rattle.blockfile.specs.Fields.{SkipList, LinkedSpan, LinkedTower}
use Rattle.blockfile.specs.WellFormed.{next_at, link_spans, link_towers, spans_in, towers_in, skip_list_of}
use Rattle.blockfile.specs.Free.{Drawn, take_from, take_page, list_page, new_block, give_page, take_many, give_many, and_then, draw}
use Rattle.blockfile.specs.Encode.{stream_pages, whole_span, whole_tower, whole_skip_list}
use Rattle.blockfile.specs.Put.{prev_link, next_link, counts_on, last_at, relink, raise, rewriting}
use Rattle.blockfile.specs.Remove.{unlinking}
use Rattle.blockfile.specs.Create.{whole_table}
use Rattle.blockfile.proofs.Every.{every-left, every-join, every-so, every_map}
use Rattle.laws.proofs.Numbers.{length-word16, length-word32}
use Rattle.laws.proofs.Places.{every_take, every_drop}
use Rattle.laws.proofs.Encodes.{span_stream, tower_bytes, skip_bytes, length-page, length-tower, length-skip}
use Rattle.laws.proofs.Pages.{length-padded}
use Rattle.laws.proofs.Edits.{length-counts}
use Rattle.laws.proofs.Relinks.{every-from, every-gather, towers-cut}
use Rattle.laws.proofs.Fitting.{length-levels}

-- spans by their links, towers by their places, have what spans and towers have
linked-spans : (P : Span → Type 0) (z p : ℕ) (ss : List Span) → Every P ss → Every (λ x. P x.span) (link_spans z p ss)
linked-spans P z p [] h = tt
linked-spans P z p (s ∷ ss) h = (h.0, linked-spans P z s.page ss h.1)

pub linked-towers : (P : Tower → Type 0) (cs : List Column) → Every P (towers_of cs) → Every (λ x. (length x.nexts ≡ x.tower.height) × P x.tower) (link_towers cs)
linked-towers P [] h = tt
linked-towers P (c ∷ cs) h = go c.tower h (linked-towers P cs)
  where
    go : (w : Option Tower) → Every P (tower_in w ++ towers_of cs) → (Every P (towers_of cs) → Every (λ x. (length x.nexts ≡ x.tower.height) × P x.tower) (link_towers cs))
        → Every (λ x. (length x.nexts ≡ x.tower.height) × P x.tower)
        (map (λ t. record { tower = t; span_page = c.span.page; nexts = map (λ i. next_at i (towers_of cs)) (from 0 t.height) }) (tower_in w) ++ link_towers cs)
    go none h ih = ih h
    go (some w) h ih = ((length-levels (λ i. next_at i (towers_of cs)) 0 w.height, h.0), ih h.1)

module _ (R : Write → Type 0) where
  -- every write of l bytes at offset o of page n has the property
  abbrev pub Field : (n o l : ℕ) → Type 0
  Field n o l = (bs : List ℕ) → length bs ≡ l → R (on n o bs)

  -- a page written whole
  abbrev pub Whole : ℕ → Type 0
  Whole n = Field n 0 1024

  -- a four-byte number among those from 16 on: a tower's entries, a block's pages
  abbrev pub Numbered : ℕ → Type 0
  Numbered n = (i : ℕ) → i < 252 → Field n (16 + 4 * i) 4

  -- ---- Free pages

  -- a block's count and its pages
  pub record BlockHas (n : ℕ) : Type 0 where
    pub count : Field n 12 4
    pub listed : Numbered n

  -- a page given back: the free mark, or a new block's mark, next and count; a new block may list those given after it
  pub record GivenHas (n : ℕ) : Type 0 where
    pub mark : Field n 0 8
    pub start : Field n 0 16
    pub block : BlockHas n

  abbrev pub BlocksHave : List Block → Type 0
  BlocksHave bs = Every (λ b. BlockHas b.page) bs

  -- what is written, and the blocks after it
  pub record DrawnHas (d : Drawn) : Type 0 where
    pub writes : Every R d.writes
    pub free : BlocksHave d.free

  module _ (super : Field 1 16 4) where
    take-has : (n : ℕ) (ws : List ℕ) (c : ℕ) (bs : List Block) → BlockHas n → BlocksHave bs → DrawnHas (take_from n ws c bs)
    take-has n ws zero bs b f = record { writes = (super _ (length-word32 _), tt); free = f }
    take-has n ws (suc c) bs b f = record { writes = (b.count _ (length-word32 _), tt); free = (b, f) }

    page-taken : (bs : List Block) → BlocksHave bs → DrawnHas (take_page bs)
    page-taken [] f = record { writes = tt; free = tt }
    page-taken (b ∷ bs) f = take-has b.page b.listed (length b.listed) bs f.0 f.1

    block_made : (x : ℕ) (bs : List Block) → GivenHas x → BlocksHave bs → DrawnHas (new_block x bs)
    unfolding block_mark word32
    block_made x bs g f = record { writes = (g.start _ refl, (super _ refl, tt)); free = (g.block, f) }

    page-listed : (x : ℕ) (b : Block) (bs : List Block) → length b.listed < 252 → GivenHas x → BlocksHave (b ∷ bs) → DrawnHas (list_page x b bs)
    unfolding free_mark
    page-listed x b bs low g f =
        record {
          writes = (g.mark _ refl, (f.0.listed (length b.listed) low _ (length-word32 x), (f.0.count _ (length-word32 (length b.listed + 1)), tt)));
          free = (f.0, f.1);
        }

    page-given : (x : ℕ) (bs : List Block) → GivenHas x → BlocksHave bs → DrawnHas (give_page x bs)
    page-given x [] g f = block_made x [] g f
    page-given x (b ∷ bs) g f = go (ltb (length b.listed) 252) refl
      where
        go : (t : Bool) → ltb (length b.listed) 252 ≡ t → DrawnHas (cond t (list_page x b bs) (new_block x (b ∷ bs)))
        go true e = page-listed x b bs (ltb-true (length b.listed) 252 e) g f
        go false e = block_made x (b ∷ bs) g f

    then-has : (d : Drawn) (f : List Block → Drawn) → DrawnHas d → ((bs : List Block) → BlocksHave bs → DrawnHas (f bs)) → DrawnHas (and_then d f)
    then-has d f a b = record { writes = every-join R d.writes (f d.free).writes a.writes (b d.free a.free).writes; free = (b d.free a.free).free }

    pub pages-taken : (n : ℕ) (bs : List Block) → BlocksHave bs → DrawnHas (take_many n bs)
    pages-taken zero bs f = record { writes = tt; free = f }
    pages-taken (suc n) bs f = then-has (take_page bs) (take_many n) (page-taken bs f) (pages-taken n)

    pages-given : (xs : List ℕ) (bs : List Block) → Every GivenHas xs → BlocksHave bs → DrawnHas (give_many xs bs)
    pages-given [] bs g f = record { writes = tt; free = f }
    pages-given (x ∷ xs) bs g f = then-has (give_page x bs) (give_many xs) (page-given x bs g.0 f) (λ cs. pages-given xs cs g.1)

    -- drawing writes the superblock's first block, blocks, and pages given back
    pub draw-has : (old : List ℕ) (wanted : ℕ) (gone : List ℕ) (bs : List Block) → Every GivenHas (drop wanted old ++ gone) → Every (λ b. BlockHas b.page) bs
        → Every R (draw old wanted gone bs).writes
    unfolding draw
    draw-has old wanted gone bs g f =
        (then-has (take_many (wanted - length old) bs) (give_many (drop wanted old ++ gone)) (pages-taken (wanted - length old) bs f) (λ cs. pages-given (drop wanted old ++ gone) cs g)
        ).writes

  -- ---- Pages written whole

  pages-whole : (mark ns s : List ℕ) → length mark ≡ 4 → Every Whole ns → Every R (stream_pages mark ns s)
  pages-whole mark [] s e h = tt
  pages-whole mark (n ∷ ns) s e h = (h.0 _ (length-page mark (first_of ns) s e), pages-whole cont_mark ns (drop 1016 s) (unfold cont_mark in refl) h.1)

  -- a span with its continuation pages
  abbrev pub SpanWhole : Span → Type 0
  SpanWhole s = Whole s.page × Every Whole s.conts

  span-has : (x : LinkedSpan) → SpanWhole x.span → Every R (whole_span x)
  unfolding whole_span
  span-has x h = pages-whole span_mark (x.span.page ∷ x.span.conts) (span_stream x) (unfold span_mark in refl) h

  pub spans-have : (xs : List LinkedSpan) → Every (λ x. SpanWhole x.span) xs → Every R (gather whole_span xs)
  spans-have xs h = every-gather (λ (x : LinkedSpan). SpanWhole x.span) R whole_span (λ x. span-has x) xs h

  tower-has : (x : LinkedTower) → length x.nexts ≤ 252 → Whole x.tower.page → Every R (whole_tower x)
  unfolding whole_tower
  tower-has x l h = (h (padded 1024 (tower_bytes x)) (length-padded 1024 (tower_bytes x) (omega (arith, length-tower x))), tt)

  -- a tower, and how many entries it has
  abbrev pub TowerWhole : LinkedTower → Type 0
  TowerWhole x = (length x.nexts ≤ 252) × Whole x.tower.page

  pub towers-have : (xs : List LinkedTower) → Every TowerWhole xs → Every R (gather whole_tower xs)
  towers-have xs h = every-gather TowerWhole R whole_tower (λ x k. tower-has x k.0 k.1) xs h

  pub skip-has : (k : SkipList) → Whole k.page → Every R (whole_skip_list k)
  unfolding whole_skip_list
  skip-has k h = (h (padded 1024 (skip_bytes k)) (length-padded 1024 (skip_bytes k) (omega (arith, length-skip k))), tt)

  -- ---- A table's parts

  -- the fields of a table that are written on pages not written whole: links, tower entries, the head's current height, the counts
  pub record LinksHave (t : Table) : Type 0 where
    pub spans : Every (λ s. Field s.page 8 4 × Field s.page 12 4) (spans_of (columns t))
    pub towers : Every (λ w. Numbered w.page) (towers_of (columns t))
    pub height : Field t.head.page 10 2
    pub counts : Field t.root 16 12

  module _ (t : Table) (l : LinksHave t) where
    spans-linked : Every (λ x. Field x.span.page 8 4 × Field x.span.page 12 4) (spans_in t)
    spans-linked = linked-spans (λ s. Field s.page 8 4 × Field s.page 12 4) t.span_size 0 (spans_of (columns t)) l.spans

    prevs-have : (n i : ℕ) → Every R (map prev_link (take n (drop i (spans_in t))))
    prevs-have n i =
        every_map R prev_link (take n (drop i (spans_in t)))
        (every-so (λ (x : LinkedSpan). Field x.span.page 8 4 × Field x.span.page 12 4) (λ x h. h.0 _ (length-word32 x.prev)) (take n (drop i (spans_in t)))
        (every_take _ n (drop i (spans_in t)) (every_drop _ i (spans_in t) spans-linked)))

    nexts-have : (n i : ℕ) → Every R (map next_link (take n (drop i (spans_in t))))
    nexts-have n i =
        every_map R next_link (take n (drop i (spans_in t)))
        (every-so (λ (x : LinkedSpan). Field x.span.page 8 4 × Field x.span.page 12 4) (λ x h. h.1 _ (length-word32 x.next)) (take n (drop i (spans_in t)))
        (every_take _ n (drop i (spans_in t)) (every_drop _ i (spans_in t) spans-linked)))

    last_has : (i p : ℕ) (ts : List Tower) → Numbered p → Every (λ w. Numbered w.page) ts → Numbered (last_at i p ts)
    last_has i p [] h k = h
    last_has i p (w ∷ ts) h k = last_has i (cond (ltb i w.height) w.page p) ts (go (ltb i w.height)) k.1
      where
        go : (b : Bool) → Numbered (cond b w.page p)
        go true = k.0
        go false = h

    relink-has : (j h : ℕ) → h ≤ 252 → Every R (relink t j h)
    unfolding relink
    relink-has j h most =
        every-from R
        (λ i. on (last_at i t.head.page (towers_of (take j (columns t)))) (16 + 4 * i) (word32 (next_at i (towers_of (drop j (columns t)))))) 0 h
        (λ i low.
        last_has i t.head.page (towers_of (take j (columns t))) l.towers.0
        (every-left (λ (w : Tower). Numbered w.page) (towers_of (take j (columns t))) (towers_of (drop j (columns t)))
        (subst (Every (λ (w : Tower). Numbered w.page)) (towers-cut j (columns t)) l.towers))
        i (omega arith) _ (length-word32 (next_at i (towers_of (drop j (columns t))))))

    raise-has : (w : Tower) → Every R (raise w t.head)
    raise-has w = go (ltb w.height t.head.height)
      where
        go : (b : Bool) → Every R (cond b (on t.head.page 10 (word16 t.head.height) ∷ []) [])
        go true = (l.height _ (length-word16 t.head.height), tt)
        go false = tt

    counts-have : Every R (counts_on t ∷ [])
    counts-have = (l.counts _ (length-counts (skip_list_of t)), tt)

    -- a span rewritten: the spans and the tower that are written whole, else links and counts
    pub rewriting-has : (before : Table) (i n h : ℕ) → h ≤ 252
        → Every (λ x. SpanWhole x.span) (take (1 + n) (drop i (spans_in t)))
        → Every TowerWhole (take (min 1 h) (link_towers (drop (i + 1) (columns t))))
        → Every R (rewriting before i n h t)
    unfolding rewriting
    rewriting-has before i n h most ss ts =
        every-join R (gather whole_span (take (1 + n) (drop i (spans_in t)))) _ (spans-have (take (1 + n) (drop i (spans_in t))) ss)
        (every-join R (map prev_link (take n (drop (i + 2) (spans_in t)))) _ (prevs-have n (i + 2))
        (every-join R (gather whole_tower (take (min 1 h) (link_towers (drop (i + 1) (columns t))))) _ (towers-have (take (min 1 h) (link_towers (drop (i + 1) (columns t)))) ts)
        (every-join R (relink t (i + 1) h) _ (relink-has (i + 1) h most)
        (every-join R (raise before.head t.head) (counts_on t ∷ []) (raise-has before.head) counts-have))))

    -- a span unlinked: links and counts
    pub unlinking-has : (i : ℕ) (gone : List Tower) → Every (λ w. w.height ≤ 252) gone → Every R (unlinking t i gone)
    unfolding unlinking
    unlinking-has i gone low =
        every-join R (map next_link (take 1 (drop (i - 1) (spans_in t)))) _ (nexts-have 1 (i - 1))
        (every-join R (map prev_link (take 1 (drop i (spans_in t)))) _ (prevs-have 1 i)
        (every-join R (gather (λ w. relink t i w.height) gone) (counts_on t ∷ [])
        (every-gather (λ (w : Tower). w.height ≤ 252) R (λ w. relink t i w.height) (λ w. relink-has i w.height) gone low) counts-have))

  -- a table written whole
  pub table-has : (t : Table) → Whole t.root → Every (λ x. SpanWhole x.span) (spans_in t) → Every TowerWhole (towers_in t) → Every R (whole_table t)
  unfolding whole_table
  table-has t r ss ts =
      every-join R (whole_skip_list (skip_list_of t)) _ (skip-has (skip_list_of t) r)
      (every-join R (gather whole_span (spans_in t)) (gather whole_tower (towers_in t)) (spans-have (spans_in t) ss) (towers-have (towers_in t) ts))
