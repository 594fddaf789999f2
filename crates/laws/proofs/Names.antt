-- Which fields put, remove and create write: on pages that are not in hand only the superblock's first free-list page, the counts, the
-- head's current height, links of spans and entries of towers.
use Prim.Native.Nat.{ℕ, zero, suc, ◌+◌, ◌<◌, ◌≤◌, min}
use native.Mathlib.Omega.{arith}
use mathlib.Core.Path.{◌≡◌, refl, ap, sym, ◌∙◌, subst}
use mathlib.Core.List.{List, [], ◌∷◌, ◌++◌, map}
use mathlib.Core.Bool.{false}
use lib.ListN.{length, take, drop, get_or, length-map}
use borrow.Author.Tests.{ltb-false}
use Rattle.blockfile.specs.Bytes.{Write, word32, Every}
use Rattle.blockfile.specs.Layout.{Entry, Span, Tower, Table, Block, Layout, columns, spans_of, towers_of, free_count}
use Rattle.blockfile.specs.Order.{KeyRule, name_rule, key_rule, Within}
use Rattle.blockfile.specs.Fields.{LinkedSpan, LinkedTower}
use Rattle.blockfile.specs.WellFormed.{count, next_at, link_towers, spans_in, TableOk}
use Rattle.blockfile.specs.Free.{Drawn, draw}
use Rattle.blockfile.specs.Plan.{Plan, drawn_by, lacks, layout_after}
use Rattle.blockfile.specs.Put.{Parts, Shared, target, parts, wanted_by, share, new_columns, rewriting, rewrite, rewrite_plan, put_plan, span_at, table_after}
use Rattle.blockfile.specs.Remove.{without, towers_at, unlinking, unlink_plan, leave_plan, remove_plan}
use Rattle.blockfile.specs.Create.{whole_table, create_plan}
use Rattle.blockfile.proofs.Every.{every-left, every-right, every-join, every-so, every-both, every-unmap}
use Rattle.blockfile.proofs.Count.{count-here, count-append, every-counted}
use Rattle.laws.proofs.Places.{every_take, every_drop}
use Rattle.laws.proofs.Orders.{names-ordered, keys-ordered}
use Rattle.laws.proofs.Targets.{target_is}
use Rattle.laws.proofs.Draws.{length-drawn}
use Rattle.laws.proofs.Splits.{height-fits, share-all, share-tower, new-span-pages}
use Rattle.laws.proofs.Rewritten.{lifted, towers-after, kept-after}
use Rattle.laws.proofs.SpanLinks.{link_between, first_page, new_span, spans_to, spans_past, spans-after, written-whole}
use Rattle.laws.proofs.Relinks.{towers-cut, links-pages}
use Rattle.laws.proofs.TableTowers.{new_linked, tower-written, unlinked-count}
use Rattle.laws.proofs.TablePut.{table_with, put_into, put-few}
use Rattle.laws.proofs.TableRemove.{left_by, left-fits}
use Rattle.laws.proofs.TableCreate.{meta-wanted}
use Rattle.laws.proofs.Ledgers.{meta_pages, created, create-drawn}
use Rattle.laws.proofs.DrawnRewrites.{drawn_at}
use Rattle.laws.proofs.Creates.{three}
use Rattle.laws.proofs.Preserves.{made_ok}
use Rattle.laws.proofs.Pagewise.{all_pages}
use Rattle.laws.proofs.Rewrites.{new-towers}
use Rattle.laws.specs.FreeList.{free_pages}
use Rattle.laws.specs.Owned.{table_pages, first_pages, cont_pages, pages_in, block_pages, given_by}
use Rattle.laws.proofs.Owners.{count-table, count-span, drawn-count, firsts-without}
use Rattle.laws.proofs.Touches.{Field, Numbered, BlockHas, GivenHas, draw-has, SpanWhole, TowerWhole, linked-towers, LinksHave, rewriting-has, unlinking-has, table-has}

-- a write on one of these pages, from offset lo on and below hi
pub record Part (ns : List ℕ) (lo hi : ℕ) (w : Write) : Type 0 where
  pub page : 1 ≤ count w.page ns
  pub low : lo ≤ w.offset
  pub high : w.offset + length w.bytes ≤ hi

-- a write that document 01 names: on the superblock bytes 16 to 19; of a table's skip-list page 16 to 27, of its head 10 and 11, of its spans
-- 8 to 15, of its towers those from 16 on; of free-list blocks those from 12 on; on pages in hand any
pub data Named (t : Table) (blocks hand : List ℕ) (w : Write) : Type 0 where
  first_free : Part (1 ∷ []) 16 20 w → Named t blocks hand w
  free_kept : Part (1 ∷ []) 28 32 w → Named t blocks hand w
  counts : Part (t.root ∷ []) 16 28 w → Named t blocks hand w
  height : Part (t.head.page ∷ []) 10 12 w → Named t blocks hand w
  links : Part (map (λ s. s.page) (spans_of (columns t))) 8 16 w → Named t blocks hand w
  entries : Part (pages_in (towers_of (columns t))) 16 1024 w → Named t blocks hand w
  listing : Part blocks 12 1024 w → Named t blocks hand w
  in_hand : Part hand 0 1024 w → Named t blocks hand w

module _ (P : ℕ → Type 0) where
  each-span : (ss : List Span) → Every P (all_pages ss) → Every (λ s. P s.page × Every P s.conts) ss
  each-span [] h = tt
  each-span (s ∷ ss) h = ((h.0, every-left P s.conts (all_pages ss) h.1), each-span ss (every-right P s.conts (all_pages ss) h.1))

between-spans : (P : Span → Type 0) (z p n : ℕ) (ss : List Span) → Every P ss → Every (λ x. P x.span) (link_between z p n ss)
between-spans P z p n [] h = tt
between-spans P z p n (s ∷ ss) h = (h.0, between-spans P z s.page n ss h.1)

-- ---- A table, and pages in hand

module _ (t : Table) (blocks hand : List ℕ) where
  -- any write on a page in hand
  any : (n o l : ℕ) → o + l ≤ 1024 → 1 ≤ count n hand → Field (Named t blocks hand) n o l
  any n o l f c bs e = in_hand (record { page = c; low = omega arith; high = omega arith })

  single : (n : ℕ) → 1 ≤ count n (n ∷ [])
  single n = omega (arith, count-here n [])

  super-named : Field (Named t blocks hand) 1 16 4
  super-named bs e = first_free (record { page = single 1; low = omega arith; high = omega arith })

  counts-named : Field (Named t blocks hand) t.root 16 12
  counts-named bs e = counts (record { page = single t.root; low = omega arith; high = omega arith })

  height-named : Field (Named t blocks hand) t.head.page 10 2
  height-named bs e = height (record { page = single t.head.page; low = omega arith; high = omega arith })

  -- what may be written on any span's page, and on any tower's
  abbrev Linkable : Span → Type 0
  Linkable s = Field (Named t blocks hand) s.page 8 4 × Field (Named t blocks hand) s.page 12 4

  abbrev Enterable : Tower → Type 0
  Enterable w = Numbered (Named t blocks hand) w.page

  link-named : Every Linkable (spans_of (columns t))
  link-named =
      let ns : List ℕ = map (λ s. s.page) (spans_of (columns t)) in
      every-unmap (λ n. Field (Named t blocks hand) n 8 4 × Field (Named t blocks hand) n 12 4) (λ (s : Span). s.page) (spans_of (columns t))
      (every-counted (λ n. Field (Named t blocks hand) n 8 4 × Field (Named t blocks hand) n 12 4) ns
      (λ n c. (
        λ bs e. links (record { page = c; low = omega arith; high = omega arith }),
        λ bs e. links (record { page = c; low = omega arith; high = omega arith }),
      )))

  enter-named : Every Enterable (towers_of (columns t))
  enter-named =
      every-unmap (Numbered (Named t blocks hand)) (λ (w : Tower). w.page) (towers_of (columns t))
      (every-counted (Numbered (Named t blocks hand)) (pages_in (towers_of (columns t)))
      (λ n c i l bs e. entries (record { page = c; low = omega arith; high = omega arith })))

  link-any : (s : Span) → 1 ≤ count s.page hand → Linkable s
  link-any s c = (any s.page 8 4 (omega arith) c, any s.page 12 4 (omega arith) c)

  enter-any : (w : Tower) → 1 ≤ count w.page hand → Enterable w
  enter-any w c i l = any w.page _ 4 (omega arith) c

  span-any : (s : Span) → (1 ≤ count s.page hand) × Every (λ n. 1 ≤ count n hand) s.conts → SpanWhole (Named t blocks hand) s
  span-any s c = (any s.page 0 1024 (omega arith) c.0, every-so (λ n. 1 ≤ count n hand) (λ n. any n 0 1024 (omega arith)) s.conts c.1)

  block-any : (n : ℕ) → 1 ≤ count n hand → BlockHas (Named t blocks hand) n
  block-any n c = record { count = any n 12 4 (omega arith) c; listed = λ i l. any n _ 4 (omega arith) c }

  given-any : (n : ℕ) → 1 ≤ count n hand → GivenHas (Named t blocks hand) n
  given-any n c = record { mark = any n 0 8 (omega arith) c; start = any n 0 16 (omega arith) c; block = block-any n c }

  block-named : (n : ℕ) → 1 ≤ count n blocks → BlockHas (Named t blocks hand) n
  block-named n c =
      record {
        count = λ bs e. listing (record { page = c; low = omega arith; high = omega arith });
        listed = λ i l bs e. listing (record { page = c; low = omega arith; high = omega arith });
      }

  -- what drawing writes, with the pages given back in hand
  drawing-named : (old : List ℕ) (wanted : ℕ) (gone : List ℕ) (bs : List Block) → blocks ≡ map (λ b. b.page) bs → Every (λ n. 1 ≤ count n hand) (drop wanted old ++ gone)
      → Every (Named t blocks hand) (draw old wanted gone bs).writes
  drawing-named old wanted gone bs e g =
      draw-has (Named t blocks hand) super-named old wanted gone bs (every-so (λ n. 1 ≤ count n hand) given-any (drop wanted old ++ gone) g)
      (every-unmap (BlockHas (Named t blocks hand)) (λ (b : Block). b.page) bs (subst (Every (BlockHas (Named t blocks hand))) e (every-counted (BlockHas (Named t blocks hand)) blocks block-named)))

  -- ---- A span rewritten

  module _ (i : ℕ) (inside : i < length (columns t)) (p : Parts) (s : Shared) (here : 1 ≤ count (span_at t i).page hand)
      (conts : Every (λ n. 1 ≤ count n hand) s.conts) (span : Every (λ n. 1 ≤ count n hand) s.span) (tower : Every (λ n. 1 ≤ count n hand) s.tower)
      (towers : pages_in (towers_of (new_columns t p s)) ≡ s.tower) where
    abbrev P : ℕ → Type 0
    P n = 1 ≤ count n hand

    new-spans-in : Every (λ x. P x.page × Every P x.conts) (spans_of (new_columns t p s))
    new-spans-in = each-span P (spans_of (new_columns t p s)) (subst (Every P) (sym (new-span-pages t p s.span s.tower)) span)

    new-towers-in : Every (λ w. P w.page) (towers_of (new_columns t p s))
    new-towers-in = every-unmap P (λ (w : Tower). w.page) (towers_of (new_columns t p s)) (subst (Every P) (sym towers) tower)

    links-after : LinksHave (Named t blocks hand) (table_after t i p s)
    links-after =
        record {
          spans =
              subst (Every Linkable) (sym (spans-after t i p s inside))
              (every-join Linkable (spans_to t i) (new_span t i p s ∷ (spans_of (new_columns t p s) ++ spans_past t i)) (every_take Linkable i (spans_of (columns t)) link-named) (
                link-any (new_span t i p s) here,
                every-join Linkable (spans_of (new_columns t p s)) (spans_past t i)
                    (every-so (λ (x : Span). P x.page × Every P x.conts) (λ x c. link-any x c.0) (spans_of (new_columns t p s)) new-spans-in)
                    (every_drop Linkable (suc i) (spans_of (columns t)) link-named),
              ));
          towers =
              subst (Every Enterable) (sym (towers-after t i p s inside))
              (every-join Enterable (towers_of (take (suc i) (columns (lifted p.height t)))) (towers_of (new_columns t p s) ++ towers_of (drop (suc i) (columns t)))
              (every-left Enterable (towers_of (take (suc i) (columns (lifted p.height t)))) (towers_of (drop (suc i) (columns (lifted p.height t))))
              (subst (Every Enterable) (towers-cut (suc i) (columns (lifted p.height t))) (enter-named.0, enter-named.1)))
              (every-join Enterable (towers_of (new_columns t p s)) (towers_of (drop (suc i) (columns t)))
              (every-so (λ (w : Tower). P w.page) enter-any (towers_of (new_columns t p s)) new-towers-in)
              (every-right Enterable (towers_of (take (suc i) (columns t))) (towers_of (drop (suc i) (columns t)))
              (subst (Every Enterable) (towers-cut (suc i) (columns t)) enter-named))));
          height = subst (λ (n : ℕ). Field (Named t blocks hand) n 10 2) (sym (kept-after t p s i).head_page) height-named;
          counts = subst (λ (n : ℕ). Field (Named t blocks hand) n 16 12) (sym (kept-after t p s i).root) counts-named;
        }

    spans-whole : Every (λ x. SpanWhole (Named t blocks hand) x.span) (take (1 + length (new_columns t p s)) (drop i (spans_in (table_after t i p s))))
    spans-whole =
        subst (Every (λ (x : LinkedSpan). SpanWhole (Named t blocks hand) x.span)) (sym (written-whole t i p s inside)) (
          span-any (new_span t i p s) (here, conts),
          between-spans (SpanWhole (Named t blocks hand)) t.span_size (span_at t i).page (first_page 0 (spans_past t i)) (spans_of (new_columns t p s))
              (every-so (λ (x : Span). P x.page × Every P x.conts) span-any (spans_of (new_columns t p s)) new-spans-in),
        )

    towers-whole : length (towers_of (new_columns t p s)) ≡ min 1 p.height → Every (λ w. w.height ≤ 252) (towers_of (columns (table_after t i p s)))
        → Every (TowerWhole (Named t blocks hand)) (take (min 1 p.height) (link_towers (drop (i + 1) (columns (table_after t i p s)))))
    towers-whole many low =
        let new : List LinkedTower = take (min 1 p.height) (link_towers (drop (i + 1) (columns (table_after t i p s)))) in
        let L : Tower → Type 0 = λ w. w.height ≤ 252 in
        let a : Every (λ (x : LinkedTower). (length x.nexts ≡ x.tower.height) × L x.tower) new
        = every_take _ (min 1 p.height) (link_towers (drop (i + 1) (columns (table_after t i p s))))
        (linked-towers L (drop (i + 1) (columns (table_after t i p s)))
        (every-right L (towers_of (take (i + 1) (columns (table_after t i p s)))) (towers_of (drop (i + 1) (columns (table_after t i p s))))
        (subst (Every L) (towers-cut (i + 1) (columns (table_after t i p s))) low))) in
        let b : Every (λ (x : LinkedTower). P x.tower.page) new
        = subst (Every (λ (x : LinkedTower). P x.tower.page)) (sym (tower-written t i p s inside many))
        (every-unmap P (λ (x : LinkedTower). x.tower.page) (new_linked t i p s)
        (subst (Every P) (sym (links-pages (λ l. next_at l (towers_of (drop (suc i) (columns t)))) (new_columns t p s) ∙ towers)) tower)) in
        every-both (λ (x : LinkedTower). (length x.nexts ≡ x.tower.height) × L x.tower) (λ x. P x.tower.page)
        (λ x c d. (omega (arith, c.0, c.1), any x.tower.page 0 1024 (omega arith) d)) new a b

    rewriting-named : p.height ≤ 252 → length (towers_of (new_columns t p s)) ≡ min 1 p.height → Every (λ w. w.height ≤ 252) (towers_of (columns (table_after t i p s)))
        → Every (Named t blocks hand) (rewriting t i (length (new_columns t p s)) p.height (table_after t i p s))
    rewriting-named most many low =
        rewriting-has (Named t blocks hand) (table_after t i p s) links-after t i (length (new_columns t p s)) p.height most spans-whole (towers-whole many low)

  -- ---- A span unlinked: t is the table after it

  unlinking-named : (i : ℕ) (gone : List Tower) → Every (λ w. w.height ≤ 252) gone → Every (Named t blocks hand) (unlinking t i gone)
  unlinking-named i gone low = unlinking-has (Named t blocks hand) t (record { spans = link-named; towers = enter-named; height = height-named; counts = counts-named }) i gone low

-- ---- What is in hand

-- the span at place i, the pages drawn, and those given back
abbrev pub hand_of : Layout → Table → (i : ℕ) → Plan → List ℕ
hand_of L t i p = (span_at t i).page ∷ ((drawn_by L p).pages ++ given_by p)

-- a list's pages are in it
own-pages : (ns : List ℕ) → Every (λ n. 1 ≤ count n ns) ns
own-pages ns = every-counted (λ n. 1 ≤ count n ns) ns (λ n c. c)

-- What a plan on table t at place i writes: drawing writes blocks and the pages given back; what is made of the pages drawn is
-- written on parts of a table whose spans and towers are t's, and on pages in hand
pub record PlanNamed (L : Layout) (t : Table) (i : ℕ) (p : Plan) : Type 0 where
  pub drawing : Every (Named t (block_pages L) (given_by p)) (drawn_by L p).writes
  pub made : Table
  pub hand : List ℕ
  pub making : Every (Named made [] hand) (p.make (drawn_by L p).pages).writes
  pub root : made.root ≡ t.root
  pub head : made.head.page ≡ t.head.page
  pub firsts : (n : ℕ) → count n (first_pages (spans_of (columns made))) ≤ count n (first_pages (spans_of (columns t)))
  pub towers : (n : ℕ) → count n (pages_in (towers_of (columns made))) ≤ count n (pages_in (towers_of (columns t)))
  pub hands : (n : ℕ) → count n hand ≤ count n ((span_at t i).page ∷ (drawn_by L p).pages)
  -- not on pages given back
  pub apart : (n : ℕ) → count n (table_pages t) + count n (free_pages L.free) ≤ 1 → 1 ≤ count n (given_by p)
      → count n (first_pages (spans_of (columns made))) + (count n (pages_in (towers_of (columns made))) + count n hand) ≡ 0

-- a table's towers are at most 252 high
low-towers : (r : KeyRule) (t : Table) → TableOk r t → Every (λ w. w.height ≤ 252) (towers_of (columns t))
low-towers r t ok =
    every-so (λ (w : Tower). Within 1 252 w.max_height × (w.height ≤ w.max_height)) (λ w h. omega (arith, h.0.1, h.1)) (towers_of (columns t)) ok.heights

-- pages drawn for the span at place i, and the span rewritten on them
module _ (r : KeyRule) (t : Table) (ok : TableOk r t) (i : ℕ) (inside : i < length (columns t)) (bs : List Block) (wanted : ℕ) (room : wanted ≤ length (span_at t i).conts + free_count bs) where
  abbrev hand : List ℕ
  hand = (span_at t i).page ∷ (drawn_at t i bs wanted).pages

  -- the pages drawn are in hand
  drawn-held : Every (λ n. 1 ≤ count n hand) (drawn_at t i bs wanted).pages
  drawn-held = (own-pages hand).1

  making-named : (es : List Entry) → length es ≤ t.span_size + 1 → wanted_by (parts t es) ≤ wanted → TableOk r (table_with t i es (drawn_at t i bs wanted).pages)
      → Every (Named t [] hand) (rewrite t i es (drawn_at t i bs wanted).pages).writes
  unfolding rewrite
  making-named es most enough ok_after =
      let P : ℕ → Type 0 = λ n. 1 ≤ count n hand in
      let ps : List ℕ = (drawn_at t i bs wanted).pages in
      let p : Parts = parts t es in
      let s : Shared = share p ps in
      let e : wanted_by p ≤ length ps = omega (arith, length-drawn (span_at t i).conts wanted [] bs room) in
      let h : Every P (s.conts ++ (s.span ++ s.tower)) = subst (Every P) (sym (share-all p ps)) (every_take P (wanted_by p) ps drawn-held) in
      let h2 : Every P (s.span ++ s.tower) = every-right P s.conts (s.span ++ s.tower) h in
      let new : pages_in (towers_of (new_columns t p s)) ≡ s.tower = new-towers r t ok es most ps e in
      rewriting-named t [] hand i inside p s (own-pages hand).0
      (every-left P s.conts (s.span ++ s.tower) h) (every-left P s.span s.tower h2) (every-right P s.span s.tower h2) new
      (omega (arith, height-fits r t ok es, ok.heights.0.0.1))
      (sym (length-map (towers_of (new_columns t p s)) (λ (w : Tower). w.page)) ∙ ap length new ∙ share-tower p ps e)
      (low-towers r (table_after t i p s) ok_after)

  -- old continuation pages that are left over are in none of a table's other parts, and not drawn
  left-apart : (n : ℕ) → count n (table_pages t) + count n (free_pages bs) ≤ 1 → 1 ≤ count n (drop wanted (span_at t i).conts ++ [])
      → count n (first_pages (spans_of (columns t))) + (count n (pages_in (towers_of (columns t))) + count n hand) ≡ 0
  left-apart n once is =
      let c : (count n ((span_at t i).page ∷ []) ≤ count n (first_pages (spans_of (columns t)))) × (count n (span_at t i).conts ≤ count n (cont_pages (spans_of (columns t)))) = count-span n t i inside in
      omega (
        arith,
        count-append n (drop wanted (span_at t i).conts) [],
        count-table n t,
        c.0,
        c.1,
        drawn-count n (span_at t i).conts wanted [] bs,
      )

-- ---- Put and remove

module _ (L : Layout) (name : List ℕ) (t : Table) (ok : TableOk (key_rule name) t) where
  -- the rules for the table after a plan
  abbrev GoodAfter : Plan → Type 0
  GoodAfter p = Every (λ n. TableOk (key_rule n.key) n.value) (layout_after L p).tables

  rewritten-named : (i : ℕ) (es : List Entry) → i < length (columns t) → length es ≤ t.span_size + 1 → lacks L (rewrite_plan L name t i es) ≡ false → GoodAfter (rewrite_plan L name t i es)
      → PlanNamed L t i (rewrite_plan L name t i es)
  unfolding layout_after rewrite_plan rewrite lacks
  rewritten-named i es inside most h good =
      let w : ℕ = wanted_by (parts t es) in
      let room : w ≤ length (span_at t i).conts + free_count L.free = ltb-false (length (span_at t i).conts + free_count L.free) w h in
      record {
        drawing = drawing-named t (block_pages L) (drop w (span_at t i).conts ++ []) (span_at t i).conts w [] L.free refl (own-pages (drop w (span_at t i).conts ++ []));
        made = t;
        hand = (span_at t i).page ∷ (drawn_at t i L.free w).pages;
        making = making-named (key_rule name) t ok i inside L.free w room es most (omega arith) (made_ok L.tables name (table_with t i es (drawn_at t i L.free w).pages) good);
        root = refl;
        head = refl;
        firsts = λ n. omega arith;
        towers = λ n. omega arith;
        hands = λ n. omega arith;
        apart = left-apart (key_rule name) t ok i inside L.free w room;
      }

  unlinked-named : (k : ℕ) → suc k < length (columns t) → PlanNamed L t (suc k) (unlink_plan L name t (suc k))
  unfolding unlink_plan
  unlinked-named k inside =
      let q : ℕ = (span_at t (suc k)).page in
      let old : List ℕ = (span_at t (suc k)).conts in
      let gone : List ℕ = q ∷ pages_in (towers_at t (suc k)) in
      let u : Table = without t (suc k) in
      let low : Tower → Type 0 = λ w. w.height ≤ 252 in
      record {
        drawing = drawing-named t (block_pages L) (drop 0 old ++ gone) old 0 gone L.free refl (own-pages (drop 0 old ++ gone));
        made = u;
        hand = [];
        making =
            unlinking-named u [] [] (suc k) (towers_at t (suc k))
            (every-left low (towers_at t (suc k)) (towers_of (drop 1 (drop (suc k) (columns t))))
            (subst (Every low) (towers-cut 1 (drop (suc k) (columns t)))
            (every-right low (towers_of (take (suc k) (columns t))) (towers_of (drop (suc k) (columns t))) (subst (Every low) (towers-cut (suc k) (columns t)) (low-towers (key_rule name) t ok)))));
        root = refl;
        head = refl;
        firsts = λ n. omega (arith, firsts-without n t k inside);
        towers = λ n. omega (arith, unlinked-count t k inside n);
        hands = λ n. omega arith;
        apart = λ n once is.
            omega (
              arith,
              count-append n old gone,
              count-table n t,
              (count-span n t (suc k) inside).1,
              firsts-without n t k inside,
              unlinked-count t k inside n,
            );
      }

  left-named : (i : ℕ) (es : List Entry) → i < length (columns t) → length es ≤ t.span_size → lacks L (leave_plan L name t i es) ≡ false → GoodAfter (leave_plan L name t i es)
      → PlanNamed L t i (leave_plan L name t i es)
  left-named zero es inside most h good = rewritten-named zero es inside (omega arith) h good
  left-named (suc k) [] inside most h good = unlinked-named k inside
  left-named (suc k) (e ∷ es) inside most h good = rewritten-named (suc k) (e ∷ es) inside (omega arith) h good

  -- what put writes
  pub put-named : (k v : List ℕ) → lacks L (put_plan L name t k v) ≡ false → GoodAfter (put_plan L name t k v) → PlanNamed L t (target (key_rule name) k t) (put_plan L name t k v)
  unfolding put_plan
  put-named k v h good =
      rewritten-named (target (key_rule name) k t) (put_into (key_rule name) t k v) (target_is (key_rule name) (keys-ordered name) k t ok).place
      (put-few (key_rule name) (keys-ordered name) t ok k v) h good

  -- and remove
  pub remove-named : (k : List ℕ) → lacks L (remove_plan L name t k) ≡ false → GoodAfter (remove_plan L name t k) → PlanNamed L t (target (key_rule name) k t) (remove_plan L name t k)
  unfolding remove_plan
  remove-named k h good =
      left-named (target (key_rule name) k t) (left_by (key_rule name) t k) (target_is (key_rule name) (keys-ordered name) k t ok).place
      (left-fits (key_rule name) (keys-ordered name) t ok k) h good

-- ---- Create

-- what create writes: on the metaindex as put does, and the new table on pages in hand
pub create-named : (L : Layout) (name : List ℕ) → TableOk name_rule L.meta → lacks L (create_plan L name) ≡ false → TableOk name_rule (layout_after L (create_plan L name)).meta
    → PlanNamed L L.meta (target name_rule name L.meta) (create_plan L name)
unfolding layout_after create_plan rewrite lacks
create-named L name ok h ok_after =
    let meta : Table = L.meta in
    let i : ℕ = target name_rule name meta in
    let w : ℕ = meta_pages L name in
    let es : List Entry = put_into name_rule meta name (word32 (created L name).root) in
    let d : Drawn = drawn_at meta i L.free (w + 3) in
    let room : w + 3 ≤ length (span_at meta i).conts + free_count L.free = ltb-false (length (span_at meta i).conts + free_count L.free) (w + 3) h in
    let inside : i < length (columns meta) = (target_is name_rule names-ordered name meta ok).place in
    let hand : List ℕ = (span_at meta i).page ∷ d.pages in
    let P : ℕ → Type 0 = λ n. 1 ≤ count n hand in
    let new : Every P (get_or d.pages w 0 ∷ get_or d.pages (w + 1) 0 ∷ get_or d.pages (w + 2) 0 ∷ [])
    = subst (Every P) (three d.pages w (create-drawn L name h)) (every_drop P w d.pages (own-pages hand).1) in
    record {
      drawing = drawing-named meta (block_pages L) (drop (w + 3) (span_at meta i).conts ++ []) (span_at meta i).conts (w + 3) [] L.free refl (own-pages (drop (w + 3) (span_at meta i).conts ++ []));
      made = meta;
      hand = hand;
      making =
          every-join (Named meta [] hand) (rewrite meta i es d.pages).writes (whole_table (created L name))
          (making-named name_rule meta ok i inside L.free (w + 3) room es (put-few name_rule names-ordered meta ok name (word32 (created L name).root))
          (omega (arith, meta-wanted L name (created L name).root)) ok_after)
          (table-has (Named meta [] hand) (created L name) (any meta [] hand (created L name).root 0 1024 (omega arith) new.0)
          (span-any meta [] hand (created L name).first (new.1.0, tt), tt)
          ((omega arith, any meta [] hand (created L name).head.page 0 1024 (omega arith) new.1.1.0), tt));
      root = refl;
      head = refl;
      firsts = λ n. omega arith;
      towers = λ n. omega arith;
      hands = λ n. omega arith;
      apart = left-apart name_rule meta ok i inside L.free (w + 3) room;
    }
