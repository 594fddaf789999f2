-- Which bytes of the image a call leaves as they were.
use Prim.Native.Nat.{ℕ, zero, suc, ◌+◌, ◌<◌, ◌≤◌}
use native.Mathlib.Omega.{arith}
use native.Mathlib.Decide.{ℕ_discrete}
use mathlib.Core.Path.{◌≡◌, refl, ap, sym, ◌∙◌, subst}
use mathlib.Core.Logic.{◌⊎◌, inl, inr}
use mathlib.Core.Bool.{false}
use mathlib.Core.Option.{Option, none, some}
use mathlib.Core.List.{List, [], ◌∷◌, ◌++◌}
use lib.ListN.{length, get_or, drop}
use Rattle.blockfile.specs.Bytes.{pg, Write, apply, Every, gather}
use Rattle.blockfile.specs.Layout.{Entry, Table, Layout, columns, spans_of, towers_of, free_count}
use Rattle.blockfile.specs.Order.{name_rule, key_rule, find}
use Rattle.blockfile.specs.WellFormed.{count, TableOk, WellFormed}
use Rattle.blockfile.specs.Plan.{Plan, drawn_by, lacks, layout_after, changes_of, kept_on, writes_of}
use Rattle.blockfile.specs.Put.{target, span_at, rewrite_plan, put_plan}
use Rattle.blockfile.specs.Remove.{unlink_plan, leave_plan, remove_plan}
use Rattle.blockfile.specs.Create.{create_plan}
use Rattle.blockfile.specs.Refusals.{Op, check, get, put, remove, next, create, ledger_of, refused}
use Rattle.blockfile.specs.Answers.{plan_of}
use Rattle.blockfile.proofs.Every.{every-so, every-join}
use Rattle.blockfile.proofs.Count.{count-here, count-append, count-more}
use Rattle.blockfile.proofs.Owned.{clean}
use Rattle.laws.specs.Lists.{Apart, Agree}
use Rattle.laws.specs.FreeList.{free_pages}
use Rattle.laws.specs.Owned.{table_pages, named_pages, in_option, first_pages, cont_pages, pages_in, block_pages, Bounded, changed_by, place_in, given_by}
use Rattle.laws.specs.Claims.{SameBytes, Stays}
use Rattle.laws.proofs.Orders.{names-ordered, keys-ordered}
use Rattle.laws.proofs.Writes.{Fits, Spares, Misses, pg-apply-other, agree-apply}
use Rattle.laws.proofs.Given.{Ends, bounded-none, draw-ends}
use Rattle.laws.proofs.Targets.{target_is}
use Rattle.laws.proofs.TablePut.{put_into}
use Rattle.laws.proofs.TableRemove.{left_by}
use Rattle.laws.proofs.TableCreate.{table-found}
use Rattle.laws.proofs.Allowed.{OnTable, put-allowed, remove-allowed}
use Rattle.laws.proofs.Ledgers.{on-table}
use Rattle.laws.proofs.Preserves.{well-after}
use Rattle.laws.proofs.Owners.{count-pages, under-named, count-table, count-span, count-towers, take-drop-count, blocks-count, drawn-count}
use Rattle.laws.proofs.Numbers.{length-word32}
use Rattle.laws.proofs.Names.{Part, Named, first_free, free_kept, counts, height, links, entries, listing, in_hand, hand_of, PlanNamed, put-named, remove-named, create-named}

-- ---- From writes to bytes

-- the v bytes from offset a on of page n are in no part that a call on the table t names
pub record Spared (t : Table) (blocks hand : List ℕ) (n a v : ℕ) : Type 0 where
  pub first_free : (count n (1 ∷ []) ≡ 0) ⊎ Apart a v 16 4
  pub free_kept : (count n (1 ∷ []) ≡ 0) ⊎ Apart a v 28 4
  pub counts : (count n (t.root ∷ []) ≡ 0) ⊎ Apart a v 16 12
  pub height : (count n (t.head.page ∷ []) ≡ 0) ⊎ Apart a v 10 2
  pub links : (count n (first_pages (spans_of (columns t))) ≡ 0) ⊎ Apart a v 8 8
  pub entries : (count n (pages_in (towers_of (columns t))) ≡ 0) ⊎ Apart a v 16 1008
  pub listing : (count n blocks ≡ 0) ⊎ Apart a v 12 1012
  pub in_hand : (count n hand ≡ 0) ⊎ Apart a v 0 1024

module _ (n : ℕ) where
  -- a page that is in none of a list's is not a write's that is in one
  off-page : (ns : List ℕ) (w : Write) → count n ns ≡ 0 → 1 ≤ count w.page ns → n ≡ w.page → ⊥
  off-page ns w z c e = let d : count n ns ≡ count w.page ns = ap (λ (m : ℕ). count m ns) e in omega arith

  module _ (a v : ℕ) where
    part-missed : (ns : List ℕ) (lo size : ℕ) (w : Write) → Part ns lo (lo + size) w → (count n ns ≡ 0) ⊎ Apart a v lo size → Misses n a v w
    part-missed ns lo size w p (inl z) = inl (off-page ns w z p.page)
    part-missed ns lo size w p (inr (inl h)) = inr (inl (omega (arith, p.low)))
    part-missed ns lo size w p (inr (inr h)) = inr (inr (omega (arith, p.high)))

    named-missed : (t : Table) (blocks hand : List ℕ) → Spared t blocks hand n a v → (w : Write) → Named t blocks hand w → Misses n a v w
    named-missed t blocks hand s w (first_free p) = part-missed (1 ∷ []) 16 4 w p s.first_free
    named-missed t blocks hand s w (free_kept p) = part-missed (1 ∷ []) 28 4 w p s.free_kept
    named-missed t blocks hand s w (counts p) = part-missed (t.root ∷ []) 16 12 w p s.counts
    named-missed t blocks hand s w (height p) = part-missed (t.head.page ∷ []) 10 2 w p s.height
    named-missed t blocks hand s w (links p) = part-missed (first_pages (spans_of (columns t))) 8 8 w p s.links
    named-missed t blocks hand s w (entries p) = part-missed (pages_in (towers_of (columns t))) 16 1008 w p s.entries
    named-missed t blocks hand s w (listing p) = part-missed blocks 12 1012 w p s.listing
    named-missed t blocks hand s w (in_hand p) = part-missed hand 0 1024 w p s.in_hand

named-fits : (t : Table) (blocks hand : List ℕ) (w : Write) → Named t blocks hand w → Fits w
named-fits t blocks hand w (first_free p) = omega (arith, p.high)
named-fits t blocks hand w (free_kept p) = omega (arith, p.high)
named-fits t blocks hand w (counts p) = omega (arith, p.high)
named-fits t blocks hand w (height p) = omega (arith, p.high)
named-fits t blocks hand w (links p) = omega (arith, p.high)
named-fits t blocks hand w (entries p) = omega (arith, p.high)
named-fits t blocks hand w (listing p) = omega (arith, p.high)
named-fits t blocks hand w (in_hand p) = omega (arith, p.high)

-- how often a page is in the parts named
abbrev in_parts : Table → (blocks hand : List ℕ) → ℕ → ℕ
in_parts t blocks hand n =
    count n (1 ∷ [])
    + (count n (t.root ∷ []) + (count n (first_pages (spans_of (columns t))) + (count n (pages_in (towers_of (columns t))) + (count n blocks + count n hand))))

named-page : (t : Table) (blocks hand : List ℕ) (w : Write) → Named t blocks hand w → 1 ≤ in_parts t blocks hand w.page
named-page t blocks hand w (first_free p) = omega (arith, p.page)
named-page t blocks hand w (free_kept p) = omega (arith, p.page)
named-page t blocks hand w (counts p) = omega (arith, p.page)
named-page t blocks hand w (height p) = omega (arith, p.page)
named-page t blocks hand w (links p) = omega (arith, p.page)
named-page t blocks hand w (entries p) = omega (arith, p.page)
named-page t blocks hand w (listing p) = omega (arith, p.page)
named-page t blocks hand w (in_hand p) = omega (arith, p.page)

-- a page that is in no part is not written
pages-apart : (t : Table) (blocks hand : List ℕ) (ws : List Write) (n : ℕ) → Every (Named t blocks hand) ws → in_parts t blocks hand n ≡ 0 → Every (Spares n) ws
pages-apart t blocks hand ws n h z = every-so (Named t blocks hand) (λ w k e. off w (named-page t blocks hand w k) e) ws h
  where
    off : (w : Write) → 1 ≤ in_parts t blocks hand w.page → n ≡ w.page → ⊥
    off w c e = let d : in_parts t blocks hand n ≡ in_parts t blocks hand w.page = ap (in_parts t blocks hand) e in omega arith

no-page : (img : List ℕ) → pg img 0 ≡ []
unfolding pg
no-page img = refl

-- bytes that no write of the list meets, of any page; there is no page 0
agree-missed : (n a v : ℕ) (ws : List Write) (img : List ℕ) → Every Fits ws → Every (Misses n a v) ws → Agree v (pg (apply ws img) n) a (pg img n) a
agree-missed zero a v ws img f m = λ k q. ap (λ (b : List ℕ). get_or b (a + k) 0) (no-page (apply ws img) ∙ sym (no-page img))
agree-missed (suc n) a v ws img f m = agree-apply (suc n) a v ws img (omega arith) f m

module _ (t : Table) (blocks hand : List ℕ) (ws : List Write) (img : List ℕ) (named : Every (Named t blocks hand) ws) (n : ℕ) where
  -- bytes that no part names are as they were
  pub bytes-stay : (a v : ℕ) → Spared t blocks hand n a v → Agree v (pg (apply ws img) n) a (pg img n) a
  bytes-stay a v s =
      agree-missed n a v ws img (every-so (Named t blocks hand) (named-fits t blocks hand) ws named) (every-so (Named t blocks hand) (named-missed n a v t blocks hand s) ws named)

  -- and so is a whole page that is in no part
  pub named-elsewhere : in_parts t blocks hand n ≡ 0 → pg (apply ws img) n ≡ pg img n
  named-elsewhere z = pg-apply-other n ws img (every-so (Named t blocks hand) (named-fits t blocks hand) ws named) (pages-apart t blocks hand ws n named z)

-- ---- What a done call changes

part-more : (ns ms : List ℕ) (lo hi : ℕ) (w : Write) → (1 ≤ count w.page ns → 1 ≤ count w.page ms) → Part ns lo hi w → Part ms lo hi w
part-more ns ms lo hi w f p = record { page = f p.page; low = p.low; high = p.high }

module _ (L : Layout) (t : Table) (i : ℕ) (p : Plan) (x : PlanNamed L t i p) where
  abbrev hands : List ℕ
  hands = hand_of L t i p

  given-more : (w : Write) → Named t (block_pages L) (given_by p) w → Named t (block_pages L) hands w
  given-more w (first_free q) = first_free q
  given-more w (free_kept q) = free_kept q
  given-more w (counts q) = counts q
  given-more w (height q) = height q
  given-more w (links q) = links q
  given-more w (entries q) = entries q
  given-more w (listing q) = listing q
  given-more w (in_hand q) =
      in_hand (part-more (given_by p) hands 0 1024 w (λ c. omega (arith, count-append w.page (drawn_by L p).pages (given_by p), count-more w.page (span_at t i).page ((drawn_by L p).pages ++ given_by p))) q)

  made_more : (w : Write) → Named x.made [] x.hand w → Named t (block_pages L) hands w
  made_more w (first_free q) = first_free q
  made_more w (free_kept q) = free_kept q
  made_more w (counts q) = counts (subst (λ (r : ℕ). Part (r ∷ []) 16 28 w) x.root q)
  made_more w (height q) = height (subst (λ (r : ℕ). Part (r ∷ []) 10 12 w) x.head q)
  made_more w (links q) = links (part-more (first_pages (spans_of (columns x.made))) (first_pages (spans_of (columns t))) 8 16 w (λ c. omega (arith, x.firsts w.page)) q)
  made_more w (entries q) = entries (part-more (pages_in (towers_of (columns x.made))) (pages_in (towers_of (columns t))) 16 1024 w (λ c. omega (arith, x.towers w.page)) q)
  made_more w (listing q) = absurd (omega (arith, q.page))
  made_more w (in_hand q) =
      in_hand (part-more x.hand hands 0 1024 w (λ c. omega (arith, x.hands w.page, count-append w.page (drawn_by L p).pages (given_by p))) q)

  -- all that a plan writes
  pub all_named : Every (Named t (block_pages L) (hand_of L t i p)) (writes_of L p)
  unfolding writes_of changes_of
  all_named =
      every-join (Named t (block_pages L) hands) ((drawn_by L p).writes ++ (p.make (drawn_by L p).pages).writes) (kept_on (free_count (drawn_by L p).free) ∷ [])
      (every-join (Named t (block_pages L) hands) (drawn_by L p).writes (p.make (drawn_by L p).pages).writes
      (every-so (Named t (block_pages L) (given_by p)) given-more (drawn_by L p).writes x.drawing)
      (every-so (Named x.made [] x.hand) made_more (p.make (drawn_by L p).pages).writes x.making))
      (free_kept (record { page = omega (arith, count-here 1 []); low = omega arith; high = omega (arith, length-word32 (free_count (drawn_by L p).free + 1)) }), tt)

-- a plan changes the table t at the span at place i; its writes are those that document 01 names
pub record Change (L : Layout) (t : Table) (i : ℕ) (p : Plan) : Type 0 where
  pub inside : i < length (columns t)
  pub old : p.old ≡ (span_at t i).conts
  -- pages that go are those of spans and towers
  pub gone : (n : ℕ) → count n p.gone ≤ count n (first_pages (spans_of (columns t))) + count n (pages_in (towers_of (columns t)))
  -- the superblock, the table and the free list share no page
  pub once : (n : ℕ) → count n (1 ∷ []) + (count n (table_pages t) + count n (free_pages L.free)) ≤ 1
  pub writes : PlanNamed L t i p

module _ (img : List ℕ) (L : Layout) (w : WellFormed img L) where
  -- each page is owned at most once
  pub owned-once : (n : ℕ) → count n (1 ∷ []) + (count n (table_pages L.meta) + (count n (named_pages L.tables) + count n (free_pages L.free))) ≤ 1
  owned-once n = omega (arith, count-pages n L, (clean img L w).once n)

  module _ (name : List ℕ) (t : Table) (found : find name L.tables ≡ some t) where
    table-once : (n : ℕ) → count n (1 ∷ []) + (count n (table_pages t) + count n (free_pages L.free)) ≤ 1
    table-once n =
        omega (
          arith,
          owned-once n,
          under-named n name L.tables,
          ap (λ (o : Option Table). count n (gather table_pages (in_option o))) found,
          count-append n (table_pages t) [],
        )

    abbrev Changed : (i : ℕ) → Plan → Type 0
    Changed i p = PlanNamed L t i p → Change L t i p

    rewrite-change : (i : ℕ) (es : List Entry) → i < length (columns t) → Changed i (rewrite_plan L name t i es)
    unfolding rewrite_plan
    rewrite-change i es inside h = record { inside = inside; old = refl; gone = λ n. omega arith; once = table-once; writes = h }

    unlink-change : (k : ℕ) → suc k < length (columns t) → Changed (suc k) (unlink_plan L name t (suc k))
    unfolding unlink_plan
    unlink-change k inside h =
        record {
          inside = inside;
          old = refl;
          gone = λ n. omega (arith, (count-span n t (suc k) inside).0, count-towers n t (suc k));
          once = table-once;
          writes = h;
        }

    leave-change : (i : ℕ) (es : List Entry) → i < length (columns t) → Changed i (leave_plan L name t i es)
    leave-change zero es inside h = rewrite-change zero es inside h
    leave-change (suc k) [] inside h = unlink-change k inside h
    leave-change (suc k) (e ∷ es) inside h = rewrite-change (suc k) (e ∷ es) inside h

    ok : TableOk (key_rule name) t
    ok = table-found L.tables name t w.tables_ok found

    put-change : (k v : List ℕ) → lacks L (put_plan L name t k v) ≡ false → Every (λ n. TableOk (key_rule n.key) n.value) (layout_after L (put_plan L name t k v)).tables
        → Change L t (target (key_rule name) k t) (put_plan L name t k v)
    unfolding put_plan
    put-change k v h good =
        rewrite-change (target (key_rule name) k t) (put_into (key_rule name) t k v) (target_is (key_rule name) (keys-ordered name) k t ok).place (put-named L name t ok k v h good)

    remove-change : (k : List ℕ) → lacks L (remove_plan L name t k) ≡ false → Every (λ n. TableOk (key_rule n.key) n.value) (layout_after L (remove_plan L name t k)).tables
        → Change L t (target (key_rule name) k t) (remove_plan L name t k)
    unfolding remove_plan
    remove-change k h good =
        leave-change (target (key_rule name) k t) (left_by (key_rule name) t k) (target_is (key_rule name) (keys-ordered name) k t ok).place (remove-named L name t ok k h good)

  create-change : (name : List ℕ) → lacks L (create_plan L name) ≡ false → TableOk name_rule (layout_after L (create_plan L name)).meta
      → Change L L.meta (target name_rule name L.meta) (create_plan L name)
  unfolding create_plan
  create-change name h good =
      record {
        inside = (target_is name_rule names-ordered name L.meta w.meta_ok).place;
        old = refl;
        gone = λ n. omega arith;
        once = λ n. omega (arith, owned-once n);
        writes = create-named L name w.meta_ok h good;
      }

-- a done call changes one table
pub record Changes (L : Layout) (op : Op) (p : Plan) : Type 0 where
  pub table : Table
  pub is : changed_by L op ≡ table ∷ []
  pub change : Change L table (place_in op table) p

changes-as : (L : Layout) (op : Op) (o : Option Plan) (p q : Plan) → o ≡ some p → o ≡ some q → Changes L op q → Changes L op p
changes-as L op o p q e d c = let i : q ≡ p = cc in subst (Changes L op) i c

pub changes : (img : List ℕ) (L : Layout) (w : WellFormed img L) (op : Op) (room : ℕ) → refused (ledger_of L) op room ≡ none → (p : Plan) → plan_of L op ≡ some p → lacks L p ≡ false
    → Changes L op p
changes img L w check room r p e h = absurd (let z : ◌≡◌ {A = ℕ} 0 1 = cc in omega arith)
changes img L w (get n k) room r p e h = absurd (let z : ◌≡◌ {A = ℕ} 0 1 = cc in omega arith)
changes img L w (put n k v) room r p e h =
    let x : OnTable L n k = (put-allowed L room n k v r).0 in
    let d : plan_of L (put n k v) ≡ some (put_plan L n x.table k v) = on-table L n x.table (λ u. put_plan L n u k v) x.found in
    let i : p ≡ put_plan L n x.table k v = cc in
    let l : lacks L (put_plan L n x.table k v) ≡ false = subst (λ (q : Plan). lacks L q ≡ false) i h in
    changes-as L (put n k v) (plan_of L (put n k v)) p (put_plan L n x.table k v) e d
    (record {
      table = x.table;
      is = ap in_option x.found;
      change = put-change img L w n x.table x.found k v l (well-after img L (put n k v) room w r (put_plan L n x.table k v) d l).tables_ok;
    })
changes img L w (remove n k) room r p e h =
    let x : OnTable L n k = (remove-allowed L room n k r).0 in
    let d : plan_of L (remove n k) ≡ some (remove_plan L n x.table k) = on-table L n x.table (λ u. remove_plan L n u k) x.found in
    let i : p ≡ remove_plan L n x.table k = cc in
    let l : lacks L (remove_plan L n x.table k) ≡ false = subst (λ (q : Plan). lacks L q ≡ false) i h in
    changes-as L (remove n k) (plan_of L (remove n k)) p (remove_plan L n x.table k) e d
    (record {
      table = x.table;
      is = ap in_option x.found;
      change = remove-change img L w n x.table x.found k l (well-after img L (remove n k) room w r (remove_plan L n x.table k) d l).tables_ok;
    })
changes img L w (next n k) room r p e h = absurd (let z : ◌≡◌ {A = ℕ} 0 1 = cc in omega arith)
changes img L w (create n) room r p e h =
    let i : p ≡ create_plan L n = cc in
    let l : lacks L (create_plan L n) ≡ false = subst (λ (q : Plan). lacks L q ≡ false) i h in
    changes-as L (create n) (plan_of L (create n)) p (create_plan L n) e refl
    (record { table = L.meta; is = refl; change = create-change img L w n l (well-after img L (create n) room w r (create_plan L n) refl l).meta_ok })

-- ---- Bytes of the pages that a done call writes in part

module _ (img : List ℕ) (L : Layout) (t : Table) (i : ℕ) (p : Plan) (c : Change L t i p) where
  -- the table's parts, the pages gone and the free ones, counted
  record Counts (n : ℕ) : Type 0 where
    once : count n (1 ∷ []) + (count n (table_pages t) + count n (free_pages L.free)) ≤ 1
    parts : count n (table_pages t)
        ≡ count n (t.root ∷ []) + (count n (first_pages (spans_of (columns t))) + (count n (cont_pages (spans_of (columns t))) + count n (pages_in (towers_of (columns t)))))
    head : count n (t.head.page ∷ []) ≤ count n (pages_in (towers_of (columns t)))
    span : count n ((span_at t i).page ∷ []) ≤ count n (first_pages (spans_of (columns t)))
    conts : count n p.old ≤ count n (cont_pages (spans_of (columns t)))
    gone : count n p.gone ≤ count n (first_pages (spans_of (columns t))) + count n (pages_in (towers_of (columns t)))
    hand : count n (hand_of L t i p)
        ≡ count n ((span_at t i).page ∷ []) + (count n (drawn_by L p).pages + (count n (drop p.wanted p.old) + count n p.gone))
    drawn : count n (drawn_by L p).pages + count n (drop p.wanted p.old) ≤ count n p.old + count n (free_pages L.free)
    dropped : count n (drop p.wanted p.old) ≤ count n p.old
    blocks : count n (block_pages L) ≤ count n (free_pages L.free)

  counted : (n : ℕ) → Counts n
  counted n =
      record {
        once = c.once n;
        parts = count-table n t;
        head = omega arith;
        span = (count-span n t i c.inside).0;
        conts = omega (arith, ap (count n) c.old, (count-span n t i c.inside).1);
        gone = c.gone n;
        hand = omega (arith, count-append n (drawn_by L p).pages (given_by p), count-append n (drop p.wanted p.old) p.gone);
        drawn = drawn-count n p.old p.wanted p.gone L.free;
        dropped = omega (arith, take-drop-count n p.wanted p.old);
        blocks = blocks-count n L.free;
      }

  stays_by : (n a v : ℕ) → Spared t (block_pages L) (hand_of L t i p) n a v → SameBytes img L p n a v
  stays_by n a v s = bytes-stay t (block_pages L) (hand_of L t i p) (writes_of L p) img (all_named L t i p c.writes) n a v s

  -- a free page that is not drawn is in no part but a block's
  free-spared : (n a v : ℕ) → count n (drawn_by L p).pages ≡ 0 → 1 ≤ count n (free_pages L.free) → (count n (block_pages L) ≡ 0) ⊎ Apart a v 12 1012
      → Spared t (block_pages L) (hand_of L t i p) n a v
  free-spared n a v kept is h =
      let k : Counts n = counted n in
      record {
        first_free = inl (omega (arith, k.once));
        free_kept = inl (omega (arith, k.once));
        counts = inl (omega (arith, k.once, k.parts));
        height = inl (omega (arith, k.once, k.parts, k.head));
        links = inl (omega (arith, k.once, k.parts));
        entries = inl (omega (arith, k.once, k.parts));
        listing = h;
        in_hand = inl (omega (arith, k.once, k.parts, k.span, k.conts, k.gone, k.dropped, k.hand));
      }

  -- a page given back, behind its free mark, or behind what a block lists where it becomes one: m is where that ends
  given_back : (n : ℕ) → 1 ≤ count n (given_by p) → (m : ℕ) → 8 ≤ m → Bounded n m (drawn_by L p).free → (a v : ℕ) → m ≤ a → SameBytes img L p n a v
  unfolding writes_of changes_of
  given_back n is m low bound a v past =
      let k : Counts n = counted n in
      let x : PlanNamed L t i p = c.writes in
      let mine : 1 ≤ count n (table_pages t) = omega (arith, k.parts, k.conts, k.gone, k.dropped, count-append n (drop p.wanted p.old) p.gone) in
      let off : n ≡ 1 → ⊥ = λ e. not-super k.once mine e in
      let dw : List Write = (drawn_by L p).writes in
      let mw : List Write = (p.make (drawn_by L p).pages).writes in
      let ws : List Write = (dw ++ mw) ++ (kept_on (free_count (drawn_by L p).free) ∷ []) in
      agree-missed n a v ws img
      (every-so (Named t (block_pages L) (hand_of L t i p)) (named-fits t (block_pages L) (hand_of L t i p)) ws (all_named L t i p x))
      (every-join (Misses n a v) (dw ++ mw) (kept_on (free_count (drawn_by L p).free) ∷ [])
      (every-join (Misses n a v) dw mw
      (every-so (Ends n m) ended dw (draw-ends n m off low p.old p.wanted p.gone L.free (omega (arith, k.once, k.blocks)) bound))
      (every-so (Spares n) (λ w e. inl e) mw
      (pages-apart x.made [] x.hand mw n x.making
      (omega (arith, k.once, k.parts, x.apart n (omega (arith, k.once)) is, ap (λ (r : ℕ). count n (r ∷ [])) x.root, k.conts, k.gone, k.dropped, count-append n (drop p.wanted p.old) p.gone)))))
      (inl off, tt))
    where
      not-super : count n (1 ∷ []) + (count n (table_pages t) + count n (free_pages L.free)) ≤ 1 → 1 ≤ count n (table_pages t) → n ≡ 1 → ⊥
      not-super o h e = omega (arith, ap (λ (j : ℕ). count j (1 ∷ [])) e)

      ended : (w : Write) → Ends n m w → Misses n a v w
      ended w h = go (ℕ_discrete n w.page)
        where
          go : Dec (n ≡ w.page) → Misses n a v w
          go (yes e) = inr (inr (omega (arith, h e)))
          go (no e) = inl e

  -- the bytes that stay, for each kind of page
  pub stays : Stays img L t i p
  stays =
      record {
        super_bytes = λ a v off away.
            let k : Counts 1 = counted 1 in
            stays_by 1 a v
            (record {
              first_free = inr off;
              free_kept = inr away;
              counts = inl (omega (arith, k.once, k.parts));
              height = inl (omega (arith, k.once, k.parts, k.head));
              links = inl (omega (arith, k.once, k.parts));
              entries = inl (omega (arith, k.once, k.parts));
              listing = inl (omega (arith, k.once, k.parts, k.blocks));
              in_hand = inl (omega (arith, k.once, k.parts, k.span, k.conts, k.gone, k.drawn, k.hand));
            });
        root_bytes = λ a v off.
            let k : Counts t.root = counted t.root in
            let one : count t.root (t.root ∷ []) ≡ 1 + 0 = count-here t.root [] in
            stays_by t.root a v
            (record {
              first_free = inl (omega (arith, k.once, k.parts));
              free_kept = inl (omega (arith, k.once, k.parts));
              counts = inr off;
              height = inl (omega (arith, k.once, k.parts, k.head));
              links = inl (omega (arith, k.once, k.parts));
              entries = inl (omega (arith, k.once, k.parts));
              listing = inl (omega (arith, k.once, k.parts, k.blocks));
              in_hand = inl (omega (arith, k.once, k.parts, k.span, k.conts, k.gone, k.drawn, k.hand));
            });
        tower_bytes = λ n is kept a v low head.
            let k : Counts n = counted n in
            stays_by n a v
            (record {
              first_free = inl (omega (arith, k.once, k.parts));
              free_kept = inl (omega (arith, k.once, k.parts));
              counts = inl (omega (arith, k.once, k.parts));
              height = head;
              links = inl (omega (arith, k.once, k.parts));
              entries = inr (inl low);
              listing = inl (omega (arith, k.once, k.parts, k.blocks));
              in_hand = inl (omega (arith, k.once, k.parts, k.span, k.conts, k.drawn, k.hand));
            });
        span_bytes = λ n is other kept a v off.
            let k : Counts n = counted n in
            stays_by n a v
            (record {
              first_free = inl (omega (arith, k.once, k.parts));
              free_kept = inl (omega (arith, k.once, k.parts));
              counts = inl (omega (arith, k.once, k.parts));
              height = inl (omega (arith, k.once, k.parts, k.head));
              links = inr off;
              entries = inl (omega (arith, k.once, k.parts));
              listing = inl (omega (arith, k.once, k.parts, k.blocks));
              in_hand = inl (omega (arith, k.once, k.parts, k.conts, k.drawn, k.hand));
            });
        cont_bytes = λ n is other a v.
            let k : Counts n = counted n in
            stays_by n a v
            (record {
              first_free = inl (omega (arith, k.once, k.parts));
              free_kept = inl (omega (arith, k.once, k.parts));
              counts = inl (omega (arith, k.once, k.parts));
              height = inl (omega (arith, k.once, k.parts, k.head));
              links = inl (omega (arith, k.once, k.parts));
              entries = inl (omega (arith, k.once, k.parts));
              listing = inl (omega (arith, k.once, k.parts, k.blocks));
              in_hand = inl (omega (arith, k.once, k.parts, k.span, k.gone, k.drawn, k.hand));
            });
        block_bytes = λ n is kept a v low. stays_by n a v (free-spared n a v kept (omega (arith, (counted n).blocks)) (inr (inl low)));
        listed_bytes = λ n is other kept a v. stays_by n a v (free-spared n a v kept is (inl other));
        given_bytes = given_back;
        freed_bytes = λ n is listed a v past. given_back n is 8 (omega arith) (bounded-none n 8 (drawn_by L p).free listed) a v past;
      }

  -- every other page: not the superblock, not of the table, not free
  pub other-page : (n : ℕ) → count n (1 ∷ []) + (count n (table_pages t) + count n (free_pages L.free)) ≡ 0 → pg (apply (writes_of L p) img) n ≡ pg img n
  other-page n z =
      let k : Counts n = counted n in
      named-elsewhere t (block_pages L) (hand_of L t i p) (writes_of L p) img (all_named L t i p c.writes) n (omega (arith, k.parts, k.span, k.conts, k.gone, k.drawn, k.hand, k.blocks))
