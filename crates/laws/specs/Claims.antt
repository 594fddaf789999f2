-- Claims on the text, in the order of document 01's demands.
use Rattle.std.specs.Prelude.{ℕ, ◌+◌, ◌≤◌, ◌≡◌, ◌⊎◌, false, List, [], ◌∷◌, ◌++◌, map, length}
use Rattle.std.proofs.Math.Option.{none, some}
use Rattle.blockfile.specs.Bytes.{pg, be32, apply, gather}
use Rattle.blockfile.specs.Layout.{Entry, entries_end, Table, Layout, columns, spans_of, towers_of, free_count}
use Rattle.blockfile.specs.Order.{name_rule, key_rule, same, find}
use Rattle.blockfile.specs.WellFormed.{count, WellFormed, Accepted, Rejected}
use Rattle.blockfile.specs.Plan.{Plan, drawn_by, layout_after, writes_of}
use Rattle.blockfile.specs.Put.{target, span_at}
use Rattle.blockfile.specs.Path.{by_towers}
use Rattle.blockfile.specs.Refusals.{Op, put, remove, Reply, ledger_of, map_of, refused}
use Rattle.blockfile.specs.Answers.{plan_of, lacking, no_room, outcome_on}
use Rattle.blockfile.specs.Calls.{Keeps}
use Rattle.laws.specs.Lists.{Apart, Agree}
use Rattle.laws.specs.FreeList.{free_pages}
use Rattle.laws.specs.Owned.{table_pages, named_pages, in_option, pages_under, first_pages, cont_pages, pages_in, block_pages, Bounded, changed_by, place_in, given_by}

-- ---- Demand 1: any bytes get an answer

-- every image is accepted or rejected
unfoldable pub Decided : Type 0
Decided = (img : List ℕ) → Accepted img ⊎ Rejected img

-- ---- Demand 2: one reading of an image, and one outcome of a call

-- an image has at most one layout
unfoldable pub OneLayout : Type 0
OneLayout = (img : List ℕ) (L M : Layout) → WellFormed img L → WellFormed img M → L ≡ M

-- two results that keep the promise on the same call agree in the reply and in every byte of image, scratch and answer buffer
unfoldable pub Determined : Type 0
Determined =
    (op : Op) (img s b : List ℕ) (r q : Reply) (img' img'' s' s'' b' b'' : List ℕ) → Keeps op img s b r img' s' b' → Keeps op img s b q img'' s'' b''
    → (r ≡ q) × (img' ≡ img'') × (s' ≡ s'') × (b' ≡ b'')

-- ---- Demand 2: which pages stay

-- the image that a call, done or refused, leaves
abbrev pub image_after : (img : List ℕ) (L : Layout) → Op → (room : ℕ) → List ℕ
image_after img L op room = apply (outcome_on L op room).writes img

-- the pages that a call may change: the superblock, those of the table that it changes, and free ones
abbrev pub may_change : Layout → Op → List ℕ
may_change L op = 1 ∷ (gather table_pages (changed_by L op) ++ free_pages L.free)

-- any call, done or refused, leaves every other page
unfoldable pub PageStays : Type 0
PageStays = (img : List ℕ) (L : Layout) (op : Op) (room n : ℕ) → WellFormed img L → count n (may_change L op) ≡ 0 → pg (image_after img L op room) n ≡ pg img n

-- a call on the table of a name, as put and remove are, leaves the metaindex
unfoldable pub MetaStays : Type 0
MetaStays =
    (img : List ℕ) (L : Layout) (op : Op) (room n : ℕ) → WellFormed img L → (name : List ℕ) → changed_by L op ≡ in_option (find name L.tables)
    → 1 ≤ count n (table_pages L.meta) → pg (image_after img L op room) n ≡ pg img n

-- and every table of another name
unfoldable pub TableStays : Type 0
TableStays =
    (img : List ℕ) (L : Layout) (op : Op) (room n : ℕ) → WellFormed img L → (name : List ℕ) → changed_by L op ≡ in_option (find name L.tables)
    → (other : List ℕ) → same other name ≡ false → 1 ≤ count n (pages_under other L.tables) → pg (image_after img L op room) n ≡ pg img n

-- a call on the metaindex, as create is, leaves every table that is there
unfoldable pub TablesStay : Type 0
TablesStay =
    (img : List ℕ) (L : Layout) (op : Op) (room n : ℕ) → WellFormed img L → changed_by L op ≡ L.meta ∷ []
    → 1 ≤ count n (named_pages L.tables) → pg (image_after img L op room) n ≡ pg img n

-- ---- Demand 2: which bytes stay of the pages that a done call writes in part

-- on this layout the call is not refused, and carries out this plan; the writes of its outcome are then the plan's
pub record Does (L : Layout) (op : Op) (room : ℕ) (p : Plan) : Type 0 where
  pub allowed : refused (ledger_of L) op room ≡ none
  pub enough : no_room L op ≡ false
  pub planned : plan_of L op ≡ some p

-- v bytes of page n, from offset a on, are as they were before the plan's writes
abbrev pub SameBytes : (img : List ℕ) (L : Layout) → Plan → (n a v : ℕ) → Type 0
SameBytes img L p n a v = Agree v (pg (apply (writes_of L p) img) n) a (pg img n) a

-- what a plan leaves that changes the table t at the span at place i; a page is in a list where it is counted there
pub record Stays (img : List ℕ) (L : Layout) (t : Table) (i : ℕ) (p : Plan) : Type 0 where
  -- the superblock but for bytes 16 to 19 and 28 to 31
  pub super_bytes : (a v : ℕ) → Apart a v 16 4 → Apart a v 28 4 → SameBytes img L p 1 a v
  -- the table's skip-list page but for bytes 16 to 27
  pub root_bytes : (a v : ℕ) → Apart a v 16 12 → SameBytes img L p t.root a v
  -- a tower that is not gone, before its entries; the head but for bytes 10 and 11
  pub tower_bytes : (n : ℕ) → 1 ≤ count n (pages_in (towers_of (columns t))) → count n p.gone ≡ 0 → (a v : ℕ) → a + v ≤ 16
      → (count n (t.head.page ∷ []) ≡ 0) ⊎ Apart a v 10 2 → SameBytes img L p n a v
  -- another span that is not gone, but for bytes 8 to 15
  pub span_bytes : (n : ℕ) → 1 ≤ count n (first_pages (spans_of (columns t))) → count n ((span_at t i).page ∷ []) ≡ 0 → count n p.gone ≡ 0
      → (a v : ℕ) → Apart a v 8 8 → SameBytes img L p n a v
  -- another span's continuation pages
  pub cont_bytes : (n : ℕ) → 1 ≤ count n (cont_pages (spans_of (columns t))) → count n p.old ≡ 0 → (a v : ℕ) → SameBytes img L p n a v
  -- a free-list block that is not drawn, before its count
  pub block_bytes : (n : ℕ) → 1 ≤ count n (block_pages L) → count n (drawn_by L p).pages ≡ 0 → (a v : ℕ) → a + v ≤ 12 → SameBytes img L p n a v
  -- a listed page that is not drawn
  pub listed_bytes : (n : ℕ) → 1 ≤ count n (free_pages L.free) → count n (block_pages L) ≡ 0 → count n (drawn_by L p).pages ≡ 0
      → (a v : ℕ) → SameBytes img L p n a v
  -- a page given back, behind its free mark, or behind what a block lists where it becomes one: m is where that ends
  pub given_bytes : (n : ℕ) → 1 ≤ count n (given_by p) → (m : ℕ) → 8 ≤ m → Bounded n m (drawn_by L p).free → (a v : ℕ) → m ≤ a → SameBytes img L p n a v
  -- so a page given back that is listed, and no block, keeps all behind the free mark
  pub freed_bytes : (n : ℕ) → 1 ≤ count n (given_by p) → count n (map (λ b. b.page) (drawn_by L p).free) ≡ 0 → (a v : ℕ) → 8 ≤ a → SameBytes img L p n a v

-- a done call changes one table, and leaves these bytes as they were
unfoldable pub BytesStay : Type 0
BytesStay =
    (img : List ℕ) (L : Layout) (op : Op) (room : ℕ) (p : Plan) → WellFormed img L → Does L op room p
    → (t : Table) × (changed_by L op ≡ t ∷ []) × Stays img L t (place_in op t) p

-- ---- Demand 2: the image after a done call

-- what a done call writes leaves a well-formed image, with the layout that the plan says
unfoldable pub WellAfter : Type 0
WellAfter =
    (img : List ℕ) (L : Layout) (op : Op) (room : ℕ) (p : Plan) → WellFormed img L → Does L op room p
    → WellFormed (apply (writes_of L p) img) (layout_after L p)

-- ---- Request T-06: the superblock keeps the count of free pages

-- a done call leaves it true, whether it was kept before or not: F plus 1 of the layout after the call
unfoldable pub CountKept : Type 0
CountKept =
    (img : List ℕ) (L : Layout) (op : Op) (room : ℕ) (p : Plan) → WellFormed img L → Does L op room p
    → be32 (pg (apply (writes_of L p) img) 1) 28 ≡ free_count (layout_after L p).free + 1

-- ---- Demand 3: room. 10 is answered only where `no_room` is true

-- a put of a record no longer than the one under its key has room
unfoldable pub PutHasRoom : Type 0
PutHasRoom =
    (img : List ℕ) (L : Layout) → WellFormed img L → (n k v old : List ℕ) → find k (map_of (ledger_of L) n) ≡ some old → length v ≤ length old
    → no_room L (put n k v) ≡ false

-- ---- Request T-07: removing always has room, so that row 10 has no case for it

-- taking an entry out never makes the others reach further, page breaks included: the stream of a span ends no later without it,
-- wherever the stream begins
unfoldable pub ReachNoFurther : Type 0
ReachNoFurther = (v : ℕ) (es : List Entry) (e : Entry) (fs : List Entry) → entries_end v (es ++ fs) ≤ entries_end v (es ++ (e ∷ fs))

-- so the pages that a remove wants are never more than the old continuation pages of its span
unfoldable pub RemoveWants : Type 0
RemoveWants =
    (img : List ℕ) (L : Layout) → WellFormed img L → (n k : List ℕ) (p : Plan) → plan_of L (remove n k) ≡ some p → p.wanted ≤ length p.old

-- and none lacks pages, however few are free
unfoldable pub RemoveHasRoom : Type 0
RemoveHasRoom = (img : List ℕ) (L : Layout) → WellFormed img L → (n k : List ℕ) → lacking L (plan_of L (remove n k)) ≡ false

-- ---- Request T-08: the search by towers gives the span that the plain search gives

-- in the metaindex for every name, in a table for every key, in the order of the table's keys
unfoldable pub SameSpan : Type 0
SameSpan =
    (img : List ℕ) (L : Layout) → WellFormed img L
    → ((name : List ℕ) → by_towers name_rule name L.meta ≡ target name_rule name L.meta)
    × ((name : List ℕ) (t : Table) → find name L.tables ≡ some t → (key : List ℕ) → by_towers (key_rule name) key t ≡ target (key_rule name) key t)
