-- Put: the target span, a value replaced, a key joined, a split.
use Rattle.std.specs.Prelude.{ℕ, zero, suc, ◌+◌, ◌*◌, ◌-◌, ◌/◌, min, max, List, [], ◌∷◌, ◌++◌, map, Bool, false, not, cond, length, get_or, take, drop, ltb}
use Rattle.std.proofs.Math.Option.{Option, none, some}
use Rattle.std.specs.Int.Count.{count_trailing_zeros}
use Rattle.blockfile.specs.Bytes.{Write, on, word16, word32, gather, from}
use Rattle.blockfile.specs.Layout.{Entry, Span, Tower, Column, Table, Layout, columns, spans_of, towers_of, reached}
use Rattle.blockfile.specs.Order.{KeyRule, name_rule, key_rule, insert}
use Rattle.blockfile.specs.Fields.{LinkedSpan}
use Rattle.blockfile.specs.WellFormed.{next_at, link_towers, spans_in, skip_list_of}
use Rattle.blockfile.specs.Encode.{whole_span, whole_tower, counts}
use Rattle.blockfile.specs.Plan.{Plan}

-- ---- Target span: the last non-empty span whose first key is not above the key; if none, the first span

abbrev pub begins : KeyRule → (key : List ℕ) → List Entry → Bool
begins r k [] = false
begins r k (e ∷ es) = not (r.below k e.key)

-- the place of the last such span, the spans being at the places from i on; found if there is none
abbrev pub last_place : KeyRule → (key : List ℕ) (found i : ℕ) → List Span → ℕ
last_place r k found i [] = found
last_place r k found i (s ∷ ss) = last_place r k (cond (begins r k s.entries) i found) (suc i) ss

unfoldable pub target : KeyRule → (key : List ℕ) → Table → ℕ
target r k t = last_place r k 0 0 (spans_of (columns t))

-- the span at place i
unfoldable pub span_at : Table → ℕ → Span
span_at t i = get_or (spans_of (columns t)) i t.first

-- ---- Split

-- the height of a new tower: the trailing zero bits of m, at most the head's max height. The code counts them in 32 bits;
-- m is a number of spans, so at most 4,096, and any width that holds it gives the same
unfoldable pub new_height : (m most : ℕ) → ℕ
new_height m most = min (count_trailing_zeros 32 m) most

-- the entries that stay, those that move to a new span, and the height of its tower, 0 for no tower; with no split none move
pub record Parts : Type 0 where
  pub stay : List Entry
  pub move : List Entry
  pub height : ℕ

-- es are the span's entries, the new one counted. More than max keys: of the n entries the lower n/2 rounded up stay, the rest
-- form a new span; m is the table's spans after the split
unfoldable pub parts : Table → (es : List Entry) → Parts
parts t es =
    cond (ltb t.span_size (length es))
    (record {
      stay = take ((length es + 1) / 2) es;
      move = drop ((length es + 1) / 2) es;
      height = new_height (length (columns t) + 1) t.head.max_height;
    })
    (record { stay = es; move = []; height = 0 })

-- ---- Pages wanted, in this order: the span's continuation pages; on a split the new span, its continuation pages, its tower

abbrev pub conts_wanted : Parts → ℕ
conts_wanted p = reached p.stay - 1

-- the new span with its continuation pages; no page where no entry moves
abbrev pub span_wanted : (move : List Entry) → ℕ
span_wanted [] = 0
span_wanted (e ∷ es) = reached (e ∷ es)

abbrev pub tower_wanted : Parts → ℕ
tower_wanted p = min 1 p.height

unfoldable pub wanted_by : Parts → ℕ
wanted_by p = conts_wanted p + span_wanted p.move + tower_wanted p

-- the pages drawn, shared out in that order
pub record Shared : Type 0 where
  pub conts : List ℕ
  pub span : List ℕ
  pub tower : List ℕ

unfoldable pub share : Parts → (drawn : List ℕ) → Shared
share p ps =
    record {
      conts = take (conts_wanted p) ps;
      span = take (span_wanted p.move) (drop (conts_wanted p) ps);
      tower = take (tower_wanted p) (drop (conts_wanted p + span_wanted p.move) ps);
    }

-- ---- The table after the call

-- the new tower; its max height is the head's
abbrev pub new_tower : Table → Parts → (page : List ℕ) → Option Tower
new_tower t p [] = none
new_tower t p (n ∷ ns) = some (record { page = n; max_height = t.head.max_height; height = p.height })

-- the new span with its tower, on a split
abbrev pub new_column : Table → Parts → (span tower : List ℕ) → List Column
new_column t p [] ns = []
new_column t p (q ∷ qs) ns = record { span = record { page = q; conts = qs; entries = p.move }; tower = new_tower t p ns } ∷ []

abbrev pub new_columns : Table → Parts → Shared → List Column
new_columns t p s = new_column t p s.span s.tower

abbrev pub set_span : ℕ → Span → List Column → List Column
set_span i s [] = []
set_span zero s (c ∷ cs) = record { span = s; tower = c.tower } ∷ cs
set_span (suc i) s (c ∷ cs) = c ∷ set_span i s cs

-- the span at place i becomes s
abbrev pub with_span : (i : ℕ) → Span → Table → Table
with_span zero s t = record { root = t.root; span_size = t.span_size; first = s; head = t.head; rest = t.rest }
with_span (suc i) s t = record { root = t.root; span_size = t.span_size; first = t.first; head = t.head; rest = set_span i s t.rest }

-- the columns cs come directly after place i, which is behind the first i of the other columns; the head's current rises to h
-- if lower
abbrev pub with_columns : (i : ℕ) → List Column → (h : ℕ) → Table → Table
with_columns i cs h t =
    record {
      root = t.root;
      span_size = t.span_size;
      first = t.first;
      head = record { page = t.head.page; max_height = t.head.max_height; height = max t.head.height h };
      rest = take i t.rest ++ (cs ++ drop i t.rest);
    }

unfoldable pub table_after : Table → (i : ℕ) → Parts → Shared → Table
table_after t i p s =
    with_columns i (new_columns t p s) p.height
    (with_span i (record { page = (span_at t i).page; conts = s.conts; entries = p.stay }) t)

-- ---- What is written, from the table after the call

abbrev pub prev_link : LinkedSpan → Write
prev_link x = on x.span.page 8 (word32 x.prev)

abbrev pub next_link : LinkedSpan → Write
next_link x = on x.span.page 12 (word32 x.next)

abbrev pub counts_on : Table → Write
counts_on t = on t.root 16 (counts (skip_list_of t))

-- the last of these towers whose current is above i; p if none is
abbrev pub last_at : (i p : ℕ) → List Tower → ℕ
last_at i p [] = p
last_at i p (t ∷ ts) = last_at i (cond (ltb i t.height) t.page p) ts

-- at each level below h, the last tower before place j whose current is above it points to the next such tower from place j on
unfoldable pub relink : (after : Table) (j h : ℕ) → List Write
relink after j h =
    map
    (λ i. on (last_at i after.head.page (towers_of (take j (columns after)))) (16 + 4 * i) (word32 (next_at i (towers_of (drop j (columns after))))))
    (from 0 h)

-- the head's current height, where it rises
abbrev pub raise : (before after : Tower) → List Write
raise before after = cond (ltb before.height after.height) (on after.page 10 (word16 after.height) ∷ []) []

-- the span at place i whole, and the n new ones behind it; the previous link of the one that follows a new one; the new tower
-- of height h whole, and the links to it at its levels; the head's current height; the counts. n is 1 on a split, else 0
unfoldable pub rewriting : (before : Table) (i n h : ℕ) (after : Table) → List Write
rewriting before i n h after =
    gather whole_span (take (1 + n) (drop i (spans_in after)))
    ++ (map prev_link (take n (drop (i + 2) (spans_in after)))
    ++ (gather whole_tower (take (min 1 h) (link_towers (drop (i + 1) (columns after))))
    ++ (relink after (i + 1) h ++ (raise before.head after.head ++ (counts_on after ∷ [])))))

-- ---- The plan

pub record Edited : Type 0 where
  pub after : Table
  pub writes : List Write

-- the span at place i of t gets the entries es
unfoldable pub rewrite : Table → (i : ℕ) (es : List Entry) (drawn : List ℕ) → Edited
rewrite t i es ps =
    let p : Parts = parts t es in
    let s : Shared = share p ps in
    let a : Table = table_after t i p s in
    record { after = a; writes = rewriting t i (length (new_columns t p s)) p.height a }

-- the table t of this name has its span at place i rewritten
unfoldable pub rewrite_plan : Layout → (name : List ℕ) → Table → (i : ℕ) (es : List Entry) → Plan
rewrite_plan L name t i es =
    record {
      old = (span_at t i).conts;
      wanted = wanted_by (parts t es);
      gone = [];
      make = λ ps.
          let e : Edited = rewrite t i es ps in
          record { meta = L.meta; tables = insert name_rule name e.after L.tables; writes = e.writes };
    }

-- A key present has its value replaced; a new key joins its target
unfoldable pub put_plan : Layout → (name : List ℕ) → Table → (key value : List ℕ) → Plan
put_plan L name t key value =
    let i : ℕ = target (key_rule name) key t in
    rewrite_plan L name t i (insert (key_rule name) key value (span_at t i).entries)
