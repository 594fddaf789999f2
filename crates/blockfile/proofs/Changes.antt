-- Put, remove and the free list tried on small tables: layouts after it, and what is written.
use Prim.Native.Nat.{ℕ}
use mathlib.Core.Path.{◌≡◌, refl}
use mathlib.Core.List.{List, [], ◌∷◌, ◌++◌, map}
use mathlib.Core.Bool.{cond, ◌&&◌}
use lib.ListN.{replicate}
use lib.Dec.{eqb}
use lib.Count.{count_trailing_zeros}
use Rattle.blockfile.specs.Bytes.{pg, be16, be32, be64, word16, word32, Write, on, gather}
use Rattle.blockfile.specs.Marks.{super_mark, skip_mark, tower_mark, span_mark, cont_mark, block_mark, free_mark}
use Rattle.blockfile.specs.Layout.{Entry, Span, Table, Block, Layout, lens_start, entry_end, reached, free_count}
use Rattle.blockfile.specs.Order.{name_rule, key_rule}
use Rattle.blockfile.specs.WellFormed.{WellFormed}
use Rattle.blockfile.specs.Free.{draw}
use Rattle.blockfile.specs.Encode.{whole_span, whole_tower, whole_skip_list, counts}
use Rattle.blockfile.specs.Plan.{Plan, layout_after, changes_of, writes_of, lacks}
use Rattle.blockfile.specs.Put.{parts, new_height, target, span_at, wanted_by, share, table_after, relink, rewriting, rewrite, rewrite_plan, put_plan}
use Rattle.blockfile.specs.Remove.{remove_plan, unlink_plan, unlinking}
use Rattle.blockfile.specs.Create.{create_plan, whole_table}
use Rattle.blockfile.specs.Refusals.{Op, get, put, remove, next, create, ledger_of, refused}
use Rattle.blockfile.specs.Answers.{Outcome, outcome_on, on_table}
use Rattle.blockfile.proofs.Tested.{tested}
use Rattle.blockfile.proofs.Samples.{super_page, skip_page, tower_page, span_page, cont_page, entry_bytes, span_of, tower_of, bare, towered, table_of, block_of, small, lens}

-- a metaindex whose one span holds "lens", a table on page root
abbrev meta_of : (root : ℕ) → Table
meta_of r = table_of 2 32 (span_of 3 [] (record { key = lens; value = word32 r } ∷ [])) (tower_of 4 12 0) []

-- a card with this table under "lens"
abbrev card_of : (pages : ℕ) → Table → List Block → Layout
card_of p t fs = record { pages = p; span_size = 32; meta = meta_of t.root; tables = record { key = lens; value = t } ∷ []; free = fs }

-- ---- Three entries over a page break: L5's two, and a third on the continuation page

abbrev two : List Entry
two = record { key = 0x62 ∷ []; value = [] } ∷ record { key = 0x63 ∷ []; value = 7 ∷ 9 ∷ [] } ∷ []

abbrev three : Table
three = table_of 5 32 (span_of 6 (7 ∷ []) (record { key = 0x61 ∷ []; value = replicate 995 1 } ∷ two)) (tower_of 8 3 2) []

abbrev image_of_three : List ℕ
image_of_three =
    super_page 8 0 1 32
    ++ skip_page 3 4 1 1 1 32
    ++ span_page 0 0 0 32 1 (entry_bytes lens (word32 5))
    ++ tower_page 12 0 3 []
    ++ skip_page 6 8 3 1 1 32
    ++ span_page 7 0 0 32 3 (entry_bytes (0x61 ∷ []) (replicate 995 1) ++ (0 ∷ 1 ∷ 0 ∷ 0 ∷ []))
    ++ cont_page 0 (0x62 ∷ entry_bytes (0x63 ∷ []) (7 ∷ 9 ∷ []))
    ++ tower_page 3 2 6 (0 ∷ 0 ∷ [])

well_of_three : WellFormed image_of_three (card_of 8 three [])
unfolding super_mark skip_mark tower_mark span_mark cont_mark block_mark free_mark word32 word16 pg be32 be16 be64 free_count reached lens_start entry_end name_rule key_rule
well_of_three = tested image_of_three (card_of 8 three []) tt

-- the long entry removed: the others fit one page, and the continuation page becomes the first block
shortened : writes_of (card_of 8 three []) (remove_plan (card_of 8 three []) lens three (0x61 ∷ []))
    ≡ on 7 0 (block_mark ++ (word32 0 ++ word32 0))
    ∷ on 1 16 (word32 7)
    ∷ on 6 0 (span_page 0 0 0 32 2 (entry_bytes (0x62 ∷ []) [] ++ entry_bytes (0x63 ∷ []) (7 ∷ 9 ∷ [])))
    ∷ on 5 16 (word32 2 ++ word32 1 ++ word32 1)
    ∷ on 1 28 (word32 2)
    ∷ []
unfolding writes_of changes_of free_count remove_plan rewrite_plan target span_at parts wanted_by share reached lens_start entry_end draw rewrite table_after rewriting relink name_rule key_rule whole_span counts word32 word16 span_mark cont_mark block_mark
shortened = refl

-- ---- Splits on tables of span size 2. A block on page 9 lists 10 and 11

abbrev two_free : List Block
two_free = block_of 9 (10 ∷ 11 ∷ []) ∷ []

abbrev none_listed : List Block
none_listed = block_of 9 [] ∷ []

abbrev a-b : Span
a-b = span_of 6 [] (small 0x61 1 ∷ small 0x62 2 ∷ [])

abbrev puts : Table → (key value : ℕ) → Layout × List Write
puts t k v =
    let L : Layout = card_of 20 t two_free in
    let p : Plan = put_plan L lens t (k ∷ []) (v ∷ []) in (layout_after L p, writes_of L p)

abbrev removes : Table → List Block → (key : ℕ) → Layout × List Write
removes t fs k =
    let L : Layout = card_of 20 t fs in
    let p : Plan = remove_plan L lens t (k ∷ []) in (layout_after L p, writes_of L p)

-- third key: 2 stay, 1 moves; two spans, so a tower of height 1, and the head rises to it
splits : (puts (table_of 5 2 a-b (tower_of 7 12 0) []) 0x63 3).0
    ≡ card_of 20 (table_of 5 2 a-b (tower_of 7 12 1) (towered (span_of 11 [] (small 0x63 3 ∷ [])) (tower_of 10 12 1) ∷ [])) none_listed
unfolding layout_after put_plan rewrite_plan target span_at parts wanted_by share new_height count_trailing_zeros reached lens_start entry_end draw rewrite table_after name_rule key_rule
splits = refl

-- the third span has no tower: m is 3
third : (puts (table_of 5 2 a-b (tower_of 7 12 1) (towered (span_of 12 [] (small 0x63 3 ∷ small 0x64 4 ∷ [])) (tower_of 13 12 1) ∷ [])) 0x65 5).0
    ≡ card_of 20
    (table_of 5 2 a-b (tower_of 7 12 1)
    (towered (span_of 12 [] (small 0x63 3 ∷ small 0x64 4 ∷ [])) (tower_of 13 12 1) ∷ bare (span_of 11 [] (small 0x65 5 ∷ [])) ∷ []))
    (block_of 9 (10 ∷ []) ∷ [])
unfolding layout_after put_plan rewrite_plan target span_at parts wanted_by share new_height count_trailing_zeros reached lens_start entry_end draw rewrite table_after name_rule key_rule
third = refl

-- spans a b | c e | f with towers of height 1 on the second and third
abbrev three_spans : Table
three_spans =
    table_of 5 2 a-b (tower_of 7 12 1)
    (towered (span_of 12 [] (small 0x63 3 ∷ small 0x65 5 ∷ [])) (tower_of 13 12 1) ∷ towered (span_of 14 [] (small 0x66 6 ∷ [])) (tower_of 15 12 1) ∷ [])

-- with "d" put, the fourth span comes between them with a tower of height 2
abbrev four_spans : Table
four_spans =
    table_of 5 2 a-b (tower_of 7 12 2)
    (towered (span_of 12 [] (small 0x63 3 ∷ small 0x64 4 ∷ [])) (tower_of 13 12 1)
    ∷ towered (span_of 11 [] (small 0x65 5 ∷ [])) (tower_of 10 12 2)
    ∷ towered (span_of 14 [] (small 0x66 6 ∷ [])) (tower_of 15 12 1)
    ∷ [])

fourth : puts three_spans 0x64 4
    ≡ (
      card_of 20 four_spans none_listed,
      on 9 12 (word32 1)
          ∷ on 9 12 (word32 0)
          ∷ on 12 0 (span_page 0 6 11 2 2 (entry_bytes (0x63 ∷ []) (3 ∷ []) ++ entry_bytes (0x64 ∷ []) (4 ∷ [])))
          ∷ on 11 0 (span_page 0 12 14 2 1 (entry_bytes (0x65 ∷ []) (5 ∷ [])))
          ∷ on 14 8 (word32 11)
          ∷ on 10 0 (tower_page 12 2 11 (15 ∷ 0 ∷ []))
          ∷ on 13 16 (word32 10)
          ∷ on 7 20 (word32 10)
          ∷ on 7 10 (word16 2)
          ∷ on 5 16 (word32 6 ++ word32 4 ++ word32 4)
          ∷ on 1 28 (word32 2)
          ∷ [],
    )
unfolding layout_after writes_of changes_of free_count put_plan rewrite_plan target span_at parts wanted_by share new_height count_trailing_zeros reached lens_start entry_end draw rewrite table_after rewriting relink name_rule key_rule whole_span whole_tower counts word32 word16 span_mark cont_mark tower_mark
fourth = refl

-- "e" removed again: its span and tower are unlinked and given back; the head's height stays
unlinked : removes four_spans none_listed 0x65
    ≡ (
      card_of 20
          (table_of 5 2 a-b (tower_of 7 12 2)
          (towered (span_of 12 [] (small 0x63 3 ∷ small 0x64 4 ∷ [])) (tower_of 13 12 1) ∷ towered (span_of 14 [] (small 0x66 6 ∷ [])) (tower_of 15 12 1) ∷ []))
          (block_of 9 (11 ∷ 10 ∷ []) ∷ []),
      on 11 0 free_mark
          ∷ on 9 16 (word32 11)
          ∷ on 9 12 (word32 1)
          ∷ on 10 0 free_mark
          ∷ on 9 20 (word32 10)
          ∷ on 9 12 (word32 2)
          ∷ on 12 12 (word32 14)
          ∷ on 14 8 (word32 12)
          ∷ on 13 16 (word32 15)
          ∷ on 7 20 (word32 0)
          ∷ on 5 16 (word32 5 ++ word32 3 ++ word32 3)
          ∷ on 1 28 (word32 4)
          ∷ [],
    )
unfolding layout_after writes_of changes_of free_count remove_plan unlink_plan unlinking relink target span_at draw name_rule key_rule counts word32
unlinked = refl

-- a key present in a full span has its value replaced, here by an equal one: no split, and the span is written whole
replaced : puts three_spans 0x65 5
    ≡ (
      card_of 20 three_spans two_free,
      on 12 0 (span_page 0 6 14 2 2 (entry_bytes (0x63 ∷ []) (3 ∷ []) ++ entry_bytes (0x65 ∷ []) (5 ∷ [])))
          ∷ on 5 16 (word32 5 ++ word32 3 ++ word32 3)
          ∷ on 1 28 (word32 4)
          ∷ [],
    )
unfolding layout_after writes_of changes_of free_count put_plan rewrite_plan target span_at parts wanted_by share reached lens_start entry_end draw rewrite table_after rewriting relink name_rule key_rule whole_span counts word32 word16 span_mark cont_mark
replaced = refl

-- old continuation pages come first: that of the span which is split becomes the new span's page
abbrev long_c : Entry
long_c = record { key = 0x63 ∷ []; value = replicate 1500 0 }

reused : (puts (table_of 5 2 (span_of 6 (8 ∷ []) (small 0x61 1 ∷ long_c ∷ [])) (tower_of 7 12 0) []) 0x62 2).0
    ≡ card_of 20 (table_of 5 2 a-b (tower_of 7 12 1) (towered (span_of 8 (11 ∷ []) (long_c ∷ [])) (tower_of 10 12 1) ∷ [])) none_listed
unfolding layout_after put_plan rewrite_plan target span_at parts wanted_by share new_height count_trailing_zeros reached lens_start entry_end draw rewrite table_after name_rule key_rule
reused = refl

-- the first span left empty stays, and its continuation page is given back
emptied : removes (table_of 5 2 (span_of 6 (8 ∷ []) (long_c ∷ [])) (tower_of 7 12 2) []) none_listed 0x63
    ≡ (
      card_of 20 (table_of 5 2 (span_of 6 [] []) (tower_of 7 12 2) []) (block_of 9 (8 ∷ []) ∷ []),
      on 8 0 free_mark
          ∷ on 9 16 (word32 8)
          ∷ on 9 12 (word32 1)
          ∷ on 6 0 (span_page 0 0 0 2 0 [])
          ∷ on 5 16 (word32 0 ++ word32 1 ++ word32 1)
          ∷ on 1 28 (word32 3)
          ∷ [],
    )
unfolding layout_after writes_of changes_of free_count remove_plan rewrite_plan target span_at parts wanted_by share reached lens_start entry_end draw rewrite table_after rewriting relink name_rule key_rule whole_span counts word32 word16 span_mark cont_mark
emptied = refl

-- a span that goes: its continuation page is given back, then the span, then its tower
given-in-turn : (removes (table_of 5 2 a-b (tower_of 7 12 1) (towered (span_of 12 (8 ∷ []) (long_c ∷ [])) (tower_of 13 12 1) ∷ [])) none_listed 0x63).0
    ≡ card_of 20 (table_of 5 2 a-b (tower_of 7 12 1) []) (block_of 9 (8 ∷ 12 ∷ 13 ∷ []) ∷ [])
unfolding layout_after remove_plan unlink_plan unlinking relink target span_at draw name_rule key_rule
given-in-turn = refl

-- a key below the second span's first belongs to an empty first span
targets : map (λ k. target (key_rule lens) (k ∷ []) (table_of 5 2 (span_of 6 [] []) (tower_of 7 12 1) three_spans.rest)) (0x61 ∷ 0x63 ∷ 0x64 ∷ 0x7a ∷ [])
    ≡ 0 ∷ 1 ∷ 1 ∷ 2 ∷ []
unfolding target key_rule
targets = refl

-- ---- The free list

-- taking: the last listed page first; goes on past a block that lists nothing, to the block itself and then to its next
takes : draw [] 3 [] (block_of 9 [] ∷ block_of 4 (2 ∷ 3 ∷ []) ∷ [])
    ≡ record {
      pages = 9 ∷ 3 ∷ 2 ∷ [];
      free = block_of 4 [] ∷ [];
      writes = on 1 16 (word32 4) ∷ on 4 12 (word32 1) ∷ on 4 12 (word32 0) ∷ [];
    }
unfolding draw
takes = refl

-- what is left over goes back in chain order, then the pages gone. A page given to a full block becomes the first block, and
-- lists the next
gives : draw (4 ∷ 5 ∷ 6 ∷ []) 1 (7 ∷ []) (block_of 9 (replicate 252 1) ∷ [])
    ≡ record {
      pages = 4 ∷ [];
      free = block_of 5 (6 ∷ 7 ∷ []) ∷ block_of 9 (replicate 252 1) ∷ [];
      writes = on 5 0 (block_mark ++ (word32 9 ++ word32 0))
          ∷ on 1 16 (word32 5)
          ∷ on 6 0 free_mark
          ∷ on 5 16 (word32 6)
          ∷ on 5 12 (word32 1)
          ∷ on 7 0 free_mark
          ∷ on 5 20 (word32 7)
          ∷ on 5 12 (word32 2)
          ∷ [];
    }
unfolding draw
gives = refl

-- where there is no block at all the page becomes one
gives_first : draw (5 ∷ []) 0 [] []
    ≡ record { pages = []; free = block_of 5 [] ∷ []; writes = on 5 0 (block_mark ++ (word32 0 ++ word32 0)) ∷ on 1 16 (word32 5) ∷ [] }
unfolding draw
gives_first = refl

-- ---- Refusals, the lowest first, and the count of free pages, on the card of the three entries. Each row: the call and the answer
-- buffer's length; the free list; the number and the length of the answer, and the count that is written, if any is

abbrev Row : Type 0
Row = Op × ℕ × List Block × (ℕ × ℕ × List ℕ)

-- what is written at byte 28 of page 1
abbrev counts_in : List Write → List ℕ
counts_in ws = gather (λ (w : Write). cond (eqb w.page 1 && eqb w.offset 28) (be32 w.bytes 0 ∷ []) []) ws

abbrev said : Row → ℕ × ℕ × List ℕ
said r =
    let o : Outcome = outcome_on (card_of 8 three r.2) r.0 r.1 in
    (o.reply.number, o.reply.len, counts_in o.writes)

abbrev rows : List Row
rows =
    (get lens (0x63 ∷ []), 2, [], (0, 2, []))
    ∷ (get lens (0x63 ∷ []), 1, [], (9, 2, []))
    ∷ (get lens (0x62 ∷ []), 0, [], (0, 0, []))
    ∷ (get lens (0x64 ∷ []), 0, [], (8, 0, []))
    ∷ (get (0x78 ∷ []) (0x64 ∷ []), 0, [], (6, 0, []))
    ∷ (get (0x20 ∷ []) (0x64 ∷ []), 0, [], (4, 0, []))
    ∷ (get lens [], 0, [], (4, 0, []))
    ∷ (next lens [], 1, [], (0, 1, []))
    ∷ (next lens (0x62 ∷ []), 0, [], (9, 1, []))
    ∷ (next lens (0x63 ∷ []), 0, [], (8, 0, []))
    ∷ (next (0x78 ∷ []) [], 0, [], (6, 0, []))
    ∷ (put (0x78 ∷ []) [] (replicate 65536 0), 0, [], (4, 0, []))
    ∷ (put (0x78 ∷ []) (0x64 ∷ []) (replicate 65536 0), 0, [], (5, 0, []))
    ∷ (put (0x78 ∷ []) (0x64 ∷ []) [], 0, [], (6, 0, []))
    -- a value replaced
    ∷ (put lens (0x63 ∷ []) [], 0, [], (0, 0, 1 ∷ []))
    ∷ (put lens (0x63 ∷ []) [], 0, block_of 9 (10 ∷ []) ∷ [], (0, 0, 3 ∷ []))
    ∷ (put lens (0x64 ∷ []) (replicate 1000 0), 0, [], (0, 0, 1 ∷ []))
    ∷ (put lens (0x64 ∷ []) (replicate 1004 0), 0, [], (10, 0, []))
    -- no page listed, and a block left
    ∷ (put lens (0x64 ∷ []) (replicate 1004 0), 0, block_of 9 [] ∷ [], (0, 0, 1 ∷ []))
    ∷ (remove lens (0x64 ∷ []), 0, [], (8, 0, []))
    -- with no free page, before, over and behind the page break
    ∷ (remove lens (0x61 ∷ []), 0, [], (0, 0, 2 ∷ []))
    ∷ (remove lens (0x62 ∷ []), 0, [], (0, 0, 1 ∷ []))
    ∷ (remove lens (0x63 ∷ []), 0, [], (0, 0, 1 ∷ []))
    ∷ (create lens, 0, [], (7, 0, []))
    ∷ (create (0x78 ∷ []), 0, block_of 9 (10 ∷ []) ∷ [], (10, 0, []))
    ∷ (create (0x78 ∷ []), 0, block_of 9 (10 ∷ 11 ∷ []) ∷ [], (0, 0, 1 ∷ []))
    ∷ []

answers : map said rows ≡ map (λ (r : Row). r.3) rows
unfolding outcome_on on_table ledger_of refused free_count lacks writes_of changes_of put_plan remove_plan create_plan rewrite_plan target span_at parts wanted_by share reached lens_start entry_end draw rewrite table_after rewriting relink name_rule key_rule whole_span whole_tower whole_skip_list whole_table counts be16 be32 word32 span_mark cont_mark
answers = refl
