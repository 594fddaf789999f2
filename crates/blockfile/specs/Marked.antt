-- Document 01's marked examples L1 to S1: one table, one claim.
use Rattle.std.specs.Prelude.{ℕ, ◌+◌, ◌*◌, ◌-◌, ◌≡◌, List, [], ◌∷◌, map, Bool, cond, length, replicate}
use Rattle.blockfile.specs.Layout.{Entry, Table, page_of, offset_of, entries_from, lens_start, entries_end, reached}
use Rattle.blockfile.specs.Order.{bytes_below}
use Rattle.blockfile.specs.Put.{parts, new_height}

-- an entry as (key length, value length)
abbrev pub sized : (key value : ℕ) → Entry
sized k v = record { key = replicate k 0x61; value = replicate v 0 }

abbrev pub one : (key value : ℕ) → List Entry
one k v = sized k v ∷ []

-- continuation pages of these entries
abbrev pub conts : List Entry → ℕ
conts es = reached es - 1

-- the offset where these entries end on their last page, 1024 if that page is full
abbrev pub ends_at : List Entry → ℕ
ends_at es = 8 + (entries_end entries_from es - 1016 * conts es)

-- where the lengths of the second entry lie, after a first of (1, v)
abbrev pub second : ℕ → ℕ
second v = lens_start (entries_end entries_from (one 1 v))

abbrev pub one_if : Bool → ℕ
one_if b = cond b 1 0

-- a table of span size 2, and its span's entries with a third key joined
abbrev pub full : Table
full =
    record {
      root = 5;
      span_size = 2;
      first = record { page = 6; conts = []; entries = sized 1 0 ∷ sized 2 0 ∷ [] };
      head = record { page = 7; max_height = 12; height = 0 };
      rest = [];
    }

abbrev pub with_third : List Entry
with_third = sized 1 0 ∷ sized 2 0 ∷ sized 3 0 ∷ []

-- what the definitions give, beside what the document says
abbrev pub Row : Type 0
Row = List ℕ × List ℕ

abbrev pub examples : List Row
examples =
    -- L1 none: 0 continuation pages
    (conts [] ∷ [], 0 ∷ [])
    -- L2 (1,999): 0, page full
    ∷ (conts (one 1 999) ∷ ends_at (one 1 999) ∷ [], 0 ∷ 1024 ∷ [])
    -- L3 (1,1000): 1
    ∷ (conts (one 1 1000) ∷ [], 1 ∷ [])
    -- L4 (1,996),(1,0): second's lengths at offset 8 of the continuation
    ∷ (page_of (second 996) ∷ offset_of (second 996) ∷ [], 1 ∷ 8 ∷ [])
    -- L5 (1,995),(1,0): second's lengths at 1020–1023, its key at offset 8
    ∷ (
      page_of (second 995) ∷ offset_of (second 995) ∷ offset_of (second 995 + 3) ∷ page_of (second 995 + 4) ∷ offset_of (second 995 + 4) ∷ [],
      0 ∷ 1020 ∷ 1023 ∷ 1 ∷ 8 ∷ [],
    )
    -- L6 (1,2015): 1, full
    ∷ (conts (one 1 2015) ∷ ends_at (one 1 2015) ∷ [], 1 ∷ 1024 ∷ [])
    -- L7 (1,2016): 2
    ∷ (conts (one 1 2016) ∷ [], 2 ∷ [])
    -- H1 2→1
    ∷ (new_height 2 12 ∷ [], 1 ∷ [])
    -- H2 3→0
    ∷ (new_height 3 12 ∷ [], 0 ∷ [])
    -- H3 4096→12
    ∷ (new_height 4096 12 ∷ [], 12 ∷ [])
    -- H4 16 with head max 3→3
    ∷ (new_height 16 3 ∷ [], 3 ∷ [])
    -- K1 "cam" below "cam1"
    ∷ (one_if (bytes_below (0x63 ∷ 0x61 ∷ 0x6d ∷ []) (0x63 ∷ 0x61 ∷ 0x6d ∷ 0x31 ∷ [])) ∷ [], 1 ∷ [])
    -- K2 byte 7f below byte 80
    ∷ (one_if (bytes_below (0x7f ∷ []) (0x80 ∷ [])) ∷ [], 1 ∷ [])
    -- S1 span size 2, third key: 2 stay, 1 moves
    ∷ (length (parts full with_third).stay ∷ length (parts full with_third).move ∷ [], 2 ∷ 1 ∷ [])
    ∷ []

-- L1 to S1: all rows agree
unfoldable pub MarkedExamples : Type 0
MarkedExamples = map (λ (r : Row). r.0) examples ≡ map (λ (r : Row). r.1) examples
