-- Rejection: a well-formed image is changed so that it breaks a rule of "Well-formed", rule by rule, and is rejected.
use Prim.Native.Nat.{ℕ, ◌*◌, ◌/◌, ◌%◌, ◌≤◌}
use native.Mathlib.Omega.{arith}
use mathlib.Core.Path.{◌≡◌, refl, sym, subst}
use mathlib.Core.List.{List, [], ◌∷◌, ◌++◌, map}
use mathlib.Core.Bool.{true, false}
use lib.ListN.{length, replicate}
use lib.Dec.{T, leb, eqb, le→leb}
use Rattle.blockfile.specs.Bytes.{pg, be16, be32, be64, word16, word32, Write, on, Every, gather}
use Rattle.blockfile.specs.Marks.{super_mark, skip_mark, tower_mark, span_mark, cont_mark, block_mark, free_mark}
use Rattle.blockfile.specs.Layout.{Block, lens_start, entry_end, reached, free_count}
use Rattle.blockfile.specs.Order.{Within, within, name_rule, key_rule}
use Rattle.blockfile.specs.WellFormed.{Piece, Bears, first_block, free_pieces, table_pieces, Accepted, Rejected}
use Rattle.blockfile.specs.Calls.{length_ok}
use Rattle.blockfile.proofs.Tested.{names_rule, kept_rule, once_rule, super_rule, skip_rule, tower_rule, span_rule, block_rule, free_rule, span_size_rule, size_rule, filled_rule, reach_rule, allowed_rule, rising_rule, height_rule, other_rule, t_every, t_eq}
use Rattle.blockfile.proofs.Samples.{super_page, skip_page, tower_page, span_page, block_page, free_page, entry_bytes, least, minus_one, nought, greatest, lens}
use Rattle.blockfile.proofs.Reading.{Full}
use Rattle.blockfile.proofs.Bools.{both-and}
use Rattle.blockfile.proofs.Every.{every-right}
use Rattle.blockfile.proofs.Altered.{Row, image_of, Rejections, rejections, acceptances}

-- ---- The image that is changed: 18 pages

abbrev pages : List (List ℕ)
pages =
    super_page 18 13 0 32
    -- the metaindex: "b" and "lens"
    ∷ skip_page 3 4 2 1 1 32
    ∷ span_page 0 0 0 32 2 (entry_bytes (0x62 ∷ []) (word32 16) ++ entry_bytes lens (word32 5))
    ∷ tower_page 12 0 3 []
    -- "lens": spans a b | c | d e on pages 6, 9, 11, the second and third with towers of height 1 and 2
    ∷ skip_page 6 7 5 3 3 2
    ∷ span_page 0 0 9 2 2 (entry_bytes (0x61 ∷ []) (1 ∷ []) ++ entry_bytes (0x62 ∷ []) (2 ∷ []))
    ∷ tower_page 12 2 6 (10 ∷ 12 ∷ [])
    ∷ free_page
    ∷ span_page 0 6 11 2 1 (entry_bytes (0x63 ∷ []) (3 ∷ []))
    ∷ tower_page 12 1 9 (12 ∷ [])
    ∷ span_page 0 9 0 2 2 (entry_bytes (0x64 ∷ []) (4 ∷ []) ++ entry_bytes (0x65 ∷ []) (5 ∷ []))
    ∷ tower_page 3 2 11 (0 ∷ 0 ∷ [])
    -- the free list: two blocks, the first listing 15 and 8
    ∷ block_page 14 (15 ∷ 8 ∷ [])
    ∷ block_page 0 []
    ∷ free_page
    -- "b": no entries
    ∷ skip_page 17 18 0 1 1 2
    ∷ span_page 0 0 0 2 0 []
    ∷ tower_page 1 0 17 []
    ∷ []

full : Full pages
unfolding super_mark skip_mark tower_mark span_mark cont_mark block_mark free_mark word32 word16
full = (t_every (λ p. t_eq (length p) 1024) pages).sound tt

-- page 8 made a continuation page of the first span of "lens", whose entries become L5's
abbrev with_cont : List Write
with_cont =
    on 6 4 (word32 8)
    ∷ on 6 20 (entry_bytes (0x61 ∷ []) (replicate 995 1) ++ (0 ∷ 1 ∷ 0 ∷ 0 ∷ []))
    ∷ on 8 0 (cont_mark ++ word32 0 ++ (0x62 ∷ []))
    ∷ on 13 12 (word32 1)
    ∷ []

-- the second tower of "lens" taken out and its page given back
abbrev without_tower : List Write
without_tower = on 7 16 (word32 12) ∷ on 5 24 (word32 2) ∷ on 10 0 free_mark ∷ on 14 12 (word32 1 ++ word32 10) ∷ []

-- ---- Superblock

abbrev superblock_rows : List Row
superblock_rows =
    -- mark
    (on 1 0 (0x30 ∷ []) ∷ [], super_rule ∷ [])
    -- major 1
    ∷ (on 1 6 (0x02 ∷ []) ∷ [], super_rule ∷ [])
    -- minor 2
    ∷ (on 1 7 (0x01 ∷ []) ∷ [], super_rule ∷ [])
    -- file length = 1024·P
    ∷ (on 1 12 (word32 17408) ∷ [], super_rule ∷ [])
    -- first free-list page: 1 to P, or 0
    ∷ (on 1 16 (word32 19) ∷ [], block_rule ∷ once_rule ∷ [])
    -- mounted, 0 or 1
    ∷ (on 1 20 (word16 2) ∷ [], super_rule ∷ [])
    -- span size, 2 to 128
    ∷ (on 1 22 (word16 1) ∷ [], span_size_rule ∷ [])
    ∷ (on 1 22 (word16 129) ∷ [], span_size_rule ∷ [])
    -- page size 1024
    ∷ (on 1 24 (word32 512) ∷ [], super_rule ∷ [])
    -- the count of free pages, 0 or F plus 1: F, one more than the true figure, that of a full card, the true one with a bit of the
    -- upper half, the largest number; the true one of before, where F has changed
    ∷ (on 1 28 (word32 4) ∷ [], kept_rule ∷ [])
    ∷ (on 1 28 (word32 6) ∷ [], kept_rule ∷ [])
    ∷ (on 1 28 (word32 1) ∷ [], kept_rule ∷ [])
    ∷ (on 1 28 (word32 65541) ∷ [], kept_rule ∷ [])
    ∷ (on 1 28 (word32 4294967295) ∷ [], kept_rule ∷ [])
    ∷ ((on 1 28 (word32 5) ∷ without_tower), kept_rule ∷ [])
    ∷ []

-- ---- Page 2 is the metaindex's skip-list page

abbrev meta_rows : List Row
meta_rows =
    -- the mark of a skip list
    (on 2 0 (0x00 ∷ []) ∷ [], skip_rule ∷ [])
    -- the rules for a table hold for the metaindex too: counts, max keys, the head's span
    ∷ (on 2 16 (word32 3) ∷ [], skip_rule ∷ [])
    ∷ (on 3 16 (word16 31) ∷ [], span_rule ∷ [])
    ∷ (on 4 12 (word32 6) ∷ [], tower_rule ∷ [])
    -- table names, 1 to 255 bytes
    ∷ (on 3 20 (entry_bytes [] (word32 16) ++ entry_bytes lens (word32 5)) ∷ [], allowed_rule ∷ [])
    ∷ (on 3 29 (entry_bytes (replicate 256 0x63) (word32 5)) ∷ [], allowed_rule ∷ [])
    -- of 21 to 7e hex
    ∷ (on 3 24 (0x20 ∷ []) ∷ [], allowed_rule ∷ [])
    ∷ (on 3 33 (0x7f ∷ []) ∷ [], allowed_rule ∷ [])
    -- each value is four bytes
    ∷ (on 3 29 (entry_bytes lens (word32 5 ++ (0x00 ∷ []))) ∷ [], names_rule ∷ [])
    -- the table's skip-list page: 1 to P
    ∷ (on 3 25 (word32 0) ∷ [], span_size_rule ∷ height_rule ∷ skip_rule ∷ span_rule ∷ tower_rule ∷ once_rule ∷ [])
    ∷ (on 3 25 (word32 19) ∷ [], span_size_rule ∷ height_rule ∷ skip_rule ∷ span_rule ∷ tower_rule ∷ once_rule ∷ [])
    -- two names do not share one skip list; none has the metaindex's
    ∷ (on 3 25 (word32 5) ∷ [], once_rule ∷ [])
    ∷ (on 3 25 (word32 2) ∷ [], once_rule ∷ [])
    ∷ []

-- ---- Spans of a table

abbrev span_rows : List Row
span_rows =
    -- mark of a span; of a continuation
    (on 9 0 (0x00 ∷ []) ∷ [], span_rule ∷ [])
    ∷ (with_cont ++ (on 8 0 (0x00 ∷ []) ∷ []), span_rule ∷ [])
    -- first span: 1 to P
    ∷ (on 5 8 (word32 0) ∷ [], skip_rule ∷ span_rule ∷ tower_rule ∷ once_rule ∷ [])
    -- linked from the first by next: 1 to P, or 0
    ∷ (on 9 12 (word32 0) ∷ [], skip_rule ∷ tower_rule ∷ tower_rule ∷ once_rule ∷ [])
    ∷ (on 9 12 (word32 19) ∷ [], filled_rule ∷ skip_rule ∷ span_rule ∷ tower_rule ∷ tower_rule ∷ once_rule ∷ [])
    -- previous links agree
    ∷ (on 11 8 (word32 6) ∷ [], span_rule ∷ [])
    -- ends are 0: the first's previous; the last's next, in a ring
    ∷ (on 6 8 (word32 11) ∷ [], span_rule ∷ [])
    ∷ (on 11 12 (word32 6) ∷ [], rising_rule ∷ skip_rule ∷ span_rule ∷ span_rule ∷ span_rule ∷ span_rule ∷ span_rule ∷ span_rule ∷ once_rule ∷ [])
    -- max keys equals the table's span size
    ∷ (on 9 16 (word16 3) ∷ [], span_rule ∷ [])
    -- 2 to 128
    ∷ (on 16 28 (word16 1) ∷ on 17 16 (word16 1) ∷ [], span_size_rule ∷ [])
    ∷ (on 16 28 (word16 129) ∷ on 17 16 (word16 129) ∷ [], span_size_rule ∷ [])
    -- size at most max keys
    ∷ (on 9 18 (word16 3 ++ entry_bytes (0x63 ∷ []) [] ++ entry_bytes (0x63 ∷ 0x01 ∷ []) [] ++ entry_bytes (0x63 ∷ 0x02 ∷ []) []) ∷ on 5 16 (word32 7) ∷ [], size_rule ∷ [])
    -- only the first span may be empty
    ∷ (on 9 18 (word16 0) ∷ on 5 16 (word32 4) ∷ [], filled_rule ∷ [])
    -- exactly as many continuation pages as its entries reach: one more, one less
    ∷ (on 9 4 (word32 8) ∷ on 8 0 (cont_mark ++ word32 0) ∷ on 13 12 (word32 1) ∷ [], reach_rule ∷ [])
    ∷ (with_cont ++ (on 6 4 (word32 0) ∷ on 8 0 free_mark ∷ on 13 12 (word32 2) ∷ []), allowed_rule ∷ rising_rule ∷ span_rule ∷ [])
    -- next continuation or 0: a ring
    ∷ (with_cont ++ (on 8 4 (word32 8) ∷ []), reach_rule ∷ span_rule ∷ once_rule ∷ [])
    -- the four length bytes lie on one page
    ∷ (with_cont ++ (on 6 22 (word16 996) ∷ on 6 1021 (0x00 ∷ 0x01 ∷ 0x00 ∷ []) ∷ on 8 8 (0x00 ∷ 0x62 ∷ []) ∷ []), rising_rule ∷ [])
    -- entries from 20, not from 24
    ∷ (on 9 20 (word32 0 ++ entry_bytes (0x63 ∷ []) (0x03 ∷ [])) ∷ [], allowed_rule ∷ rising_rule ∷ [])
    ∷ []

-- ---- Keys increase strictly through the whole table

abbrev key_rows : List Row
key_rows =
    -- in a span
    (on 11 30 (0x64 ∷ []) ∷ [], rising_rule ∷ [])
    -- from span to span
    ∷ (on 9 24 (0x64 ∷ []) ∷ [], rising_rule ∷ [])
    -- of the metaindex
    ∷ (on 3 24 (0x7a ∷ []) ∷ [], rising_rule ∷ [])
    -- a proper prefix first
    ∷ (on 11 20 (entry_bytes (0x64 ∷ 0x64 ∷ []) [] ++ entry_bytes (0x64 ∷ []) []) ∷ [], rising_rule ∷ [])
    -- by unsigned bytes
    ∷ (on 11 24 (0x80 ∷ []) ∷ on 11 30 (0x7f ∷ []) ∷ [], rising_rule ∷ [])
    -- a key is not empty
    ∷ (on 16 16 (word32 1) ∷ on 17 18 (word16 1 ++ entry_bytes [] (0x01 ∷ [])) ∷ [], allowed_rule ∷ [])
    ∷ []

-- ---- Keys of an offset table: exactly four bytes, rising as numbers (request T-05)

-- the table "b" gets a name of this byte and two entries of these keys
abbrev with_keys : (name : ℕ) (k l : List ℕ) → List Write
with_keys n k l = on 3 24 (n ∷ []) ∷ on 16 16 (word32 2) ∷ on 17 18 (word16 2 ++ entry_bytes k [] ++ entry_bytes l []) ∷ []

abbrev offset_rows : List Row
offset_rows =
    -- by bytes, where the numbers fall
    (with_keys 0x23 nought minus_one, rising_rule ∷ [])
    ∷ (with_keys 0x23 greatest least, rising_rule ∷ [])
    -- the same number twice
    ∷ (with_keys 0x23 minus_one minus_one, rising_rule ∷ [])
    -- three bytes, five bytes
    ∷ (with_keys 0x23 (0x80 ∷ 0x00 ∷ 0x00 ∷ []) nought, allowed_rule ∷ [])
    ∷ (with_keys 0x23 least (0x00 ∷ nought), allowed_rule ∷ [])
    -- another table goes by bytes
    ∷ (with_keys 0x24 minus_one nought, rising_rule ∷ [])
    ∷ []

-- ---- Size, spans and levels are the true numbers of keys, spans and towers

abbrev count_rows : List Row
count_rows =
    (on 5 16 (word32 4) ∷ [], skip_rule ∷ [])
    ∷ (on 5 20 (word32 2) ∷ [], skip_rule ∷ [])
    ∷ (on 5 24 (word32 2) ∷ [], skip_rule ∷ [])
    ∷ []

-- ---- Towers

abbrev tower_rows : List Row
tower_rows =
    -- mark
    (on 10 0 (0x00 ∷ []) ∷ [], tower_rule ∷ [])
    -- the first level page is the head: 1 to P
    ∷ (on 5 12 (word32 0) ∷ [], height_rule ∷ skip_rule ∷ tower_rule ∷ once_rule ∷ [])
    ∷ (on 5 12 (word32 19) ∷ [], height_rule ∷ skip_rule ∷ tower_rule ∷ once_rule ∷ [])
    -- its span is the first span
    ∷ (on 7 12 (word32 9) ∷ [], tower_rule ∷ [])
    -- max height 1 to 252: the head's, another's
    ∷ (on 18 8 (word16 0) ∷ [], height_rule ∷ [])
    ∷ (on 18 8 (word16 253) ∷ [], height_rule ∷ [])
    ∷ (on 10 8 (word16 253) ∷ [], height_rule ∷ [])
    -- current at most max: the head's, another's
    ∷ (on 18 10 (word16 2) ∷ [], height_rule ∷ [])
    ∷ (on 12 8 (word16 1) ∷ [], height_rule ∷ [])
    -- no other towers where the head's current is 0
    ∷ (on 7 10 (word16 0) ∷ [], skip_rule ∷ once_rule ∷ [])
    -- each has current from 1
    ∷ (on 10 10 (word16 0) ∷ [], other_rule ∷ tower_rule ∷ [])
    -- to the head's current
    ∷ (on 12 10 (word16 3) ∷ [], other_rule ∷ [])
    -- and a span of its own
    ∷ (on 12 12 (word32 9) ∷ [], skip_rule ∷ tower_rule ∷ tower_rule ∷ once_rule ∷ [])
    -- in the same table
    ∷ (on 12 12 (word32 17) ∷ [], skip_rule ∷ tower_rule ∷ tower_rule ∷ once_rule ∷ [])
    -- not the first
    ∷ (on 10 12 (word32 6) ∷ [], skip_rule ∷ tower_rule ∷ once_rule ∷ [])
    -- the chain along entry i visits the towers with current above i: it misses one, at level 1 and 0; it visits one of current i; it visits no page of the image
    ∷ (on 7 20 (word32 0) ∷ [], tower_rule ∷ [])
    ∷ (on 7 16 (word32 12) ∷ [], skip_rule ∷ once_rule ∷ [])
    ∷ (on 7 20 (word32 10) ∷ [], tower_rule ∷ [])
    ∷ (on 7 16 (word32 19) ∷ [], skip_rule ∷ tower_rule ∷ once_rule ∷ [])
    -- in span order
    ∷ (on 10 12 (word32 11) ∷ on 12 12 (word32 9) ∷ [], skip_rule ∷ tower_rule ∷ tower_rule ∷ once_rule ∷ [])
    -- and ends in 0: a ring; back to the head
    ∷ (on 12 16 (word32 10) ∷ [], tower_rule ∷ [])
    ∷ (on 12 20 (word32 7) ∷ [], tower_rule ∷ [])
    ∷ []

-- ---- Free list, and each of the P pages owned exactly once

abbrev free_rows : List Row
free_rows =
    -- mark of a block
    (on 14 0 (0x00 ∷ []) ∷ [], block_rule ∷ [])
    -- a listed free page bears the free mark
    ∷ (on 15 0 (0x00 ∷ []) ∷ [], free_rule ∷ [])
    -- the chain of free-list blocks ends in 0
    ∷ (on 14 8 (word32 13) ∷ [], block_rule ∷ once_rule ∷ [])
    -- a listed page: 1 to P
    ∷ (on 14 12 (word32 1 ++ word32 0) ∷ [], free_rule ∷ once_rule ∷ [])
    ∷ (on 14 12 (word32 1 ++ word32 19) ∷ [], free_rule ∷ once_rule ∷ [])
    -- a page that is not owned
    ∷ (on 13 12 (word32 1) ∷ [], once_rule ∷ [])
    -- a page owned twice
    ∷ (on 14 12 (word32 1 ++ word32 15) ∷ [], once_rule ∷ [])
    ∷ []

-- ---- Changes that break no rule

abbrev accepted_rows : List (List Write)
accepted_rows =
    -- mounted 1
    (on 1 20 (word16 1) ∷ [])
    -- span size 2 and 128
    ∷ (on 1 22 (word16 2) ∷ [])
    ∷ (on 16 28 (word16 128) ∷ on 17 16 (word16 128) ∷ [])
    -- a name of 255 bytes
    ∷ (on 3 29 (entry_bytes (replicate 255 0x63) (word32 5)) ∷ [])
    -- byte 7f below byte 80
    ∷ (on 11 24 (0x7f ∷ []) ∷ on 11 30 (0x80 ∷ []) ∷ [])
    -- an offset table: from the least number to the greatest, from -1 to 0, and where both orders agree
    ∷ with_keys 0x23 least greatest
    ∷ with_keys 0x23 minus_one nought
    ∷ with_keys 0x23 least minus_one
    -- the same keys in another table, by bytes; there also other lengths
    ∷ with_keys 0x24 nought minus_one
    ∷ with_keys 0x24 (0x00 ∷ []) least
    -- with 4 bytes left the lengths stay; with 3 bytes left they move
    ∷ with_cont
    ∷ (with_cont ++ (on 6 22 (word16 996) ∷ on 8 8 (0x00 ∷ 0x01 ∷ 0x00 ∷ 0x00 ∷ 0x62 ∷ []) ∷ []))
    -- an empty first span before others
    ∷ (on 6 18 (word16 0) ∷ on 5 16 (word32 3) ∷ [])
    -- a span without a tower
    ∷ without_tower
    -- the count of free pages kept, also where F has changed
    ∷ (on 1 28 (word32 5) ∷ [])
    ∷ (on 1 28 (word32 6) ∷ without_tower)
    -- max height 252; the head's current above that of all others
    ∷ (on 18 8 (word16 252) ∷ [])
    ∷ (on 7 10 (word16 3) ∷ [])
    -- unused bytes hold anything: superblock, skip list, an entry at current, block numbers, a free page, after the last entry
    ∷ (on 1 32 (0x09 ∷ []) ∷ on 5 30 (0x09 ∷ []) ∷ on 10 20 (0x09 ∷ []) ∷ on 14 16 (0x09 ∷ []) ∷ on 15 8 (0x09 ∷ []) ∷ on 17 20 (0x09 ∷ []) ∷ [])
    ∷ []

-- ---- All of them

rejected : Rejections pages (superblock_rows ++ meta_rows ++ span_rows ++ key_rows ++ offset_rows ++ count_rows ++ tower_rows ++ free_rows)
unfolding super_mark skip_mark tower_mark span_mark cont_mark block_mark free_mark word32 word16 be32 be16 be64 free_count reached lens_start entry_end name_rule key_rule
rejected = rejections pages full (superblock_rows ++ meta_rows ++ span_rows ++ key_rows ++ offset_rows ++ count_rows ++ tower_rows ++ free_rows) refl tt

accepted : Every (λ c. Accepted (image_of pages c)) accepted_rows
unfolding super_mark skip_mark tower_mark span_mark cont_mark block_mark free_mark word32 word16 be32 be16 be64 free_count reached lens_start entry_end name_rule key_rule
accepted = acceptances pages full accepted_rows refl tt

-- ---- Two rules for images of any length

-- the image has 1024·P bytes, 4 ≤ P ≤ 4096
bad_length : (img : List ℕ) → length_ok (length img) ≡ false → Rejected img
unfolding length_ok
bad_length img e L w =
    let p : Within 4 4096 L.pages = w.pages in
    let l : length img ≡ 1024 * L.pages = w.size in
    let n : ℕ = length img / 1024 in
    let r : length img % 1024 ≡ 0 = omega arith in
    subst T e
    (both-and (within 4 4096 n) (eqb (length img % 1024) 0) (both-and (leb 4 n) (leb n 4096) (le→leb 4 n (omega arith)) (le→leb n 4096 (omega arith)))
    (subst (λ (k : ℕ). T (eqb k 0)) (sym r) tt))

lengths : map length_ok (0 ∷ 3072 ∷ 4096 ∷ 18431 ∷ 18432 ∷ 18433 ∷ 4194304 ∷ 4195328 ∷ [])
    ≡ false ∷ false ∷ true ∷ false ∷ true ∷ false ∷ true ∷ false ∷ []
unfolding length_ok
lengths = refl

-- the count of the first free-list block, 0 to 252
bad_count : (img : List ℕ) → 1 ≤ be32 (pg img 1) 16 → 253 ≤ be32 (pg img (be32 (pg img 1) 16)) 12 → Rejected img
bad_count img a b L w =
    let tables : List Piece = gather (λ n. table_pieces n.value) L.tables in
    go L.free w.bears.0.free
    (every-right (Bears (pg img)) tables (free_pieces L.free)
    (every-right (Bears (pg img)) (table_pieces L.meta) (tables ++ free_pieces L.free) w.bears.1))
    w.blocks_ok
  where
    go : (fs : List Block) → be32 (pg img 1) 16 ≡ first_block fs → Every (Bears (pg img)) (free_pieces fs) → Every (λ f. length f.listed ≤ 252) fs → ⊥
    go [] e h k = omega arith
    go (f ∷ fs) e h k =
        let c : 253 ≤ be32 (pg img f.page) 12 = subst (λ (n : ℕ). 253 ≤ be32 (pg img n) 12) e b in
        omega (arith, h.0.count, k.0)
