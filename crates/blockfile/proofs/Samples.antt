-- Pages, layouts and images for examples, written by their fields.
use Prim.Native.Nat.{ℕ, ◌+◌, ◌*◌}
use mathlib.Core.List.{List, [], ◌∷◌, ◌++◌}
use mathlib.Core.Option.{none, some}
use lib.ListN.{length, take, drop}
use Rattle.blockfile.specs.Bytes.{word16, word32, gather, padded}
use Rattle.blockfile.specs.Marks.{super_mark, skip_mark, tower_mark, span_mark, cont_mark, block_mark, free_mark}
use Rattle.blockfile.specs.Layout.{Entry, Span, Tower, Column, Table, Block}

-- ---- Pages

abbrev pub page : List ℕ → List ℕ
page bs = padded 1024 bs

-- of an image of p pages: the first free-list page, mounted, the span size
abbrev pub super_page : (p free mounted z : ℕ) → List ℕ
super_page p f m z =
    page (super_mark ++ (1 ∷ 2 ∷ word32 0) ++ word32 (1024 * p) ++ word32 f ++ word16 m ++ word16 z ++ word32 1024)

abbrev pub skip_page : (first level size spans levels z : ℕ) → List ℕ
skip_page f l n s t z = page (skip_mark ++ word32 f ++ word32 l ++ word32 n ++ word32 s ++ word32 t ++ word16 z)

abbrev pub tower_page : (most current span : ℕ) (nexts : List ℕ) → List ℕ
tower_page m c s ns = page (tower_mark ++ word16 m ++ word16 c ++ word32 s ++ gather word32 ns)

-- bs are the bytes from offset 20 on
abbrev pub span_page : (cont prev next most size : ℕ) (bs : List ℕ) → List ℕ
span_page c p n m s bs = page (span_mark ++ word32 c ++ word32 p ++ word32 n ++ word16 m ++ word16 s ++ bs)

abbrev pub cont_page : (next : ℕ) (bs : List ℕ) → List ℕ
cont_page n bs = page (cont_mark ++ word32 n ++ bs)

abbrev pub block_page : (next : ℕ) (listed : List ℕ) → List ℕ
block_page n ls = page (block_mark ++ word32 n ++ word32 (length ls) ++ gather word32 ls)

abbrev pub free_page : List ℕ
free_page = page free_mark

-- the bytes bs put over those of b from offset o on
abbrev pub overlay : (o : ℕ) (bs b : List ℕ) → List ℕ
overlay o bs b = take o b ++ bs ++ drop (o + length bs) b

-- an entry's bytes
abbrev pub entry_bytes : (key value : List ℕ) → List ℕ
entry_bytes k v = word16 (length k) ++ word16 (length v) ++ k ++ v

-- ---- Layouts

abbrev pub span_of : (page : ℕ) (conts : List ℕ) → List Entry → Span
span_of n cs es = record { page = n; conts = cs; entries = es }

abbrev pub tower_of : (page most current : ℕ) → Tower
tower_of n m h = record { page = n; max_height = m; height = h }

abbrev pub bare : Span → Column
bare s = record { span = s; tower = none }

abbrev pub towered : Span → Tower → Column
towered s t = record { span = s; tower = some t }

abbrev pub table_of : (root z : ℕ) → Span → Tower → List Column → Table
table_of r z s t cs = record { root = r; span_size = z; first = s; head = t; rest = cs }

abbrev pub block_of : (page : ℕ) → List ℕ → Block
block_of n ls = record { page = n; listed = ls }

-- an entry whose key and value have one byte
abbrev pub small : (key value : ℕ) → Entry
small k v = record { key = k ∷ []; value = v ∷ [] }

-- keys of four bytes: the least number, -1, 0 and the greatest
abbrev pub least : List ℕ
least = 0x80 ∷ 0x00 ∷ 0x00 ∷ 0x00 ∷ []

abbrev pub minus_one : List ℕ
minus_one = 0xff ∷ 0xff ∷ 0xff ∷ 0xff ∷ []

abbrev pub nought : List ℕ
nought = 0x00 ∷ 0x00 ∷ 0x00 ∷ 0x00 ∷ []

abbrev pub greatest : List ℕ
greatest = 0x7f ∷ 0xff ∷ 0xff ∷ 0xff ∷ []

-- "lens"
abbrev pub lens : List ℕ
lens = 0x6c ∷ 0x65 ∷ 0x6e ∷ 0x73 ∷ []
