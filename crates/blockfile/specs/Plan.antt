-- What put, remove and create do, said before the pages are known.
use Rattle.std.specs.Prelude.{ℕ, ◌+◌, List, [], ◌∷◌, ◌++◌, Bool, length, ltb}
use Rattle.blockfile.specs.Bytes.{Write, on, word32}
use Rattle.blockfile.specs.Layout.{Keyed, Table, Layout, free_count}
use Rattle.blockfile.specs.Free.{Drawn, draw}

-- the metaindex and the tables after the call, and what is written
pub record Made : Type 0 where
  pub meta : Table
  pub tables : List (Keyed Table)
  pub writes : List Write

-- the old continuation pages of the span that changes, in chain order; how many pages are wanted; the span and the tower that
-- are gone, if any; and what is made of the pages drawn
pub record Plan : Type 0 where
  pub old : List ℕ
  pub wanted : ℕ
  pub gone : List ℕ
  pub make : (drawn : List ℕ) → Made

abbrev pub drawn_by : Layout → Plan → Drawn
drawn_by L p = draw p.old p.wanted p.gone L.free

-- refusal 10: wanted pages exceed the old continuation pages plus F
unfoldable pub lacks : Layout → Plan → Bool
lacks L p = ltb (length p.old + free_count L.free) p.wanted

-- the layout after the call. No promise rests on it: the laws show that the image has this layout once all is written
unfoldable pub layout_after : Layout → Plan → Layout
layout_after L p =
    let d : Drawn = drawn_by L p in
    let m : Made = p.make d.pages in
    record { pages = L.pages; span_size = L.span_size; meta = m.meta; tables = m.tables; free = d.free }

-- what drawing writes, then the rest
unfoldable pub changes_of : Layout → Plan → List Write
changes_of L p =
    let d : Drawn = drawn_by L p in
    d.writes ++ (p.make d.pages).writes

-- the superblock keeps the count of f free pages
abbrev pub kept_on : (f : ℕ) → Write
kept_on f = on 1 28 (word32 (f + 1))

-- all that is written: these changes, and last the count of the pages that are free after them
unfoldable pub writes_of : Layout → Plan → List Write
writes_of L p = changes_of L p ++ (kept_on (free_count (drawn_by L p).free) ∷ [])
