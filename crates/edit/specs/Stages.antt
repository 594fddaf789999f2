-- The entries of a plan, staged in the buffer.
use Rattle.std.specs.Prelude.{ℕ, ◌+◌, ◌*◌, ◌≤◌, ◌≡◌, List, length, take, drop}
use Rattle.std.specs.Int.{from_bool}
use Rattle.blockfile.specs.Layout.{Entry, entries_from, entries_end}
use Rattle.search.specs.Spans.{SpanOn}
use Rattle.stage.specs.declared.change.Change.{Change}
use Rattle.stage.specs.declared.change.Cursor.{Cursor}
use Rattle.stage.specs.Changes.{spliced, Fits, Stands}
use Rattle.edit.specs.declared.plan.Plan.{Plan}
use Rattle.edit.specs.Staged.{Staged}

-- the entry that comes
abbrev pub coming : (k v : List ℕ) → Entry
coming k v = record { key = k; value = v }

-- ---- The entries that stay

-- es are the span's entries, of which so many stay after the change
pub record Staying (img : List ℕ) (x : Plan) (c : Change) (k v : List ℕ) (y : SpanOn img x.page) : Type 0 where
  pub fits : Fits c y.linked.span.entries
  pub has : x.shape.half + from_bool c.drops ≤ length y.linked.span.entries + from_bool c.adds
  pub end : x.shape.stay ≡ entries_end entries_from (take x.shape.half (spliced c (coming k v) y.linked.span.entries))

pub record StayStage (img buffer : List ℕ) (x : Plan) (c : Change) (k v : List ℕ) : Type 0 where
  pub span : SpanOn img x.page
  pub staying : Staying img x c k v span
  pub room : 4 * x.base + x.shape.stay ≤ length buffer

-- they are staged, and r is the cursor behind them
pub record StaysIn (img : List ℕ) (x : Plan) (c : Change) (k v : List ℕ) (y : SpanOn img x.page) (r : Cursor) (out : List ℕ) : Type 0 where
  pub staged : Staged out (4 * x.base) (take x.shape.half (spliced c (coming k v) y.linked.span.entries))
  pub index : r.index ≡ x.shape.half
  pub stands : Stands img c y.linked.span.entries r

pub record StayStaged (img buffer : List ℕ) (x : Plan) (c : Change) (k v : List ℕ) (r : Cursor) (out : List ℕ) : Type 0 where
  pub is : (y : SpanOn img x.page) → Staying img x c k v y → StaysIn img x c k v y r out

-- ---- The entries that move

-- the cursor is behind the entries that stay, and the others move
pub record Moving (img : List ℕ) (x : Plan) (c : Change) (k v : List ℕ) (u : Cursor) (es : List Entry) : Type 0 where
  pub index : u.index ≡ x.shape.half
  pub stands : Stands img c es u
  pub all : x.shape.entries + from_bool c.drops ≡ length es + from_bool c.adds
  pub half : x.shape.half ≤ x.shape.entries
  pub end : x.shape.moved ≡ entries_end entries_from (drop x.shape.half (spliced c (coming k v) es))

-- where the stream of the new span begins
abbrev pub moved_from : Plan → ℕ
moved_from x = 4 * (x.base + 254 * (1 + x.wants.conts))

pub record MovedStage (img buffer : List ℕ) (x : Plan) (c : Change) (k v : List ℕ) (u : Cursor) : Type 0 where
  pub entries : List Entry
  pub moving : Moving img x c k v u entries
  pub room : moved_from x + x.shape.moved ≤ length buffer

-- they are staged, and the bytes before their stream are kept
pub record MovedStaged (img buffer : List ℕ) (x : Plan) (c : Change) (k v : List ℕ) (u : Cursor) (out : List ℕ) : Type 0 where
  pub is : (es : List Entry) → Moving img x c k v u es → Staged out (moved_from x) (drop x.shape.half (spliced c (coming k v) es))
  pub kept : take (moved_from x) out ≡ take (moved_from x) buffer

-- ---- Both

-- y is the span that the plan changes
pub record PartsFor (img : List ℕ) (x : Plan) (c : Change) (k v : List ℕ) (y : SpanOn img x.page) : Type 0 where
  pub staying : Staying img x c k v y
  pub all : x.shape.entries + from_bool c.drops ≡ length y.linked.span.entries + from_bool c.adds
  pub half : x.shape.half ≤ x.shape.entries
  pub end : x.shape.moved ≡ entries_end entries_from (drop x.shape.half (spliced c (coming k v) y.linked.span.entries))

pub record PartsReady (img buffer : List ℕ) (x : Plan) (c : Change) (k v : List ℕ) : Type 0 where
  pub span : SpanOn img x.page
  pub parts : PartsFor img x c k v span
  pub stay : 4 * x.base + x.shape.stay ≤ length buffer
  pub apart : 4 * x.base + x.shape.stay ≤ moved_from x
  pub moved : 1 ≤ x.wants.span → moved_from x + x.shape.moved ≤ length buffer

-- the entries that stay are staged, and those that move, if there is a new span
pub record PartsIn (x : Plan) (es : List Entry) (out : List ℕ) : Type 0 where
  pub stay : Staged out (4 * x.base) (take x.shape.half es)
  pub moved : 1 ≤ x.wants.span → Staged out (moved_from x) (drop x.shape.half es)

pub record PartsStaged (img : List ℕ) (x : Plan) (c : Change) (k v : List ℕ) (out : List ℕ) : Type 0 where
  pub is : (y : SpanOn img x.page) → PartsFor img x c k v y → PartsIn x (spliced c (coming k v) y.linked.span.entries) out
