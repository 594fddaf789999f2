-- A span left with its other entries: what is asked for, and what is left.
use Rattle.std.specs.Prelude.{ℕ, ◌+◌, ◌≤◌, ◌≡◌, true, false, List, [], length}
use Rattle.blockfile.specs.Bytes.{apply}
use Rattle.blockfile.specs.Layout.{Entry, Table, Block}
use Rattle.blockfile.specs.Order.{KeyRule}
use Rattle.blockfile.specs.Put.{span_at, parts, wanted_by}
use Rattle.stage.specs.declared.change.Change.{Change}
use Rattle.edit.specs.Rewrites.{changed, writes_for, RewriteOf}

-- the entry at the index gives way, and none comes
abbrev pub taken_out : (index : ℕ) → Change
taken_out j = record { index = j; drops = true; adds = false }

-- the entries of the span at place i without the one at the index
abbrev pub others : Table → (i index : ℕ) → List Entry
others t i j = changed t i (taken_out j) [] []

-- the span on the page is at place i of the table; the others are no more than a span may have, and want no pages but its own
pub record LeaveOf (img : List ℕ) (root page index : ℕ) (r : KeyRule) (t : Table) (bs : List Block) (i : ℕ) : Type 0 where
  pub rewrite : RewriteOf img root page (taken_out index) [] [] r t bs i
  pub fits : length (others t i index) ≤ t.span_size
  pub wants : wanted_by (parts t (others t i index)) ≤ length (span_at t i).conts

pub record LeaveReady (img scratch : List ℕ) (root page index : ℕ) : Type 0 where
  pub rule : KeyRule
  pub table : Table
  pub blocks : List Block
  pub place : ℕ
  pub is : LeaveOf img root page index rule table blocks place
  pub lent : length scratch ≡ length img

-- n of its pages were given back
pub record SpanLeft (img : List ℕ) (root page index n : ℕ) (out : List ℕ) : Type 0 where
  pub image : (r : KeyRule) (t : Table) (bs : List Block) (i : ℕ) → LeaveOf img root page index r t bs i
      → out ≡ apply (writes_for t i bs (others t i index)) img
  pub given : (r : KeyRule) (t : Table) (bs : List Block) (i : ℕ) → LeaveOf img root page index r t bs i
      → n + wanted_by (parts t (others t i index)) ≡ length (span_at t i).conts
