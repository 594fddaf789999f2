-- The counts after a span is rewritten, from the plan.
use Rattle.std.specs.Prelude.{ℕ, ◌+◌, ◌-◌, ◌≤◌, ◌<◌, min, List}
use Rattle.blockfile.specs.Bytes.{Write}
use Rattle.pages.specs.Places.{Inside}
use Rattle.edit.specs.declared.plan.Plan.{Plan}
use Rattle.edit.specs.Cuts.{counts_at}

-- keys, spans and towers
abbrev pub size_of : Plan → ℕ
size_of x = x.list.size + x.shape.entries - x.links.size

abbrev pub spans_of : Plan → ℕ
spans_of x = x.list.spans + min 1 x.wants.span

abbrev pub levels_of : Plan → ℕ
levels_of x = x.list.levels + x.wants.tower

abbrev pub counts_of : Plan → Write
counts_of x = counts_at x.root (size_of x) (spans_of x) (levels_of x)

-- the skip-list page is a page of the image, the span's keys are among the table's, and no count is too great
pub record CountsReady (img : List ℕ) (x : Plan) : Type 0 where
  pub root : Inside img x.root 16 12
  pub among : x.links.size ≤ x.list.size
  pub size : x.list.size < 4294967296
  pub spans : x.list.spans < 4294967296
  pub levels : x.list.levels < 4294967296
  pub entries : x.shape.entries < 65536
  pub tower : x.wants.tower ≤ 1
