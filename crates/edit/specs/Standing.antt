-- A table of an accepted image, with the free list and all that is held around it.
use Rattle.std.specs.Prelude.{ℕ, List, []}
use Rattle.blockfile.specs.Layout.{Table, Block}
use Rattle.blockfile.specs.Order.{KeyRule}
use Rattle.blockfile.specs.Fields.{LinkedSpan}
use Rattle.blockfile.specs.Put.{span_at}
use Rattle.laws.proofs.SpanLinks.{linked, first_page, last_page, spans_to, spans_past}
use Rattle.laws.proofs.State.{Shows}
use Rattle.laws.proofs.Draws.{Few}
use Rattle.laws.proofs.Spots.{Around, among}
use Rattle.search.specs.Tables.{Readable}

pub record Standing (img : List ℕ) (r : KeyRule) (t : Table) (bs : List Block) : Type 0 where
  pub readable : Readable img r t
  pub pages : ℕ
  pub span_size : ℕ
  pub around : Around
  pub shows : Shows pages span_size img (among around t bs [])
  pub few : Few bs

-- the span at place i of a table, with its links
abbrev pub here_at : Table → (i : ℕ) → LinkedSpan
here_at t i = linked t.span_size (last_page 0 (spans_to t i)) (first_page 0 (spans_past t i)) (span_at t i)
