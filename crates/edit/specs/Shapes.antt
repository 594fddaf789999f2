-- The text's parts of a span's entries, and the pages that they want, as the code has them.
use Rattle.std.specs.Prelude.{ℕ, ◌+◌, ◌≤◌, ◌<◌, ◌≡◌, List, length}
use Rattle.blockfile.specs.Layout.{Entry, Table, entries_from, entries_end}
use Rattle.blockfile.specs.Put.{Parts, parts, conts_wanted, span_wanted, tower_wanted}
use Rattle.search.specs.Spans.{SpanOn}
use Rattle.stage.specs.declared.change.Change.{Change}
use Rattle.stage.specs.Changes.{spliced, Fits}
use Rattle.stage.specs.Parts.{far, Sized}
use Rattle.edit.specs.declared.fields.SkipList.{SkipList}
use Rattle.edit.specs.Fields.{ListOf}
use Rattle.edit.specs.declared.shape.Shape.{Shape}
use Rattle.edit.specs.declared.shape.Wants.{Wants}

-- x is the shape of the parts p
pub record ShapeOf (p : Parts) (x : Shape) : Type 0 where
  pub entries : x.entries ≡ length p.stay + length p.move
  pub half : x.half ≡ length p.stay
  pub stay : x.stay ≡ entries_end entries_from p.stay
  pub moved : x.moved ≡ entries_end entries_from p.move
  pub height : x.height ≡ p.height

-- a span with so many entries is on the page
pub record ContsReady (img : List ℕ) (page size : ℕ) : Type 0 where
  pub span : SpanOn img page
  pub many : size ≡ length span.linked.span.entries
  pub few : size < 65536

pub record ContsCounted (img : List ℕ) (page n : ℕ) : Type 0 where
  pub is : (y : SpanOn img page) → n ≡ length y.linked.span.conts

-- the change is one of the entries of the span on the page
pub record ShapeReady (img : List ℕ) (page : ℕ) (c : Change) (both : ℕ) (l : SkipList) (size : ℕ) : Type 0 where
  pub span : SpanOn img page
  pub fits : Fits c span.linked.span.entries
  pub many : size ≡ length span.linked.span.entries
  pub short : both ≤ 131070
  pub spans : l.spans < 4294967295

-- x is the shape of the entries after the change, in every table with these fields, and not too far
pub record ShapeFor (img : List ℕ) (page : ℕ) (c : Change) (both : ℕ) (l : SkipList) (x : Shape) : Type 0 where
  pub stay : x.stay < far
  pub moved : x.moved < far
  pub is : (y : SpanOn img page) → Fits c y.linked.span.entries → (t : Table) → ListOf t l → (e : Entry) → Sized e both
      → ShapeOf (parts t (spliced c e y.linked.span.entries)) x

-- of some parts, and not too far
pub record Shaped (x : Shape) : Type 0 where
  pub parts : Parts
  pub shape : ShapeOf parts x
  pub stay : x.stay < far
  pub moved : x.moved < far

pub record NewPages (x : Shape) (n : ℕ) : Type 0 where
  pub is : (p : Parts) → ShapeOf p x → n ≡ span_wanted p.move

-- w are the pages that the parts want
pub record WantsOf (p : Parts) (w : Wants) : Type 0 where
  pub conts : w.conts ≡ conts_wanted p
  pub span : w.span ≡ span_wanted p.move
  pub tower : w.tower ≡ tower_wanted p

pub record WantsFor (x : Shape) (w : Wants) : Type 0 where
  pub is : (p : Parts) → ShapeOf p x → WantsOf p w
