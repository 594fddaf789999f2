-- The fields of a table and of a span, as the code reads them.
use Rattle.std.specs.Prelude.{ℕ, ◌≤◌, ◌≡◌, List, length}
use Rattle.blockfile.specs.Bytes.{first_of}
use Rattle.blockfile.specs.Layout.{Table, columns, towers_of, entries_of}
use Rattle.blockfile.specs.Fields.{LinkedSpan}
use Rattle.blockfile.specs.WellFormed.{span}
use Rattle.search.specs.Spans.{Borne}
use Rattle.search.specs.Tables.{Reading}
use Rattle.edit.specs.declared.fields.SkipList.{SkipList}
use Rattle.edit.specs.declared.fields.Links.{Links}

-- x has the fields of the table t
pub record ListOf (t : Table) (x : SkipList) : Type 0 where
  pub head : x.head ≡ t.head.page
  pub size : x.size ≡ length (entries_of t)
  pub spans : x.spans ≡ length (columns t)
  pub levels : x.levels ≡ length (towers_of (columns t))
  pub most : x.most ≡ t.span_size
  pub max : x.max ≡ t.head.max_height
  pub top : x.top ≡ t.head.height

pub record ListRead (img : List ℕ) (root : ℕ) (x : SkipList) : Type 0 where
  pub is : (t : Reading img root) → ListOf t.table x

-- a span is on the page
pub record LinkedOn (img : List ℕ) (page : ℕ) : Type 0 where
  pub small : length img ≤ 4194304
  pub linked : LinkedSpan
  pub borne : Borne img (span linked)
  pub at : linked.span.page ≡ page

-- x has the fields of the span y
pub record LinksOf (y : LinkedSpan) (x : Links) : Type 0 where
  pub prev : x.prev ≡ y.prev
  pub next : x.next ≡ y.next
  pub first : x.first ≡ first_of y.span.conts
  pub size : x.size ≡ length y.span.entries

pub record LinksRead (img : List ℕ) (page : ℕ) (x : Links) : Type 0 where
  pub is : (y : LinkedOn img page) → LinksOf y.linked x
