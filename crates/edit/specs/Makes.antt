-- A plan as it is made, from a table and a change of one of its spans.
use Rattle.std.specs.Prelude.{ℕ, ◌≤◌, ◌<◌, ◌≡◌, List, length}
use Rattle.blockfile.specs.Layout.{Entry, Table, columns}
use Rattle.blockfile.specs.Put.{span_at, parts}
use Rattle.search.specs.Tables.{Reading}
use Rattle.stage.specs.declared.change.Change.{Change}
use Rattle.stage.specs.Changes.{spliced, Fits}
use Rattle.stage.specs.Parts.{far, Sized}
use Rattle.edit.specs.declared.plan.Plan.{Plan}
use Rattle.edit.specs.Standing.{here_at}
use Rattle.edit.specs.Fields.{ListOf, LinksOf}
use Rattle.edit.specs.Shapes.{ShapeOf, WantsOf}

-- the change is one of the span at place i of the table, which is on the page
pub record Changes (t : Table) (i page : ℕ) (c : Change) : Type 0 where
  pub inside : i < length (columns t)
  pub at : page ≡ (span_at t i).page
  pub fits : Fits c (span_at t i).entries

pub record PlanReady (img : List ℕ) (root page : ℕ) (c : Change) (both : ℕ) : Type 0 where
  pub reading : Reading img root
  pub place : ℕ
  pub change : Changes reading.table place page c
  pub few : length (columns reading.table) ≤ 4096
  pub short : both ≤ 131070

-- x has what the table says, and what its span at place i wants with the entries es
pub record PlanOf (t : Table) (i : ℕ) (es : List Entry) (x : Plan) : Type 0 where
  pub list : ListOf t x.list
  pub links : LinksOf (here_at t i) x.links
  pub shape : ShapeOf (parts t es) x.shape
  pub wants : WantsOf (parts t es) x.wants

pub record PlanFor (img : List ℕ) (root page : ℕ) (c : Change) (both more base : ℕ) (x : Plan) : Type 0 where
  pub stay : x.shape.stay < far
  pub moved : x.shape.moved < far
  pub list : x.root ≡ root
  pub span : x.page ≡ page
  pub further : x.more ≡ more
  pub words : x.base ≡ base
  pub is : (t : Reading img root) (i : ℕ) → Changes t.table i page c → (e : Entry) → Sized e both
      → PlanOf t.table i (spliced c e (span_at t.table i).entries) x
