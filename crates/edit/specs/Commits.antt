-- A span of a table rewritten: what is asked for once its entries are staged, and what is left.
use Rattle.std.specs.Prelude.{ℕ, suc, ◌+◌, ◌*◌, ◌-◌, ◌≤◌, ◌<◌, ◌≡◌, List, [], ◌++◌, length}
use Rattle.blockfile.specs.Bytes.{apply}
use Rattle.blockfile.specs.Layout.{Entry, Table, Block, columns, free_count}
use Rattle.blockfile.specs.Order.{KeyRule}
use Rattle.blockfile.specs.Free.{Drawn, draw}
use Rattle.blockfile.specs.Put.{span_at, parts, wanted_by, rewrite}
use Rattle.links.specs.Levels.{PathAt}
use Rattle.edit.specs.declared.plan.Plan.{Plan}
use Rattle.edit.specs.Standing.{Standing}
use Rattle.edit.specs.Makes.{PlanOf}
use Rattle.edit.specs.Stages.{PartsIn}
use Rattle.edit.specs.Applies.{total_of}

-- the span at place i of the table is to have the entries es: the plan is theirs, they are staged, and there is room
pub record CommitOf (img buffer : List ℕ) (x : Plan) (r : KeyRule) (t : Table) (bs : List Block) (i : ℕ) (es : List Entry) : Type 0 where
  pub standing : Standing img r t bs
  pub inside : i < length (columns t)
  pub root : x.root ≡ t.root
  pub page : x.page ≡ (span_at t i).page
  pub plan : PlanOf t i es x
  pub few : length es ≤ t.span_size + 1
  pub staged : PartsIn x es buffer
  pub room : wanted_by (parts t es) + x.more ≤ length (span_at t i).conts + free_count bs
  pub base : 1024 * x.base ≡ length img
  pub lent : length buffer ≡ length img

pub record CommitReady (img buffer : List ℕ) (x : Plan) : Type 0 where
  pub rule : KeyRule
  pub table : Table
  pub free : List Block
  pub place : ℕ
  pub entries : List Entry
  pub is : CommitOf img buffer x rule table free place entries

-- the pages drawn for it, and n further ones
abbrev pub drawn_with : Table → (i : ℕ) → List Block → List Entry → (n : ℕ) → Drawn
drawn_with t i bs es n = draw (span_at t i).conts (wanted_by (parts t es) + n) [] bs

-- no further ones
abbrev pub drawn_for : Table → (i : ℕ) → List Block → List Entry → Drawn
drawn_for t i bs es = draw (span_at t i).conts (wanted_by (parts t es)) [] bs

-- n pages of the span were given back
pub record Committed (img buffer : List ℕ) (x : Plan) (n : ℕ) (out : List ℕ) : Type 0 where
  pub image : (r : KeyRule) (t : Table) (bs : List Block) (i : ℕ) (es : List Entry) → CommitOf img buffer x r t bs i es
      → out ≡ apply ((drawn_with t i bs es x.more).writes ++ (rewrite t i es (drawn_with t i bs es x.more).pages).writes) img
  pub given : (r : KeyRule) (t : Table) (bs : List Block) (i : ℕ) (es : List Entry) → CommitOf img buffer x r t bs i es
      → n ≡ length (span_at t i).conts - total_of x

-- ---- With the path to the span

pub record CommitOn (img buffer : List ℕ) (x : Plan) (path : List ℕ) : Type 0 where
  pub ready : CommitReady img buffer x
  pub passed : PathAt ready.table (suc ready.place) path

pub record CommittedOn (img buffer : List ℕ) (x : Plan) (path out : List ℕ) : Type 0 where
  pub image : (r : KeyRule) (t : Table) (bs : List Block) (i : ℕ) (es : List Entry) → CommitOf img buffer x r t bs i es → PathAt t (suc i) path
      → out ≡ apply ((drawn_with t i bs es x.more).writes ++ (rewrite t i es (drawn_with t i bs es x.more).pages).writes) img
