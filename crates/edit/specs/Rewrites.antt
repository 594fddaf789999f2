-- A span of a table rewritten: what is asked for, and what is left.
use Rattle.std.specs.Prelude.{ℕ, suc, ◌+◌, ◌*◌, ◌-◌, ◌≤◌, ◌≡◌, List, ◌++◌, length}
use Rattle.blockfile.specs.Bytes.{Write, apply}
use Rattle.blockfile.specs.Layout.{Entry, Table, Block, free_count}
use Rattle.blockfile.specs.Order.{KeyRule}
use Rattle.blockfile.specs.Put.{span_at, rewrite}
use Rattle.links.specs.Levels.{PathAt}
use Rattle.stage.specs.declared.change.Change.{Change}
use Rattle.stage.specs.Changes.{spliced}
use Rattle.edit.specs.declared.plan.Plan.{Plan}
use Rattle.edit.specs.Standing.{Standing}
use Rattle.edit.specs.Makes.{Changes, PlanFor}
use Rattle.edit.specs.Stages.{coming}
use Rattle.edit.specs.Applies.{total_of}
use Rattle.edit.specs.Commits.{drawn_with, drawn_for}

-- the entries of the span at place i after the change
abbrev pub changed : Table → (i : ℕ) → Change → (k v : List ℕ) → List Entry
changed t i c k v = spliced c (coming k v) (span_at t i).entries

-- what is written where the span at place i gets these entries
abbrev pub writes_for : Table → (i : ℕ) → List Block → List Entry → List Write
writes_for t i bs es = (drawn_for t i bs es).writes ++ (rewrite t i es (drawn_for t i bs es).pages).writes

-- the change is one of the span at place i of the table
pub record RewriteOf (img : List ℕ) (root page : ℕ) (c : Change) (k v : List ℕ) (r : KeyRule) (t : Table) (bs : List Block) (i : ℕ) : Type 0 where
  pub standing : Standing img r t bs
  pub at : root ≡ t.root
  pub change : Changes t i page c
  pub few : length (changed t i c k v) ≤ t.span_size + 1

-- ---- A plan carried out

-- the plan is one of such a change, and there is room
pub record Carries (img : List ℕ) (x : Plan) (c : Change) (k v : List ℕ) (r : KeyRule) (t : Table) (bs : List Block) (i : ℕ) : Type 0 where
  pub root : ℕ
  pub page : ℕ
  pub more : ℕ
  pub base : ℕ
  pub is : RewriteOf img root page c k v r t bs i
  pub plan : PlanFor img root page c (length k + length v) more base x
  pub whole : 1024 * x.base ≡ length img
  pub room : total_of x ≤ length (span_at t i).conts + free_count bs

pub record CarryReady (img buffer : List ℕ) (x : Plan) (c : Change) (k v : List ℕ) : Type 0 where
  pub rule : KeyRule
  pub table : Table
  pub blocks : List Block
  pub place : ℕ
  pub carries : Carries img x c k v rule table blocks place
  pub lent : length buffer ≡ length img

-- what is written where the span at place i gets these entries and n further pages are drawn
abbrev pub writes_with : Table → (i : ℕ) → List Block → List Entry → (n : ℕ) → List Write
writes_with t i bs es n = (drawn_with t i bs es n).writes ++ (rewrite t i es (drawn_with t i bs es n).pages).writes

-- n pages of the span were given back
pub record Carried (img : List ℕ) (x : Plan) (c : Change) (k v : List ℕ) (n : ℕ) (out : List ℕ) : Type 0 where
  pub image : (r : KeyRule) (t : Table) (bs : List Block) (i : ℕ) → Carries img x c k v r t bs i → out ≡ apply (writes_with t i bs (changed t i c k v) x.more) img
  pub given : (r : KeyRule) (t : Table) (bs : List Block) (i : ℕ) → Carries img x c k v r t bs i → n ≡ length (span_at t i).conts - total_of x

-- with the path to the span
pub record CarryOn (img buffer : List ℕ) (x : Plan) (c : Change) (k v path : List ℕ) : Type 0 where
  pub ready : CarryReady img buffer x c k v
  pub passed : PathAt ready.table (suc ready.place) path

pub record CarriedOn (img : List ℕ) (x : Plan) (c : Change) (k v path out : List ℕ) : Type 0 where
  pub image : (r : KeyRule) (t : Table) (bs : List Block) (i : ℕ) → Carries img x c k v r t bs i → PathAt t (suc i) path
      → out ≡ apply (writes_with t i bs (changed t i c k v) x.more) img
