-- What create asks for, and what it leaves.
use Rattle.std.specs.Prelude.{ℕ, suc, ◌≡◌, true, false, List, length, T, Option, Some, None}
use Rattle.std.proofs.Math.Option.{none}
use Rattle.blockfile.specs.Layout.{Layout, free_count}
use Rattle.blockfile.specs.Order.{name_rule, find, insert}
use Rattle.blockfile.specs.WellFormed.{WellFormed}
use Rattle.blockfile.specs.Plan.{lacks}
use Rattle.blockfile.specs.Put.{target, span_at}
use Rattle.blockfile.specs.Create.{create_plan}
use Rattle.links.specs.Levels.{PathAt}
use Rattle.stage.specs.declared.change.Change.{Change}
use Rattle.edit.specs.Rewrites.{changed, RewriteOf}
use Rattle.edit.specs.Puts.{CarriedOut}

-- the image has this layout, there is no table of this name, and so many pages are free
pub record NoTable (img : List ℕ) (free : ℕ) (L : Layout) (name : List ℕ) : Type 0 where
  pub well : WellFormed img L
  pub absent : find name L.tables ≡ none
  pub pages : free_count L.free ≡ free

-- with room the text's plan is carried out, else the image is as it was
pub record Outcome (img : List ℕ) (L : Layout) (name : List ℕ) (r : Option ℕ) (out : List ℕ) : Type 0 where
  pub done : (n : ℕ) → r ≡ Some n → (lacks L (create_plan L name) ≡ false) × CarriedOut img L (create_plan L name) n out
  pub refused : r ≡ None → (lacks L (create_plan L name) ≡ true) × (out ≡ img)

-- ---- The name entered

-- the change, of the metaindex's target span on the page, puts the name in, and the path is that to the name
pub record Enters (img : List ℕ) (page free : ℕ) (c : Change) (name path : List ℕ) (L : Layout) : Type 0 where
  pub none : NoTable img free L name
  pub rewrite : (v : List ℕ) → RewriteOf img 2 page c name v name_rule L.meta L.free (target name_rule name L.meta)
  pub puts : (v : List ℕ) → changed L.meta (target name_rule name L.meta) c name v
      ≡ insert name_rule name v (span_at L.meta (target name_rule name L.meta)).entries
  pub passed : PathAt L.meta (suc (target name_rule name L.meta)) path

pub record EnterReady (img scratch : List ℕ) (page free : ℕ) (c : Change) (name path : List ℕ) : Type 0 where
  pub layout : Layout
  pub enters : Enters img page free c name path layout
  pub allowed : T (name_rule.allowed name)
  pub lent : length scratch ≡ length img

pub record Entered (img : List ℕ) (page free : ℕ) (c : Change) (name path : List ℕ) (r : Option ℕ) (out : List ℕ) : Type 0 where
  pub is : (L : Layout) → Enters img page free c name path L → Outcome img L name r out

-- ---- Create

pub record CreateReady (img scratch : List ℕ) (free : ℕ) (name : List ℕ) : Type 0 where
  pub layout : Layout
  pub is : NoTable img free layout name
  pub allowed : T (name_rule.allowed name)
  pub lent : length scratch ≡ length img

pub record Created (img : List ℕ) (free : ℕ) (name : List ℕ) (r : Option ℕ) (out : List ℕ) : Type 0 where
  pub is : (L : Layout) → NoTable img free L name → Outcome img L name r out
