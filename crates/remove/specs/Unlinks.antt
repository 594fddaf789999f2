-- A span, not the first, unlinked and given back: what is asked for, and what is left.
use Rattle.std.specs.Prelude.{ℕ, suc, ◌+◌, ◌-◌, ◌≤◌, ◌<◌, ◌≡◌, List, [], ◌∷◌, ◌++◌, map, length, Option, option_to_list}
use Rattle.blockfile.specs.Bytes.{Write, on, word32, apply}
use Rattle.blockfile.specs.Layout.{Table, Block, columns}
use Rattle.blockfile.specs.Order.{KeyRule}
use Rattle.blockfile.specs.Free.{draw}
use Rattle.blockfile.specs.Put.{span_at}
use Rattle.blockfile.specs.Remove.{without, towers_at, unlinking}
use Rattle.pages.specs.Places.{Inside}
use Rattle.links.specs.Levels.{PathAt}
use Rattle.edit.specs.declared.fields.Links.{Links}
use Rattle.edit.specs.Fields.{ListOf, LinksOf}
use Rattle.edit.specs.Cuts.{prev_on, counts_at}
use Rattle.edit.specs.Standing.{Standing, here_at}
use Rattle.remove.specs.declared.tower.OwnTower.{OwnTower}
use Rattle.remove.specs.declared.unlink.Going.{Going}
use Rattle.remove.specs.Towers.{TowerFor}

-- ---- Links of spans

-- the next link of the span on page p becomes n, the previous link of the one on page n becomes p; n is 0 for none
abbrev pub around_writes : (p n : ℕ) → List Write
around_writes p n = on p 12 (word32 n) ∷ prev_on n p

pub record SpansReady (img : List ℕ) (p n : ℕ) : Type 0 where
  pub before : Inside img p 0 1024
  pub behind : (n ≡ 0 → ⊥) → Inside img n 0 1024

-- ---- Counts

-- the counts without the span's keys, the span and its tower
abbrev pub lowered : Going → (tower : Option ℕ) → List Write
lowered x tower = counts_at x.root (x.list.size - x.links.size) (x.list.spans - 1) (x.list.levels - length (option_to_list tower)) ∷ []

pub record CountsReady (img : List ℕ) (x : Going) (tower : Option ℕ) : Type 0 where
  pub root : Inside img x.root 16 12
  pub size : x.links.size ≤ x.list.size
  pub spans : 1 ≤ x.list.spans
  pub levels : length (option_to_list tower) ≤ x.list.levels

-- ---- All of it

-- the span on the page is at place k + 1 of the table
pub record GoneAt (img : List ℕ) (root page : ℕ) (r : KeyRule) (t : Table) (bs : List Block) (k : ℕ) : Type 0 where
  pub standing : Standing img r t bs
  pub at : root ≡ t.root
  pub inside : suc k < length (columns t)
  pub here : page ≡ (span_at t (suc k)).page

-- what the text writes
abbrev pub unlink_writes : Table → (k : ℕ) → List Block → List Write
unlink_writes t k bs =
    (draw (span_at t (suc k)).conts 0 ((span_at t (suc k)).page ∷ map (λ w. w.page) (towers_at t (suc k))) bs).writes
    ++ unlinking (without t (suc k)) (suc k) (towers_at t (suc k))

-- how many pages the text gives back: the continuation pages, the span's and its tower's
abbrev pub gone_count : Table → (i : ℕ) → ℕ
gone_count t i = length (span_at t i).conts + 1 + length (towers_at t i)

-- with all that was read of it
pub record GoingAt (img : List ℕ) (x : Going) (w : OwnTower) (path : List ℕ) (r : KeyRule) (t : Table) (bs : List Block) (k : ℕ) : Type 0 where
  pub gone : GoneAt img x.root x.page r t bs k
  pub list : ListOf t x.list
  pub links : LinksOf (here_at t (suc k)) x.links
  pub tower : TowerFor img t k path w

pub record GoingReady (img : List ℕ) (x : Going) (w : OwnTower) (path : List ℕ) : Type 0 where
  pub rule : KeyRule
  pub table : Table
  pub blocks : List Block
  pub place : ℕ
  pub is : GoingAt img x w path rule table blocks place

pub record LetGo (img : List ℕ) (x : Going) (w : OwnTower) (path : List ℕ) (n : ℕ) (out : List ℕ) : Type 0 where
  pub image : (r : KeyRule) (t : Table) (bs : List Block) (k : ℕ) → GoingAt img x w path r t bs k → out ≡ apply (unlink_writes t k bs) img
  pub given : (r : KeyRule) (t : Table) (bs : List Block) (k : ℕ) → GoingAt img x w path r t bs k → n ≡ gone_count t (suc k)

-- the links are what the page of the span at place k + 1 says, and the path has the towers before it
pub record UnlinkOf (img : List ℕ) (root page : ℕ) (x : Links) (path : List ℕ) (r : KeyRule) (t : Table) (bs : List Block) (k : ℕ) : Type 0 where
  pub gone : GoneAt img root page r t bs k
  pub links : LinksOf (here_at t (suc k)) x
  pub passed : PathAt t (suc k) path

pub record UnlinkReady (img : List ℕ) (root page : ℕ) (x : Links) (path : List ℕ) : Type 0 where
  pub rule : KeyRule
  pub table : Table
  pub blocks : List Block
  pub place : ℕ
  pub is : UnlinkOf img root page x path rule table blocks place

pub record Unlinked (img : List ℕ) (root page : ℕ) (x : Links) (path : List ℕ) (n : ℕ) (out : List ℕ) : Type 0 where
  pub image : (r : KeyRule) (t : Table) (bs : List Block) (k : ℕ) → UnlinkOf img root page x path r t bs k → out ≡ apply (unlink_writes t k bs) img
  pub given : (r : KeyRule) (t : Table) (bs : List Block) (k : ℕ) → UnlinkOf img root page x path r t bs k → n ≡ gone_count t (suc k)
