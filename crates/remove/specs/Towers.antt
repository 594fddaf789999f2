-- The tower of a span that goes, with the towers around it.
use Rattle.std.specs.Prelude.{ℕ, suc, ◌≤◌, ◌≡◌, List, map, Some, None, option_to_list}
use Rattle.blockfile.specs.Layout.{Table}
use Rattle.blockfile.specs.Remove.{towers_at}
use Rattle.entries.specs.Places.{IsPage}
use Rattle.search.specs.Tables.{Reading}
use Rattle.links.specs.Levels.{After, PathAt, Preceded}
use Rattle.remove.specs.declared.tower.OwnTower.{OwnTower}

-- x is the tower at place k + 1, and the path has the last towers before it
pub record TowerFor (img : List ℕ) (t : Table) (k : ℕ) (path : List ℕ) (x : OwnTower) : Type 0 where
  pub before : PathAt t (suc k) path
  pub after : After t (suc (suc k)) x.height x.after
  pub inside : (n : ℕ) → x.page ≡ Some n → IsPage img n
  pub pages : map (λ w. w.page) (towers_at t (suc k)) ≡ option_to_list x.page
  pub heights : map (λ w. w.height) (towers_at t (suc k)) ≡ map (λ _. x.height) (option_to_list x.page)
  pub flat : x.page ≡ None → x.height ≡ 0
  pub low : x.height ≤ 252

pub record FoundTower (img : List ℕ) (page : ℕ) (path : List ℕ) (x : OwnTower) : Type 0 where
  pub is : (root : ℕ) (t : Reading img root) (k : ℕ) → Preceded t page k path → TowerFor img t.table k path x
