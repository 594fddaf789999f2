-- The towers around a place of a table, level by level.
use Rattle.std.specs.Prelude.{ℕ, zero, suc, ◌+◌, ◌*◌, ◌≤◌, ◌<◌, ◌≡◌, List, [], ◌∷◌, length, get_or, take, drop, Option, Some, None}
use Rattle.blockfile.specs.Bytes.{pg, be16, be32}
use Rattle.blockfile.specs.Layout.{Tower, Table, columns, towers_of}
use Rattle.blockfile.specs.WellFormed.{next_at}
use Rattle.blockfile.specs.Put.{last_at, span_at}
use Rattle.blockfile.specs.Remove.{towers_at}
use Rattle.entries.specs.Places.{IsPage}
use Rattle.search.specs.Tables.{Reading}

-- each level below h has the last tower before place j whose current is above it, the head if there is no other
pub record Before (t : Table) (j h : ℕ) (levels : List ℕ) : Type 0 where
  pub long : length levels ≡ 252
  pub last : (l : ℕ) → l < h → get_or levels l 0 ≡ last_at l t.head.page (towers_of (take j (columns t)))

-- each level below h has the next tower from place j on whose current is above it, 0 if there is none
pub record After (t : Table) (j h : ℕ) (levels : List ℕ) : Type 0 where
  pub long : length levels ≡ 252
  pub next : (l : ℕ) → l < h → get_or levels l 0 ≡ next_at l (towers_of (drop j (columns t)))

-- ---- Places and paths

-- the span on the page is at place i of the table
pub record SpanAt {img : List ℕ} {root : ℕ} (t : Reading img root) (page i : ℕ) : Type 0 where
  pub there : i < length (columns t.table)
  pub is : page ≡ (span_at t.table i).page

-- the levels have the last towers before place j below the head's current, and 0 from there on
pub record PathAt (t : Table) (j : ℕ) (levels : List ℕ) : Type 0 where
  pub before : Before t j t.head.height levels
  pub none : (l : ℕ) → t.head.height ≤ l → l < 252 → get_or levels l 0 ≡ 0

-- ---- towers_before

-- page numbers, or 0
pub record Pages (path : List ℕ) : Type 0 where
  pub long : length path ≡ 252
  pub small : (l : ℕ) → get_or path l 0 ≤ 4096

-- a page of a path; the head where there is none
abbrev pub page_or_head : (head page : ℕ) → ℕ
page_or_head head zero = head
page_or_head head (suc n) = suc n

-- ---- towers_after

-- the levels have the last towers before a place, not the first, of the table that has the skip-list page
pub record HasBefore (img : List ℕ) (root : ℕ) (levels : List ℕ) : Type 0 where
  pub reading : Reading img root
  pub place : ℕ
  pub before : Before reading.table (suc place) 252 levels

-- with the last towers before any such place, `out` has the next ones
pub record AfterIn (img : List ℕ) (root : ℕ) (levels out : List ℕ) : Type 0 where
  pub is : (t : Reading img root) (i : ℕ) → Before t.table (suc i) 252 levels → After t.table (suc i) 252 out

-- ---- tower_of

-- the span on the page is at place k + 1, and the path has the last towers before it
pub record Preceded {img : List ℕ} {root : ℕ} (t : Reading img root) (page k : ℕ) (levels : List ℕ) : Type 0 where
  pub at : SpanAt t page (suc k)
  pub path : PathAt t.table (suc k) levels

pub record Precedes (img : List ℕ) (page : ℕ) (levels : List ℕ) : Type 0 where
  pub root : ℕ
  pub reading : Reading img root
  pub place : ℕ
  pub is : Preceded reading page place levels

-- n is the page of the tower at place i of the table; its entries are the next towers behind it
pub record TowerHere {img : List ℕ} {root : ℕ} (t : Reading img root) (i n : ℕ) : Type 0 where
  pub page : IsPage img n
  pub tower : (w : Tower) × (towers_at t.table i ≡ w ∷ []) × (n ≡ w.page) × (be16 (pg img n) 10 ≡ w.height)
  pub nexts : (l : ℕ) → l < be16 (pg img n) 10 → be32 (pg img n) (16 + 4 * l) ≡ next_at l (towers_of (drop (suc i) (columns t.table)))
  pub low : be16 (pg img n) 10 ≤ t.table.head.height

-- r is the page of the tower at place i of the table, if there is one
pub record TowerAt {img : List ℕ} {root : ℕ} (t : Reading img root) (i : ℕ) (r : Option ℕ) : Type 0 where
  pub none : r ≡ None → towers_at t.table i ≡ []
  pub some : (n : ℕ) → r ≡ Some n → TowerHere t i n

-- wherever the span on the page is at a place and the path has the last towers before it
pub record TowerOn (img : List ℕ) (page : ℕ) (levels : List ℕ) (r : Option ℕ) : Type 0 where
  pub is : (root : ℕ) (t : Reading img root) (k : ℕ) → Preceded t page k levels → TowerAt t (suc k) r
