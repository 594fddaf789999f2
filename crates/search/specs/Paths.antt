-- The way down the towers of a table, and the walk along the spans from there.
use Rattle.std.specs.Prelude.{ℕ, zero, suc, ◌≤◌, ◌<◌, ◌≡◌, ◌⊎◌, Bool, true, false, List, length, get_or}
use Rattle.blockfile.specs.Bytes.{pg, be32, padded}
use Rattle.blockfile.specs.Layout.{Entry, Table}
use Rattle.blockfile.specs.Put.{target, span_at}
use Rattle.blockfile.specs.Path.{begun, passed, path}
use Rattle.pages.specs.Places.{Inside}
use Rattle.order.specs.declared.sort.Sort.{Sort}
use Rattle.search.specs.declared.span.Bound.{Bound}
use Rattle.search.specs.declared.table.TableRef.{TableRef}
use Rattle.search.specs.declared.path.Path.{Path}
use Rattle.search.specs.Spans.{FilledBy, OverOn}
use Rattle.search.specs.Tables.{Reading, ReadingBy}

-- ---- Levels

-- the levels, where each level l below h becomes f l, are `out`
pub record Filled (levels : List ℕ) (h : ℕ) (f : ℕ → ℕ) (out : List ℕ) : Type 0 where
  pub long : length out ≡ length levels
  pub below : (l : ℕ) → l < h → get_or out l 0 ≡ f l
  pub above : (l : ℕ) → h ≤ l → get_or out l 0 ≡ get_or levels l 0

-- ---- The path

-- p is the text's path with zeros behind it, and its height the head's
pub record Way (so : List Entry → Bool) (t : Table) (p : Path) : Type 0 where
  pub pages : p.pages ≡ padded 252 (path so t)
  pub height : p.height ≡ t.head.height

pub record PathIn (img : List ℕ) (d : TableRef) (k : List ℕ) (strict : Bool) (p : Path) : Type 0 where
  pub is : (x : ReadingBy img d) → Way (begun strict x.of.rule k) x.of.table p

-- ---- A step on a level

-- if n is a page, it is in the image, and a span that is not empty is on the page that it names
pub record Ahead (img : List ℕ) (s : Sort) (n : ℕ) : Type 0 where
  pub inside : (n ≡ 0 → ⊥) → Inside img n 12 4
  pub names : (n ≡ 0 → ⊥) → FilledBy img (be32 (pg img n) 12) s

-- n is none, or its span begins past the bound
abbrev pub Refused : (img : List ℕ) (b : Bound) (k : List ℕ) (n : ℕ) → Type 0
Refused img b k n = (n ≡ 0) ⊎ OverOn img (be32 (pg img n) 12) b k true

-- v says whether n is refused
pub record Judged (img : List ℕ) (b : Bound) (k : List ℕ) (n : ℕ) (v : Bool) : Type 0 where
  pub stop : v ≡ true → Refused img b k n
  pub pass : v ≡ false → (n ≡ 0 → ⊥) × OverOn img (be32 (pg img n) 12) b k false

-- ---- The walk along the spans

-- the span on the page is at a place up to the target
pub record Started {img : List ℕ} {root : ℕ} (t : Reading img root) (k : List ℕ) (page : ℕ) : Type 0 where
  pub place : ℕ
  pub most : place ≤ target t.rule k t.table
  pub is : page ≡ (span_at t.table place).page

-- n is the lowest tower passed on the way to the key; 0 where there are no levels
pub record LowestIn (img : List ℕ) (d : TableRef) (k : List ℕ) (n : ℕ) : Type 0 where
  pub strict : Bool
  pub is : (x : ReadingBy img d) → (n ≡ 0) ⊎ (n ≡ passed (begun strict x.of.rule k) x.of.table 0)

-- the page of that tower's span; of the first span for 0
abbrev pub start_on : (img : List ℕ) (root n : ℕ) → ℕ
start_on img root zero = be32 (pg img root) 8
start_on img root (suc n) = be32 (pg img (suc n)) 12
