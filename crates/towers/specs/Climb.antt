-- What the parts of the walk over the towers find.
use Rattle.std.specs.Prelude.{ℕ, ◌+◌, ◌*◌, ◌≤◌, ◌<◌, true, ◌≡◌, List, [], ◌∷◌, map, length, get_or}
use Rattle.blockfile.specs.Bytes.{pg, be16, be32, Every}
use Rattle.blockfile.specs.Layout.{Column, spans_of, towers_of}
use Rattle.blockfile.specs.Order.{Within}
use Rattle.blockfile.specs.WellFormed.{tower, next_at, link_towers}
use Rattle.heads.specs.Claims.{Lent, claimable, claimed}
use Rattle.walks.specs.Found.{Found}

-- ---- Levels: the tower expected at each level, as an entry of a tower's page

abbrev pub level_at : (levels : List ℕ) (i : ℕ) → ℕ
level_at levels i = be32 levels (16 + 4 * i)

-- n bytes from 20 on are those four before
abbrev pub Repeats : (levels : List ℕ) (n : ℕ) → Type 0
Repeats levels n = (i : ℕ) → i < n → get_or levels (20 + i) 0 ≡ get_or levels (16 + i) 0

-- the first n levels are v
abbrev pub AllAre : (levels : List ℕ) (n v : ℕ) → Type 0
AllAre levels n v = (i : ℕ) → i < n → level_at levels i ≡ v

-- entry i of the tower on page n
abbrev pub entry_at : (img : List ℕ) (n i : ℕ) → ℕ
entry_at img n i = be32 (pg img n) (16 + 4 * i)

-- the levels, with the first h those of the tower on page n, are `out`
pub record Followed (img : List ℕ) (n h : ℕ) (levels out : List ℕ) : Type 0 where
  pub long : length out ≡ length levels
  pub below : (i : ℕ) → i < h → level_at out i ≡ entry_at img n i
  pub above : (i : ℕ) → h ≤ i → level_at out i ≡ level_at levels i

-- ---- Spans: only their pages and next links are looked at

abbrev pub next_span : (img : List ℕ) (n : ℕ) → ℕ
next_span img n = be32 (pg img n) 12

-- next links lead from p through the pages of the list, which are pages of the image, to q
abbrev pub Way : (img : List ℕ) (p q : ℕ) → List ℕ → Type 0
Way img p q [] = p ≡ q
Way img p q (x ∷ l) = (p ≡ x) × (1 ≤ x) × (1024 * x ≤ length img) × Way img (next_span img x) q l

-- next links lead from p to 0, past no more pages than the image has
pub record Linked (img : List ℕ) (p : ℕ) : Type 0 where
  pub passed : List ℕ
  pub way : Way img p 0 passed
  pub few : 1024 * length passed ≤ length img

-- the scratch has the heads of an image whose next links lead from p to 0
pub record HasWay (scr : List ℕ) (p : ℕ) : Type 0 where
  pub image : List ℕ
  pub lent : Lent image scr
  pub linked : Linked image p

-- q is one of the spans from p on
pub record Reach (img : List ℕ) (p q : ℕ) : Type 0 where
  pub passed : List ℕ
  pub way : Way img p q passed
  pub low : 1 ≤ q
  pub high : 1024 * q ≤ length img

-- ---- Towers

-- max height 1 to 252, current height at most max, and lo to hi
pub record Tall (lo hi max height : ℕ) : Type 0 where
  pub range : Within 1 252 max
  pub most : height ≤ max
  pub low : lo ≤ height
  pub high : height ≤ hi

-- the span that the tower on page n names
abbrev pub span_under : (img : List ℕ) (n : ℕ) → ℕ
span_under img n = be32 (pg img n) 12

-- page n can be claimed as a tower of current height m, which is lo to hi
pub record TowerFound (img scr : List ℕ) (lo hi n m : ℕ) (out : List ℕ) : Type 0 where
  pub can : claimable img scr n 2 ≡ true
  pub height : m ≡ be16 (pg img n) 10
  pub tall : Tall lo hi (be16 (pg img n) 8) m
  pub left : out ≡ claimed scr n

-- besides, it stands on a span from p on, and is expected at each of its levels
pub record Placed (img scr : List ℕ) (top : ℕ) (levels : List ℕ) (p n m : ℕ) (out : List ℕ) : Type 0 where
  pub found : TowerFound img scr 1 top n m out
  pub reach : Reach img p (span_under img n)
  pub expected : AllAre levels m n

-- the towers of the columns, whose spans are those from p on, where the tower expected at level i is e i; with n before, they are m in all
pub record ClimbOn (img scr : List ℕ) (top p : ℕ) (e : ℕ → ℕ) (n m : ℕ) (out : List ℕ) (cs : List Column) : Type 0 where
  pub way : Way img p 0 (map (λ s. s.page) (spans_of cs))
  pub tall : Every (λ w. Tall 1 top w.max_height w.height) (towers_of cs)
  pub expected : (i : ℕ) → i < top → e i ≡ next_at i (towers_of cs)
  pub found : Found img scr (map tower (link_towers cs)) out
  pub total : m ≡ n + length (towers_of cs)

-- there are such columns
pub record Climb (img scr : List ℕ) (top p : ℕ) (e : ℕ → ℕ) (n m : ℕ) (out : List ℕ) : Type 0 where
  pub rest : List Column
  pub on : ClimbOn img scr top p e n m out rest
