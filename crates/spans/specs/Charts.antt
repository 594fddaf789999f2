-- The chart of a span: every sixteenth of its continuation pages, so that a place far on is found without all the links before it.
use Rattle.std.specs.Prelude.{ℕ, zero, suc, ◌+◌, ◌*◌, ◌-◌, ◌≤◌, ◌<◌, ◌≡◌, List, length, drop, get_or}
use Rattle.blockfile.specs.Bytes.{pg, be32}
use Rattle.heads.specs.Claims.{Lent}
use Rattle.entries.specs.declared.place.Place.{Place}
use Rattle.entries.specs.Places.{IsPage, Rest}

-- the page that n links of continuation pages lead to, from page p on
abbrev pub along : (img : List ℕ) (p n : ℕ) → ℕ
along img p zero = p
along img p (suc n) = be32 (pg img (along img p n)) 4

-- of the m pages along the links from p on, the chart has every sixteenth
pub record Charted (img : List ℕ) (p m : ℕ) (chart : List ℕ) : Type 0 where
  pub long : length chart ≡ 256
  pub pages : (i : ℕ) → 16 * i < m → get_or chart i 0 ≡ along img p (16 * i)

-- the page of this index is in the chart, if it is to be there, and those before it are kept
pub record Noted (old : List ℕ) (index page : ℕ) (new : List ℕ) : Type 0 where
  pub long : length new ≡ length old
  pub here : (i : ℕ) → index ≡ 16 * i → get_or new i 0 ≡ page
  pub kept : (i : ℕ) → 16 * i < index → get_or new i 0 ≡ get_or old i 0

-- the scratch has the heads of the image, and the chart the continuation pages from p on, one of which has this index
pub record Paged (scr chart img : List ℕ) (p index : ℕ) : Type 0 where
  pub lent : Lent img scr
  pub more : ℕ
  pub charted : Charted img p more chart
  pub there : index < more
  pub few : more ≤ 4096
  pub inside : (i : ℕ) → i ≤ index → IsPage img (along img p i)

-- a place in the pages of a span whose continuation pages are in the chart: the bytes from the place on end as those of the
-- continuation pages, the tail, do
pub record Spread (img chart : List ℕ) (more : ℕ) (at : Place) (left : ℕ) : Type 0 where
  pub bytes : List ℕ
  pub rest : Rest img at bytes
  pub long : left ≡ length bytes
  pub first : ℕ
  pub tail : List ℕ
  pub from : 0 < more → Rest img (record { page = first; offset = 8 }) tail
  pub all : length tail ≡ 1016 * more
  pub few : more ≤ 4096
  pub most : left ≤ 1016 + 1016 * more
  pub ends : (j : ℕ) → j ≤ length bytes → j ≤ length tail → drop (length bytes - j) bytes ≡ drop (length tail - j) tail
  pub charted : Charted img first more chart
