-- Claims of pages, in a scratch that has the head of each page.
use Rattle.std.specs.Prelude.{ℕ, zero, suc, ◌+◌, ◌*◌, ◌-◌, ◌/◌, ◌≤◌, ◌<◌, Bool, true, ◌&&◌, not, cond, List, [], ◌≡◌, length, get_or, set, eqb, leb, ltb}
use Rattle.blockfile.specs.Bytes.{pg, be16, be32}
use Rattle.blockfile.specs.Marks.{marks}
use Rattle.pages.specs.Begins.{begins}

-- ---- Heads: the first 20 bytes of each page. In the scratch the first 16 bytes of all heads come first, then the last four of all.

-- how many pages have their heads in the scratch
abbrev pub pages_in : List ℕ → ℕ
pages_in scr = length scr / 20

-- where byte o of the head of the page of index j stands, with p pages
unfoldable pub head_at : (p j o : ℕ) → ℕ
head_at p j o = cond (ltb o 16) (16 * j + o) (16 * p + 4 * j + (o - 16))

-- an image of at most 4096 pages, and a scratch with room for their heads
pub record Room (img scr : List ℕ) : Type 0 where
  pub size : length img ≡ 1024 * pages_in scr
  pub whole : length scr ≡ 20 * pages_in scr
  pub most : pages_in scr ≤ 4096

-- the first byte of the head of a page that begins with b
abbrev pub opened : ℕ → ℕ
opened b = cond (eqb b 0) 255 b

-- the scratch has the heads of the pages; that of a claimed page begins with 0
pub record Lent (img scr : List ℕ) : Type 0 where
  pub room : Room img scr
  pub first : (j : ℕ) → 20 * j < length scr → (get_or scr (16 * j) 0 ≡ 0 → ⊥) → get_or scr (16 * j) 0 ≡ opened (get_or img (1024 * j) 0)
  pub others : (j i : ℕ) → 20 * j < length scr → 1 ≤ i → i < 20 → get_or scr (head_at (pages_in scr) j i) 0 ≡ get_or img (1024 * j + i) 0

-- the scratch has the heads of some image
abbrev pub Kept : List ℕ → Type 0
Kept scr = (img : List ℕ) × Lent img scr

-- the scratch has the heads of the pages, and no page is claimed
pub record Headed (img scr : List ℕ) : Type 0 where
  pub lent : Lent img scr
  pub unclaimed : (j : ℕ) → 20 * j < length scr → get_or scr (16 * j) 0 ≡ 0 → ⊥

-- the head of the page of index j is copied, and those before it are kept
pub record HeadCopied (img scr : List ℕ) (j : ℕ) (out : List ℕ) : Type 0 where
  pub long : length out ≡ length scr
  pub first : get_or out (16 * j) 0 ≡ opened (get_or img (1024 * j) 0)
  pub others : (i : ℕ) → 1 ≤ i → i < 20 → get_or out (head_at (pages_in scr) j i) 0 ≡ get_or img (1024 * j + i) 0
  pub kept : (k i : ℕ) → k < j → i < 20 → get_or out (head_at (pages_in scr) k i) 0 ≡ get_or scr (head_at (pages_in scr) k i) 0

-- the number at offset o of the head of page n, of two bytes and of four
abbrev pub head16 : (scr : List ℕ) (n o : ℕ) → ℕ
head16 scr n o = be16 scr (head_at (pages_in scr) (n - 1) o)

abbrev pub head32 : (scr : List ℕ) (n o : ℕ) → ℕ
head32 scr n o = be32 scr (head_at (pages_in scr) (n - 1) o)

-- the w bytes at offset o of the head of page n stand together and can be read
pub record InHead (scr : List ℕ) (n o w : ℕ) : Type 0 where
  pub small : length scr ≤ 81920
  pub low : 1 ≤ n
  pub high : 20 * n ≤ length scr
  pub fits : o + w ≤ 16 + 4 * (o / 16)

-- ---- Claims

-- page n can be claimed as kind k: it is one of the pages, not claimed yet, and bears the mark
unfoldable pub claimable : (img scr : List ℕ) (n k : ℕ) → Bool
claimable img scr n k = (leb 1 n && leb (20 * n) (length scr)) && (not (eqb (get_or scr (16 * (n - 1)) 0) 0) && begins (get_or marks k []) (pg img n))

-- the scratch with page n claimed
unfoldable pub claimed : (scr : List ℕ) (n : ℕ) → List ℕ
claimed scr n = set scr (16 * (n - 1)) 0

-- a claim of page n as kind k answers r and leaves the scratch out
pub record Claimed (img scr : List ℕ) (n k : ℕ) (r : Bool) (out : List ℕ) : Type 0 where
  pub answer : r ≡ claimable img scr n k
  pub left : out ≡ cond r (claimed scr n) scr

-- the first p pages are claimed
unfoldable pub full_to : (scr : List ℕ) (p : ℕ) → Bool
full_to scr zero = true
full_to scr (suc p) = eqb (get_or scr (16 * p) 0) 0 && full_to scr p

-- every page is claimed
unfoldable pub full : List ℕ → Bool
full scr = full_to scr (pages_in scr)
