-- The free list as the bytes of an image show it.
use Rattle.std.specs.Prelude.{ℕ, ◌*◌, ◌≤◌, ◌≡◌, List, cond, length}
use Rattle.blockfile.specs.Bytes.{pg, be32, Every, gather}
use Rattle.blockfile.specs.Layout.{Block}
use Rattle.blockfile.specs.Order.{Within, within}
use Rattle.blockfile.specs.WellFormed.{Bears, pages_of, first_block, free_pieces, count}

-- the pages of a free list
abbrev pub free_pages : List Block → List ℕ
free_pages bs = gather pages_of (free_pieces bs)

-- The bytes show the free list bs, whose pages are pages of the image, none of them page 1 and none of them twice
pub record FreeList (img : List ℕ) (bs : List Block) : Type 0 where
  pub pages : ℕ
  pub range : Within 4 4096 pages
  pub size : length img ≡ 1024 * pages
  pub first : be32 (pg img 1) 16 ≡ first_block bs
  pub bears : Every (Bears (pg img)) (free_pieces bs)
  pub few : Every (λ b. length b.listed ≤ 252) bs
  pub once : (n : ℕ) → count n (free_pages bs) ≤ cond (within 2 pages n) 1 0
