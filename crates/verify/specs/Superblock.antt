-- The superblock, as it is found.
use Rattle.std.specs.Prelude.{ℕ, ◌*◌, ◌≡◌, List, [], ◌∷◌, get_or}
use Rattle.blockfile.specs.Bytes.{be32, be64}
use Rattle.blockfile.specs.Order.{Within}
use Rattle.blockfile.specs.WellFormed.{superblock}
use Rattle.heads.specs.Claims.{pages_in}
use Rattle.walks.specs.Found.{Found}

-- the fields that are the same in every image of p pages
pub record Fixed (p : ℕ) (b : List ℕ) : Type 0 where
  pub major : get_or b 6 0 ≡ 1
  pub minor : get_or b 7 0 ≡ 2
  pub file_length : be64 b 8 ≡ 1024 * p
  pub page_size : be32 b 24 ≡ 1024

-- the superblock is on page 1, which can be claimed, with this first free-list page
pub record SuperFound (img scr : List ℕ) (first : ℕ) (out : List ℕ) : Type 0 where
  pub size : ℕ
  pub range : Within 2 128 size
  pub found : Found img scr (superblock (pages_in scr) first size ∷ []) out
