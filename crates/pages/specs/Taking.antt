-- A page taken from the free list, a page given back, the pages taken next: the text's, for every free list that the bytes show.
use Rattle.std.specs.Prelude.{ℕ, suc, ◌*◌, ◌≤◌, ◌<◌, List, [], ◌∷◌, ◌≡◌, length, get_or}
use Rattle.blockfile.specs.Bytes.{apply}
use Rattle.blockfile.specs.Layout.{Block, free_count}
use Rattle.blockfile.specs.Free.{take_page, give_page, take_many}
use Rattle.laws.specs.FreeList.{FreeList}

-- the bytes show a free list that is not empty
pub record Takeable (img : List ℕ) : Type 0 where
  pub free : List Block
  pub shown : FreeList img free
  pub some : 1 ≤ free_count free

-- the page r was taken, which left the image out
pub record Took (img : List ℕ) (r : ℕ) (out : List ℕ) : Type 0 where
  pub low : 2 ≤ r
  pub high : 1024 * r ≤ length img
  pub page : (bs : List Block) → FreeList img bs → r ∷ [] ≡ (take_page bs).pages
  pub image : (bs : List Block) → FreeList img bs → out ≡ apply (take_page bs).writes img

-- the bytes show a free list, and x is a page
pub record Giveable (img : List ℕ) (x : ℕ) : Type 0 where
  pub free : List Block
  pub shown : FreeList img free
  pub low : 1 ≤ x
  pub high : 1024 * x ≤ length img

-- the page x was given back, which left the image out
abbrev pub Gave : (img : List ℕ) (x : ℕ) (out : List ℕ) → Type 0
Gave img x out = (bs : List Block) → FreeList img bs → out ≡ apply (give_page x bs).writes img

-- the bytes show a free list of more than j pages
pub record Ahead (img : List ℕ) (j : ℕ) : Type 0 where
  pub free : List Block
  pub shown : FreeList img free
  pub more : j < free_count free

-- r is the page that is taken after j others
pub record TakenAfter (img : List ℕ) (j r : ℕ) : Type 0 where
  pub low : 2 ≤ r
  pub high : 1024 * r ≤ length img
  pub is : (bs : List Block) → FreeList img bs → j < free_count bs → r ≡ get_or (take_many (suc j) bs).pages j 0
