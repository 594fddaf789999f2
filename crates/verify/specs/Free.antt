-- The free list, as its walk finds it.
use Rattle.std.specs.Prelude.{ℕ, zero, suc, ◌+◌, ◌≤◌, ◌≡◌, List, [], ◌∷◌, map, length}
use Rattle.blockfile.specs.Bytes.{pg, be32, Every}
use Rattle.blockfile.specs.Layout.{Block, free_count}
use Rattle.blockfile.specs.WellFormed.{block, free_page, free_pieces, first_block}
use Rattle.walks.specs.Found.{Found}

-- n four-byte numbers of b from offset o on
abbrev pub numbers_at : (b : List ℕ) (o n : ℕ) → List ℕ
numbers_at b o zero = []
numbers_at b o (suc n) = be32 b o ∷ numbers_at b (o + 4) n

-- the pages that the block on page p lists, n of them, from the one at offset o on: free pages that can be claimed
abbrev pub ListedFound : (img scr : List ℕ) (p o n : ℕ) (out : List ℕ) → Type 0
ListedFound img scr p o n out = Found img scr (map free_page (numbers_at (pg img p) o n)) out

-- the block on page p and the pages it lists, m in all
pub record BlockFound (img scr : List ℕ) (p m : ℕ) (out : List ℕ) : Type 0 where
  pub listed : List ℕ
  pub few : length listed ≤ 252
  pub found : Found img scr (block (record { page = p; listed = listed }) (be32 (pg img p) 8) ∷ map free_page listed) out
  pub total : m ≡ 1 + length listed

-- the free list from the block on page p on; with n pages before, it is m in all
pub record FreeFound (img scr : List ℕ) (p n m : ℕ) (out : List ℕ) : Type 0 where
  pub blocks : List Block
  pub first : p ≡ first_block blocks
  pub few : Every (λ b. length b.listed ≤ 252) blocks
  pub found : Found img scr (free_pieces blocks) out
  pub total : m ≡ n + free_count blocks
