-- Places on a page, and numbers read.
use Rattle.std.specs.Prelude.{ℕ, ◌+◌, ◌*◌, ◌≤◌, ◌<◌, ◌≡◌, List, length}

-- page n is a page of the image, of at most 4096 pages, and w bytes from offset o on lie on it
pub record Inside (img : List ℕ) (n o w : ℕ) : Type 0 where
  pub small : length img ≤ 4194304
  pub low : 1 ≤ n
  pub high : 1024 * n ≤ length img
  pub fits : o + w ≤ 1024

-- r is the number v, which is below top
pub record Number (v top r : ℕ) : Type 0 where
  pub is : r ≡ v
  pub below : r < top

-- of a stream of len bytes, r stand on its page from byte f on: 1016, or all that are left
pub record Chunk (len f r : ℕ) : Type 0 where
  pub most : r ≤ 1016
  pub there : f + r ≤ len
  pub all : r < 1016 → f + r ≡ len
