-- Keys on the pages of a span, as those of their table sort.
use Rattle.std.specs.Prelude.{◌≡◌, ℕ, ◌≤◌, List}
use Rattle.std.specs.declared.cmp.Ordering.{Ordering}
use Rattle.order.specs.declared.sort.Sort.{Sort}
use Rattle.order.specs.Sorts.{table_sort, order_as, sign_as, rank}
use Rattle.entries.specs.declared.place.Place.{Place}
use Rattle.entries.specs.Keys.{KeyAt}

-- r is how the keys sort of the table whose name is the key of n bytes at the place
pub record SortAt (img : List ℕ) (at : Place) (n : ℕ) (r : Sort) : Type 0 where
  pub is : (k : List ℕ) → KeyAt img at n k → r ≡ table_sort k

-- r is the sign of the key
pub record SignAt (s : Sort) (img : List ℕ) (at : Place) (n r : ℕ) : Type 0 where
  pub is : (k : List ℕ) → KeyAt img at n k → r ≡ sign_as s k

pub record ComparedAs (s : Sort) (img : List ℕ) (a : Place) (m : ℕ) (l : List ℕ) (r : Ordering) : Type 0 where
  pub is : (k : List ℕ) → KeyAt img a m k → r ≡ order_as s k l

-- p is the rank of the key
pub record Ranked (s : Sort) (img : List ℕ) (at : Place) (n p : ℕ) : Type 0 where
  pub is : (k : List ℕ) → KeyAt img at n k → p ≡ rank s k

-- p is not below the rank of the key
pub record RankMost (s : Sort) (img : List ℕ) (at : Place) (n p : ℕ) : Type 0 where
  pub most : (k : List ℕ) → KeyAt img at n k → rank s k ≤ p
