-- The order of two byte strings as an answer.
use Rattle.std.specs.Prelude.{ℕ, ◌≤◌, ◌<◌, ◌≡◌, cond, List, length, drop, get_or}
use Rattle.blockfile.specs.Order.{bytes_below, same}
use Rattle.std.specs.declared.cmp.Ordering.{Ordering}
use Rattle.std.specs.declared.cmp.Ordering.TheVariants.{Less, Equal, Greater}
use Rattle.order.specs.Words.{words_below, words_same, words}

-- the text's order of two keys
unfoldable pub order : (k l : List ℕ) → Ordering
order k l = cond (same k l) Equal (cond (bytes_below k l) Less Greater)

-- the same, eight bytes at a time (request T-04)
unfoldable pub word_order : (k l : List ℕ) → Ordering
word_order k l = cond (words_same (words k l) k l) Equal (cond (words_below (words k l) k l) Less Greater)

-- r is what comparing x and y eight bytes at a time gives, and that is their order
pub record ByWords (x y : List ℕ) (r : Ordering) : Type 0 where
  pub words : r ≡ word_order x y
  pub bytes : r ≡ order x y

-- r is the smaller of two numbers
pub record Least (m n r : ℕ) : Type 0 where
  pub first : r ≤ m
  pub second : r ≤ n
  pub whole : m ≤ n → m ≤ r
  pub other : n ≤ m → n ≤ r

-- x and y have the same bytes from i on up to n
pub record SameFrom (x y : List ℕ) (i n : ℕ) : Type 0 where
  pub bytes : (k : ℕ) → i ≤ k → k < n → get_or x k 0 ≡ get_or y k 0

-- the first i bytes of x and y are the same, so that the others have their order; n is the smaller length
pub record Alike (x y : List ℕ) (n i : ℕ) : Type 0 where
  pub least : Least (length x) (length y) n
  pub few : i ≤ n
  pub rest : order (drop i x) (drop i y) ≡ order x y
