-- Keys on the pages of a span, and their order.
use Rattle.std.specs.Prelude.{◌≡◌, ℕ, ◌+◌, ◌<◌, ◌≤◌, Bool, true, List, length, take}
use Rattle.blockfile.specs.Order.{all_within}
use Rattle.pages.specs.Begins.{lead}
use Rattle.std.specs.declared.cmp.Ordering.{Ordering}
use Rattle.order.specs.Bytes.{order}
use Rattle.entries.specs.declared.place.Place.{Place}
use Rattle.entries.specs.Places.{Rest}

-- k is the key of n bytes at the place; nothing is asked of the place of an empty key
pub record KeyAt (img : List ℕ) (at : Place) (n : ℕ) (k : List ℕ) : Type 0 where
  pub bytes : List ℕ
  pub rest : 0 < n → Rest img at bytes
  pub long : n ≤ length bytes
  pub is : k ≡ take n bytes

-- there is a key
pub record Key (img : List ℕ) (at : Place) (n : ℕ) : Type 0 where
  pub key : List ℕ
  pub there : KeyAt img at n key

pub record Compared (img : List ℕ) (a : Place) (m : ℕ) (b : Place) (n : ℕ) (r : Ordering) : Type 0 where
  pub is : (k l : List ℕ) → KeyAt img a m k → KeyAt img b n l → r ≡ order k l

pub record ComparedTo (img : List ℕ) (a : Place) (m : ℕ) (l : List ℕ) (r : Ordering) : Type 0 where
  pub is : (k : List ℕ) → KeyAt img a m k → r ≡ order k l

pub record Printed (img : List ℕ) (at : Place) (n : ℕ) (r : Bool) : Type 0 where
  pub is : (k : List ℕ) → KeyAt img at n k → r ≡ all_within 0x21 0x7e k

-- r bytes, at least one, of m and of n bytes that start at offsets a and b of pages, lie on these pages
pub record Together (a m b n r : ℕ) : Type 0 where
  pub some : 1 ≤ r
  pub first : r ≤ m
  pub second : r ≤ n
  pub here : a + r ≤ 1024
  pub there : b + r ≤ 1024

-- the offset of a key that is not empty is on its page
pub record Near (at : Place) (n : ℕ) : Type 0 where
  pub high : 0 < n → at.offset ≤ 1024

-- r only where a key of n bytes lies on one page
pub record OnPage (at : Place) (n : ℕ) (r : Bool) : Type 0 where
  pub some : r ≡ true → 0 < n
  pub fits : r ≡ true → at.offset + n ≤ 1024

-- p is the prefix of the key: its first eight bytes as a number
pub record Prefixed (img : List ℕ) (at : Place) (n p : ℕ) : Type 0 where
  pub is : (k : List ℕ) → KeyAt img at n k → p ≡ lead 8 k
