-- The pages of a span written whole, by the list of their numbers.
use Rattle.std.specs.Prelude.{ℕ, ◌+◌, ◌*◌, ◌-◌, ◌≤◌, ◌≡◌, List, length}
use Rattle.blockfile.specs.Bytes.{apply, Every, first_of}
use Rattle.blockfile.specs.Marks.{span_mark}
use Rattle.blockfile.specs.Fields.{Numbers}
use Rattle.blockfile.specs.Encode.{stream_pages}

-- r is the first of the numbers from index i up to `end`, 0 if there are none
pub record FirstAt (numbers : List ℕ) (i end r : ℕ) : Type 0 where
  pub is : (ns : List ℕ) → Numbers numbers (4 * i) ns → i + length ns ≡ end → r ≡ first_of ns

-- n is a page of an image of so many bytes
abbrev pub PageOf : (bytes n : ℕ) → Type 0
PageOf bytes n = (1 ≤ n) × (1024 * n ≤ bytes)

-- the list has the numbers of `count` pages from index `at` on, and all but the last are filled by the stream
pub record Writable (img numbers : List ℕ) (at count : ℕ) (stream : List ℕ) : Type 0 where
  pub pages : List ℕ
  pub stand : Numbers numbers (4 * at) pages
  pub many : length pages ≡ count
  pub each : Every (PageOf (length img)) pages
  pub small : length img ≤ 4194304
  pub room : 4 * (at + count) ≤ length numbers
  pub long : 1016 * (count - 1) ≤ length stream

-- they were written as the pages of a span, which left the image out
pub record WroteChain (img numbers : List ℕ) (at count : ℕ) (stream out : List ℕ) : Type 0 where
  pub image : (w : Writable img numbers at count stream) → out ≡ apply (stream_pages span_mark w.pages stream) img
