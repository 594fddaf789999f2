-- The kinds of page: where their marks stand in the text's table, and a mark as a number.
use Rattle.std.specs.Prelude.{ℕ, ◌≡◌, [], length, get_or}
use Rattle.blockfile.specs.Marks.{marks}
use Rattle.pages.specs.Begins.{lead}
use Rattle.pages.specs.declared.mark.Kind.{Kind}
use Rattle.pages.specs.declared.mark.Kind.TheVariants.{Superblock, SkipList, Tower, Span, Continuation, Block, Free}

-- the place of a kind's mark in the table of the marks
abbrev pub kind_at : Kind → ℕ
kind_at Superblock = 0
kind_at SkipList = 1
kind_at Tower = 2
kind_at Span = 3
kind_at Continuation = 4
kind_at Block = 5
kind_at Free = 6

-- the kind's mark has n bytes, and is the number x with zeros behind it up to eight bytes
pub record IsMark (k : Kind) (x n : ℕ) : Type 0 where
  pub number : x ≡ lead 8 (get_or marks (kind_at k) [])
  pub long : n ≡ length (get_or marks (kind_at k) [])
