-- What the calls for C promise: the promise of the calls, for the numbers of the answer.
use Rattle.std.specs.Prelude.{ℕ, ◌≡◌, List}
use Rattle.blockfile.specs.Refusals.{Op, Reply}
use Rattle.blockfile.specs.Calls.{Keeps}
use Rattle.calstore.specs.declared.Answer.{Answer}

-- the answer's numbers but the page
abbrev pub reply_of : Answer → Reply
reply_of a =
    record { number = a.number; len = a.length; pages = a.pages; tables = a.tables; keys = a.keys; free = a.free }

-- the answer has the reply's numbers, and no page
pub record Bears (reply : Reply) (a : Answer) : Type 0 where
  pub numbers : reply_of a ≡ reply
  pub page : a.page ≡ 0

-- a call's promise for its answer, and for every byte of image, scratch and answer buffer after it
pub record Answers (op : Op) (img scratch buffer : List ℕ) (a : Answer) (img' scratch' buffer' : List ℕ) : Type 0 where
  pub keeps : Keeps op img scratch buffer (reply_of a) img' scratch' buffer'
  pub page : a.page ≡ 0
