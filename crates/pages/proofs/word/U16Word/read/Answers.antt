-- `pages::word` reads a number of two bytes.
use native.Mathlib.Omega.{arith}
use Rattle.blockfile.specs.Bytes.{be16}
use Rattle.pages.proofs.word.U16Word.read.Goals as goal

pub returns : goal.returns
unfolding be16
returns c = record { is = omega arith; below = omega arith }
