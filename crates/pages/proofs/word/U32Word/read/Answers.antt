-- `pages::word` reads a number of four bytes: it is two numbers of two bytes.
use native.Mathlib.Omega.{arith}
use Rattle.blockfile.specs.Bytes.{be32}
use Rattle.pages.proofs.word.U32Word.read.Goals as goal

pub returns : goal.returns
unfolding be32
returns c = record { is = omega arith; below = omega arith }
