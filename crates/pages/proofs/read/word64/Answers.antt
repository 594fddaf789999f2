-- `pages::read::word64` meets its contract: it is two numbers of four bytes.
use borrow.Author.Rules.{rules}
use Rattle.blockfile.specs.Bytes.{be64}
use Rattle.pages.proofs.read.word64.Goals as goal

pub returns : goal.returns
unfolding be64
returns c = search rules
