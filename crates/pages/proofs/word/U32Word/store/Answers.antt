-- `pages::word` stores a number of four bytes.
use mathlib.Core.Path.{ap, ◌∙◌}
use lib.Seq.{sets}
use Rattle.pages.proofs.Stores.{be-bytes32}
use Rattle.pages.proofs.word.U32Word.store.Goals as goal

pub returns : goal.returns
returns c = c.copy_bytes.ensures ∙ ap (sets c.args.bytes.now c.args.at) (c.to_be_bytes-four.ensures ∙ be-bytes32 c.args.v)
