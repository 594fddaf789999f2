-- `pages::word` stores a number of two bytes.
use mathlib.Core.Path.{ap, ◌∙◌}
use lib.Seq.{sets}
use Rattle.pages.proofs.Stores.{be-bytes16}
use Rattle.pages.proofs.word.U16Word.store.Goals as goal

pub returns : goal.returns
returns c = c.copy_bytes.ensures ∙ ap (sets c.args.bytes.now c.args.at) (c.to_be_bytes-two.ensures ∙ be-bytes16 c.args.v)
