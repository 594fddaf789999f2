-- `pages::write::put` meets its contract: an offset of a page is a place in the image.
use mathlib.Core.Path.{sym, ◌∙◌}
use Rattle.laws.proofs.Pages.{write-from}
use Rattle.pages.proofs.write.put.Goals as goal

pub returns : goal.returns
returns g c = c.store.ensures ∙ sym (write-from _ _ _ _ c.requires.low)
