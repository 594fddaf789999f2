-- `pages::mark::mark` meets its contract.
use Rattle.pages.proofs.Marks.{row-mark}
use Rattle.pages.proofs.mark.mark.Goals as goal

pub returns : goal.returns
returns c = row-mark c.args.kind c.row.result c.row.ensures
