use Rattle.edit.proofs.Shapings.{new-some, new_none}
use Rattle.edit.proofs.shape.new_pages.Goals as goal

pub returns-then-shape : goal.returns-then-shape
returns-then-shape c = new-some c.args.shape c.if-shape.true c.div_ceil.ensures

pub returns : goal.returns
returns c = new_none c.args.shape c.if-shape.false
