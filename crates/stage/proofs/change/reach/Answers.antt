-- `stage::change::reach` meets its contract: an entry that gives way is passed over.
use Rattle.stage.proofs.Cursors.{dropped-there, reach-behind}
use Rattle.stage.proofs.change.reach.Goals as goal

pub pass-requires : goal.pass-requires
pass-requires c = dropped-there c.requires.stands c.if-cursor-change.true c.if-change.true

pub returns-then-cursor-change : goal.returns-then-cursor-change
returns-then-cursor-change c = record { is = λ es s l. reach-behind s c.if-cursor-change.true c.if-change.true _ c.pass.ensures }
