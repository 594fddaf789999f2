-- `stage::change::pass` meets its contract.
use Rattle.search.proofs.Entries.{along-enough, along-entry}
use Rattle.stage.proofs.Cursors.{pass-done}
use Rattle.stage.proofs.change.pass.Goals as goal

pub lengths-g-requires : goal.lengths-g-requires
lengths-g-requires c = along-enough c.requires.along

pub place_after-requires : goal.place_after-requires
place_after-requires c = (along-entry c.requires.along _ c.lengths-g.ensures).enough

pub returns : goal.returns
returns c = pass-done _ c.lengths-g.ensures c.place_after.ensures
