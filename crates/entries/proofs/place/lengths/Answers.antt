-- `entries::place::lengths` meets its contract.
use Rattle.entries.proofs.Places.{lengths-done}
use Rattle.entries.proofs.place.lengths.Goals as goal

pub returns : goal.returns
returns c = lengths-done c.settle-here.ensures c.get-key.ensures c.get-value.ensures
