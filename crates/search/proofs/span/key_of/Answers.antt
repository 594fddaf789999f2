-- `search::span::key_of` meets its contract.
use Rattle.search.proofs.Entries.{along-enough}
use Rattle.search.proofs.Seeks.{key-of-is}
use Rattle.search.proofs.span.key_of.Goals as goal

pub lengths-g-requires : goal.lengths-g-requires
lengths-g-requires c = along-enough c.requires.along

pub returns : goal.returns
returns c = key-of-is _ c.lengths-g.ensures
