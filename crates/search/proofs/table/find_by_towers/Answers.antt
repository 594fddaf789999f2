-- `search::table::find_by_towers` meets its contract: the walk begins at the lowest tower of the path to the key.
use Rattle.search.proofs.Descents.{lowest-of}
use Rattle.search.proofs.table.find_by_towers.Goals as goal

pub find_from-requires : goal.find_from-requires
find_from-requires c = (c.requires, rw c.lowest.ensures (lowest-of c.descend-path.ensures))
