use Rattle.search.proofs.Descents.{lowest-of}
use Rattle.create.proofs.Creatings.{reading, spot-ready, enter-ready, created}
use Rattle.create.proofs.create.Goals as goal

pub descend-path-requires : goal.descend-path-requires
descend-path-requires c = reading c.requires.is

pub find_from-page-requires : goal.find_from-page-requires
find_from-page-requires c = (reading c.requires.is, rw c.lowest.ensures (lowest-of c.descend-path.ensures))

pub find_spot-spot-requires : goal.find_spot-spot-requires
find_spot-spot-requires c = spot-ready c.requires _ c.find_from-page.ensures

pub enter-requires : goal.enter-requires
enter-requires c = enter-ready c.requires _ c.find_from-page.ensures c.descend-path.ensures _ c.find_spot-spot.ensures _ c.put_change-change.ensures

pub returns : goal.returns
returns c = created c.descend-path.ensures _ c.find_from-page.ensures _ c.find_spot-spot.ensures _ c.put_change-change.ensures _ _ c.enter.ensures
