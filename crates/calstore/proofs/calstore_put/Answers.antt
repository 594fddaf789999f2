use Rattle.calstore.proofs.Numbers.{answers}
use Rattle.calstore.proofs.calstore_put.Goals as goal

pub returns : goal.returns
returns c = answers _ _ _ _ _ _ _ _ _ c.put.ensures c.from.ensures
