use Rattle.calstore.proofs.Numbers.{answers}
use Rattle.calstore.proofs.calstore_get.Goals as goal

pub returns : goal.returns
returns c = answers _ _ _ _ _ _ _ _ _ c.get.ensures c.from.ensures
