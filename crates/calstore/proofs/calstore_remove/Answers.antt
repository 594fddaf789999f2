use Rattle.calstore.proofs.Numbers.{answers}
use Rattle.calstore.proofs.calstore_remove.Goals as goal

pub returns : goal.returns
returns c = answers _ _ _ _ _ _ _ _ _ c.remove.ensures c.from.ensures
