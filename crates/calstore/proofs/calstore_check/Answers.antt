use Rattle.calstore.proofs.Numbers.{answers}
use Rattle.calstore.proofs.calstore_check.Goals as goal

pub returns : goal.returns
returns c = answers _ _ _ _ _ _ _ _ _ c.check.ensures c.from.ensures
