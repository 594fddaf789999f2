use Rattle.calstore.proofs.Numbers.{answers}
use Rattle.calstore.proofs.calstore_create.Goals as goal

pub returns : goal.returns
returns c = answers _ _ _ _ _ _ _ _ _ c.create.ensures c.from.ensures
