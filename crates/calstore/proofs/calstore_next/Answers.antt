use Rattle.calstore.proofs.Numbers.{answers}
use Rattle.calstore.proofs.calstore_next.Goals as goal

pub returns : goal.returns
returns c = answers _ _ _ _ _ _ _ _ _ c.next.ensures c.from.ensures
