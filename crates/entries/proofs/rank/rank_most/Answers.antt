-- `entries::rank::rank_most` meets its contract.
use Rattle.entries.proofs.Prefixes.{rank-all}
use Rattle.entries.proofs.rank.rank_most.Goals as goal

pub returns-else-at-le1016 : goal.returns-else-at-le1016
returns-else-at-le1016 c = rank-all
