-- `entries::rank::rank` meets its contract.
use Rattle.std.proofs.Common.{refl}
use Rattle.entries.proofs.Prefixes.{rank_is}
use Rattle.entries.proofs.rank.rank.Goals as goal

pub returns : goal.returns
returns c = rank_is c.prefix.ensures c.turn_of.ensures refl
