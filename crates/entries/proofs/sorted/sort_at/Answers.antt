-- `entries::sorted::sort_at` meets its contract.
use Rattle.std.proofs.Common.{arith}
use Rattle.entries.proofs.Keys.{key-enough}
use Rattle.entries.proofs.Sorts.{sort-at-some}
use Rattle.entries.proofs.sorted.sort_at.Goals as goal

pub step-g-requires : goal.step-g-requires
step-g-requires c = key-enough c.requires.0.there (λ e. omega arith)

pub returns : goal.returns
returns c = sort-at-some c.requires.1 c.step-g.ensures c.sort_by.ensures
