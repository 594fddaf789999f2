-- `search::table::find_span` meets its contract: with no tower the walk begins at the first span.
use mathlib.Core.Path.{refl}
use mathlib.Core.Logic.{inl}
use mathlib.Core.Bool.{false}
use Rattle.search.proofs.table.find_span.Goals as goal

pub find_from-requires : goal.find_from-requires
find_from-requires c = (c.requires, record { strict = false; is = λ x. inl refl })
