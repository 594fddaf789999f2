-- `searches::compare::copy_above` meets its contract: what was copied fits the buffer.
use Rattle.std.proofs.Common.{sym, length-take-le}
use Rattle.searches.proofs.Comparing.{hands-fit}
use Rattle.searches.proofs.compare.copy_above.Goals as goal

pub slice_bounds-next_key-end-2 : goal.slice_bounds-next_key-end-2
slice_bounds-next_key-end-2 c = sym (length-take-le _ _ c.requires.1)

pub hand_over-requires : goal.hand_over-requires
hand_over-requires c = (_, c.next_key-found.ensures.is c.requires.0)

pub returns : goal.returns
returns c = hands-fit _ _ _ _ (c.hand_over.ensures _ (c.next_key-found.ensures.is c.requires.0))
