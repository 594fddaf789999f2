-- `search::span::find_entry` meets its contract: it answers from where the search stopped.
use native.Mathlib.Omega.{arith}
use Rattle.entries.proofs.Copies.{enough-less}
use Rattle.search.proofs.Seeks.{found_here, found-not-here}
use Rattle.search.proofs.span.find_entry.Goals as goal

pub place_after-requires : goal.place_after-requires
place_after-requires c = enough-less _ (omega arith) ((c.seek.ensures.is c.requires).met _ _ c.in-Here.is).at.enough

pub returns : goal.returns
returns c = record { is = λ x. found_here (c.seek.ensures.is x) _ _ c.in-Here.is _ c.place_after.ensures }

pub returns-in_default : goal.returns-in_default
returns-in_default c = record { is = λ x. found-not-here (c.seek.ensures.is x) c.in_default.not-Here }
