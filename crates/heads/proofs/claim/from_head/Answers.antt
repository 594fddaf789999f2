-- `heads::claim::from_head` meets its contract.
use native.Mathlib.Omega.{arith}
use Rattle.heads.proofs.Claims.{head-inside}
use Rattle.heads.proofs.claim.from_head.Goals as goal

pub place-requires : goal.place-requires
place-requires g c = let some = g.met.W.Word.some in (omega arith, omega arith, omega arith, omega arith)

pub read-requires : goal.read-requires
read-requires g c = rw c.place.ensures (head-inside c.requires)

pub returns : goal.returns
returns g c = rw c.place.ensures at c.read.ensures
