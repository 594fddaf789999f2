-- `verify_superblock` meets its contract: each way out is a law of `Supers`.
use native.Mathlib.Omega.{arith}
use Rattle.walks.proofs.Pieces.{claim-inside}
use Rattle.verify.proofs.Supers.{super-no, super-done}
use Rattle.verify.proofs.superblock.verify_superblock.Goals as goal

pub returns-then-not-claim : goal.returns-then-not-claim
returns-then-not-claim c = super-no _ _ _ _ (c.claim.ensures _ c.requires) c.if-not-claim.true

pub is_fixed-requires : goal.is_fixed-requires
is_fixed-requires c =
    let room = c.requires.room in
    let i = claim-inside (c.claim.ensures _ c.requires) c.if-not-claim.false c.requires {o = 0} {w = 0} (omega arith) in
    (omega (arith, room.size), (omega (arith, i.high), omega (arith, room.size, room.most)))

pub get-mounted-requires : goal.get-mounted-requires
get-mounted-requires c = (claim-inside (c.claim.ensures _ c.requires) c.if-not-claim.false c.requires (omega arith))

pub get-size-requires : goal.get-size-requires
get-size-requires c = (claim-inside (c.claim.ensures _ c.requires) c.if-not-claim.false c.requires (omega arith))

pub get-requires : goal.get-requires
get-requires c = (claim-inside (c.claim.ensures _ c.requires) c.if-not-claim.false c.requires (omega arith))

pub returns : goal.returns
returns c =
    super-done _ _ _ _ (c.claim.ensures _ c.requires) c.if-not-claim.false _ (omega (arith, c.requires.room.size)) _ c.is_fixed.ensures
    c.if-not-is_fixed.false
    (omega (arith, c.get-mounted.ensures.is))
    _ c.get.ensures.is _ c.get-size.ensures.is (omega arith)
