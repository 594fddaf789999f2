-- `remove::remove::remove` meets its contract: no such key, the span goes, or it is left with its other entries.
use native.Mathlib.Omega.{arith}
use Rattle.search.proofs.Tables.{target-span}
use Rattle.search.proofs.Descents.{lowest-of}
use Rattle.edit.proofs.Puttings.{reading}
use Rattle.remove.proofs.Removals.{linked_on, unlink-ready, leave-ready, few-gone, few-left, not_there, went, stayed}
use Rattle.remove.proofs.remove.remove.Goals as goal

pub descend-path-requires : goal.descend-path-requires
descend-path-requires c = reading c.requires.is

pub find_from-page-requires : goal.find_from-page-requires
find_from-page-requires c = (reading c.requires.is, rw c.lowest.ensures (lowest-of c.descend-path.ensures))

pub find_spot-requires : goal.find_spot-requires
find_spot-requires c = target-span (reading c.requires.is) _ _ c.find_from-page.ensures

pub returns-in_default : goal.returns-in_default
returns-in_default c = not_there _ c.find_from-page.ensures _ c.find_spot.ensures _ c.in_default.is

pub read_links-links-requires : goal.read_links-links-requires
read_links-links-requires c = linked_on c.requires.is _ _ c.find_from-page.ensures

pub unlink-requires : goal.unlink-requires
unlink-requires c =
    unlink-ready c.requires _ c.find_from-page.ensures _ c.find_spot.ensures _ c.in-Ok.is _ c.read_links-links.ensures (c.goes.ensures.yes c.if-goes.true)
    c.descend-path.ensures

pub overflow_add-left : goal.overflow_add-left
overflow_add-left c =
    omega (
      arith,
      few-gone c.requires _ c.find_from-page.ensures _ c.find_spot.ensures _ c.in-Ok.is _ c.read_links-links.ensures (c.goes.ensures.yes c.if-goes.true)
          c.descend-path.ensures c.unlink.ensures,
    )

pub returns-then-goes : goal.returns-then-goes
returns-then-goes c =
    went _ c.find_from-page.ensures _ c.find_spot.ensures _ c.in-Ok.is _ c.read_links-links.ensures (c.goes.ensures.yes c.if-goes.true) c.descend-path.ensures
    c.unlink.ensures

pub leave-requires : goal.leave-requires
leave-requires c = leave-ready c.requires _ c.find_from-page.ensures _ c.find_spot.ensures _ c.in-Ok.is

pub overflow_add-left-2 : goal.overflow_add-left-2
overflow_add-left-2 c = omega (arith, few-left c.requires _ c.find_from-page.ensures _ c.find_spot.ensures _ c.in-Ok.is c.leave.ensures)

pub returns : goal.returns
returns c =
    stayed _ c.find_from-page.ensures _ c.find_spot.ensures _ c.in-Ok.is _ c.read_links-links.ensures (c.goes.ensures.other c.if-goes.false) c.leave.ensures
