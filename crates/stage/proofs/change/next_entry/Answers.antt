-- `stage::change::next_entry` meets its contract: the entry that comes, or the next old one that stays.
use Rattle.search.proofs.Entries.{along-enough, along-entry}
use Rattle.stage.proofs.Cursors.{next-new, kept_there, next-old, answer-new, answer-old}
use Rattle.stage.proofs.change.next_entry.Goals as goal

pub returns-then-is_new : goal.returns-then-is_new
returns-then-is_new c =
    let new = c.is_new.ensures.yes c.if-is_new.true in
    answer-new (λ e es s l. next-new s (c.reach-at.ensures.is es s l) new.0 new.1 e)

pub lengths-g-requires : goal.lengths-g-requires
lengths-g-requires c =
    let p = c.requires in
    along-enough (kept_there p.stands (c.reach-at.ensures.is _ p.stands p.has) (c.is_new.ensures.other c.if-is_new.false) p.has).along

pub place_after-after-requires : goal.place_after-after-requires
place_after-after-requires c =
    let p = c.requires in
    (along-entry (kept_there p.stands (c.reach-at.ensures.is _ p.stands p.has) (c.is_new.ensures.other c.if-is_new.false) p.has).along
    _ c.lengths-g.ensures).enough

pub returns : goal.returns
returns c =
    answer-old c.lengths-g.ensures.key_below c.lengths-g.ensures.value_below
    (λ new es s l. next-old s (c.reach-at.ensures.is es s l) (c.is_new.ensures.other c.if-is_new.false) l _ c.lengths-g.ensures _ c.place_after-after.ensures new)
