-- `stage::encode::stage_entry` meets its contract.
use Rattle.stage.proofs.Stagings.{new-room-for, old-room-for, stage-new, stage-old}
use Rattle.stage.proofs.encode.stage_entry.Goals as goal

pub put_new-end-requires : goal.put_new-end-requires
put_new-end-requires c = new-room-for c.requires c.next_entry-next.ensures _ c.in-New.is

pub put_old-end-requires : goal.put_old-end-requires
put_old-end-requires c = old-room-for c.requires c.next_entry-next.ensures _ _ c.in-Old.is

pub returns-in-New : goal.returns-in-New
returns-in-New c = stage-new c.next_entry-next.ensures c.in-New.is c.put_new-end.ensures

pub returns-in-Old : goal.returns-in-Old
returns-in-Old c = stage-old c.next_entry-next.ensures c.in-Old.is c.put_old-end.ensures
