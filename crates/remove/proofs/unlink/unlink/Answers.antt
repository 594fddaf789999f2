-- `remove::unlink::unlink` meets its contract.
use Rattle.remove.proofs.Unlinkings.{table_read, precedes, going-at, unlinked}
use Rattle.remove.proofs.unlink.unlink.Goals as goal

pub read_list-list-requires : goal.read_list-list-requires
read_list-list-requires c = table_read c.requires.is

pub find_tower-tower-requires : goal.find_tower-tower-requires
find_tower-tower-requires c = precedes c.requires.is

pub let_go-requires : goal.let_go-requires
let_go-requires c =
    let h = c.requires in
    record { rule = h.rule; table = h.table; blocks = h.blocks; place = h.place; is = going-at h.is c.read_list-list.ensures c.find_tower-tower.ensures }

pub returns : goal.returns
returns c = unlinked c.read_list-list.ensures c.find_tower-tower.ensures c.let_go.ensures
