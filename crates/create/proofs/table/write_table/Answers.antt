use Rattle.create.proofs.Tables.{table-written}
use Rattle.create.proofs.table.write_table.Goals as goal

pub returns : goal.returns
returns c = table-written c.args.image.now c.args.table _ _ _ c.put_skip_list.ensures c.put_empty.ensures c.put_tower.ensures
