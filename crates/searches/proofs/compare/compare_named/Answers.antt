-- `searches::compare::compare_named` meets its contract: the table of the name sorts as its name says.
use Rattle.search.proofs.Readables.{table_by}
use Rattle.searches.proofs.compare.compare_named.Goals as goal

pub compare_table-requires : goal.compare_table-requires
compare_table-requires c =
    let a = c.requires in
    let t = (c.find_table.ensures.is a.0 a.1).root _ c.in-Some.is in
    table_by _ a.0 a.1 _ t.0 t.1 _ t.2 c.sort_of-sort.ensures
