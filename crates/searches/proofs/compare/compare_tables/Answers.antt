use Rattle.search.proofs.Readables.{meta_by}
use Rattle.searches.proofs.compare.compare_tables.Goals as goal

pub compare_table-requires : goal.compare_table-requires
compare_table-requires c = let a = c.requires in meta_by _ a.0 a.1

pub copy_above-requires : goal.copy_above-requires
copy_above-requires c = let a = c.requires in (meta_by _ a.0 a.1, c.loop.invariant)
