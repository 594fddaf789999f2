-- `search::table::find` meets its contract: the key is sought in its target span.
use Rattle.search.proofs.Tables.{target-span, find-in}
use Rattle.search.proofs.table.find.Goals as goal

pub find_entry-requires : goal.find_entry-requires
find_entry-requires c = target-span c.requires _ _ c.find_by_towers-page.ensures

pub returns : goal.returns
returns c = record { is = λ t. find-in t _ _ c.find_by_towers-page.ensures _ c.find_entry.ensures }
