-- `search::table::start` meets its contract.
use Rattle.search.proofs.Walking.{start_none, start-some}
use Rattle.search.proofs.table.start.Goals as goal

pub returns-then-lowest-eq0 : goal.returns-then-lowest-eq0
returns-then-lowest-eq0 c = start_none _ _ _ _ c.if-lowest-eq0.true c.get.ensures.is

pub get-requires-2 : goal.get-requires-2
get-requires-2 c = c.requires.1 c.if-lowest-eq0.false

pub returns : goal.returns
returns c = start-some _ _ _ _ c.if-lowest-eq0.false c.get-2.ensures.is
