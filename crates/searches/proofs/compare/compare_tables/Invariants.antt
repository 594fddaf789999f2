-- `searches::compare::compare_tables` meets its contract: the name in the buffer is one of its parts.
use Rattle.std.proofs.Common.{◌≤◌, length}
use Rattle.searches.proofs.compare.compare_tables.Given as goal

abbrev pub invariant-loop : goal.invariant-loop
invariant-loop l = l.n ≤ length l.name
