-- `searches::compare::compare_table` meets its contract: the key in the buffer is one of its parts.
use Rattle.std.proofs.Common.{◌≤◌, length}
use Rattle.searches.proofs.compare.compare_table.Given as goal

abbrev pub invariant-loop : goal.invariant-loop
invariant-loop l = l.n ≤ length l.buffer
