-- `entries::key::printable_across` meets its contract.
use Rattle.std.proofs.Common.{◌-◌}
use Rattle.entries.proofs.Keys.{Printing}
use Rattle.entries.proofs.key.printable_across.Given as goal

abbrev pub invariant-loop : goal.invariant-loop
invariant-loop l = Printing l.image l.initial.x l.n l.x (l.n - l.counter)
