use Prim.Native.Nat.{◌-◌}
use Rattle.blockfile.specs.Layout.{Table}
use Rattle.verify.specs.Tables.{MetaOn}
use Rattle.verify.proofs.Named.{Tabling}
use Rattle.verify.proofs.names.verify_tables.Given as goal

abbrev pub invariant-loop : goal.invariant-loop
invariant-loop l = (meta : Table) → MetaOn l.image meta → Tabling l.image l.initial.scratch meta l.scratch l.page (l.spans - l.counter) l.keys
