use Prim.Native.Nat.{◌-◌}
use mathlib.Core.List.{List}
use Rattle.blockfile.specs.Layout.{Entry}
use Rattle.verify.specs.Tables.{NamesOn}
use Rattle.verify.proofs.Named.{Naming}
use Rattle.verify.proofs.names.verify_named.Given as goal

abbrev pub invariant-loop : goal.invariant-loop
invariant-loop l = (es : List Entry) → NamesOn l.image l.page es → Naming l.image l.initial.scratch es l.before l.scratch l.at (l.size - l.counter) l.keys
