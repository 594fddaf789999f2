-- `stage::encode::stage` meets its contract: entry by entry.
use Rattle.stage.proofs.Stagings.{Staging}
use Rattle.stage.proofs.encode.stage.Given as goal

abbrev pub invariant-loop-i : goal.invariant-loop-i
invariant-loop-i l = Staging l.image l.change l.initial.cursor l.new.key.now l.new.value.now l.count l.initial.stream l.stream l.cursor l.end l._i
