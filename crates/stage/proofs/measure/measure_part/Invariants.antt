-- `stage::measure::measure_part` meets its contract.
use Rattle.stage.proofs.Measurings.{Measuring}
use Rattle.stage.proofs.measure.measure_part.Given as goal

abbrev pub invariant-loop-i : goal.invariant-loop-i
invariant-loop-i l = Measuring l.image l.change l.both l.count l.initial.cursor l.cursor l.end l._i
