-- `stage::measure::measure` meets its contract.
use native.Mathlib.Omega.{arith}
use Rattle.stage.proofs.Measurings.{first-going, middle-going, measure-done}
use Rattle.stage.proofs.measure.measure.Goals as goal

pub measure_part-stay-requires : goal.measure_part-stay-requires
measure_part-stay-requires c =
    let p = c.requires in
    (first-going p.0 _ c.start.ensures, p.1)

pub measure_part-moved-requires : goal.measure_part-moved-requires
measure_part-moved-requires c =
    let p = c.requires in
    (middle-going p.0 _ c.start.ensures _ c.measure_part-stay.ensures _ c.get-size.ensures _ (omega arith), p.1)

pub returns : goal.returns
returns c = measure-done c.requires.0 _ c.start.ensures _ c.measure_part-stay.ensures _ c.get-size.ensures _ (omega arith) _ c.measure_part-moved.ensures
