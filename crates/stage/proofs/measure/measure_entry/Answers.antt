-- `stage::measure::measure_entry` meets its contract.
use native.Mathlib.Omega.{arith}
use Rattle.laws.proofs.Positions.{lens-near}
use Rattle.stage.proofs.Measurings.{entry_new, entry_old}
use Rattle.stage.proofs.measure.measure_entry.Goals as goal

pub lens_at-lens-requires : goal.lens_at-lens-requires
lens_at-lens-requires c = omega (arith, lens-near c.args.end)

pub returns-in-New : goal.returns-in-New
returns-in-New c =
    let l = c.lens_at-lens.ensures in
    entry_new c.next_entry-next.ensures l.0 l.2 c.in-New.is c.requires.1

pub returns-in-Old : goal.returns-in-Old
returns-in-Old c =
    let l = c.lens_at-lens.ensures in
    entry_old c.next_entry-next.ensures l.0 l.2 _ c.in-Old.is
