use Rattle.stage.proofs.Measurings.{measuring-next, measuring-end, measuring-going, measuring-near}
use Rattle.stage.proofs.measure.measure_part.Goals as goal

pub measure_entry-part-requires : goal.measure_entry-part-requires
measure_entry-part-requires c =
    let p = c.requires in (
      measuring-going c.loop-i.invariant p.0 c.loop-i-test.true,
      p.1,
      measuring-near c.loop-i.invariant p.0,
    )

pub loop-i-preserved : goal.loop-i-preserved
loop-i-preserved c = measuring-next c.loop-i.invariant c.loop-i-test.true _ c.measure_entry-part.ensures

pub returns : goal.returns
returns c = measuring-end c.loop-i.invariant c.requires.0 c.loop-i-test.false
