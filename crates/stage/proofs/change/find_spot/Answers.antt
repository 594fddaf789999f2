-- `stage::change::find_spot` meets its contract: it counts from where the search stopped.
use Rattle.stage.proofs.Spottings.{here-left, above-left, spot-here, spot-above, spot-end}
use Rattle.stage.proofs.change.find_spot.Goals as goal

pub overflow_sub-result : goal.overflow_sub-result
overflow_sub-result c =
    let x = c.requires in
    here-left x.on _ _ c.get-size.ensures ((c.seek-stop.ensures.is x).met _ _ c.in-Here.is)

pub overflow_sub-result-in-Above : goal.overflow_sub-result-in-Above
overflow_sub-result-in-Above c =
    let x = c.requires in
    above-left x.on _ _ c.get-size.ensures ((c.seek-stop.ensures.is x).passed _ _ c.in-Above.is)

pub returns-in-Here : goal.returns-in-Here
returns-in-Here c = record {
  is = λ x.
      spot-here x.on _ _ c.get-size.ensures ((c.seek-stop.ensures.is x).met _ _ c.in-Here.is);
}

pub returns-in-Above : goal.returns-in-Above
returns-in-Above c = record {
  is = λ x.
      spot-above x.on _ _ c.get-size.ensures ((c.seek-stop.ensures.is x).passed _ _ c.in-Above.is);
}

pub returns-in-End : goal.returns-in-End
returns-in-End c = record {
  is = λ x.
      spot-end x.on _ _ c.get-size.ensures ((c.seek-stop.ensures.is x).end c.in-End.is);
}
