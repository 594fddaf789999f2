-- `search::span::key_above` meets its contract: it answers from where the search stopped.
use native.Mathlib.Omega.{arith}
use Rattle.search.proofs.Seeks.{next-above, next-end, next_last, next-there, next-is}
use Rattle.search.proofs.span.key_above.Goals as goal

pub returns-then-left-eq1 : goal.returns-then-left-eq1
returns-then-left-eq1 c = record { is = λ x. next_last (c.seek-stop.ensures.is x) _ _ c.in-Here.is c.if-left-eq1.true }

pub overflow_add-g : goal.overflow_add-g
overflow_add-g c =
    let m = ((c.seek-stop.ensures.is c.requires).met _ _ c.in-Here.is).at in
    omega arith

pub place_after-next-requires : goal.place_after-next-requires
place_after-next-requires c = ((c.seek-stop.ensures.is c.requires).met _ _ c.in-Here.is).at.enough

pub key_of-requires : goal.key_of-requires
key_of-requires c =
    next-there (c.seek-stop.ensures.is c.requires) _ _ c.in-Here.is
    c.if-left-eq1.false _ c.place_after-next.ensures

pub returns-else-left-eq1 : goal.returns-else-left-eq1
returns-else-left-eq1 c = record {
  is = λ x.
      next-is (c.seek-stop.ensures.is x) _ _ c.in-Here.is
      c.if-left-eq1.false _ c.place_after-next.ensures _ c.key_of.ensures;
}

pub returns-in-Above : goal.returns-in-Above
returns-in-Above c = record { is = λ x. next-above (c.seek-stop.ensures.is x) _ _ c.in-Above.is }

pub returns-in-End : goal.returns-in-End
returns-in-End c = record { is = λ x. next-end (c.seek-stop.ensures.is x) c.in-End.is }
