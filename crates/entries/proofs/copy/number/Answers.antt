-- `entries::copy::number` meets its contract: four steps.
use Rattle.std.proofs.Common.{arith}
use Rattle.entries.proofs.Copies.{step-on, enough-less, number-done}
use Rattle.entries.proofs.copy.number.Goals as goal

pub step-a-requires : goal.step-a-requires
step-a-requires c = enough-less 1 (omega arith) c.requires

pub step-b-requires : goal.step-b-requires
step-b-requires c = enough-less 1 (omega arith) (step-on 3 c.requires c.step-a.ensures)

pub step-c-requires : goal.step-c-requires
step-c-requires c = enough-less 1 (omega arith) (step-on 2 (step-on 3 c.requires c.step-a.ensures) c.step-b.ensures)

pub step-d-requires : goal.step-d-requires
step-d-requires c = step-on 1 (step-on 2 (step-on 3 c.requires c.step-a.ensures) c.step-b.ensures) c.step-c.ensures

pub returns : goal.returns
returns c =
    number-done c.step-a.ensures c.step-b.ensures c.step-c.ensures c.step-d.ensures
    c.from.ensures c.from-2.ensures c.from-3.ensures c.from-4.ensures (omega arith)
