-- `order::sort::lengths_of` meets its contract.
use Rattle.order.proofs.Sorts.{lengths-bytes, lengths-numbers}
use Rattle.order.proofs.sort.lengths_of.Goals as goal

pub returns-in-Bytes : goal.returns-in-Bytes
returns-in-Bytes c = lengths-bytes _ c.in-Bytes.is

pub returns-in-Numbers : goal.returns-in-Numbers
returns-in-Numbers c = lengths-numbers _ c.in-Numbers.is
