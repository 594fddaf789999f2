-- `entries::sorted::compare_as` meets its contract: the signs, and then the bytes.
use Rattle.entries.proofs.Sorts.{compared-signs, compared-rest}
use Rattle.entries.proofs.sorted.compare_as.Goals as goal

pub returns-in-Equal : goal.returns-in-Equal
returns-in-Equal c = compared-rest c.sign_at.ensures c.sign_in.ensures c.cmp-order.ensures c.in-Equal.is c.compare_slice.ensures

pub returns-in_default : goal.returns-in_default
returns-in_default c = compared-signs c.sign_at.ensures c.sign_in.ensures c.cmp-order.ensures c.in_default.not-Equal
