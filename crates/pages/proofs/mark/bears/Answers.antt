-- `pages::mark::bears` meets its contract: the bytes begin with the mark exactly if the numbers, cut off behind it, are equal.
use native.Mathlib.Omega.{arith}
use Rattle.pages.proofs.Marks.{is-some, is-most, bears-is}
use Rattle.pages.proofs.mark.bears.Goals as goal

pub overflow_mul-behind : goal.overflow_mul-behind
overflow_mul-behind c = omega (arith, is-most c.mark-number.ensures)

pub overflow_sub-behind : goal.overflow_sub-behind
overflow_sub-behind c = omega (arith, is-most c.mark-number.ensures)

pub overflow_shr-result : goal.overflow_shr-result
overflow_shr-result c = omega (arith, is-some c.mark-number.ensures)

pub overflow_shr-result-2 : goal.overflow_shr-result-2
overflow_shr-result-2 c = omega (arith, is-some c.mark-number.ensures)

pub returns : goal.returns
returns c = bears-is c.mark-number.ensures _ _ c.requires (λ i. omega (arith, c.shared_slice_known-1.given i)) _ c.word64.ensures
