use native.Mathlib.Omega.{arith}
use Rattle.order.proofs.Alike.{word-apart, word_more, equal-numbers}
use Rattle.order.proofs.bytes.compare_words.Goals as goal

pub word64-requires : goal.word64-requires
word64-requires c = omega (arith, c.loop-i.invariant.least.first)

pub word64-requires-in-loop-i : goal.word64-requires-in-loop-i
word64-requires-in-loop-i c = omega (arith, c.loop-i.invariant.least.second)

pub returns-in_default : goal.returns-in_default
returns-in_default c =
    word-apart (λ i. omega (arith, c.shared_slice_known-1.given i)) (λ i. omega (arith, c.shared_slice_known-2-1.given i)) c.loop-i.invariant
    c.word64.ensures c.word64-in-loop-i.ensures c.cmp-order.ensures c.in_default.not-Equal

pub loop-i-preserved : goal.loop-i-preserved
loop-i-preserved c =
    word_more (λ i. omega (arith, c.shared_slice_known-1.given i)) (λ i. omega (arith, c.shared_slice_known-2-1.given i)) c.loop-i.invariant
    c.word64.ensures c.word64-in-loop-i.ensures (omega arith) (equal-numbers c.cmp-order.ensures c.in-Equal.is)

pub loop-i-init : goal.loop-i-init
loop-i-init c = c.requires

pub overflow_sub-n : goal.overflow_sub-n
overflow_sub-n c = omega (arith, c.loop-i.invariant.few)

pub compare_rest-requires : goal.compare_rest-requires
compare_rest-requires c = c.loop-i.invariant
