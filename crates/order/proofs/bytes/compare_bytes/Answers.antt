-- `order::bytes::compare_bytes` meets its contract.
use native.Mathlib.Omega.{arith}
use Rattle.order.proofs.Alike.{alike-start, by-words, least-min}
use Rattle.order.proofs.bytes.compare_bytes.Goals as goal

pub compare_words-requires : goal.compare_words-requires
compare_words-requires c = let e = c.same_blocks.ensures in alike-start (least-min c.min-n.ensures) _ e.0 e.1

pub returns : goal.returns
returns c = by-words (λ i. omega (arith, c.shared_slice_known-1.given i)) (λ i. omega (arith, c.shared_slice_known-2-1.given i)) c.compare_words.ensures

pub same_blocks-requires : goal.same_blocks-requires
same_blocks-requires c = ((least-min c.min-n.ensures).first, (least-min c.min-n.ensures).second)
