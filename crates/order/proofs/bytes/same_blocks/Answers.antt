use native.Mathlib.Omega.{arith}
use Rattle.order.proofs.Alike.{same_none, same-join}
use Rattle.order.proofs.bytes.same_blocks.Goals as goal

pub returns-then-n-lt128 : goal.returns-then-n-lt128
returns-then-n-lt128 c = (omega arith, same_none (omega arith))

pub loop-i-init : goal.loop-i-init
loop-i-init c = (omega arith, same_none (omega arith))

pub same_block-requires : goal.same_block-requires
same_block-requires c = (omega arith, omega arith)

pub returns-then-not-same_block : goal.returns-then-not-same_block
returns-then-not-same_block c = c.loop-i.invariant

pub loop-i-preserved : goal.loop-i-preserved
loop-i-preserved c = (omega arith, same-join c.loop-i.invariant.1 (omega arith) (omega arith) (c.same_block.ensures c.if-not-same_block.false))

pub same_block-requires-2 : goal.same_block-requires-2
same_block-requires-2 c = (omega arith, omega arith)

pub returns-then-same_block : goal.returns-then-same_block
returns-then-same_block c = (omega arith, same-join c.loop-i.invariant.1 (omega arith) (omega arith) (c.same_block-2.ensures c.if-same_block.true))

pub returns-else-same_block : goal.returns-else-same_block
returns-else-same_block c = c.loop-i.invariant
