use native.Mathlib.Omega.{arith}
use Rattle.heads.proofs.Claims.{head32-read}
use Rattle.walks.proofs.Founds.{found-lent, unclaimed-most}
use Rattle.verify.proofs.Frees.{freeing-end, freeing-no, freeing-next, block-turn}
use Rattle.verify.proofs.free.verify_free.Goals as goal

pub returns-in_err-n : goal.returns-in_err-n
returns-in_err-n c = rw c.from_residual.ensures (freeing-no _ _ _ _ _ _ c.loop-page.invariant c.loop-page-test.true _ _ c.claim_block.ensures c.in_err-n.was)

pub from_head-page-requires : goal.from_head-page-requires
from_head-page-requires c = (let t = (block-turn _ _ _ _ _ (c.claim_block.ensures.sound _ c.in_ok-n.was)) in
    let room = (found-lent c.loop-page.invariant.lent (c.claim_block.ensures.sound _ c.in_ok-n.was).found).room in
    record { small = omega (arith, room.whole, room.most); low = t.0.low; high = omega (arith, t.0.high, t.3); fits = omega arith })

pub loop-page-preserved : goal.loop-page-preserved
loop-page-preserved c =
    freeing-next _ _ _ _ _ _ c.loop-page.invariant c.loop-page-test.true _ _ c.claim_block.ensures _ _
    c.in_ok-n.was ((head32-read (found-lent c.loop-page.invariant.lent (c.claim_block.ensures.sound _ c.in_ok-n.was).found) (let t = (block-turn _ _ _ _ _ (c.claim_block.ensures.sound _ c.in_ok-n.was)) in
    let room = (found-lent c.loop-page.invariant.lent (c.claim_block.ensures.sound _ c.in_ok-n.was).found).room in
    record { small = omega (arith, room.whole, room.most); low = t.0.low; high = omega (arith, t.0.high, t.3); fits = omega arith }) (omega arith) c.from_head-page.ensures).is)

pub overflow_add-free : goal.overflow_add-free
overflow_add-free c = omega (arith, (block-turn _ _ _ _ _ (c.claim_block.ensures.sound _ c.in_ok-n.was)), unclaimed-most c.args.scratch.now)

pub loop-page-smaller : goal.loop-page-smaller
loop-page-smaller c = omega (arith, (block-turn _ _ _ _ _ (c.claim_block.ensures.sound _ c.in_ok-n.was)))

pub returns : goal.returns
returns c = freeing-end _ _ _ _ _ _ c.loop-page.invariant c.loop-page-test.false
