use native.Mathlib.Omega.{arith}
use Rattle.walks.proofs.Founds.{unclaimed-most}
use Rattle.spans.proofs.Tables.{counting-start, counting-wrong, counting-empty, counting-fell, counting-end, counting-next}
use Rattle.spans.proofs.walk_spans.Goals as goal

pub loop-span-init : goal.loop-span-init
loop-span-init c = let p = c.requires in counting-start _ _ _ _ _ p.2 p.3 p.0

pub returns-in_err-span : goal.returns-in_err-span
returns-in_err-span c = rw c.from_residual.ensures (counting-wrong c.loop-span.invariant c.verify_span.ensures c.in_err-span.was)

pub returns-then-spans-ne0 : goal.returns-then-spans-ne0
returns-then-spans-ne0 c = counting-empty c.loop-span.invariant c.verify_span.ensures c.in_ok-span.was c.if-span-eq0.true (omega (arith, c.if-spans-ne0.true))

pub overflow_add-keys : goal.overflow_add-keys
overflow_add-keys c =
    let l = c.loop-span.invariant in
    let f = (counting-fell c.loop-span.invariant c.verify_span.ensures c.in_ok-span.was (omega arith)) in
    let room = c.requires.0.room in
    omega (arith, f.few, l.small, l.few, unclaimed-most c.args.scratch.now, room.whole, room.most)

pub overflow_add-spans : goal.overflow_add-spans
overflow_add-spans c =
    let l = c.loop-span.invariant in
    let room = c.requires.0.room in
    omega (arith, l.few, unclaimed-most c.args.scratch.now, room.whole, room.most)

pub returns-then-span-eq0-2 : goal.returns-then-span-eq0-2
returns-then-span-eq0-2 c = counting-end c.loop-span.invariant c.verify_span.ensures c.in_ok-span.was (λ m z. omega (arith, m, z, c.else-span-eq0.either)) c.if-span-eq0-2.true

pub loop-span-smaller : goal.loop-span-smaller
loop-span-smaller c = (counting-fell c.loop-span.invariant c.verify_span.ensures c.in_ok-span.was (omega arith)).less

pub loop-span-preserved : goal.loop-span-preserved
loop-span-preserved c = counting-next c.loop-span.invariant c.verify_span.ensures c.in_ok-span.was (λ m z. omega (arith, m, z, c.else-span-eq0.either)) c.if-span-eq0-2.false (omega arith)
