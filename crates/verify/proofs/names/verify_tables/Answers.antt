use native.Mathlib.Omega.{arith}
use Rattle.walks.proofs.Founds.{unclaimed-most}
use Rattle.verify.proofs.Named.{tabling-start, tabling-end, tabling-names, tabling-no, tabling-next}
use Rattle.verify.proofs.names.verify_tables.Goals as goal

pub loop-init : goal.loop-init
loop-init c meta h = tabling-start _ _ meta h c.requires.0 _ _ c.get-page.ensures.is (omega (arith, c.get-spans.ensures.is))

pub verify_named-requires : goal.verify_named-requires
verify_named-requires c =
    let room = c.requires.0.room in
    let t = (c.loop.invariant c.requires.1.0 c.requires.1.1) in (
      t.lent,
      tabling-names t (λ z. omega arith),
      omega (arith, t.few, room.whole, room.most, unclaimed-most c.args.scratch.now),
    )

pub returns-in_err-keys : goal.returns-in_err-keys
returns-in_err-keys c meta h = rw c.from_residual.ensures (tabling-no (c.loop.invariant meta h) (λ z. omega arith) _ _ c.verify_named.ensures c.in_err-keys.was)

pub get-page-requires-in-loop : goal.get-page-requires-in-loop
get-page-requires-in-loop c =
    let n = (tabling-names (c.loop.invariant c.requires.1.0 c.requires.1.1) (λ z. omega arith)).1 in
    record { small = n.small; low = n.inside.low; high = n.inside.high; fits = omega arith }

pub loop-preserved : goal.loop-preserved
loop-preserved c meta h =
    tabling-next (c.loop.invariant meta h) (λ z. omega arith) _ _ c.verify_named.ensures _ c.in_ok-keys.was c.verify_named.auto.scratch _
    c.get-page-in-loop.ensures.is (omega arith)

pub returns : goal.returns
returns c meta h = tabling-end (c.loop.invariant meta h) (omega arith)
