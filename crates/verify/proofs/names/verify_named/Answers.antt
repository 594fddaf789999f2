use native.Mathlib.Omega.{arith}
use Rattle.verify.proofs.Named.{naming-end, naming-lengths, naming-key, naming-past, naming-name, naming-unnamed, naming-value, naming-no, naming-next, table-fewer}
use Rattle.verify.proofs.names.verify_named.Goals as goal

pub lengths-g-requires : goal.lengths-g-requires
lengths-g-requires c = naming-lengths (c.loop.invariant c.requires.1.0 c.requires.1.1) (λ z. omega arith)

pub is_named-requires : goal.is_named-requires
is_named-requires c =
    let g = c.lengths-g.ensures in
    let n = naming-name (c.loop.invariant c.requires.1.0 c.requires.1.1) (λ z. omega arith) _ g in
    (n.0, n.1, omega (arith, g.key_below))

pub returns-then-not-is_named : goal.returns-then-not-is_named
returns-then-not-is_named c es h = naming-unnamed (c.loop.invariant es h) (λ z. omega arith) _ c.lengths-g.ensures _ c.is_named.ensures c.if-not-is_named.true

pub place_after-value-requires : goal.place_after-value-requires
place_after-value-requires c = naming-key (c.loop.invariant c.requires.1.0 c.requires.1.1) (λ z. omega arith) _ c.lengths-g.ensures

pub number-root-requires : goal.number-root-requires
number-root-requires c = naming-value (c.loop.invariant c.requires.1.0 c.requires.1.1) (λ z. omega arith) _ c.lengths-g.ensures _ c.is_named.ensures c.if-not-is_named.false _ c.place_after-value.ensures

pub sort_at-sort-requires : goal.sort_at-sort-requires
sort_at-sort-requires c = naming-name (c.loop.invariant c.requires.1.0 c.requires.1.1) (λ z. omega arith) _ c.lengths-g.ensures

pub returns-in_err-n : goal.returns-in_err-n
returns-in_err-n c es h =
    rw c.from_residual.ensures (naming-no (c.loop.invariant es h) (λ z. omega arith) _ c.lengths-g.ensures _ c.is_named.ensures c.if-not-is_named.false _ c.place_after-value.ensures (λ i. let b = c.type_inv.image i in omega arith)
    _ c.number-root.ensures _ c.sort_at-sort.ensures _ _ c.verify_table.ensures c.in_err-n.was)

pub overflow_add-keys : goal.overflow_add-keys
overflow_add-keys c = omega (arith, table-fewer _ _ _ _ _ (c.verify_table.ensures.sound _ c.in_ok-n.was), (c.loop.invariant c.requires.1.0 c.requires.1.1).few, c.requires.2)

pub place_after-at-requires : goal.place_after-at-requires
place_after-at-requires c = naming-past (c.loop.invariant c.requires.1.0 c.requires.1.1) (λ z. omega arith) _ c.lengths-g.ensures

pub loop-preserved : goal.loop-preserved
loop-preserved c es h =
    naming-next (c.loop.invariant es h) (λ z. omega arith) _ c.lengths-g.ensures _ c.is_named.ensures c.if-not-is_named.false _ c.place_after-value.ensures (λ i. let b = c.type_inv.image i in omega arith)
    _ c.number-root.ensures _ c.sort_at-sort.ensures _ _ c.verify_table.ensures _ c.in_ok-n.was _ c.place_after-at.ensures (omega arith)

pub returns : goal.returns
returns c es h = naming-end (c.loop.invariant es h) (omega arith)
