use native.Mathlib.Omega.{arith}
use mathlib.Core.Path.{◌∙◌, sym}
use mathlib.Core.Bool.{true≢false}
use Rattle.verify.proofs.Images.{super-lent, meta-lent, tables-lent, bad-super, bad-meta, meta-there, bad-tables, bad-free, bad-unowned, bad-kept, good}
use Rattle.verify.proofs.image.judge.Goals as goal

pub returns-in_err-first : goal.returns-in_err-first
returns-in_err-first c =
    let p = c.requires in
    rw c.from_residual.ensures (bad-super _ _ p.0 p.1 _ _ c.verify_superblock.ensures c.in_err-first.was)

pub verify_table-requires : goal.verify_table-requires
verify_table-requires c =
    let p = c.requires in
    super-lent _ _ p.0 p.1 _ _ c.verify_superblock.ensures _ c.in_ok-first.was

pub returns-in_err-tables : goal.returns-in_err-tables
returns-in_err-tables c =
    let p = c.requires in
    rw c.from_residual-in_err-tables.ensures (bad-meta _ _ p.0 p.1 _ _ c.verify_superblock.ensures _ c.in_ok-first.was _ _ c.verify_table.ensures c.in_err-tables.was)

pub verify_tables-requires : goal.verify_tables-requires
verify_tables-requires c =
    let p = c.requires in
    let there = c.in_ok-first.was in (
      meta-lent _ _ p.0 p.1 _ _ c.verify_superblock.ensures _ there _ _ c.verify_table.ensures _ c.in_ok-tables.was,
      meta-there _ _ p.0 p.1 _ _ c.verify_superblock.ensures _ there _ _ c.verify_table.ensures _ c.in_ok-tables.was,
    )

pub returns-in_err-keys : goal.returns-in_err-keys
returns-in_err-keys c =
    let p = c.requires in
    rw c.from_residual-in_err-keys.ensures (bad-tables _ _ p.0 p.1 _ _ c.verify_superblock.ensures _ c.in_ok-first.was _ _ c.verify_table.ensures _ c.in_ok-tables.was
    _ _ c.verify_tables.ensures c.in_err-keys.was)

pub verify_free-requires : goal.verify_free-requires
verify_free-requires c =
    let p = c.requires in
    tables-lent _ _ p.0 p.1 _ _ c.verify_superblock.ensures _ c.in_ok-first.was _ _ c.verify_table.ensures _ c.in_ok-tables.was
    _ _ c.verify_tables.ensures _ c.in_ok-keys.was

pub returns-in_err-free : goal.returns-in_err-free
returns-in_err-free c =
    let p = c.requires in
    rw c.from_residual-in_err-free.ensures (bad-free _ _ p.0 p.1 _ _ c.verify_superblock.ensures _ c.in_ok-first.was _ _ c.verify_table.ensures _ c.in_ok-tables.was
    _ _ c.verify_tables.ensures _ c.in_ok-keys.was _ _ c.verify_free.ensures c.in_err-free.was)

pub returns-then-not-all_claimed : goal.returns-then-not-all_claimed
returns-then-not-all_claimed c =
    let p = c.requires in
    bad-unowned _ _ p.0 p.1 _ _ c.verify_superblock.ensures _ c.in_ok-first.was _ _ c.verify_table.ensures _ c.in_ok-tables.was
    _ _ c.verify_tables.ensures _ c.in_ok-keys.was _ _ c.verify_free.ensures _ c.in_ok-free.was
    (sym c.all_claimed.ensures ∙ c.if-not-all_claimed.true)

pub returns-then-not-is_kept : goal.returns-then-not-is_kept
returns-then-not-is_kept c =
    let p = c.requires in
    bad-kept _ _ p.0 p.1 _ _ c.verify_superblock.ensures _ c.in_ok-first.was _ _ c.verify_table.ensures _ c.in_ok-tables.was
    _ _ c.verify_tables.ensures _ c.in_ok-keys.was _ _ c.verify_free.ensures _ c.in_ok-free.was
    (λ k. true≢false (sym (c.is_kept.ensures.complete k) ∙ c.if-not-is_kept.true))

pub returns : goal.returns
returns c =
    let p = c.requires in
    good _ _ p.0 p.1 _ _ c.verify_superblock.ensures _ c.in_ok-first.was _ _ c.verify_table.ensures _ c.in_ok-tables.was
    _ _ c.verify_tables.ensures _ c.in_ok-keys.was _ _ c.verify_free.ensures _ c.in_ok-free.was
    _ (omega (arith, p.0.lent.room.size))
    (sym c.all_claimed.ensures ∙ c.if-not-all_claimed.false)
    (c.is_kept.ensures.sound c.if-not-is_kept.false)
