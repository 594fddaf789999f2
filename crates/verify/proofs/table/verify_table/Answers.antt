-- `verify_table` meets its contract: each way out is a law of `Tables`.
use native.Mathlib.Omega.{arith}
use mathlib.Core.Path.{sym, ◌∙◌}
use mathlib.Core.Bool.{true≢false}
use Rattle.walks.proofs.Pieces.{claim-lent, claim-inside}
use Rattle.verify.proofs.Tables.{table-no, table-broken, table-miscounted, table_done}
use Rattle.verify.proofs.table.verify_table.Goals as goal

pub returns-then-not-claim : goal.returns-then-not-claim
returns-then-not-claim c = table-no _ _ _ _ _ _ (c.claim.ensures _ c.requires) c.if-not-claim.true

pub get-most-requires : goal.get-most-requires
get-most-requires c = (claim-inside (c.claim.ensures _ c.requires) c.if-not-claim.false c.requires (omega arith))

pub verify_columns-requires : goal.verify_columns-requires
verify_columns-requires c = (claim-lent (c.claim.ensures _ c.requires) c.if-not-claim.false c.requires, (claim-inside (c.claim.ensures _ c.requires) c.if-not-claim.false c.requires (omega arith)), omega arith)

pub returns-in_err-tally : goal.returns-in_err-tally
returns-in_err-tally c = rw c.from_residual.ensures (table-broken _ _ _ _ _ _ (c.claim.ensures _ c.requires) c.if-not-claim.false _ c.get-most.ensures.is _ _ c.verify_columns.ensures c.in_err-tally.was)

pub are_counts-requires : goal.are_counts-requires
are_counts-requires c = (claim-inside (c.claim.ensures _ c.requires) c.if-not-claim.false c.requires (omega arith))

pub returns : goal.returns
returns c =
    table_done _ _ _ _ _ _ (c.claim.ensures _ c.requires) c.if-not-claim.false _ c.get-most.ensures.is _ _ c.verify_columns.ensures _ c.in_ok-tally.was
    (c.are_counts.ensures.sound c.if-not-are_counts.false)

pub returns-then-not-are_counts : goal.returns-then-not-are_counts
returns-then-not-are_counts c =
    table-miscounted _ _ _ _ _ _ (c.claim.ensures _ c.requires) c.if-not-claim.false _ c.get-most.ensures.is _ _ c.verify_columns.ensures _ c.in_ok-tally.was
    (λ x. true≢false (sym (c.are_counts.ensures.complete x) ∙ c.if-not-are_counts.true))
