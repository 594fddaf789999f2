-- `verify_columns` meets its contract: the spans, then the towers.
use Rattle.verify.proofs.Tables.{columns-no-spans, spans-there, columns-no-towers, columns-done}
use Rattle.verify.proofs.table.verify_columns.Goals as goal

pub returns-in_err-counted : goal.returns-in_err-counted
returns-in_err-counted c = rw c.from_residual.ensures (columns-no-spans _ _ _ c.requires.0 _ _ c.requires.2 _ c.get-first.ensures.is _ _ c.verify_spans.ensures c.in_err-counted.was)

pub verify_towers-requires : goal.verify_towers-requires
verify_towers-requires c =
    let x = spans-there _ _ _ c.requires.0 _ _ c.requires.2 _ c.get-first.ensures.is _ _ c.verify_spans.ensures _ c.in_ok-counted.was in
    (x.1, x.0)

pub returns-in_err-levels : goal.returns-in_err-levels
returns-in_err-levels c =
    rw c.from_residual-in_err-levels.ensures (columns-no-towers _ _ _ c.requires.0 _ _ c.requires.2 _ c.get-first.ensures.is _ _ c.verify_spans.ensures _ c.in_ok-counted.was
    _ c.get-head.ensures.is _ _ c.verify_towers.ensures c.in_err-levels.was)

pub returns : goal.returns
returns c =
    columns-done _ _ _ c.requires.0 _ _ c.requires.2 _ c.get-first.ensures.is _ _ c.verify_spans.ensures _ c.in_ok-counted.was
    _ c.get-head.ensures.is _ _ c.verify_towers.ensures _ c.in_ok-levels.was
