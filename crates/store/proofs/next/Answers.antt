use Rattle.std.proofs.lemmas.Result.{err_from_is_err_and}
use Rattle.refusals.proofs.Tables.{table-stops, table-goes-on}
use Rattle.store.proofs.Gets.{next-reads, read_on, read-answers, reading, next-finds}
use Rattle.store.proofs.next.Goals as goal

pub returns-in_err-root : goal.returns-in_err-root
returns-in_err-root c =
    let p = err_from_is_err_and c.from_residual.result c.from_residual.ensures.1 in
    rw (p.1, p.2) (table-stops _ _ _ _ _ _ c.open_table.ensures _ c.in_err-root.was _ (read_on (next-reads _ _ c.sort_of-sort.ensures c.is_key_or_empty.ensures)) _)

pub next_key-requires : goal.next_key-requires
next_key-requires c = reading (table-goes-on _ _ _ _ _ _ c.open_table.ensures _ c.in_ok-root.was) c.sort_of-sort.ensures

pub hand_over-requires : goal.hand_over-requires
hand_over-requires c = (_, next-finds (table-goes-on _ _ _ _ _ _ c.open_table.ensures _ c.in_ok-root.was) c.sort_of-sort.ensures c.next_key.ensures)

pub returns : goal.returns
returns c =
    let h = table-goes-on _ _ _ _ _ _ c.open_table.ensures _ c.in_ok-root.was in
    read-answers (next-reads _ _ c.sort_of-sort.ensures c.is_key_or_empty.ensures) h _ c.hand_over.result _
    (c.hand_over.ensures _ (next-finds h c.sort_of-sort.ensures c.next_key.ensures))
