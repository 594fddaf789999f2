use Rattle.std.proofs.lemmas.Result.{err_from_is_err_and}
use Rattle.change.proofs.Settles.{settleable, settled}
use Rattle.change.proofs.Removes.{remove-refused, remove-ready, remove-tried}
use Rattle.change.proofs.removing.RemoveRequest.make.Goals as goal

pub returns-in_err-root : goal.returns-in_err-root
returns-in_err-root c =
    let p = err_from_is_err_and c.from_residual.result c.from_residual.ensures.1 in
    rw (p.1, p.2) (remove-refused (record { sorts = c.sort_of-sort.ensures; is = c.is_key.ensures }) c.requires c.named_table.ensures _ c.in_err-root.was)

pub remove-left-requires : goal.remove-left-requires
remove-left-requires c = remove-ready (record { sorts = c.sort_of-sort.ensures; is = c.is_key.ensures }) c.requires c.named_table.ensures _ c.in_ok-root.was

pub settle-requires : goal.settle-requires
settle-requires c = settleable c.requires.well (remove-tried (record { sorts = c.sort_of-sort.ensures; is = c.is_key.ensures }) c.requires c.named_table.ensures _ c.in_ok-root.was c.remove-left.ensures)

pub returns : goal.returns
returns c =
    settled c.requires.well (remove-tried (record { sorts = c.sort_of-sort.ensures; is = c.is_key.ensures }) c.requires c.named_table.ensures _ c.in_ok-root.was c.remove-left.ensures) c.settle.ensures
