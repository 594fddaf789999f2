use Rattle.std.proofs.lemmas.Result.{err_from_is_err_and}
use Rattle.change.proofs.Settles.{settleable, settled}
use Rattle.change.proofs.Puts.{put_refused, put-ready, put-tried}
use Rattle.change.proofs.putting.PutRequest.make.Goals as goal

pub returns-in_err-root : goal.returns-in_err-root
returns-in_err-root c =
    let p = err_from_is_err_and c.from_residual.result c.from_residual.ensures.1 in
    rw (p.1, p.2) (put_refused (record {
      of_key = record { sorts = c.sort_of-sort.ensures; is = c.is_key.ensures };
      value_is = c.is_value.ensures;
    }) c.requires c.named_table.ensures _ c.in_err-root.was)

pub put-left-requires : goal.put-left-requires
put-left-requires c = put-ready (record {
  of_key = record { sorts = c.sort_of-sort.ensures; is = c.is_key.ensures };
  value_is = c.is_value.ensures;
}) c.requires c.named_table.ensures _ c.in_ok-root.was

pub settle-requires : goal.settle-requires
settle-requires c = settleable c.requires.well (put-tried (record {
  of_key = record { sorts = c.sort_of-sort.ensures; is = c.is_key.ensures };
  value_is = c.is_value.ensures;
}) c.requires c.named_table.ensures _ c.in_ok-root.was c.put-left.ensures)

pub returns : goal.returns
returns c =
    settled c.requires.well (put-tried (record {
      of_key = record { sorts = c.sort_of-sort.ensures; is = c.is_key.ensures };
      value_is = c.is_value.ensures;
    }) c.requires c.named_table.ensures _ c.in_ok-root.was c.put-left.ensures) c.settle.ensures
