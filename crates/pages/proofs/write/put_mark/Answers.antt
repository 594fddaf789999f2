-- `pages::write::put_mark` meets its contract: the first bytes of the mark's number are the mark.
use native.Mathlib.Omega.{arith}
use mathlib.Core.Path.{◌≡◌, ap, sym, ◌∙◌}
use lib.ListN.{take, length}
use lib.Seq.{length-take-le}
use Rattle.blockfile.specs.Bytes.{write}
use Rattle.pages.proofs.Marks.{is-most, is-bytes}
use Rattle.pages.proofs.write.put_mark.Goals as goal

pub slice_bounds-put_bytes-end : goal.slice_bounds-put_bytes-end
slice_bounds-put_bytes-end c =
    let eight : length c.to_be_bytes.result ≡ 8 = ap length c.to_be_bytes.ensures in
    omega (arith, eight, is-most c.mark-number.ensures)

pub slice_bounds-put_bytes-end-2 : goal.slice_bounds-put_bytes-end-2
slice_bounds-put_bytes-end-2 c =
    let eight : length c.to_be_bytes.result ≡ 8 = ap length c.to_be_bytes.ensures in
    sym (length-take-le c.mark-number.result.1 c.to_be_bytes.result (omega (arith, eight, is-most c.mark-number.ensures)))

pub returns : goal.returns
returns c = c.put_bytes.ensures ∙ ap (write c.args.image.now c.args.page 0) (ap (take c.mark-number.result.1) c.to_be_bytes.ensures ∙ is-bytes c.mark-number.ensures)
