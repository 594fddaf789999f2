use native.Mathlib.Omega.{arith}
use Rattle.edit.proofs.Shapings.{ceil, own-page, wants-for}
use Rattle.edit.proofs.shape.wanted.Goals as goal

pub overflow_sub-conts : goal.overflow_sub-conts
overflow_sub-conts c = own-page c.requires c.div_ceil-conts.ensures

pub returns : goal.returns
returns c = wants-for c.args.shape _ (omega (arith, ceil c.args.shape.stay c.div_ceil-conts.ensures)) c.new_pages-span.ensures (omega arith)
