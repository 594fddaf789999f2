-- `stage::encode::put_old` meets its contract: lengths, then key and value in one copy.
use native.Mathlib.Omega.{arith}
use lib.ListN.{length-take, length-drop}
use Rattle.stage.proofs.Encodings.{copy-room, old-put}
use Rattle.stage.proofs.encode.put_old.Goals as goal

pub put_lengths-first-requires : goal.put_lengths-first-requires
put_lengths-first-requires c = omega (arith, copy-room c.requires)

pub slice_bounds-copy_from-count : goal.slice_bounds-copy_from-count
slice_bounds-copy_from-count c = omega (arith, c.put_lengths-first.ensures.first, c.put_lengths-first.auto.stream, copy-room c.requires)

pub slice_bounds-copy_from-start : goal.slice_bounds-copy_from-start
slice_bounds-copy_from-start c = omega (arith, c.put_lengths-first.ensures.first, c.put_lengths-first.auto.stream, copy-room c.requires)

pub copy_from-requires : goal.copy_from-requires
copy_from-requires c = (c.requires.at.enough, rw (length-take, length-drop) (omega (arith, c.put_lengths-first.ensures.first, c.put_lengths-first.auto.stream, copy-room c.requires)))

pub overflow_add-result : goal.overflow_add-result
overflow_add-result c = omega (arith, c.put_lengths-first.ensures.first, c.put_lengths-first.auto.stream, copy-room c.requires)

pub returns : goal.returns
returns c = record { is = λ e es a. old-put a c.put_lengths-first.ensures (omega (arith, c.put_lengths-first.ensures.first, c.put_lengths-first.auto.stream, copy-room c.requires)) c.copy_from.ensures }
