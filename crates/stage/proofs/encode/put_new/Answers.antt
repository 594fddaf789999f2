-- `stage::encode::put_new` meets its contract: lengths, key, value.
use native.Mathlib.Omega.{arith}
use mathlib.Core.Path.{refl}
use Rattle.stage.proofs.Encodings.{new-room, new-put}
use Rattle.stage.proofs.encode.put_new.Goals as goal

pub put_lengths-first-requires : goal.put_lengths-first-requires
put_lengths-first-requires c = omega (arith, new-room _ _ c.requires)

pub copy_bytes-requires : goal.copy_bytes-requires
copy_bytes-requires c = omega (arith, c.put_lengths-first.ensures.first, c.put_lengths-first.auto.stream, new-room _ _ c.requires)

pub overflow_add-second : goal.overflow_add-second
overflow_add-second c = omega (arith, c.put_lengths-first.ensures.first, c.put_lengths-first.auto.stream, new-room _ _ c.requires)

pub copy_bytes-requires-2 : goal.copy_bytes-requires-2
copy_bytes-requires-2 c = omega (arith, c.put_lengths-first.ensures.first, c.put_lengths-first.auto.stream, new-room _ _ c.requires)

pub overflow_add-result : goal.overflow_add-result
overflow_add-result c = omega (arith, c.put_lengths-first.ensures.first, c.put_lengths-first.auto.stream, new-room _ _ c.requires)

pub returns : goal.returns
returns c = new-put _ c.put_lengths-first.ensures c.copy_bytes.ensures refl c.copy_bytes-2.ensures
