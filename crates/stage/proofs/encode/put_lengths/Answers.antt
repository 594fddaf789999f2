-- `stage::encode::put_lengths` meets its contract: zeros, then two numbers.
use Rattle.stage.proofs.Encodings.{lengths-put}
use Rattle.stage.proofs.encode.put_lengths.Goals as goal

pub returns : goal.returns
returns c = lengths-put _ _ _ _ _ c.lens_at-lens.ensures.0 c.lens_at-lens.ensures.2 c.copy_bytes.ensures c.store.ensures c.store-2.ensures
