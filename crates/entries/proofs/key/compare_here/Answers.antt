-- `entries::key::compare_here` meets its contract.
use Rattle.entries.proofs.key.compare_here.Goals as goal

pub returns : goal.returns
returns c = rw (← c.bytes_at.ensures, ← c.bytes_at-2.ensures) c.compare_bytes.ensures
