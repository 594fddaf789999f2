-- `pages::write::copy_bytes` meets its contract, byte by byte.
use mathlib.Core.Path.{◌≡◌}
use lib.ListN.{length, take}
use lib.Seq.{sets}
use Rattle.pages.proofs.write.copy_bytes.Given as goal

abbrev pub invariant-loop-i : goal.invariant-loop-i
invariant-loop-i l = (l.into ≡ sets l.initial.into l.from (take l.i l.src)) × (length l.into ≡ length l.initial.into)
