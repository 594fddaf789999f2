-- `entries::copy::copy` meets its contract: page part by page part.
use Rattle.std.proofs.Common.{◌+◌, ◌*◌}
use Rattle.entries.proofs.Copies.{Copying}
use Rattle.entries.proofs.copy.copy.Given as goal

abbrev pub invariant-loop-offset : goal.invariant-loop-offset
invariant-loop-offset l = Copying l.image (record { page = l.initial.page; offset = l.initial.offset }) l.n l.initial.into (record { page = l.page; offset = l.offset }) l.left l.into

-- a page part is at least 0 bytes, and after it the offset is 8
abbrev pub decreases-loop-offset : goal.decreases-loop-offset
decreases-loop-offset l = 1024 * l.left + l.offset
