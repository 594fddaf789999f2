-- `entries::place::forward` meets its contract: page part by page part.
use Rattle.std.proofs.Common.{◌+◌, ◌*◌}
use Rattle.entries.proofs.Places.{Going}
use Rattle.entries.proofs.place.forward.Given as goal

abbrev pub invariant-loop-offset : goal.invariant-loop-offset
invariant-loop-offset l = Going l.image (record { page = l.initial.page; offset = l.initial.offset }) l.n (record { page = l.page; offset = l.offset }) l.left

-- a page part is at least 0 bytes, and after it the offset is 8
abbrev pub decreases-loop-offset : goal.decreases-loop-offset
decreases-loop-offset l = 1024 * l.left + l.offset
