-- `links::around::get_entries` meets its contract: the levels that were passed are entries of the tower.
use Prim.Native.Nat.{◌+◌, ◌*◌}
use Rattle.blockfile.specs.Bytes.{pg, be32}
use Rattle.std.specs.Prelude.{replicate}
use Rattle.search.specs.Paths.{Filled}
use Rattle.links.proofs.around.get_entries.Given as goal

abbrev pub invariant-loop-i : goal.invariant-loop-i
invariant-loop-i l = Filled (replicate 252 0) l.i (λ k. be32 (pg l.image l.page) (16 + 4 * k)) l.nexts
