-- `entries::key::compare_slice_across` meets its contract: the parts passed are the same.
use Rattle.std.proofs.Common.{◌≤◌, length}
use Rattle.entries.specs.Keys.{KeyAt, Key}
use Rattle.entries.proofs.Parts.{Walking, From}
use Rattle.entries.proofs.key.compare_slice_across.Given as goal

abbrev pub invariant-loop-i : goal.invariant-loop-i
invariant-loop-i l = Key l.image l.x l.i × (l.j ≤ length l.key) × Walking (KeyAt l.image l.initial.x l.m) (From l.key 0) (KeyAt l.image l.x l.i) (From l.key l.j)

abbrev pub decreases-loop-i : goal.decreases-loop-i
decreases-loop-i l = l.i
