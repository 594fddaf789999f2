-- `entries::key::compare_across` meets its contract: the parts passed are the same.
use Rattle.entries.specs.Keys.{KeyAt, Key}
use Rattle.entries.proofs.Parts.{Walking}
use Rattle.entries.proofs.key.compare_across.Given as goal

abbrev pub invariant-loop-i : goal.invariant-loop-i
invariant-loop-i l = Key l.image l.x l.i × Key l.image l.y l.j × Walking (KeyAt l.image l.initial.x l.m) (KeyAt l.image l.initial.y l.n) (KeyAt l.image l.x l.i) (KeyAt l.image l.y l.j)

abbrev pub decreases-loop-i : goal.decreases-loop-i
decreases-loop-i l = l.i
