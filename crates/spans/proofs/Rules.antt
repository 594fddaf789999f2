-- Keys that are as long as those of their table are.
use Prim.Native.Nat.{ℕ, ◌≤◌}
use mathlib.Core.Path.{◌≡◌, ◌∙◌}
use mathlib.Core.Bool.{true}
use mathlib.Core.List.{List}
use lib.ListN.{length}
use lib.Dec.{T}
use borrow.Author.Tests.{le-leb}
use Rattle.blockfile.specs.Order.{within}
use Rattle.blockfile.proofs.Bools.{holds}
use Rattle.order.specs.declared.sort.Sort.{Sort}
use Rattle.order.specs.declared.sort.Sort.TheVariants.{Bytes, Numbers}
use Rattle.order.specs.declared.sort.Lengths.{Lengths}
use Rattle.order.specs.Sorts.{rule_as, LengthsAre}
use Rattle.spans.specs.Entries.{four_as}

-- a key of a table has such a length
pub allowed-four : (sort : Sort) (k : List ℕ) → T ((rule_as sort).allowed k) → T (four_as sort (length k))
allowed-four Bytes k h = tt
allowed-four Numbers k h = h

-- a key of such a length, which is not empty nor too long, may stand in the table
pub four-allowed : (sort : Sort) (k : List ℕ) → T (four_as sort (length k)) → 1 ≤ length k → length k ≤ 65535 → T ((rule_as sort).allowed k)
four-allowed Bytes k f some few = let e : within 1 65535 (length k) ≡ true = rw (le-leb 1 (length k) some, le-leb (length k) 65535 few) in holds (within 1 65535 (length k)) e
four-allowed Numbers k f some few = f

-- the lengths that a key may have are those of keys that may stand in the table
pub lengths-allow : {sort : Sort} {z : Lengths} → LengthsAre sort z → (k : List ℕ) → z.least ≤ length k → length k ≤ z.most → T ((rule_as sort).allowed k)
lengths-allow {sort} {z} a k low high =
    let e : within z.least z.most (length k) ≡ true = rw (le-leb z.least (length k) low, le-leb (length k) z.most high) in
    holds ((rule_as sort).allowed k) (a.is k ∙ e)
