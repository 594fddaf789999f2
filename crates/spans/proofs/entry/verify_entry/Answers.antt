-- `spans::entry::verify_entry` meets its contract: each way out has its law.
use native.Mathlib.Omega.{arith}
use mathlib.Core.Path.{refl}
use Rattle.entries.proofs.Places.{gap-most}
use Rattle.spans.proofs.Runs.{entry-short, entry-over, entry-keys, entry-not, entry-some, entry_done}
use Rattle.spans.proofs.Charts.{spread-on}
use Rattle.spans.proofs.entry.verify_entry.Goals as goal

pub overflow_add-skipped : goal.overflow_add-skipped
overflow_add-skipped c = omega (arith, c.gap-skipped.ensures, gap-most c.args.from.at.offset 4)

pub returns-then-left-skipped : goal.returns-then-left-skipped
returns-then-left-skipped c = entry-short c.requires.1 c.gap-skipped.ensures c.if-left-skipped.true

pub returns-then-left-skipped-2 : goal.returns-then-left-skipped-2
returns-then-left-skipped-2 c = entry-over c.requires.1 c.gap-skipped.ensures c.lengths-sizes.ensures c.if-left-skipped.false c.if-left-skipped-2.true

pub is_above-requires : goal.is_above-requires
is_above-requires c = entry-keys c.requires.1 c.gap-skipped.ensures c.lengths-sizes.ensures c.if-left-skipped.false c.if-left-skipped-2.false

pub returns-then-not-is_above : goal.returns-then-not-is_above
returns-then-not-is_above c =
    entry-not c.requires.1 c.gap-skipped.ensures c.lengths-sizes.ensures c.if-left-skipped.false c.if-left-skipped-2.false c.is_above.ensures c.if-not-is_above.true

pub leap-after-requires : goal.leap-after-requires
leap-after-requires c =
    let g = c.gap-skipped.ensures in
    let p = c.requires in
    (p.0, spread-on p.2 (omega (arith, g, c.if-left-skipped.false)) c.lengths-sizes.ensures.moved (omega (arith, g)), omega (arith, c.if-left-skipped-2.false))

pub rank_most-rank-requires : goal.rank_most-rank-requires
rank_most-rank-requires c = ((entry-keys c.requires.1 c.gap-skipped.ensures c.lengths-sizes.ensures c.if-left-skipped.false c.if-left-skipped-2.false).1, (entry-some c.requires.1 c.gap-skipped.ensures c.lengths-sizes.ensures c.if-left-skipped.false c.if-left-skipped-2.false c.is_above.ensures c.if-not-is_above.false))

pub returns : goal.returns
returns c =
    let z = c.lengths-sizes.ensures in
    entry_done c.requires.1 c.gap-skipped.ensures z c.if-left-skipped.false c.if-left-skipped-2.false c.is_above.ensures c.if-not-is_above.false c.leap-after.ensures c.rank_most-rank.ensures refl
