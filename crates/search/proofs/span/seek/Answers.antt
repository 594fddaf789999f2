use native.Mathlib.Omega.{arith}
use Rattle.search.proofs.Entries.{along-enough, entry_key}
use Rattle.search.proofs.Seeks.{span-inside, seeking-start, seeking-end, seeking-open, opened-entry, seeking-next, seeking-here, seeking-above}
use Rattle.search.proofs.span.seek.Goals as goal

pub get-left-requires : goal.get-left-requires
get-left-requires c = span-inside c.requires.on _ _ (omega arith)

pub loop-left-init : goal.loop-left-init
loop-left-init c x = seeking-start _ _ c.get-left.ensures.is x.on

pub lengths-g-requires : goal.lengths-g-requires
lengths-g-requires c = along-enough (seeking-open (c.loop-left.invariant c.requires) c.loop-left-test.true).ahead.along

pub compare_as-requires : goal.compare_as-requires
compare_as-requires c = entry_key (opened-entry (seeking-open (c.loop-left.invariant c.requires) c.loop-left-test.true) _ c.lengths-g.ensures)

pub place_after-at-requires : goal.place_after-at-requires
place_after-at-requires c = (opened-entry (seeking-open (c.loop-left.invariant c.requires) c.loop-left-test.true) _ c.lengths-g.ensures).enough

pub loop-left-preserved : goal.loop-left-preserved
loop-left-preserved c x =
    seeking-next (seeking-open (c.loop-left.invariant x) c.loop-left-test.true) _ c.lengths-g.ensures x.on.there.order x.by _
    c.compare_as.ensures c.in-Less.is _ c.place_after-at.ensures

pub returns-in-Equal : goal.returns-in-Equal
returns-in-Equal c = record {
  is = λ x.
      seeking-here (seeking-open (c.loop-left.invariant x) c.loop-left-test.true) _ c.lengths-g.ensures x.on.there.order x.by _
      c.compare_as.ensures c.in-Equal.is;
}

pub returns-in-Greater : goal.returns-in-Greater
returns-in-Greater c = record {
  is = λ x.
      seeking-above (seeking-open (c.loop-left.invariant x) c.loop-left-test.true) _ c.lengths-g.ensures x.on.there.order x.by _
      c.compare_as.ensures c.in-Greater.is;
}

pub returns : goal.returns
returns c = record { is = λ x. seeking-end (c.loop-left.invariant x) c.loop-left-test.false }
