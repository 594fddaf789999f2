use native.Mathlib.Omega.{arith}
use mathlib.Core.Path.{refl, subst}
use Rattle.spans.specs.Entries.{Entering}
use Rattle.spans.proofs.Charts.{spread-entered}
use Rattle.spans.proofs.Runs.{walking_start, walking-ready, walking-end, walking-no, walking-more}
use Rattle.spans.proofs.entry.verify_entries.Goals as goal

pub loop-i-init : goal.loop-i-init
loop-i-init c = let p = c.requires in (walking_start _ p.1, omega arith, p.2, omega arith)

pub returns-then-size-i : goal.returns-then-size-i
returns-then-size-i c =
    let v = c.loop-i.invariant in
    walking-end (walking-more v.0 c.skim-skimmed.ensures.read refl refl) (omega (arith, c.skim-skimmed.ensures.few, c.if-size-i.true, v.1))

pub verify_entry-requires : goal.verify_entry-requires
verify_entry-requires c =
    let v = c.loop-i.invariant in
    (c.requires.0, walking-ready (walking-more v.0 c.skim-skimmed.ensures.read refl refl), spread-entered v.2 (walking-ready v.0).key c.skim-skimmed.ensures.read)

pub returns-in_err-here : goal.returns-in_err-here
returns-in_err-here c =
    let v = c.loop-i.invariant in
    rw c.from_residual.ensures (walking-no (walking-more v.0 c.skim-skimmed.ensures.read refl refl) c.verify_entry.ensures c.in_err-here.was (omega (arith, c.if-size-i.false, v.1)))

pub loop-i-preserved : goal.loop-i-preserved
loop-i-preserved c =
    let v = c.loop-i.invariant in
    let w = walking-more v.0 c.skim-skimmed.ensures.read refl refl in (
      walking-more w c.verify_entry.ensures c.in_ok-here.was (omega arith),
      omega (arith, c.if-size-i.false, v.1),
      spread-entered (spread-entered v.2 (walking-ready v.0).key c.skim-skimmed.ensures.read) (walking-ready w).key
          (subst (Entering _ _ _ _ 1) c.in_ok-here.was c.verify_entry.ensures),
      c.run_after-run.ensures,
    )

pub returns : goal.returns
returns c = let v = c.loop-i.invariant in walking-end v.0 (omega (arith, c.loop-i-test.false, v.1))
