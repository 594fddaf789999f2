use native.Mathlib.Omega.{arith}
use mathlib.Core.Path.{refl}
use Rattle.pages.proofs.Skips.{skips-start, skips-next, skips-inside, skips-few, skips-block, skips-listed}
use Rattle.pages.proofs.free.taken_after.Goals as goal

pub get-count-requires : goal.get-count-requires
get-count-requires c = skips-inside (skips-start _ _ _ _ c.get-block.ensures.is refl) c.requires 12 4 (omega arith)

pub loop-count-init : goal.loop-count-init
loop-count-init c = skips-start _ _ _ _ c.get-block.ensures.is c.get-count.ensures.is

pub overflow_add-left : goal.overflow_add-left
overflow_add-left c = omega (arith, skips-few c.loop-count.invariant c.requires)

pub get-block-requires-in-loop-count : goal.get-block-requires-in-loop-count
get-block-requires-in-loop-count c = skips-inside c.loop-count.invariant c.requires 8 4 (omega arith)

pub get-count-requires-in-loop-count : goal.get-count-requires-in-loop-count
get-count-requires-in-loop-count c = skips-inside (skips-next c.loop-count.invariant c.loop-count-test.true _ c.get-block-in-loop-count.ensures.is _ refl) c.requires 12 4 (omega arith)

pub loop-count-preserved : goal.loop-count-preserved
loop-count-preserved c = skips-next c.loop-count.invariant c.loop-count-test.true _ c.get-block-in-loop-count.ensures.is _ c.get-count-in-loop-count.ensures.is

pub returns-then-left-count : goal.returns-then-left-count
returns-then-left-count c = skips-block c.loop-count.invariant c.requires c.if-left-count.true

pub overflow_mul-count : goal.overflow_mul-count
overflow_mul-count c = omega (arith, skips-few c.loop-count.invariant c.requires)

pub overflow_add-count : goal.overflow_add-count
overflow_add-count c = omega (arith, skips-few c.loop-count.invariant c.requires)

pub get-requires : goal.get-requires
get-requires c =
    let a = c.requires in
    skips-inside c.loop-count.invariant a _ _ (omega (arith, skips-few c.loop-count.invariant a))

pub returns : goal.returns
returns c = skips-listed c.loop-count.invariant c.requires (omega (arith, c.if-left-count.false, c.loop-count-test.false)) _ c.get.ensures.is
