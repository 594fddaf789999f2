use native.Mathlib.Omega.{arith}
use mathlib.Core.Path.{refl, ap, ◌∙◌}
use lib.ListN.{length-set}
use lib.Seq.{sets, take_all}
use Rattle.laws.proofs.Lists.{sets-turn}
use Rattle.pages.proofs.write.copy_bytes.Goals as goal

pub loop-i-init : goal.loop-i-init
loop-i-init c = (refl, refl)

pub loop-i-preserved : goal.loop-i-preserved
loop-i-preserved c =
    let v = c.loop-i.invariant in
    (rw v.0 (sets-turn c.args.into.now c.args.src.now c.args.from _ 0 c.loop-i-test.true), simp length-set v.1)

pub shape_of-into : goal.shape_of-into
shape_of-into c = c.loop-i.invariant.1

pub returns : goal.returns
returns c =
    c.loop-i.invariant.0 ∙ ap (sets c.args.into.now c.args.from) (take_all _ c.args.src.now (omega (arith, c.loop-i-test.false)))
