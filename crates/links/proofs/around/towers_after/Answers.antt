use native.Mathlib.Omega.{arith}
use mathlib.Core.Path.{◌≡◌, refl, ◌∙◌}
use Rattle.search.proofs.Fills.{fill_none}
use Rattle.links.proofs.Behind.{level-inside, after_is}
use Rattle.search.proofs.Towers.{head-tall, head-inside, head-height}
use Rattle.links.proofs.around.towers_after.Goals as goal

pub get-height-requires : goal.get-height-requires
get-height-requires c = head-inside c.requires.reading _ c.get.ensures.is _ _ (omega arith)

pub loop-i-init : goal.loop-i-init
loop-i-init c =
    let p = c.requires in
    (omega (arith, head-height p.reading _ _ c.get.ensures.is c.get-height.ensures.is, head-tall p.reading), fill_none _ _)

pub get-requires-in-loop-i : goal.get-requires-in-loop-i
get-requires-in-loop-i c =
    let p = c.requires in
    level-inside p.reading p.place p.before _ (omega (arith, c.loop-i.invariant)) (omega (arith, (head-height c.requires.reading _ _ c.get.ensures.is c.get-height.ensures.is), c.loop-i-test.true))

pub returns : goal.returns
returns c =
    let all : c.loop-i.i ≡ c.get-height.result = omega arith in
    record {
      is = λ t i b. after_is t i _ (all ∙ head-height t _ _ c.get.ensures.is c.get-height.ensures.is) refl c.loop-i.invariant.1 b;
    }
