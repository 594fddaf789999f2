use native.Mathlib.Omega.{arith}
use mathlib.Core.Path.{refl}
use Rattle.spans.proofs.Runs.{walking_start, walking-end}
use Rattle.spans.proofs.entry.skim.Goals as goal

pub returns-then-size-eq0 : goal.returns-then-size-eq0
returns-then-size-eq0 c = record { few = omega arith; read = walking-end (walking_start c.args.sort c.requires) refl }

pub returns : goal.returns
returns c =
    let s = c.conclude.ensures c.args.sort c.pass.ensures.0 in
    record { few = omega (arith, s.few, c.pass.ensures.1); read = s.read }
