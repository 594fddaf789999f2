use native.Mathlib.Omega.{arith}
use mathlib.Core.Path.{sym}
use Rattle.heads.proofs.Claims.{full-of, full-not}
use Rattle.heads.proofs.claim.all_claimed.Goals as goal

pub returns-then-scratch-i-ne0 : goal.returns-then-scratch-i-ne0
returns-then-scratch-i-ne0 c = full-not c.args.scratch.now c.loop-i.i (omega (arith, c.loop-i-test.true)) c.if-scratch-i-ne0.true

pub returns : goal.returns
returns c = sym (full-of c.args.scratch.now (λ i l. c.loop-i.invariant i (omega (arith, c.loop-i-test.false))))
