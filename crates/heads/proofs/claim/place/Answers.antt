-- `heads::claim::place` meets its contract: both parts of a head.
use mathlib.Core.Path.{sym}
use Rattle.heads.proofs.Claims.{head_first, head-last}
use Rattle.heads.proofs.claim.place.Goals as goal

pub returns-then-offset-lt16 : goal.returns-then-offset-lt16
returns-then-offset-lt16 c = sym (head_first _ _ c.if-offset-lt16.true)

pub returns : goal.returns
returns c = sym (head-last _ _ c.if-offset-lt16.false)
