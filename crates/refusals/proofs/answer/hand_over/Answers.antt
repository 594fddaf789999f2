use native.Mathlib.Omega.{arith}
use mathlib.Core.Path.{◌≡◌}
use Rattle.std.proofs.lemmas.Result.{err_from_is_err_and}
use Rattle.blockfile.specs.declared.Refusal.TheVariants.{NoKey}
use Rattle.refusals.proofs.Handing.{hand-none, hand-enough, hand-short, hand-done}
use Rattle.refusals.proofs.answer.hand_over.Goals as goal

pub returns-in_err-bytes : goal.returns-in_err-bytes
returns-in_err-bytes c = λ o a.
    let p = err_from_is_err_and c.from_residual.result c.from_residual.ensures.1 in
    let why : p.0 ≡ NoKey = grind arith in
    rw (p.1, why) (hand-none a (grind arith) _)

pub returns-then-answer-n : goal.returns-then-answer-n
returns-then-answer-n c = λ o a. hand-short a c.in_ok-bytes.bytes (grind arith) _ c.if-answer-n.true

pub copy_from-requires : goal.copy_from-requires
copy_from-requires c = (hand-enough c.requires.1 _ (grind arith), c.if-answer-n.false)

pub returns : goal.returns
returns c = λ o a. hand-done a _ (grind arith) _ _ c.if-answer-n.false c.copy_from.ensures
