-- `entries::key::on_page` meets its contract.
use Rattle.std.proofs.Common.{arith, leb-true}
use Rattle.std.proofs.lemmas.Bool.Decides.{nat_tests}
use Rattle.entries.proofs.key.on_page.Goals as goal

pub overflow_sub-result : goal.overflow_sub-result
overflow_sub-result c = omega (arith, c.requires.high (omega arith))

pub returns-then-n-ne0 : goal.returns-then-n-ne0
returns-then-n-ne0 c = record { some = λ e. omega arith; fits = λ e. omega (arith, leb-true _ _ e, c.requires.high (omega arith)) }

pub returns-else-n-ne0 : goal.returns-else-n-ne0
returns-else-n-ne0 c = record { some = λ e. grind (arith, nat_tests); fits = λ e. grind (arith, nat_tests) }
