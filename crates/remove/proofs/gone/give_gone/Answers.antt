-- `remove::gone::give_gone` meets its contract.
use native.Mathlib.Omega.{arith}
use Rattle.remove.proofs.Giving.{chained, conts-few, page-giveable, tower-giveable, gave-flat, gave-tall}
use Rattle.remove.proofs.gone.give_gone.Goals as goal

pub give_chain-conts-requires : goal.give_chain-conts-requires
give_chain-conts-requires c = chained c.requires.span

pub give_page-requires : goal.give_page-requires
give_page-requires c = page-giveable c.requires.span c.give_chain-conts.ensures

pub give_page-requires-2 : goal.give_page-requires-2
give_page-requires-2 c =
    let h = c.requires in
    tower-giveable h.span c.give_chain-conts.ensures c.give_page.ensures (h.tall _ c.in-Some.is)

pub overflow_add-result : goal.overflow_add-result
overflow_add-result c = omega (arith, conts-few c.requires.span c.give_chain-conts.ensures)

pub returns-in_default : goal.returns-in_default
returns-in_default c = gave-flat c.give_chain-conts.ensures c.give_page.ensures c.in_default.is

pub overflow_add-result-2 : goal.overflow_add-result-2
overflow_add-result-2 c = omega (arith, conts-few c.requires.span c.give_chain-conts.ensures)

pub returns : goal.returns
returns c = gave-tall c.give_chain-conts.ensures c.give_page.ensures _ c.in-Some.is c.give_page-2.ensures
