-- `draw::draw::draw_pages` meets its contract: old pages kept, the others taken, what is left over given back.
use native.Mathlib.Omega.{arith}
use Rattle.draw.proofs.Draws.{kept-most, rest-stocked, left-chained, drew}
use Rattle.draw.proofs.draw.draw_pages.Goals as goal

pub overflow_sub-wanted : goal.overflow_sub-wanted
overflow_sub-wanted c = kept-most c.keep_pages-kept.ensures c.requires.0.chain

pub overflow_add-from : goal.overflow_add-from
overflow_add-from c = omega (arith, kept-most c.keep_pages-kept.ensures c.requires.0.chain)

pub take_pages-requires : goal.take_pages-requires
take_pages-requires c =
    let d = c.requires.0 in
    (rest-stocked c.keep_pages-kept.ensures d, omega (arith, kept-most c.keep_pages-kept.ensures d.chain))

pub give_chain-requires : goal.give_chain-requires
give_chain-requires c = left-chained c.keep_pages-kept.ensures c.take_pages.ensures c.requires.0

pub returns : goal.returns
returns c = drew c.keep_pages-kept.ensures c.take_pages.ensures c.requires.1 c.give_chain.ensures
