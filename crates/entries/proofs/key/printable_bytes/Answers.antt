-- `entries::key::printable_bytes` meets its contract.
use Rattle.std.proofs.Common.{rules, ◌∙◌}
use borrow.Author.Tests.{tests}
use Rattle.std.proofs.lemmas.Iterator.{YieldsList-from_slice}
use Rattle.std.proofs.lemmas.Iterator.Search.{all_from_yields_List}
use Rattle.blockfile.specs.Order.{within}
use Rattle.entries.proofs.Names.{within-all}
use Rattle.entries.proofs.key.printable_bytes.Goals as goal

pub returns : goal.returns
returns c = all_from_yields_List (within 0x21 0x7e) _ _ _ c.all.ensures.ran (YieldsList-from_slice c.args.x.now cc) (λ x b q k. search (rules, tests)) ∙ within-all c.args.x.now
