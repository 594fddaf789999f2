-- `entries::rank::prefix` meets its contract: eight bytes of the page, or fewer of them.
use Rattle.std.proofs.Common.{arith}
use Rattle.entries.proofs.Keys.{key-stands}
use Rattle.entries.proofs.Prefixes.{prefix-whole, prefix-cut}
use Rattle.entries.proofs.rank.prefix.Goals as goal

pub returns-then-n-lt8 : goal.returns-then-n-lt8
returns-then-n-lt8 c =
    let k = c.shared_slice_known-1 in
    let p = c.requires in
    prefix-cut (λ i. omega (arith, k.given i)) p.1 p.2 c.word64-whole.ensures c.if-n-lt8.true

pub returns : goal.returns
returns c =
    let k = c.shared_slice_known-1 in
    let p = c.requires in
    prefix-whole (λ i. omega (arith, k.given i)) p.1 p.2 c.word64-whole.ensures c.if-n-lt8.false

pub overflow_sub-page : goal.overflow_sub-page
overflow_sub-page c = let s = key-stands c.requires.0.there c.requires.1 in omega arith

pub overflow_mul-page : goal.overflow_mul-page
overflow_mul-page c = let s = key-stands c.requires.0.there c.requires.1 in omega arith

pub overflow_add-page : goal.overflow_add-page
overflow_add-page c = let s = key-stands c.requires.0.there c.requires.1 in omega arith

pub word64-whole-requires : goal.word64-whole-requires
word64-whole-requires c = let s = key-stands c.requires.0.there c.requires.1 in omega arith
