-- `pages::free::give_page` meets its contract.
use native.Mathlib.Omega.{arith}
use Rattle.pages.proofs.Taking.{first-inside, gave-empty, gave-listed, gave-full}
use Rattle.pages.proofs.free.give_page.Goals as goal

pub returns-then-first-eq0 : goal.returns-then-first-eq0
returns-then-first-eq0 c = gave-empty _ c.get-first.result c.get-first.ensures.is _ (omega (arith, c.if-first-eq0.true)) c.block_page.ensures

pub get-count-requires : goal.get-count-requires
get-count-requires c =
    let g = c.get-first in
    let t = c.requires in
    first-inside t.free t.shown g.result g.ensures.is (omega (arith, c.if-first-eq0.false)) _ _ (omega arith)

pub list_page-requires : goal.list_page-requires
list_page-requires c =
    let t = c.requires in
    let i = first-inside t.free t.shown c.get-first.result c.get-first.ensures.is (omega (arith, c.if-first-eq0.false)) 0 1024 (omega arith) in
    (record { small = i.small; low = t.low; high = t.high; fits = omega arith }, i, omega (arith, c.if-count-lt252.true))

pub returns-then-count-lt252 : goal.returns-then-count-lt252
returns-then-count-lt252 c =
    gave-listed _ c.get-first.result c.get-first.ensures.is _ c.get-count.result c.get-count.ensures.is (omega (arith, c.if-first-eq0.false)) (omega (arith, c.if-count-lt252.true)) c.list_page.ensures

pub returns : goal.returns
returns c =
    gave-full _ c.get-first.result c.get-first.ensures.is _ c.get-count.result c.get-count.ensures.is (omega (arith, c.if-first-eq0.false)) (omega (arith, c.if-count-lt252.false)) c.block_page-2.ensures
