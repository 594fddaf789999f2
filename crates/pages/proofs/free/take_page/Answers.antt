-- `pages::free::take_page` meets its contract.
use native.Mathlib.Omega.{arith}
use Rattle.pages.proofs.Taking.{take-first, first-inside, count_most, took-block, took-listed}
use Rattle.pages.proofs.free.take_page.Goals as goal

pub get-count-requires : goal.get-count-requires
get-count-requires c =
    let t = c.requires in
    let g = c.get-first in
    first-inside t.free t.shown g.result g.ensures.is (omega (arith, take-first t)) _ _ (omega arith)

pub get-next-requires : goal.get-next-requires
get-next-requires c =
    let t = c.requires in
    let g = c.get-first in
    first-inside t.free t.shown g.result g.ensures.is (omega (arith, take-first t)) _ _ (omega arith)

pub returns-then-count-eq0 : goal.returns-then-count-eq0
returns-then-count-eq0 c =
    let t = c.requires in
    took-block t c.get-first.result c.get-count.result c.get-first.ensures.is c.get-count.ensures.is _ c.get-next.result (omega (arith, c.if-count-eq0.true)) c.get-next.ensures.is c.put.ensures

pub get-last-requires : goal.get-last-requires
get-last-requires c =
    let t = c.requires in
    let g = c.get-first in
    let p = take-first t in
    let m = count_most t.free t.shown g.result g.ensures.is (omega arith) c.get-count.result c.get-count.ensures.is in
    first-inside t.free t.shown g.result g.ensures.is (omega arith) _ _ (omega arith)

pub put-requires-2 : goal.put-requires-2
put-requires-2 c =
    let t = c.requires in
    let g = c.get-first in
    first-inside t.free t.shown g.result g.ensures.is (omega (arith, take-first t)) _ _ (omega arith)

pub returns : goal.returns
returns c =
    let t = c.requires in
    took-listed t c.get-first.result c.get-count.result c.get-first.ensures.is c.get-count.ensures.is _ c.get-last.result (omega (arith, c.if-count-eq0.false)) c.get-last.ensures.is c.put-2.ensures
