-- `entries::key::compare_keys` meets its contract, on one page each and over page breaks.
use Rattle.entries.proofs.Keys.{key-near, key_here, compared-here}
use Rattle.entries.proofs.key.compare_keys.Goals as goal

pub on_page-requires : goal.on_page-requires
on_page-requires c = key-near c.requires.0

pub on_page-requires-then-on_page : goal.on_page-requires-then-on_page
on_page-requires-then-on_page c = key-near c.requires.1

pub compare_here-requires : goal.compare_here-requires
compare_here-requires c =
    let f = c.on_page.ensures in
    let g = c.on_page-then-on_page.ensures in
    let p = c.requires in
    (key_here (f.some c.if-on_page.true) (f.fits c.if-on_page.true) p.0, key_here (g.some c.if-on_page-2.true) (g.fits c.if-on_page-2.true) p.1)

pub returns-then-on_page-2 : goal.returns-then-on_page-2
returns-then-on_page-2 c =
    let f = c.on_page.ensures in
    let g = c.on_page-then-on_page.ensures in
    compared-here (f.some c.if-on_page.true) (f.fits c.if-on_page.true) (g.some c.if-on_page-2.true) (g.fits c.if-on_page-2.true) c.compare_here.ensures
