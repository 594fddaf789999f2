-- `entries::key::printable` meets its contract, on one page and over page breaks.
use Rattle.entries.proofs.Keys.{key-near, key_here, printed-bytes}
use Rattle.entries.proofs.key.printable.Goals as goal

pub on_page-requires : goal.on_page-requires
on_page-requires c = key-near c.requires

pub bytes_at-requires : goal.bytes_at-requires
bytes_at-requires c = let f = c.on_page.ensures in key_here (f.some c.if-on_page.true) (f.fits c.if-on_page.true) c.requires

pub returns-then-on_page : goal.returns-then-on_page
returns-then-on_page c =
    let f = c.on_page.ensures in
    printed-bytes (f.some c.if-on_page.true) (f.fits c.if-on_page.true) c.bytes_at.ensures c.printable_bytes.ensures
