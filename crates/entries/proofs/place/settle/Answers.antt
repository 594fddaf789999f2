-- `entries::place::settle` meets its contract: on the next page, or here.
use Rattle.entries.proofs.Places.{settle-next, settle-here}
use Rattle.entries.proofs.place.settle.Goals as goal

pub returns-then-offset-n-gt1024 : goal.returns-then-offset-n-gt1024
returns-then-offset-n-gt1024 c =
    let p = c.requires in
    settle-next _ p.2 p.0 p.1 c.if-offset-n-gt1024.true _ c.get-next.ensures.is

pub returns : goal.returns
returns c = settle-here _ c.requires.2 c.if-offset-n-gt1024.false
