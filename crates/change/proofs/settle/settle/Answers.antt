use Rattle.change.proofs.Settles.{undone, counted}
use Rattle.change.proofs.settle.settle.Goals as goal

pub keep_count-requires : goal.keep_count-requires
keep_count-requires c =
    let p = c.requires in
    (p.inside, p.few _ c.in-Some.is)

pub returns-in_default : goal.returns-in_default
returns-in_default c = undone _ _ _ c.in_default.is

pub returns : goal.returns
returns c = counted _ _ _ _ c.in-Some.is _ c.keep_count.ensures
