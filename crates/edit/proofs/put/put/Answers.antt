use native.Mathlib.Omega.{arith}
use Rattle.search.proofs.Tables.{target-span}
use Rattle.search.proofs.Descents.{lowest-of}
use Rattle.edit.proofs.Rewritings.{all-few, conts-ready, counted, conts-near, span-near, tower-near}
use Rattle.edit.proofs.Puttings.{reading, change_of, put-planned, put_full, put-carries, put-done}
use Rattle.edit.proofs.put.put.Goals as goal

pub descend-path-requires : goal.descend-path-requires
descend-path-requires c = reading c.requires.is

pub find_from-page-requires : goal.find_from-page-requires
find_from-page-requires c = (reading c.requires.is, rw c.lowest.ensures (lowest-of c.descend-path.ensures))

pub find_spot-spot-requires : goal.find_spot-spot-requires
find_spot-spot-requires c = target-span (reading c.requires.is) _ _ c.find_from-page.ensures

pub overflow_add-key : goal.overflow_add-key
overflow_add-key c = omega arith

pub make_plan-plan-requires : goal.make_plan-plan-requires
make_plan-plan-requires c = put-planned c.requires _ c.find_from-page.ensures _ c.find_spot-spot.ensures _ c.put_change-change.ensures

pub count_conts-old-requires : goal.count_conts-old-requires
count_conts-old-requires c = conts-ready (change_of c.requires _ c.find_from-page.ensures _ c.find_spot-spot.ensures _ c.put_change-change.ensures) c.make_plan-plan.ensures

pub overflow_add-available : goal.overflow_add-available
overflow_add-available c =
    let o = change_of c.requires _ c.find_from-page.ensures _ c.find_spot-spot.ensures _ c.put_change-change.ensures in
    omega (arith, counted o c.make_plan-plan.ensures _ c.count_conts-old.ensures, c.requires.pages, all-few o, o.standing.readable.small)

pub overflow_add-wanted : goal.overflow_add-wanted
overflow_add-wanted c =
    let o = change_of c.requires _ c.find_from-page.ensures _ c.find_spot-spot.ensures _ c.put_change-change.ensures in
    omega (arith, conts-near o c.make_plan-plan.ensures, span-near o c.make_plan-plan.ensures)

pub overflow_add-wanted-2 : goal.overflow_add-wanted-2
overflow_add-wanted-2 c =
    let o = change_of c.requires _ c.find_from-page.ensures _ c.find_spot-spot.ensures _ c.put_change-change.ensures in
    omega (arith, conts-near o c.make_plan-plan.ensures, span-near o c.make_plan-plan.ensures, tower-near o c.make_plan-plan.ensures)

pub returns-then-available-wanted : goal.returns-then-available-wanted
returns-then-available-wanted c = put_full _ _ c.find_from-page.ensures _ c.find_spot-spot.ensures _ c.put_change-change.ensures c.make_plan-plan.ensures _ c.count_conts-old.ensures c.if-available-wanted.true

pub carry_out-requires : goal.carry_out-requires
carry_out-requires c =
    put-carries _ _ c.find_from-page.ensures _ c.find_spot-spot.ensures _ c.put_change-change.ensures c.make_plan-plan.ensures _ c.count_conts-old.ensures c.if-available-wanted.false c.descend-path.ensures c.requires

pub returns : goal.returns
returns c =
    put-done _ _ c.find_from-page.ensures _ c.find_spot-spot.ensures _ c.put_change-change.ensures c.make_plan-plan.ensures _ c.count_conts-old.ensures c.if-available-wanted.false c.descend-path.ensures c.carry_out.ensures
