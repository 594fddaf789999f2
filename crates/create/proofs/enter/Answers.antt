use native.Mathlib.Omega.{arith}
use mathlib.Core.Path.{refl, ◌∙◌}
use Rattle.create.proofs.Enterings.{conts-known, wanted-near, reach_few, all-used, pages-ahead, plan-ready, whole-pages, carry-ready, stored-word, no_room, entered}
use Rattle.create.proofs.enter.Goals as goal

pub make_plan-plan-requires : goal.make_plan-plan-requires
make_plan-plan-requires c = plan-ready c.requires

pub count_conts-old-requires : goal.count_conts-old-requires
count_conts-old-requires c = conts-known c.requires.enters c.make_plan-plan.ensures

pub overflow_add-available : goal.overflow_add-available
overflow_add-available c = omega (arith, reach_few c.requires.enters c.make_plan-plan.ensures _ c.count_conts-old.ensures)

pub overflow_add-wanted : goal.overflow_add-wanted
overflow_add-wanted c = omega (arith, wanted-near c.requires.enters c.make_plan-plan.ensures)

pub overflow_add-wanted-2 : goal.overflow_add-wanted-2
overflow_add-wanted-2 c = omega (arith, wanted-near c.requires.enters c.make_plan-plan.ensures)

pub overflow_add-total : goal.overflow_add-total
overflow_add-total c = omega (arith, wanted-near c.requires.enters c.make_plan-plan.ensures)

pub returns-then-available-total : goal.returns-then-available-total
returns-then-available-total c = no_room c.make_plan-plan.ensures _ c.count_conts-old.ensures c.if-available-total.true

pub overflow_sub-wanted : goal.overflow_sub-wanted
overflow_sub-wanted c = all-used c.requires.enters c.make_plan-plan.ensures _ c.count_conts-old.ensures

pub new_table-table-requires : goal.new_table-table-requires
new_table-table-requires c =
    let e = c.requires.enters in
    (pages-ahead e c.make_plan-plan.ensures _ c.count_conts-old.ensures c.if-available-total.false, omega (arith, c.if-available-total.false, reach_few e c.make_plan-plan.ensures _ c.count_conts-old.ensures))

pub carry_out-requires : goal.carry_out-requires
carry_out-requires c =
    let h = c.requires in
    carry-ready h c.make_plan-plan.ensures _ c.count_conts-old.ensures c.if-available-total.false (whole-pages h refl c.make_plan-plan.ensures) _ _ (c.set_number.ensures ∙ stored-word _)

pub returns : goal.returns
returns c =
    let h = c.requires in
    entered c.make_plan-plan.ensures _ c.count_conts-old.ensures c.if-available-total.false (whole-pages h refl c.make_plan-plan.ensures) _ c.new_table-table.ensures _
    (c.set_number.ensures ∙ stored-word _) _ c.carry_out.ensures _ c.write_table.ensures
