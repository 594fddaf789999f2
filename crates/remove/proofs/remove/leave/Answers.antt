-- `remove::remove::leave` meets its contract: the plan is carried out without asking for room.
use Rattle.remove.proofs.Leavings.{planned, carry-ready, left}
use Rattle.remove.proofs.remove.leave.Goals as goal

pub make_plan-plan-requires : goal.make_plan-plan-requires
make_plan-plan-requires c = planned c.requires

pub carry_flat-requires : goal.carry_flat-requires
carry_flat-requires c = carry-ready c.make_plan-plan.ensures c.requires

pub returns : goal.returns
returns c = left c.make_plan-plan.ensures c.carry_flat.ensures
