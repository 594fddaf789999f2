use Rattle.edit.proofs.Plannings.{moved_ready, wrote-moved}
use Rattle.edit.proofs.plan.write_moved.Goals as goal

pub write_span-requires : goal.write_span-requires
write_span-requires c = moved_ready c.requires

pub returns : goal.returns
returns c = wrote-moved _ _ c.write_span.ensures
