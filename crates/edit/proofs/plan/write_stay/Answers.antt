use Rattle.edit.proofs.Plannings.{stay-ready, wrote-stay}
use Rattle.edit.proofs.plan.write_stay.Goals as goal

pub write_span-requires : goal.write_span-requires
write_span-requires c = stay-ready c.requires c.args.next

pub returns : goal.returns
returns c = wrote-stay _ _ _ c.write_span.ensures
