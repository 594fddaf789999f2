use Rattle.edit.proofs.Stagings.{header-stored}
use Rattle.edit.proofs.span.put_header.Goals as goal

pub returns : goal.returns
returns c = cc (header-stored c.args.buffer.now c.args.word c.args.top.prev c.args.top.next c.args.top.most c.args.top.size c.requires.2)
