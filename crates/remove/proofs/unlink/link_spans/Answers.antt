-- `remove::unlink::link_spans` meets its contract.
use Rattle.remove.proofs.Unlinkings.{behind-inside, linked-last, linked-both}
use Rattle.remove.proofs.unlink.link_spans.Goals as goal

pub put-requires-then-next-ne0 : goal.put-requires-then-next-ne0
put-requires-then-next-ne0 c = behind-inside c.requires c.if-next-ne0.true _ c.put.auto.image

pub returns-then-next-ne0 : goal.returns-then-next-ne0
returns-then-next-ne0 c = linked-both _ _ _ c.if-next-ne0.true c.put.ensures c.put-then-next-ne0.ensures

pub returns-else-next-ne0 : goal.returns-else-next-ne0
returns-else-next-ne0 c = linked-last _ _ _ c.if-next-ne0.false c.put.ensures
