use Rattle.edit.proofs.FieldsRead.{links-read}
use Rattle.edit.proofs.fields.read_links.Goals as goal

pub returns : goal.returns
returns c = links-read _ _ _ c.get-first.ensures.is c.get-prev.ensures.is c.get-next.ensures.is c.get-size.ensures.is
