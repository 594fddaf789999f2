-- `pages::write::put_page` meets its contract: four writes side by side are one.
use mathlib.Core.List.{[]}
use lib.ListN.{get_or}
use Rattle.blockfile.specs.Marks.{marks}
use Rattle.pages.specs.Kinds.{kind_at}
use Rattle.pages.proofs.Stores.{stream-page}
use Rattle.pages.proofs.write.put_page.Goals as goal

pub returns : goal.returns
returns c =
    cc (stream-page c.args.image.now c.args.page (get_or marks (kind_at c.args.kind) []) c.args.link c.args.src.now c.args.from c.chunk-n.result c.requires.0 c.chunk-n.ensures)
