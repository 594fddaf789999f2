-- `pages::free::block_page` meets its contract: mark, next and count are one write.
use Rattle.pages.proofs.Taking.{block-write}
use Rattle.pages.proofs.free.block_page.Goals as goal

pub returns : goal.returns
returns c = cc (block-write c.args.image.now c.args.page c.args.first)
