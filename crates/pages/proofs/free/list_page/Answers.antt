-- `pages::free::list_page` meets its contract: three writes, one after another.
use Rattle.pages.proofs.free.list_page.Goals as goal

pub returns : goal.returns
returns c = cc
