-- `links::write::put_tower` meets its contract: writes side by side are one.
use Rattle.links.proofs.Written.{tower-page}
use Rattle.links.proofs.write.put_tower.Goals as goal

pub returns : goal.returns
returns c = cc (tower-page c.args.image.now c.args.page c.args.max c.args.span c.args.nexts.now c.requires.1)
