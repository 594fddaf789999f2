-- `links::write::put_counts` meets its contract: three writes side by side are one.
use Rattle.links.proofs.Written.{three-counts}
use Rattle.links.proofs.write.put_counts.Goals as goal

pub returns : goal.returns
returns c = cc (three-counts c.args.image.now c.args.root c.args.counts.size c.args.counts.spans c.args.counts.levels)
