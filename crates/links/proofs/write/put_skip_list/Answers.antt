-- `links::write::put_skip_list` meets its contract: writes side by side are one.
use Rattle.links.proofs.Written.{skip-page}
use Rattle.links.proofs.write.put_skip_list.Goals as goal

pub returns : goal.returns
returns c =
    let x = c.args.list in
    cc (skip-page c.args.image.now x.page x.first x.head x.counts.size x.counts.spans x.counts.levels x.span_size)
