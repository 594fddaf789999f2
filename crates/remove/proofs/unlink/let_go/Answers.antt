-- `remove::unlink::let_go` meets its contract.
use Prim.Native.Nat.{ℕ}
use mathlib.Core.Path.{◌∙◌}
use lib.ListN.{length-replicate}
use Rattle.remove.proofs.Unlinkings.{gone-ready, spans-ready, pages-ready, levels-ready, counts-ready, let_go}
use Rattle.remove.proofs.unlink.let_go.Goals as goal

pub towers_before-before-requires : goal.towers_before-before-requires
towers_before-before-requires c = pages-ready c.requires.is

pub give_gone-given-requires : goal.give_gone-given-requires
give_gone-given-requires c = gone-ready c.requires.is

pub link_spans-requires : goal.link_spans-requires
link_spans-requires c = spans-ready c.requires.is c.give_gone-given.auto.image

pub link_levels-requires : goal.link_levels-requires
link_levels-requires c = levels-ready c.requires.is (length-replicate {A = ℕ} 252 0) c.towers_before-before.ensures (c.link_spans.auto.image ∙ c.give_gone-given.auto.image)

pub lower_counts-requires : goal.lower_counts-requires
lower_counts-requires c = counts-ready c.requires.is (c.link_levels.auto.image ∙ c.link_spans.auto.image ∙ c.give_gone-given.auto.image)

pub returns : goal.returns
returns c =
    let_go (length-replicate {A = ℕ} 252 0) c.towers_before-before.ensures c.give_gone-given.ensures c.link_spans.ensures c.link_levels.ensures c.lower_counts.ensures
