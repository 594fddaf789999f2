use Rattle.edit.proofs.Makings.{links-ready, shape-ready, shaped, plan-for}
use Rattle.edit.proofs.plan.make_plan.Goals as goal

pub read_links-links-requires : goal.read_links-links-requires
read_links-links-requires c = links-ready c.requires

pub shape_of-shape-requires : goal.shape_of-shape-requires
shape_of-shape-requires c = shape-ready c.requires _ _ c.read_list-list.ensures c.read_links-links.ensures

pub wanted-wants-requires : goal.wanted-wants-requires
wanted-wants-requires c = shaped c.requires _ _ c.read_list-list.ensures c.read_links-links.ensures _ c.shape_of-shape.ensures

pub returns : goal.returns
returns c = plan-for c.requires _ _ c.read_list-list.ensures c.read_links-links.ensures _ c.shape_of-shape.ensures _ _ _ c.wanted-wants.ensures
