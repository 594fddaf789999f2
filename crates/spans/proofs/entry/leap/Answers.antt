-- `spans::entry::leap` meets its contract: link after link, or by the index of the page.
use Rattle.spans.proofs.Charts.{leap-paged, leap-moved}
use Rattle.spans.proofs.entry.leap.Goals as goal

pub nth_page-page-requires : goal.nth_page-page-requires
nth_page-page-requires c = let p = c.requires in (_, (_, leap-paged p.1 p.2 c.if-n-le16256.false p.0))

pub returns : goal.returns
returns c =
    let p = c.requires in
    let far = c.if-n-le16256.false in
    leap-moved p.1 p.2 far (c.nth_page-page.ensures _ _ (leap-paged p.1 p.2 far p.0))
