use native.Mathlib.Omega.{arith}
use Rattle.spans.proofs.Charts.{paged-here, paged-next}
use Rattle.spans.proofs.entry.nth_page.Goals as goal

pub from_head-page-requires : goal.from_head-page-requires
from_head-page-requires c = let w = c.requires in rw (c.loop.invariant w.0 w.1.0 w.1.1) (paged-here w.1.1 (omega arith))

pub loop-preserved : goal.loop-preserved
loop-preserved c img p w = paged-next w (omega arith) (c.loop.invariant img p w) c.from_head-page.ensures.is
