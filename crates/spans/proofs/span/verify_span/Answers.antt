-- `spans::span::verify_span` meets its contract.
use Rattle.spans.proofs.Spans.{verify-ready, verify-lent, verify-no, verify-done}
use Rattle.spans.proofs.span.verify_span.Goals as goal

pub returns-in_err-more : goal.returns-in_err-more
returns-in_err-more c = rw c.from_residual.ensures (verify-no c.requires.0 (c.claim_span.ensures _ c.requires.0).found c.in_err-more.was)

pub read_span-requires : goal.read_span-requires
read_span-requires c =
    let p = c.requires in
    let held = c.in_ok-more.was in
    (verify-lent p.0 (c.claim_span.ensures _ c.requires.0).found held, verify-ready p.0 (c.claim_span.ensures _ c.requires.0).found held p.1, (c.claim_span.ensures _ c.requires.0).charted _ held)

pub returns : goal.returns
returns c = verify-done c.requires.0 (c.claim_span.ensures _ c.requires.0).found c.in_ok-more.was c.read_span.ensures
