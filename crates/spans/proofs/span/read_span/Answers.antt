-- `spans::span::read_span` meets its contract: the fields first, then the entries, then that no page is left over.
use native.Mathlib.Omega.{arith}
use Rattle.heads.proofs.Claims.{head16-read, head32-read}
use Rattle.spans.proofs.Readings.{span-ready, span-spread, span-in-head, read-other, read-max, read-over, read-bad, read-spare, read_done}
use Rattle.spans.proofs.span.read_span.Goals as goal

pub returns-then-from_head-previous : goal.returns-then-from_head-previous
returns-then-from_head-previous c = read-other c.requires.1 _ _ (let p = c.requires in head32-read p.0 (span-in-head p.1 p.0 (omega arith)) (omega arith) c.from_head.ensures) c.if-from_head-previous.true

pub returns-then-from_head-most : goal.returns-then-from_head-most
returns-then-from_head-most c = read-max c.requires.1 _ _ (let p = c.requires in head16-read p.0 (span-in-head p.1 p.0 (omega arith)) (omega arith) c.from_head-2.ensures) c.if-from_head-most.true

pub returns-then-most-size : goal.returns-then-most-size
returns-then-most-size c = read-over c.requires.1 _ _ (let p = c.requires in head16-read p.0 (span-in-head p.1 p.0 (omega arith)) (omega arith) c.from_head-size.ensures) c.if-most-size.true

pub verify_entries-requires : goal.verify_entries-requires
verify_entries-requires c = let p = c.requires in (p.0, span-ready p.1, span-spread p.1 p.2)

pub returns-in_err-end : goal.returns-in_err-end
returns-in_err-end c = rw c.from_residual.ensures (read-bad c.requires.1 _ _ (let p = c.requires in head16-read p.0 (span-in-head p.1 p.0 (omega arith)) (omega arith) c.from_head-size.ensures) c.verify_entries.ensures c.in_err-end.was)

pub returns-then-end-ge1016 : goal.returns-then-end-ge1016
returns-then-end-ge1016 c = read-spare c.requires.1 _ _ (let p = c.requires in head16-read p.0 (span-in-head p.1 p.0 (omega arith)) (omega arith) c.from_head-size.ensures) c.verify_entries.ensures c.in_ok-end.was c.if-end-ge1016.true

pub returns : goal.returns
returns c =
    let p = c.requires in
    read_done p.1 _ _ (let p = c.requires in head16-read p.0 (span-in-head p.1 p.0 (omega arith)) (omega arith) c.from_head-size.ensures) c.verify_entries.ensures c.in_ok-end.was c.if-end-ge1016.false c.if-most-size.false
    (let p = c.requires in head16-read p.0 (span-in-head p.1 p.0 (omega arith)) (omega arith) c.from_head-2.ensures) c.if-from_head-most.false
    (let p = c.requires in head32-read p.0 (span-in-head p.1 p.0 (omega arith)) (omega arith) c.from_head.ensures) c.if-from_head-previous.false
    (head32-read p.0 (span-in-head p.1 p.0 (omega arith)) (omega arith) c.from_head-3.ensures)
