-- `entries::key::together` meets its contract.
use Rattle.std.proofs.Common.{arith}
use Rattle.order.proofs.Alike.{least-min}
use Rattle.entries.proofs.Parts.{least-some}
use Rattle.entries.proofs.key.together.Goals as goal

pub returns : goal.returns
returns c =
    let l = least-min c.min.ensures in
    let m = least-min c.min-2.ensures in
    let n = least-min c.min-3.ensures in
    let p = c.requires in
    record {
      some = least-some n (least-some l p.0 (omega (arith, p.2))) (least-some m p.1 (omega (arith, p.3)));
      first = omega (arith, l.first, n.first);
      second = omega (arith, m.first, n.second);
      here = omega (arith, l.second, n.first, p.2);
      there = omega (arith, m.second, n.second, p.3);
    }
