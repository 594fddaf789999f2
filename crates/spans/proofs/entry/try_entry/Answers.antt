-- `spans::entry::try_entry` meets its contract: an entry that is read follows the same laws as any.
use native.Mathlib.Omega.{arith}
use Rattle.spans.proofs.Runs.{here-key, here-some, here-read}
use Rattle.spans.proofs.entry.try_entry.Goals as goal

pub rank-rank-requires : goal.rank-rank-requires
rank-rank-requires c =
    let p = c.requires in
    (here-key p.0 (omega arith) c.get-key.ensures c.get-value.ensures (omega arith), here-some p.0 (omega arith) c.get-key.ensures c.get-value.ensures (omega arith) p.1 (omega arith) (omega arith), omega arith)

pub returns : goal.returns
returns c =
    let p = c.requires in
    record {
      is = here-read p.0 (omega arith) c.get-key.ensures c.get-value.ensures (omega arith) p.1 (omega arith) (omega arith) (λ i. omega (arith, c.type_inv.image i))
          c.rank-rank.ensures (omega arith);
    }
