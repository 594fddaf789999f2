use Prim.Native.Nat.{ℕ, ◌*◌, ◌≤◌}
use mathlib.Core.Path.{sym, subst}
use mathlib.Core.List.{List}
use lib.ListN.{length}
use lib.Seq.{length-sets}
use Rattle.draw.specs.Writing.{Writable, WroteChain}
use Rattle.edit.specs.Staged.{stream_in}
use Rattle.edit.proofs.Stagings.{header-fits, stream-ends, part-writable, part-wrote}
use Rattle.edit.proofs.span.write_span.Goals as goal

pub put_header-requires : goal.put_header-requires
put_header-requires c = let r = c.requires in (header-fits r.part, r.most, r.few)

pub write_stream-requires : goal.write_stream-requires
write_stream-requires c =
    let r = c.requires in
    let x = c.args.part in
    subst (λ (l : List ℕ). (4 * x.word ≤ x.end) × (x.end ≤ length l) × Writable c.args.image.now l x.at x.count (stream_in l (4 * x.word) x.end))
    (sym c.put_header.ensures)
    ((stream-ends r.part).0, simp length-sets (stream-ends r.part).1, part-writable r.part r.small)

pub returns : goal.returns
returns c =
    let x = c.args.part in
    record {
      image = λ ps es p.
          part-wrote p c.requires.small _
          (subst (λ (l : List ℕ). WroteChain c.args.image.now l x.at x.count (stream_in l (4 * x.word) x.end) c.write_stream.new.image)
          c.put_header.ensures c.write_stream.ensures);
      kept = c.put_header.ensures;
    }
