use mathlib.Core.Path.{ap, sym, ◌∙◌}
use mathlib.Core.List.{[], ◌∷◌}
use Rattle.blockfile.specs.Bytes.{apply}
use Rattle.laws.proofs.Writes.{apply-append}
use Rattle.edit.specs.Cuts.{span_writes}
use Rattle.edit.specs.Counts.{counts_of}
use Rattle.edit.proofs.apply.write_flat.Goals as goal

pub returns : goal.returns
returns c =
    record {
      image = λ cut ps h.
          c.write_counts.ensures ∙ ap (apply (counts_of c.args.plan ∷ [])) (c.write_spans.ensures.image cut ps h)
          ∙ sym (apply-append (span_writes cut ps) (counts_of c.args.plan ∷ []) c.args.image.now);
    }
