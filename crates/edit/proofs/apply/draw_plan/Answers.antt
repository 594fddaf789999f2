use Prim.Native.Nat.{ℕ}
use mathlib.Core.Path.{ap, ◌∙◌}
use mathlib.Core.List.{List}
use lib.Seq.{sets}
use Rattle.blockfile.specs.Bytes.{word32, gather}
use Rattle.draw.specs.Hands.{drawn}
use Rattle.edit.proofs.apply.draw_plan.Goals as goal

pub returns : goal.returns
returns c =
    record {
      image = λ a. c.draw_pages.ensures.image a;
      list = λ a. c.draw_pages.ensures.listed a ∙ ap (λ (l : List ℕ). sets l 4 (gather word32 (drawn a).pages)) c.set_number.ensures;
      given = λ a. c.draw_pages.ensures.given a;
    }
