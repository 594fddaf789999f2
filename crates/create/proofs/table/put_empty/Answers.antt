use native.Mathlib.Omega.{arith}
use mathlib.Core.Path.{refl, ap, ◌∙◌}
use mathlib.Core.List.{List, ◌++◌}
use lib.ListN.{take, drop}
use Prim.Native.Nat.{ℕ}
use Rattle.blockfile.specs.Bytes.{word32, write, padded}
use Rattle.blockfile.specs.Marks.{span_mark}
use Rattle.create.proofs.Tables.{empty-written}
use Rattle.create.proofs.table.put_empty.Goals as goal

pub put_page-requires : goal.put_page-requires
unfolding span_mark
put_page-requires c = (refl, c.requires.0, omega arith)

pub returns : goal.returns
returns c =
    c.put_page.ensures
    ∙ ap (λ (l : List ℕ). write c.args.image.now c.args.page 0 (span_mark ++ (word32 0 ++ padded 1016 (take 1016 (drop 0 l))))) c.put_header.ensures
    ∙ empty-written c.args.image.now c.args.page c.args.most
