use native.Mathlib.Omega.{arith}
use mathlib.Core.Path.{◌≡◌, ap, ◌∙◌}
use mathlib.Core.List.{◌++◌}
use Prim.Native.Nat.{ℕ, ◌+◌, min}
use Rattle.blockfile.specs.Bytes.{word32, write}
use Rattle.edit.specs.Counts.{size_of, levels_of}
use Rattle.edit.proofs.counts.write_counts.Goals as goal

pub returns : goal.returns
returns c =
    let x = c.args.plan in
    let one : c.min.result ≡ min 1 x.wants.span = omega arith in
    c.put_counts.ensures
    ∙ ap (λ (n : ℕ). write c.args.image.now x.root 16 (word32 (size_of x) ++ (word32 (x.list.spans + n) ++ word32 (levels_of x)))) one
