-- `remove::unlink::lower_counts` meets its contract.
use Prim.Native.Nat.{ℕ, ◌-◌}
use mathlib.Core.Path.{◌≡◌, ap, ◌∙◌}
use mathlib.Core.List.{◌++◌}
use lib.ListN.{length}
use Rattle.std.specs.Prelude.{option_to_list}
use Rattle.std.specs.Int.{from_bool}
use Rattle.blockfile.specs.Bytes.{word32, write}
use Rattle.remove.proofs.Unlinkings.{one_page}
use Rattle.remove.proofs.unlink.lower_counts.Goals as goal

pub returns : goal.returns
returns c =
    let x = c.args.going in
    let one : c.from.result ≡ length (option_to_list c.args.tower) = c.from.ensures ∙ ap from_bool c.is_some.ensures ∙ one_page c.args.tower in
    c.put_counts.ensures
    ∙ ap (λ (n : ℕ). write c.args.image.now x.root 16 (word32 (x.list.size - x.links.size) ++ (word32 (x.list.spans - 1) ++ word32 (x.list.levels - n))))
    one
