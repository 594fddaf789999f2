-- `pages::write::put_zeros` meets its contract.
use Prim.Native.Nat.{ℕ}
use native.Mathlib.Omega.{arith}
use borrow.Author.Rules.{rules}
use mathlib.Core.Path.{◌≡◌, sym, ◌∙◌}
use lib.ListN.{length, replicate, length-replicate}
use Rattle.laws.proofs.Pages.{write-from}
use Rattle.pages.proofs.Stores.{put_mid-sets}
use Rattle.pages.proofs.write.put_zeros.Goals as goal

pub returns : goal.returns
returns c =
    let part : c.fill.new.self ≡ replicate c.args.n 0 = search rules in
    let long : length (replicate {A = ℕ} c.args.n 0) ≡ c.args.n = length-replicate c.args.n 0 in
    put_mid-sets _ _ c.args.image.now part (omega (arith, long)) (omega (arith, long)) ∙ sym (write-from _ _ _ _ c.requires.low)
