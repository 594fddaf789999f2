-- `follow` meets its contract: the entries of the tower are written over the levels.
use native.Mathlib.Omega.{arith}
use mathlib.Core.Path.{◌≡◌}
use Prim.Native.Nat.{◌+◌, ◌*◌, ◌-◌}
use Rattle.towers.proofs.Levels.{followed}
use Rattle.towers.proofs.follow.Goals as goal

pub returns : goal.returns
returns c =
    let at = 1024 * (c.args.page - 1) + 16 in
    let long : at + 4 * c.args.height - at ≡ 4 * c.args.height = omega arith in
    rw (c.put_bytes.ensures, long)
    (followed c.args.image.now c.args.page c.args.height c.args.levels.now c.requires.low c.requires.high c.requires.fits (omega arith))
