-- `entries::place::bytes_at` meets its contract.
use Rattle.std.proofs.Common.{◌≡◌, ℕ, ◌+◌, ◌-◌, ◌*◌, List, take, drop, arith}
use Rattle.entries.proofs.place.bytes_at.Goals as goal

part : (s : List ℕ) (i n : ℕ) → take (i + n - i) (drop i s) ≡ take n (drop i s)
part s i n = let e : i + n - i ≡ n = omega arith in rw e

pub returns : goal.returns
returns c = let a = c.args in part a.image.now (1024 * (a.at.page - 1) + a.at.offset) a.n
