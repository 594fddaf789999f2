-- `entries::sorted::sign_at` meets its contract.
use Rattle.std.proofs.Common.{arith}
use Rattle.entries.proofs.Keys.{key-enough}
use Rattle.entries.proofs.Sorts.{sign-at-bytes, sign-at-none, sign-at-some}
use Rattle.entries.proofs.sorted.sign_at.Goals as goal

pub step-g-requires : goal.step-g-requires
step-g-requires c = key-enough c.requires.there (λ e. omega arith)

pub returns-else-n-eq0 : goal.returns-else-n-eq0
returns-else-n-eq0 c = sign-at-some (omega arith) c.step-g.ensures c.in-Numbers.is c.sign_by.ensures

pub returns-then-n-eq0 : goal.returns-then-n-eq0
returns-then-n-eq0 c = sign-at-none (omega arith)

pub returns-in-Bytes : goal.returns-in-Bytes
returns-in-Bytes c = sign-at-bytes c.in-Bytes.is
