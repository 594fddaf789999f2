use Rattle.std.proofs.Common.{◌≡◌, ◌+◌, ◌-◌, arith}
use Rattle.entries.proofs.Keys.{printed-low, printed-high, printing-next, printed-end}
use Rattle.entries.proofs.key.printable_across.Goals as goal
use Rattle.entries.proofs.key.printable_across.Goals.{then-g-lt33-via-then-g-lt33, then-g-lt33-via-else-g-lt33+then-g-gt126}

pub returns-then-g-lt33 : goal.returns-then-g-lt33
returns-then-g-lt33 c =
    elim c.then-g-lt33.branch [
      | then-g-lt33-via-then-g-lt33 w ↦ printed-low c.loop.invariant (λ e. omega (arith, e, c.loop-test.true)) _ c.step-g.ensures w.if-g-lt33.true
      | then-g-lt33-via-else-g-lt33+then-g-gt126 w ↦ printed-high c.loop.invariant (λ e. omega (arith, e, c.loop-test.true)) _ c.step-g.ensures w.if-g-lt33.false w.if-g-gt126.true
    ]

pub loop-preserved : goal.loop-preserved
loop-preserved c =
    let one : c.args.n - (c.loop.counter + 1) ≡ c.args.n - c.loop.counter - 1 = omega arith in
    rw one (printing-next c.loop.invariant (λ e. omega (arith, e, c.loop-test.true)) _ c.step-g.ensures c.if-g-lt33.false c.if-g-gt126.false)

pub returns : goal.returns
returns c = printed-end c.loop.invariant (omega (arith, c.loop-test.false))
