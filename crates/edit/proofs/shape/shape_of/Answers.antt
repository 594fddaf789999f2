use native.Mathlib.Omega.{arith}
use Prim.Native.Nat.{ℕ, ◌≤◌}
use mathlib.Core.Path.{ap, ◌∙◌}
use Rattle.edit.proofs.Shapings.{size-whole, measurable, shape-for-split, shape-for-plain}
use Rattle.edit.proofs.shape.shape_of.Goals.{then-list-entries, else-list-entries}
use Rattle.edit.proofs.shape.shape_of.Goals as goal

pub size_after-entries-requires : goal.size_after-entries-requires
size_after-entries-requires c = size-whole c.requires

pub measure-ends-requires : goal.measure-ends-requires
measure-ends-requires c =
    let r = c.requires in
    let within : c.if-list-entries.half.0 ≤ c.size_after-entries.result = elim c.if-list-entries.branch [
      | then-list-entries w ↦ omega (arith, ap (λ (p : ℕ × ℕ). p.0) w.half-is, w.div_ceil.ensures, w.if-list-entries.true)
      | else-list-entries w ↦ omega (arith, ap (λ (p : ℕ × ℕ). p.0) w.half-is)
    ] in
    (measurable r _ _ c.size_after-entries.ensures within, r.short)

pub returns : goal.returns
returns c =
    elim c.if-list-entries.branch [
      | then-list-entries w ↦ shape-for-split c.requires _ _ c.measure-ends.ensures _ c.size_after-entries.ensures _ w.if-list-entries.true
          (omega (arith, ap (λ (p : ℕ × ℕ). p.0) w.half-is, w.div_ceil.ensures)) (ap (λ (p : ℕ × ℕ). p.1) w.half-is ∙ w.tower_height.ensures)
      | else-list-entries w ↦ shape-for-plain c.requires _ _ c.measure-ends.ensures _ c.size_after-entries.ensures _ w.if-list-entries.false
          (ap (λ (p : ℕ × ℕ). p.0) w.half-is) (ap (λ (p : ℕ × ℕ). p.1) w.half-is)
    ]
