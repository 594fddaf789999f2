-- The ways through `leave`: the span's own pages are enough.
use Prim.Native.Nat.{ℕ, ◌/◌}
use native.Mathlib.Omega.{arith}
use mathlib.Core.Path.{◌≡◌, ap}
use mathlib.Core.List.{List, []}
use lib.ListN.{length}
use Rattle.blockfile.specs.Layout.{Table, Block}
use Rattle.blockfile.specs.Order.{KeyRule}
use Rattle.blockfile.specs.Put.{Parts}
use Rattle.laws.proofs.Splits.{parts-plain}
use Rattle.edit.specs.declared.plan.Plan.{Plan}
use Rattle.edit.specs.Makes.{PlanReady, PlanFor}
use Rattle.edit.specs.Rewrites.{Carries, CarryReady, Carried}
use Rattle.edit.proofs.Rewritings.{plan-is, plan-ready, total-plain, carries, written}
use Rattle.remove.specs.Leaves.{taken_out, others, LeaveOf, LeaveReady, SpanLeft}

pub planned : {img scratch : List ℕ} {root page index : ℕ} → LeaveReady img scratch root page index → PlanReady img root page (taken_out index) 0
planned h = plan-ready h.is.rewrite (omega arith)

module _ {img : List ℕ} {root page index : ℕ} {x : Plan} (q : PlanFor img root page (taken_out index) 0 0 (length img / 1024) x) where
  carried-for : {r : KeyRule} {t : Table} {bs : List Block} {i : ℕ} → LeaveOf img root page index r t bs i → Carries img x (taken_out index) [] [] r t bs i
  carried-for o = carries o.rewrite q (omega (arith, o.wants))

  -- so there is no split, and no tower
  flat : {r : KeyRule} {t : Table} {bs : List Block} {i : ℕ} → LeaveOf img root page index r t bs i → x.wants.tower ≡ 0
  flat {t = t} {i = i} o =
      omega (arith, (plan-is o.rewrite q).wants.tower, ap (λ (p : Parts). p.height) (parts-plain t (others t i index) o.fits))

  pub carry-ready : {scratch : List ℕ} → LeaveReady img scratch root page index → CarryReady img scratch x (taken_out index) [] [] × (x.wants.tower ≡ 0)
  carry-ready h = (record { rule = h.rule; table = h.table; blocks = h.blocks; place = h.place; carries = carried-for h.is; lent = h.lent }, flat h.is)

  pub left : {n : ℕ} {out : List ℕ} → Carried img x (taken_out index) [] [] n out → SpanLeft img root page index n out
  left d =
      record {
        image = λ r t bs i o. written o.rewrite q (omega (arith, o.wants)) (d.image r t bs i (carried-for o));
        given = λ r t bs i o. omega (arith, d.given r t bs i (carried-for o), total-plain o.rewrite q, o.wants);
      }
