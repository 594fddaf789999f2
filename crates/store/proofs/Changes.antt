-- The calls that write: from an opened image to their promise, for any of them.
use Prim.Native.Nat.{ℕ, ◌≤◌}
use native.Mathlib.Omega.{arith}
use mathlib.Core.Path.{◌≡◌, refl, sym, ap, ◌∙◌}
use mathlib.Core.List.{List, [], ◌++◌}
use lib.ListN.{length, take, drop, length-append}
use lib.Seq.{drop_at}
use lib.Seq.{length-take-le}
use Rattle.std.specs.Prelude.{Result}
use Rattle.blockfile.specs.declared.Counts.{Counts}
use Rattle.blockfile.specs.declared.Refusal.{Refusal}
use Rattle.blockfile.specs.Refusals.{Op}
use Rattle.blockfile.specs.Calls.{cleared, wrote_reply, accepted, Keeps}
use Rattle.laws.proofs.Determined.{determined}
use Rattle.refusals.specs.Open.{Opening}
use Rattle.change.specs.Change.{Lending, Changed}
use Rattle.refusals.proofs.Opens.{ends}

-- ---- The scratch that is lent: up to the image's length

module _ {img s mid : List ℕ} {c : Counts} (o : Opening img s c mid) where
  pub lent-enough : length img ≤ length mid
  lent-enough = omega (arith, o.long, o.enough)

  pub lent-long : length (take (length img) mid) ≡ length img
  lent-long = length-take-le (length img) mid lent-enough

  pub lending : Lending img (take (length img) mid) c.free
  lending =
      record { layout = o.layout; well = o.well; pages = sym (ap (λ (x : Counts). x.free) o.counts); long = lent-long }

  -- whatever is left of it, the scratch can be cleared
  pub still-enough : (left : List ℕ) → length left ≡ length img → length img ≤ length (left ++ drop (length img) mid)
  still-enough left long = omega (arith, length-append left (drop (length img) mid))

  pub change-kept : (op : Op) (r : Result (Unit {0}) Refusal) (new : List ℕ) → Changed op img r new
      → (left out : List ℕ) → length left ≡ length img → out ≡ cleared (length img) (left ++ drop (length img) mid)
      → Keeps op img s [] (wrote_reply r) new out []
  change-kept op r new h left out long clear =
      record {
        outcome = record { reply = wrote_reply r; bytes = []; writes = h.writes };
        called = accepted o.sized o.enough h.layout h.well (sym h.outcome)
            (ends (length img) s _ out (drop_at left (drop (length img) mid) (length img) long ∙ o.past) clear);
        result = refl;
        image = h.image;
        answer = refl;
      }

-- ---- The promise determines the numbers of the answer and every byte of image and scratch

pub change-determined : (op : Op) (img s : List ℕ) (r q : Result (Unit {0}) Refusal) (new new₂ t u : List ℕ)
    → Keeps op img s [] (wrote_reply r) new t [] → Keeps op img s [] (wrote_reply q) new₂ u []
    → (wrote_reply r ≡ wrote_reply q) × (new ≡ new₂) × (t ≡ u)
change-determined op img s r q new new₂ t u k h =
    let e = determined op img s [] (wrote_reply r) (wrote_reply q) new new₂ t u [] [] k h in
    (e.0, e.1, e.2)
