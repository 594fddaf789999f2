-- Every call on any image, scratch and answer buffer has an outcome that keeps the promise.
use Prim.Native.Nat.{ℕ}
use native.Mathlib.Omega.{arith}
use native.Mathlib.Decide.{dec_lt}
use mathlib.Core.Path.{◌≡◌, refl}
use mathlib.Core.Logic.{by_cases, ⊎_elim}
use mathlib.Core.Bool.{Bool, true, false}
use mathlib.Core.List.{List}
use lib.ListN.{length}
use Rattle.blockfile.specs.declared.Refusal.TheVariants.{ImageLength, ScratchLength, NotWellFormed}
use Rattle.blockfile.specs.Bytes.{apply}
use Rattle.blockfile.specs.Refusals.{Op, Reply}
use Rattle.blockfile.specs.Answers.{Outcome, refuse, outcome_on}
use Rattle.blockfile.specs.Calls.{length_ok, cleared, answered, Called, bad_length, short_scratch, malformed, accepted, Keeps}
use Rattle.laws.proofs.Unique.{decided}

-- what a call leaves
pub record Left (op : Op) (img scratch buffer : List ℕ) : Type 0 where
  pub reply : Reply
  pub image : List ℕ
  pub scratch_after : List ℕ
  pub buffer_after : List ℕ
  pub kept : Keeps op img scratch buffer reply image scratch_after buffer_after

module _ (op : Op) (img scratch buffer : List ℕ) where
  left : (o : Outcome) (s : List ℕ) → Called op img scratch (length buffer) o s → Left op img scratch buffer
  left o s c =
      record {
        reply = o.reply;
        image = apply o.writes img;
        scratch_after = s;
        buffer_after = answered o.bytes buffer;
        kept = record { outcome = o; called = c; result = refl; image = refl; answer = refl };
      }

  pub outcome : Left op img scratch buffer
  outcome = go (length_ok (length img)) refl
    where
      go : (b : Bool) → length_ok (length img) ≡ b → Left op img scratch buffer
      go false e = left (refuse ImageLength) scratch (bad_length e refl refl)
      go true e =
          by_cases (dec_lt (length scratch) (length img)) (λ h. left (refuse ScratchLength) scratch (short_scratch e h refl refl))
          (λ h. ⊎_elim
          (λ a. left (outcome_on a.0 op (length buffer)) (cleared (length img) scratch) (accepted e (omega arith) a.0 a.1 refl refl))
          (λ r. left (refuse NotWellFormed) (cleared (length img) scratch) (malformed e (omega arith) r refl refl))
          (decided img))
