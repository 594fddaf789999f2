-- A call's promise determines its numbers and every byte that it leaves.
use Prim.Native.Nat.{ℕ}
use native.Mathlib.Omega.{arith}
use mathlib.Core.Path.{◌≡◌, ap, sym, ◌∙◌}
use mathlib.Core.List.{List}
use mathlib.Core.Bool.{Bool, true, false, true≢false}
use lib.ListN.{length}
use Rattle.blockfile.specs.Bytes.{apply}
use Rattle.blockfile.specs.Layout.{Layout}
use Rattle.blockfile.specs.Refusals.{Op, Reply}
use Rattle.blockfile.specs.Answers.{Outcome, outcome_on}
use Rattle.blockfile.specs.Calls.{answered, Called, bad_length, short_scratch, malformed, accepted, Keeps}
use Rattle.laws.proofs.Unique.{unique}

split : (b : Bool) → b ≡ true → b ≡ false → ⊥
split b h k = true≢false (sym h ∙ k)

module _ (op : Op) (img s : List ℕ) (room : ℕ) where
  pub same-called : (o p : Outcome) (s' t' : List ℕ) → Called op img s room o s' → Called op img s room p t' → (o ≡ p) × (s' ≡ t')
  same-called o p s' t' (bad_length b e c) (bad_length b₂ e₂ c₂) = (e ∙ sym e₂, c ∙ sym c₂)
  same-called o p s' t' (bad_length b e c) (short_scratch b₂ x₂ e₂ c₂) = absurd (split _ b₂ b)
  same-called o p s' t' (bad_length b e c) (malformed b₂ x₂ r₂ e₂ c₂) = absurd (split _ b₂ b)
  same-called o p s' t' (bad_length b e c) (accepted b₂ x₂ M v e₂ c₂) = absurd (split _ b₂ b)
  same-called o p s' t' (short_scratch b x e c) (bad_length b₂ e₂ c₂) = absurd (split _ b b₂)
  same-called o p s' t' (short_scratch b x e c) (short_scratch b₂ x₂ e₂ c₂) = (e ∙ sym e₂, c ∙ sym c₂)
  same-called o p s' t' (short_scratch b x e c) (malformed b₂ x₂ r₂ e₂ c₂) = absurd (omega arith)
  same-called o p s' t' (short_scratch b x e c) (accepted b₂ x₂ M v e₂ c₂) = absurd (omega arith)
  same-called o p s' t' (malformed b x r e c) (bad_length b₂ e₂ c₂) = absurd (split _ b b₂)
  same-called o p s' t' (malformed b x r e c) (short_scratch b₂ x₂ e₂ c₂) = absurd (omega arith)
  same-called o p s' t' (malformed b x r e c) (malformed b₂ x₂ r₂ e₂ c₂) = (e ∙ sym e₂, c ∙ sym c₂)
  same-called o p s' t' (malformed b x r e c) (accepted b₂ x₂ M v e₂ c₂) = absurd (r M v)
  same-called o p s' t' (accepted b x M v e c) (bad_length b₂ e₂ c₂) = absurd (split _ b b₂)
  same-called o p s' t' (accepted b x M v e c) (short_scratch b₂ x₂ e₂ c₂) = absurd (omega arith)
  same-called o p s' t' (accepted b x M v e c) (malformed b₂ x₂ r₂ e₂ c₂) = absurd (r₂ M v)
  same-called o p s' t' (accepted b x M v e c) (accepted b₂ x₂ N w e₂ c₂) =
      (e ∙ ap (λ (K : Layout). outcome_on K op room) (unique img M N v w) ∙ sym e₂, c ∙ sym c₂)

pub determined : (op : Op) (img s b : List ℕ) (r q : Reply) (img' img'' s' s'' b' b'' : List ℕ)
    → Keeps op img s b r img' s' b' → Keeps op img s b q img'' s'' b'' → (r ≡ q) × (img' ≡ img'') × (s' ≡ s'') × (b' ≡ b'')
determined op img s b r q img' img'' s' s'' b' b'' k h =
    let e : (k.outcome ≡ h.outcome) × (s' ≡ s'') = same-called op img s (length b) k.outcome h.outcome s' s'' k.called h.called in (
      k.result ∙ ap (λ (o : Outcome). o.reply) e.0 ∙ sym h.result,
      k.image ∙ ap (λ (o : Outcome). apply o.writes img) e.0 ∙ sym h.image,
      e.1,
      k.answer ∙ ap (λ (o : Outcome). answered o.bytes b) e.0 ∙ sym h.answer,
    )
