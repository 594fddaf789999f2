-- A call on an accepted image whose change was tried: the count of the pages left is written behind its changes, and the call is
-- what the text says of it.
use Prim.Native.Nat.{ℕ, ◌≤◌}
use native.Mathlib.Omega.{arith}
use mathlib.Core.Path.{◌≡◌, refl, ap, sym, ◌∙◌, subst}
use mathlib.Core.List.{List, [], ◌∷◌}
use lib.ListN.{length}
use Rattle.std.specs.Prelude.{Option, Some, None, Result, Ok, Err}
use Rattle.blockfile.specs.declared.Refusal.{Refusal}
use Rattle.blockfile.specs.Bytes.{Write, apply}
use Rattle.blockfile.specs.Layout.{Layout, free_count}
use Rattle.blockfile.specs.WellFormed.{WellFormed}
use Rattle.blockfile.specs.Plan.{Plan, drawn_by, changes_of, kept_on, writes_of}
use Rattle.blockfile.specs.Refusals.{Op}
use Rattle.blockfile.specs.Answers.{Outcome, outcome_on}
use Rattle.blockfile.specs.Calls.{wrote_reply}
use Rattle.laws.proofs.Writes.{apply-append, length-apply}
use Rattle.pages.specs.Places.{Inside}
use Rattle.edit.specs.Puts.{CarriedOut}
use Rattle.change.specs.Change.{Changed, Settleable, Settled}

-- a call that writes answers so, and writes these
abbrev told : Result (Unit {0}) Refusal → List Write → Outcome
told r ws = record { reply = wrote_reply r; bytes = []; writes = ws }

-- the plan is what the call does on the layout; all of it is written but the count of the n pages that are left
pub record Planned (op : Op) (img : List ℕ) (L : Layout) (n : ℕ) (mid : List ℕ) : Type 0 where
  pub plan : Plan
  pub outcome : outcome_on L op 0 ≡ told (Ok tt) (writes_of L plan)
  pub carried : CarriedOut img L plan n mid
  pub few : free_count (drawn_by L plan).free ≤ 4096

-- what came of the call: it is refused with f and nothing was changed, or a plan was carried out
pub record Tried (op : Op) (img : List ℕ) (L : Layout) (f : Refusal) (a : Option ℕ) (mid : List ℕ) : Type 0 where
  pub undone : a ≡ None → (outcome_on L op 0 ≡ told (Err f) []) × (mid ≡ img)
  pub made : (n : ℕ) → a ≡ Some n → Planned op img L n mid

-- page 1 is there, also after the change
super-inside : {img : List ℕ} {L : Layout} → WellFormed img L → (mid : List ℕ) → length mid ≡ length img → Inside mid 1 28 4
super-inside w mid e =
    record { small = omega (arith, w.size, w.pages.1); low = omega arith; high = omega (arith, w.size, w.pages.0); fits = omega arith }

module _ {op : Op} {img : List ℕ} {L : Layout} (w : WellFormed img L) {f : Refusal} {a : Option ℕ} {mid : List ℕ} (t : Tried op img L f a mid) where
  pub settleable : Settleable mid a
  settleable = record { inside = super-inside w mid (same_length a refl); few = λ n e. let k = t.made n e in omega (arith, k.carried.left, k.few) }
    where
      same_length : (b : Option ℕ) → a ≡ b → length mid ≡ length img
      same_length None e = ap length (t.undone e).1
      same_length (Some n) e = let k = t.made n e in ap length k.carried.image ∙ length-apply (changes_of L k.plan) img

  pub settled : {r : Result (Unit {0}) Refusal} {out : List ℕ} → Settled mid a f r out → Changed op img r out
  unfolding writes_of
  settled {r} {out} s = go a refl s
    where
      go : (b : Option ℕ) → a ≡ b → Settled mid b f r out → Changed op img r out
      go None e (z, o) =
          let k = t.undone e in
          record { layout = L; well = w; writes = []; outcome = k.0 ∙ ap (λ (x : Result (Unit {0}) Refusal). told x []) (sym z); image = o ∙ k.1 }
      go (Some n) e (z, o) =
          let k = t.made n e in
          let p : Plan = k.plan in
          let kept : List Write = kept_on (free_count (drawn_by L p).free) ∷ [] in
          record {
            layout = L;
            well = w;
            writes = writes_of L p;
            outcome = k.outcome ∙ ap (λ (x : Result (Unit {0}) Refusal). told x (writes_of L p)) (sym z);
            image = o ∙ ap (λ (m : ℕ). apply (kept_on m ∷ []) mid) k.carried.left ∙ ap (apply kept) k.carried.image ∙ sym (apply-append (changes_of L p) kept img);
          }

-- ---- The ways through `settle`

module _ (img : List ℕ) (a : Option ℕ) (f : Refusal) where
  pub undone : a ≡ None → Settled img a f (Err f) img
  undone e = subst (λ (x : Option ℕ). Settled img x f (Err f) img) (sym e) (refl, refl)

  pub counted : (n : ℕ) → a ≡ Some n → (out : List ℕ) → out ≡ apply (kept_on n ∷ []) img → Settled img a f (Ok tt) out
  counted n e out o = subst (λ (x : Option ℕ). Settled img x f (Ok tt) out) (sym e) (refl, o)
