-- Each list of calls has a run, and one only.
use Prim.Native.Nat.{ℕ}
use native.Mathlib.Omega.{arith}
use mathlib.Core.Path.{◌≡◌, refl, ap, ap₂, sym, subst}
use mathlib.Core.List.{List, [], ◌∷◌, map}
use Rattle.blockfile.specs.Calls.{Keeps}
use Rattle.blockfile.specs.History.{Event, Run}
use Rattle.laws.proofs.Outcomes.{Left, outcome}
use Rattle.laws.proofs.Determined.{determined}
use Rattle.history.specs.Runs.{Call, call_of, RunOf, SomeRun, OneRun}

-- a call's event, from what it leaves
abbrev event_of : (img : List ℕ) (c : Call) → Left c.op img c.scratch c.buffer → Event
event_of img c l =
    record {
      op = c.op;
      scratch = c.scratch;
      buffer = c.buffer;
      reply = l.reply;
      image = l.image;
      scratch_after = l.scratch_after;
      buffer_after = l.buffer_after;
    }

pub some-run : SomeRun
unfolding SomeRun
some-run img [] = record { events = []; run = tt; calls = refl }
some-run img (c ∷ cs) =
    let l : Left c.op img c.scratch c.buffer = outcome c.op img c.scratch c.buffer in
    let r : RunOf l.image cs = some-run l.image cs in
    record { events = event_of img c l ∷ r.events; run = (l.kept, r.run); calls = ap (λ (ds : List Call). c ∷ ds) r.calls }

-- the same call with the same outcome
same-event : (e f : Event) → call_of e ≡ call_of f → (e.reply ≡ f.reply) × (e.image ≡ f.image) × (e.scratch_after ≡ f.scratch_after) × (e.buffer_after ≡ f.buffer_after)
    → e ≡ f
same-event e f c h = λ i.
    record {
      op = (c i).op;
      scratch = (c i).scratch;
      buffer = (c i).buffer;
      reply = h.0 i;
      image = h.1 i;
      scratch_after = h.2 i;
      buffer_after = h.3 i;
    }

-- the call of a run on the same image as another's first
module _ (img : List ℕ) (e f : Event) (c : call_of e ≡ call_of f) where
  one-event : Keeps e.op img e.scratch e.buffer e.reply e.image e.scratch_after e.buffer_after
      → Keeps f.op img f.scratch f.buffer f.reply f.image f.scratch_after f.buffer_after → e ≡ f
  one-event k h =
      same-event e f c
      (determined e.op img e.scratch e.buffer e.reply f.reply e.image f.image e.scratch_after f.scratch_after e.buffer_after f.buffer_after k
      (subst (λ (d : Call). Keeps d.op img d.scratch d.buffer f.reply f.image f.scratch_after f.buffer_after) (sym c) h))

pub one-run : OneRun
unfolding OneRun
one-run img [] [] r q c = refl
one-run img [] (f ∷ fs) r q c = absurd (let z : ◌≡◌ {A = ℕ} 0 1 = cc in omega arith)
one-run img (e ∷ es) [] r q c = absurd (let z : ◌≡◌ {A = ℕ} 0 1 = cc in omega arith)
one-run img (e ∷ es) (f ∷ fs) r q c =
    let d : call_of e ≡ call_of f = cc in
    let ds : map call_of es ≡ map call_of fs = cc in
    let s : e ≡ f = one-event img e f d r.0 q.0 in
    ap₂ (λ (x : Event) (xs : List Event). x ∷ xs) s (one-run e.image es fs r.1 (subst (λ (i : List ℕ). Run i fs) (sym (ap (λ (x : Event). x.image) s)) q.1) ds)
