-- Opening an image: one law for each way out.
use Prim.Native.Nat.{ℕ, ◌+◌, ◌*◌, ◌-◌, ◌/◌, ◌%◌, ◌≤◌}
use native.Mathlib.Omega.{arith}
use mathlib.Core.Path.{◌≡◌, refl, ap, sym, ◌∙◌, subst}
use mathlib.Core.List.{List, ◌++◌}
use mathlib.Core.Bool.{true}
use lib.ListN.{length, take, drop, replicate, length-append, length-take, length-drop}
use lib.Seq.{drop-append-add, drop-drop}
use lib.Dec.{eqb, eqb→eq}
use Rattle.std.specs.Prelude.{Option, Some, None, Result, Ok, Err}
use Rattle.std.proofs.lemmas.Option.{none-some}
use Rattle.blockfile.specs.declared.Counts.{Counts}
use Rattle.blockfile.specs.declared.Refusal.{Refusal}
use Rattle.blockfile.specs.declared.Refusal.TheVariants.{NotWellFormed}
use Rattle.blockfile.specs.Order.{within}
use Rattle.blockfile.specs.WellFormed.{Rejected}
use Rattle.blockfile.specs.Refusals.{Op, refusal}
use Rattle.blockfile.specs.Answers.{refuse}
use Rattle.blockfile.specs.Calls.{length_ok, cleared, Called, malformed, Keeps}
use Rattle.blockfile.proofs.Bools.{holds, and_both, within-is}
use Rattle.heads.specs.Claims.{Room}
use Rattle.verify.specs.Image.{counts_of, Judged}
use Rattle.refusals.specs.Open.{Opening, Opens}

-- n bytes are 4 to 4096 whole pages
pub record Paged (n : ℕ) : Type 0 where
  pub low : 4 ≤ n / 1024
  pub high : n / 1024 ≤ 4096
  pub whole : n ≡ 1024 * (n / 1024)

pub paged : (n : ℕ) → length_ok n ≡ true → Paged n
unfolding length_ok
paged n e =
    let h = and_both (within 4 4096 (n / 1024)) (eqb (n % 1024) 0) (holds _ e) in
    let w = within-is 4 4096 (n / 1024) h.0 in
    let z : n % 1024 ≡ 0 = eqb→eq (n % 1024) 0 h.1 in
    record { low = w.0; high = w.1; whole = omega arith }

-- the image's length is one, and the scratch is long enough
pub record Fits (img s : List ℕ) : Type 0 where
  pub sized : length_ok (length img) ≡ true
  pub enough : length img ≤ length s

-- ---- The scratch: s as it came; its first part is lent to verify, which leaves v of it

module _ (img s : List ℕ) (fits : Fits img s) where
  pub part-long : length (take (20 * (length img / 1024)) s) ≡ 20 * (length img / 1024)
  part-long = rw length-take (omega (arith, fits.enough))

  -- what verify asks of the part that it is lent
  pub room : let part = take (20 * (length img / 1024)) s in Room img part × (4096 ≤ length img)
  room =
      let p = paged (length img) fits.sized in
      let long = part-long in
      (record { size = omega (arith, long, p.whole); whole = omega (arith, long, p.whole); most = omega (arith, long, p.whole, p.high) }, omega (arith, p.low))

  -- the scratch after it is as long as it was, and past the image's length as it was
  pub kept : (v : List ℕ) → length v ≡ 20 * (length img / 1024)
      → let out = v ++ drop (20 * (length img / 1024)) s in (length out ≡ length s) × (drop (length img) out ≡ drop (length img) s)
  kept v e =
      let n = 20 * (length img / 1024) in
      let more = length img - n in
      let on : length img ≡ length v + more = omega arith in
      let back : n + more ≡ length img = omega arith in (
        omega (arith, length-append v (drop n s), length-drop n s, fits.enough),
        ap (λ (k : ℕ). drop k (v ++ drop n s)) on ∙ drop-append-add v (drop n s) more ∙ drop-drop more n s ∙ ap (λ (k : ℕ). drop k s) back,
      )

-- cleared at the end: what the call did below the image's length is gone
pub ends : (n : ℕ) (s mid out : List ℕ) → drop n mid ≡ drop n s → out ≡ cleared n mid → out ≡ cleared n s
ends n s mid out past clear = clear ∙ ap (λ (t : List ℕ). replicate n 0 ++ t) past

-- ---- The verdict

module _ (img s : List ℕ) (fits : Fits img s) (r : Option Counts) (judged : Judged img r) where
  -- no layout fits: the call is refused, and the scratch cleared
  pub bad : r ≡ None → (mid out : List ℕ) → drop (length img) mid ≡ drop (length img) s → out ≡ cleared (length img) mid
      → (op : Op) (room : ℕ) → Called op img s room (refuse NotWellFormed) out
  bad e mid out past clear op _ = malformed fits.sized fits.enough none refl (ends (length img) s mid out past clear)
    where
      none : Rejected img
      none L w = none-some (counts_of L) (sym e ∙ judged.complete L w)

  -- a layout fits: the call goes on
  pub good : (c : Counts) → r ≡ Some c → (out : List ℕ) → length out ≡ length s → drop (length img) out ≡ drop (length img) s
      → Opening img s c out
  good c e out long past =
      let f = judged.sound c e in
      record { sized = fits.sized; enough = fits.enough; layout = f.0; well = f.1; counts = f.2; long = long; past = past }

-- ---- What a call learns

module _ (img s : List ℕ) (o : Result Counts Refusal) (out : List ℕ) (opens : Opens img s o out) where
  -- refused: the promise of every call is kept
  pub stops : (f : Refusal) → o ≡ Err f → (op : Op) (b : List ℕ) → Keeps op img s b (refusal f) img out b
  stops f e op b =
      record {
        outcome = refuse f;
        called = subst (λ (x : Result Counts Refusal). Opens img s x out) e opens op (length b);
        result = refl;
        image = refl;
        answer = refl;
      }

  pub goes_on : (c : Counts) → o ≡ Ok c → Opening img s c out
  goes_on c e = subst (λ (x : Result Counts Refusal). Opens img s x out) e opens
