-- A new key never leaves a page of its span over: the span and, on a split, the new one want at least the old continuation pages.
use Prim.Native.Nat.{ℕ, ◌+◌, ◌*◌, ◌≤◌}
use native.Mathlib.Omega.{arith}
use mathlib.Core.Path.{◌≡◌, refl, sym, ◌∙◌, subst}
use mathlib.Core.Bool.{Bool, true, false, cond}
use mathlib.Core.List.{List, [], ◌∷◌, ◌++◌, append-nil}
use mathlib.Core.Option.{none, some}
use lib.ListN.{length}
use Rattle.blockfile.specs.Layout.{Entry, Table, entries_of, entries_from, lens_start, entry_end, entries_end, reached}
use Rattle.blockfile.specs.Order.{KeyRule, same, find, insert}
use Rattle.blockfile.specs.WellFormed.{TableOk}
use Rattle.blockfile.specs.Put.{Parts, parts, span_wanted, wanted_by, target, span_at}
use Rattle.laws.proofs.Orders.{Ordered}
use Rattle.laws.proofs.Positions.{lens-cases, lens-after, entries-mono, entries-append, reached-mono}
use Rattle.laws.proofs.Targets.{Target, target_is, find_at}
use Rattle.laws.proofs.Columns.{span-ok}
use Rattle.laws.proofs.Splits.{parts_whole}
use Rattle.laws.proofs.TablePut.{put_into}

-- ---- Entries that begin on a later page

lens-shift : (v n : ℕ) → lens_start (v + 1016 * n) ≡ lens_start v + 1016 * n
lens-shift v n =
    lens-cases v (λ l e. lens-cases (v + 1016 * n) (λ m f. omega arith) (λ m f. absurd (omega arith)))
    (λ l e. lens-cases (v + 1016 * n) (λ m f. absurd (omega arith)) (λ m f. omega arith))

entry-shift : (v n : ℕ) (e : Entry) → entry_end (v + 1016 * n) e ≡ entry_end v e + 1016 * n
unfolding entry_end
entry-shift v n e = omega (arith, lens-shift v n)

entries-shift : (v n : ℕ) (es : List Entry) → entries_end (v + 1016 * n) es ≡ entries_end v es + 1016 * n
entries-shift v n [] = refl
entries-shift v n (e ∷ es) = rw (entry-shift v n e) (entries-shift (entry_end v e) n es)

-- two lists of entries reach no further one behind the other than each from a page of its own
apart-reached : (es fs : List Entry) → reached (es ++ fs) ≤ reached es + reached fs
unfolding reached
apart-reached es fs =
    let n : ℕ = reached es in
    let m : entries_end (entries_end entries_from es) fs ≤ entries_end (entries_from + 1016 * n) fs = entries-mono (entries_end entries_from es) (entries_from + 1016 * n) fs (omega arith) in
    omega (arith, entries-append entries_from es fs, entries-shift entries_from n fs)

parted-reached : (es fs : List Entry) → reached (es ++ fs) ≤ reached es + span_wanted fs
parted-reached es [] = rw (append-nil es) (omega arith)
parted-reached es (f ∷ fs) = apart-reached es (f ∷ fs)

-- ---- A new key

module _ (r : KeyRule) (k v : List ℕ) where
  insert-grows : (n : ℕ) (es : List Entry) → find k es ≡ none → entries_end n es ≤ entries_end n (insert r k v es)
  unfolding entry_end
  insert-grows n [] f = omega (arith, lens-after n)
  insert-grows n (e ∷ es) f = go (same k e.key) (r.below k e.key) f (insert-grows (entry_end n e) es)
    where
      new : Entry
      new = record { key = k; value = v }

      go : (b c : Bool) → cond b (some e.value) (find k es) ≡ none
          → (find k es ≡ none → entries_end (entry_end n e) es ≤ entries_end (entry_end n e) (insert r k v es))
          → entries_end n (e ∷ es) ≤ entries_end n (cond b (new ∷ es) (cond c (new ∷ e ∷ es) (e ∷ insert r k v es)))
      go true c f ih = absurd (let z : ◌≡◌ {A = ℕ} 0 1 = cc in omega arith)
      go false true f ih = entries-mono n (entry_end n new) (e ∷ es) (omega (arith, lens-after n))
      go false false f ih = ih f

  reached-grows : (es : List Entry) → find k es ≡ none → reached es ≤ reached (insert r k v es)
  unfolding reached
  reached-grows es f = reached-mono (entries_end entries_from es) (entries_end entries_from (insert r k v es)) (insert-grows entries_from es f)

-- entries in parts want their reach, but for the span's own page
parts-wanted : (t : Table) (es : List Entry) → reached es ≤ 1 + wanted_by (parts t es)
unfolding wanted_by
parts-wanted t es =
    let p : Parts = parts t es in
    let h : reached (p.stay ++ p.move) ≤ reached p.stay + span_wanted p.move = parted-reached p.stay p.move in
    omega (arith, subst (λ (fs : List Entry). reached fs ≤ reached p.stay + span_wanted p.move) (parts_whole t es) h)

-- a new key wants at least as many pages as its span has continuation pages
pub new-wanted : (r : KeyRule) → Ordered r → (t : Table) → TableOk r t → (k v : List ℕ) → find k (entries_of t) ≡ none
    → length (span_at t (target r k t)).conts ≤ wanted_by (parts t (put_into r t k v))
new-wanted r o t ok k v f =
    let i : ℕ = target r k t in
    let at : Target r k t i = target_is r o k t ok in
    omega (
      arith,
      (span-ok r t ok i at.place).reach,
      reached-grows r k v (span_at t i).entries (sym (find_at r o k t i at) ∙ f),
      parts-wanted t (put_into r t k v),
    )
