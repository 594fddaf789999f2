-- Parts of the list that a change makes, entry by entry: where they end, and their bytes.
use Prim.Native.Nat.{ℕ, ◌+◌, ◌-◌, ◌%◌, ◌≤◌, ◌<◌}
use native.Mathlib.Omega.{arith}
use mathlib.Core.Path.{◌≡◌, refl, ap, sym, ◌∙◌}
use mathlib.Core.List.{List, [], ◌∷◌, ◌++◌, append_assoc}
use lib.ListN.{take, drop, length-append}
use lib.Seq.{take-add, drop-drop}
use Rattle.blockfile.specs.Layout.{Entry, entries_from, lens_start, entry_end, entries_end}
use Rattle.blockfile.specs.Encode.{entries_bytes}
use Rattle.laws.proofs.Positions.{lens-cases, entries-after, entries-append}
use Rattle.entries.specs.declared.place.Sizes.{Sizes}
use Rattle.search.specs.Spans.{EntryAt}
use Rattle.search.proofs.Entries.{bytes-length}
use Rattle.stage.specs.declared.change.Change.{Change}
use Rattle.stage.specs.declared.change.Cursor.{Cursor}
use Rattle.stage.specs.Changes.{spliced, Stands, Turned}
use Rattle.stage.specs.Parts.{Sized, part, Gone}

-- ---- lens_at

pub lens-over : (v : ℕ) → 1012 < v % 1016 → v + (1016 - v % 1016) ≡ lens_start v
lens-over v h = lens-cases v (λ l e. absurd (omega arith)) (λ l e. omega arith)

pub lens-here : (v : ℕ) → v % 1016 ≤ 1012 → v ≡ lens_start v
lens-here v h = lens-cases v (λ l e. sym e) (λ l e. absurd (omega arith))

-- ---- An entry's lengths, and where it ends

pub entry-sized : {img : List ℕ} {g : Sizes} {e : Entry} {es : List Entry} → EntryAt img g e es → Sized e (g.key + g.value)
entry-sized {e = e} a = sym (length-append e.key e.value) ∙ bytes-length a.both

pub sized-end : (end lens both : ℕ) (e : Entry) → lens ≡ lens_start end → Sized e both → lens + 4 + both ≡ entry_end end e
unfolding entry_end
sized-end end lens both e l s = omega arith

-- ---- The next entry of a part

-- n entries of l from index i on, and the one at j behind them
module _ (l : List Entry) (i n j : ℕ) (x : Entry) (at : j ≡ i + n) (one : take 1 (drop j l) ≡ x ∷ []) where
  pub part-next : take (n + 1) (drop i l) ≡ take n (drop i l) ++ x ∷ []
  part-next =
      take-add n 1 (drop i l)
      ∙ ap (λ (m : List Entry). take n (drop i l) ++ m) (ap (take 1) (drop-drop n i l ∙ ap (λ (k : ℕ). drop k l) (sym at)) ∙ one)

  pub end-next : entries_end entries_from (take (n + 1) (drop i l)) ≡ entry_end (entries_end entries_from (take n (drop i l))) x
  end-next = ap (entries_end entries_from) part-next ∙ entries-append entries_from (take n (drop i l)) (x ∷ [])

-- a part reaches at least as far as a shorter one
pub end-most : (c : Change) (e : Entry) (es : List Entry) (u : Cursor) (m n : ℕ) → m ≤ n
    → entries_end entries_from (part c e es u m) ≤ entries_end entries_from (part c e es u n)
end-most c e es u m n h =
    let l : List Entry = drop u.index (spliced c e es) in
    let rest : List Entry = take (n - m) (drop m l) in
    let sum : m + (n - m) ≡ n = omega arith in
    let all : take n l ≡ take m l ++ rest = ap (λ (k : ℕ). take k l) (sym sum) ∙ take-add m (n - m) l in
    let far : entries_end entries_from (take n l) ≡ entries_end (entries_end entries_from (take m l)) rest = ap (entries_end entries_from) all ∙ entries-append entries_from (take m l) rest in
    omega (arith, entries-after (entries_end entries_from (take m l)) rest)

pub turned-part : {img : List ℕ} {c : Change} {e : Entry} {es : List Entry} {u v : Cursor} {x : Entry} → Turned img c e es u x v → part c e es u 1 ≡ x ∷ []
turned-part t = ap (take 1) t.is

-- ---- Entries gone through

pub gone-start : {img : List ℕ} {c : Change} (e : Entry) {es : List Entry} {u : Cursor} → Stands img c es u → Gone img c e es u 0 u entries_from
gone-start e s = record { index = omega arith; stands = s; is = refl }

pub gone-next : {img : List ℕ} {c : Change} {e : Entry} {es : List Entry} {u v w : Cursor} {n end far : ℕ} {x : Entry} → Gone img c e es u n v end
    → Turned img c e es v x w → far ≡ entry_end end x → Gone img c e es u (n + 1) w far
gone-next {c = c} {e = e} {es = es} {u = u} {v = v} {n = n} {x = x} g t q =
    record {
      index = omega (arith, t.index, g.index);
      stands = t.stands;
      is = q ∙ ap (λ (k : ℕ). entry_end k x) g.is ∙ sym (end-next (spliced c e es) u.index n v.index x g.index (turned-part t));
    }

-- ---- Bytes of entries one after another

pub bytes-append : (v : ℕ) (es fs : List Entry) → entries_bytes v (es ++ fs) ≡ entries_bytes v es ++ entries_bytes (entries_end v es) fs
bytes-append v [] fs = refl
bytes-append v (e ∷ es) fs = rw (bytes-append (entry_end v e) es fs) (simp append_assoc)
