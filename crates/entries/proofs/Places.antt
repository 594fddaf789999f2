-- The ways through `settle`, `lengths`, `forward` and `step`.
use Rattle.std.proofs.Common.{◌≡◌, ℕ, ◌+◌, ◌-◌, ◌*◌, ◌<◌, ◌≤◌, List, length, get_or, drop, sym, ap, ◌∙◌, subst, add-zero, arith, length-drop, drop-drop, le-ltb, lt-ltb}
use native.Mathlib.Decide.{dec_lt}
use mathlib.Core.Logic.{by_cases}
use Rattle.blockfile.specs.Bytes.{pg, be16, be32}
use Rattle.laws.proofs.Pages.{pg-at}
use Rattle.pages.specs.Places.{Number}
use Rattle.entries.specs.declared.place.Place.{Place}
use Rattle.entries.specs.Places.{Rest, Enough, Moved, gap, Settled, Stepped, Measured}
use Rattle.entries.proofs.Rests.{rest-one, rest_at, rest-16, rest_in, rest-next}

pub gap-next : (o n : ℕ) → 1024 < o + n → gap o n ≡ 1024 - o
unfolding gap
gap-next o n h = rw (lt-ltb 1024 (o + n) h)

pub gap_here : (o n : ℕ) → o + n ≤ 1024 → gap o n ≡ 0
unfolding gap
gap_here o n h = rw (le-ltb 1024 (o + n) h)

pub gap-most : (o n : ℕ) → gap o n ≤ 1024
gap-most o n = by_cases (dec_lt 1024 (o + n)) (λ h. omega (arith, gap-next o n h)) (λ h. let k : o + n ≤ 1024 = omega arith in omega (arith, gap_here o n k))

-- a byte lies on one page wherever it is
pub gap-one : (o : ℕ) → o ≤ 1024 → gap o 1 ≡ 0
gap-one o h = by_cases (dec_lt 1024 (o + 1)) (λ l. omega (arith, gap-next o 1 l)) (λ l. gap_here o 1 (omega arith))

-- ---- settle

module _ {img : List ℕ} {at : Place} (n : ℕ) (e : Enough img at (gap at.offset n + n)) where
  pub settle-next : 1 ≤ n → n ≤ 1016 → 1024 < at.offset + n → (p : ℕ) → p ≡ be32 (pg img at.page) 4 → Settled img at n (record { page = p; offset = 8 })
  settle-next one few h p is =
      let to : (s : List ℕ) → Rest img at s → Rest img (record { page = p; offset = 8 }) (drop (gap at.offset n) s) = λ s r.
      rw (gap-next at.offset n h) (rest-next img at s r p is (omega (arith, e.long, gap-next at.offset n h, ap length (rest-one img at e.bytes e.rest s r)))) in
      record { moved = record { to = to }; small = e.rest.small; page = (to e.bytes e.rest).page; low = omega arith; room = omega arith }

  pub settle-here : at.offset + n ≤ 1024 → Settled img at n at
  settle-here h = record { moved = record { to = λ s r. rw (gap_here at.offset n h) r }; small = e.rest.small; page = e.rest.page; low = e.rest.low; room = h }

-- ---- lengths

pub lengths-done : {img : List ℕ} {at here : Place} {k v : ℕ} → Settled img at 4 here → Number (be16 (pg img here.page) here.offset) 65536 k
    → Number (be16 (pg img here.page) (here.offset + 2)) 65536 v
    → Measured img at (record { key = k; value = v; after = record { page = here.page; offset = here.offset + 4 } })
lengths-done {img} {at} {here} {k} {v} t a b =
    let there : (s : List ℕ) → Rest img at s → Rest img here (drop (gap at.offset 4) s) = t.moved.to in
    record {
      key = λ s r. a.is ∙ sym (rest-16 img here (drop (gap at.offset 4) s) (there s r) 0 (omega (arith, t.room)) ∙ ap (be16 (pg img here.page)) (add-zero here.offset));
      value = λ s r. b.is ∙ sym (rest-16 img here (drop (gap at.offset 4) s) (there s r) 2 t.room);
      moved = record { to = λ s r. rw (← drop-drop 4 (gap at.offset 4) s) (rest_in img here (drop (gap at.offset 4) s) (there s r) 4 t.room) };
      key_below = a.below;
      value_below = b.below;
    }

-- ---- forward: of n bytes, `left` are still to be passed from here on

pub record Going (img : List ℕ) (at : Place) (n : ℕ) (here : Place) (left : ℕ) : Type 0 where
  pub bytes : List ℕ
  pub start : Rest img at bytes
  pub long : n ≤ length bytes
  pub less : left ≤ n
  pub rest : Rest img here (drop (n - left) bytes)

pub going_start : {img : List ℕ} {at : Place} {n : ℕ} → Enough img at n → Going img at n at n
going_start {img} {at} {n} e =
    let none : n - n ≡ 0 = omega arith in
    record { bytes = e.bytes; start = e.rest; long = e.long; less = omega arith; rest = rw none e.rest }

module _ {img : List ℕ} {at : Place} {n : ℕ} {here : Place} {left : ℕ} (g : Going img at n here left) where
  pub going_next : 1024 - here.offset < left → (p : ℕ) → p ≡ be32 (pg img here.page) 4 → Going img at n (record { page = p; offset = 8 }) (left - (1024 - here.offset))
  going_next h p is =
      let sum : n - left + (1024 - here.offset) ≡ n - (left - (1024 - here.offset)) = omega (arith, g.less) in
      record {
        bytes = g.bytes;
        start = g.start;
        long = g.long;
        less = omega (arith, g.less);
        rest = rw (← sum, ← drop-drop (1024 - here.offset) (n - left) g.bytes)
            (rest-next img here (drop (n - left) g.bytes) g.rest p is (omega (arith, g.long, g.less, length-drop (n - left) g.bytes)));
      }

  pub going_end : left ≤ 1024 - here.offset → Moved img at n (record { page = here.page; offset = here.offset + left })
  going_end h =
      let sum : n - left + left ≡ n = omega (arith, g.less) in
      let to : Rest img (record { page = here.page; offset = here.offset + left }) (drop n g.bytes)
      = subst (λ (k : ℕ). Rest img (record { page = here.page; offset = here.offset + left }) (drop k g.bytes)) sum
      (rw (← drop-drop left (n - left) g.bytes) (rest_in img here (drop (n - left) g.bytes) g.rest left (omega (arith, g.rest.high)))) in
      record { to = λ s r. subst (λ (l : List ℕ). Rest img (record { page = here.page; offset = here.offset + left }) (drop n l)) (rest-one img at g.bytes g.start s r) to }

-- ---- step

module _ {img : List ℕ} {at : Place} (e : Enough img at 1) where
  pub step-enough : Enough img at (gap at.offset 1 + 1)
  step-enough = record { bytes = e.bytes; rest = e.rest; long = omega (arith, gap-one at.offset e.rest.high, e.long) }

  pub step-done : (here : Place) → Settled img at 1 here → (b : ℕ) → b ≡ get_or img (1024 * (here.page - 1) + here.offset) 0
      → Stepped img at (record { byte = b; after = record { page = here.page; offset = here.offset + 1 } })
  step-done here t b is =
      let there : (s : List ℕ) → Rest img at s → Rest img here s = λ s r. rw (gap-one at.offset e.rest.high) at (t.moved.to s r) in
      record {
        byte = λ s r.
            is ∙ sym (pg-at img here.page here.offset t.page.low (omega (arith, t.room)))
            ∙ sym (rest_at img here s (there s r) 0 (omega (arith, t.room)) ∙ ap (λ (j : ℕ). get_or (pg img here.page) j 0) (add-zero here.offset));
        moved = record { to = λ s r. rest_in img here s (there s r) 1 t.room };
      }
