-- The chart of a span: filled along the links, and a place found by it.
use Prim.Native.Nat.{ℕ, zero, suc, ◌+◌, ◌*◌, ◌-◌, ◌/◌, ◌%◌, ◌≤◌, ◌<◌}
use native.Mathlib.Omega.{arith}
use native.Mathlib.Decide.{dec_lt}
use mathlib.Core.Path.{◌≡◌, refl, ap, sym, ◌∙◌, subst}
use mathlib.Core.Logic.{by_cases}
use mathlib.Core.List.{List}
use lib.ListN.{length, drop, length-drop}
use lib.Seq.{drop-drop}
use Rattle.std.proofs.Common.{Some}
use Rattle.heads.specs.Claims.{Lent, InHead, head32}
use Rattle.heads.proofs.Claims.{in_head, head32-is}
use Rattle.entries.specs.declared.place.Place.{Place}
use Rattle.entries.specs.Places.{Rest, Moved}
use Rattle.entries.proofs.Rests.{rest-one, rest_in, rest-next}
use Rattle.spans.specs.declared.entry.Last.{Last}
use Rattle.spans.specs.declared.entry.Position.{Position}
use Rattle.order.specs.declared.sort.Sort.{Sort}
use Rattle.spans.specs.Entries.{taken, key_of, Run, LastIs, Ended, Entering}
use Rattle.spans.specs.Charts.{along, Charted, Noted, Paged, Spread}

-- ---- Filled, page after page

pub charted-none : (img : List ℕ) (p : ℕ) (chart : List ℕ) → length chart ≡ 256 → Charted img p 0 chart
charted-none img p chart l = record { long = l; pages = λ i h. absurd (omega arith) }

pub charted-next : {img : List ℕ} {p n : ℕ} {old new : List ℕ} {q : ℕ} → Charted img p n old → q ≡ along img p n → Noted old n q new → Charted img p (n + 1) new
charted-next {img} {p} {n} c is w =
    record {
      long = w.long ∙ c.long;
      pages = λ i h. by_cases (dec_lt (16 * i) n) (λ l. w.kept i l ∙ c.pages i l) (λ l. let e : n ≡ 16 * i = omega arith in w.here i e ∙ is ∙ ap (along img p) e);
    }

-- ---- The pages along the links

rest-along : {img : List ℕ} {p : ℕ} {s : List ℕ} (n : ℕ) → Rest img (record { page = p; offset = 8 }) s → 1016 * n < length s → Rest img (record { page = along img p n; offset = 8 }) (drop (1016 * n) s)
rest-along {img} {p} {s} zero r h = r
rest-along {img} {p} {s} (suc n) r h =
    let before : Rest img (record { page = along img p n; offset = 8 }) (drop (1016 * n) s) = rest-along n r (omega arith) in
    let sum : 1016 * n + 1016 ≡ 1016 * suc n = omega arith in
    subst (Rest img (record { page = along img p (suc n); offset = 8 })) (drop-drop 1016 (1016 * n) s ∙ ap (λ (k : ℕ). drop k s) sum)
    (rest-next img (record { page = along img p n; offset = 8 }) (drop (1016 * n) s) before (along img p (suc n)) refl (rw length-drop (omega arith)))

-- ---- A place further on in the same span

module _ {img chart : List ℕ} {more : ℕ} {at : Place} {left : ℕ} (s : Spread img chart more at left) where
  spread-to : (k : ℕ) → k ≤ left → {p : Place} → Rest img p (drop k s.bytes) → {rest : ℕ} → rest ≡ left - k → Spread img chart more p rest
  spread-to k h r {rest} e =
      let size : length (drop k s.bytes) ≡ length s.bytes - k = length-drop k s.bytes in
      record {
        bytes = drop k s.bytes;
        rest = r;
        long = omega (arith, s.long);
        first = s.first;
        tail = s.tail;
        from = s.from;
        all = s.all;
        few = s.few;
        most = omega (arith, s.most);
        ends = λ j a b.
            let sum : k + (length (drop k s.bytes) - j) ≡ length s.bytes - j = omega (arith, s.long) in
            drop-drop (length (drop k s.bytes) - j) k s.bytes ∙ ap (λ (n : ℕ). drop n s.bytes) sum ∙ s.ends j (omega (arith, s.long)) b;
        charted = s.charted;
      }

  pub spread-on : {k : ℕ} → k ≤ left → {p : Place} → Moved img at k p → {rest : ℕ} → rest ≡ left - k → Spread img chart more p rest
  spread-on {k} h m e = spread-to k h (m.to s.bytes s.rest) e

  pub spread-entered : {sort : Sort} {l : Last} {low : List ℕ} → LastIs sort img l low → {n : ℕ} {p : Position}
      → Entering sort img at l n (Some p) → Spread img chart more p.at p.left
  spread-entered {sort} {l} {low} key {n} {p} e =
      let d : Ended sort img s.bytes low n p.at p.left p.last = e.is s.bytes low s.rest key in
      let k : (k : ℕ) × (k ≤ length s.bytes) × (d.bytes ≡ drop k s.bytes) = run_drop sort n s.bytes low d.bytes d.hi d.run in
      spread-to k.0 (omega (arith, k.1, s.long)) (subst (Rest img p.at) k.2 d.rest) (omega (arith, d.long, ap length k.2, length-drop k.0 s.bytes, s.long))
    where
      run_drop : (sort : Sort) (n : ℕ) (s low t hi : List ℕ) → Run sort s low n t hi → (k : ℕ) × (k ≤ length s) × (t ≡ drop k s)
      run_drop sort zero s low t hi r = (0, omega arith, sym r.0)
      run_drop sort (suc n) s low t hi r =
          let k = run_drop sort n (drop (taken s) s) (key_of s) t hi r.2 in
          (taken s + k.0, omega (arith, k.1, r.0, length-drop (taken s) s), k.2 ∙ drop-drop k.0 (taken s) s)

  -- ---- Found by the chart

  module _ {n : ℕ} (within : n ≤ left) where
    module _ (far : 16256 < n) where
      abbrev pub passed : ℕ
      passed = 1016 * more - (left - n)

      abbrev pub index : ℕ
      index = (passed - 1) / 1016

      -- there is a continuation page of this index, and the place is on it
      pub record Near : Type 0 where
        pub some : 1 ≤ passed
        pub there : index < more
        pub before : 1016 * index < passed
        pub on : passed ≤ 1016 * index + 1016

      pub leap-near : Near
      leap-near =
          let some : 1 ≤ passed = omega (arith, s.most) in
          let before : 1016 * index < passed = omega (arith, some) in
          record { some = some; there = omega (arith, before); before = before; on = omega (arith, some) }

      pub leap-paged : {scr : List ℕ} → Lent img scr → Paged scr chart img s.first index
      leap-paged lent =
          let w : Near = leap-near in
          record {
            lent = lent;
            more = more;
            charted = s.charted;
            there = w.there;
            few = s.few;
            inside = λ i h. (rest-along i (s.from (omega (arith, w.there))) (omega (arith, w.there, s.all))).page;
          }

      pub leap-moved : {q : ℕ} → q ≡ along img s.first index → Moved img at n (record { page = q; offset = 8 + (passed - 1016 * index) })
      leap-moved {q} is =
          let w : Near = leap-near in
          let start : Rest img (record { page = along img s.first index; offset = 8 }) (drop (1016 * index) s.tail)
          = rest-along index (s.from (omega (arith, w.there))) (omega (arith, w.there, s.all)) in
          let sum : 1016 * index + (passed - 1016 * index) ≡ length s.tail - (left - n) = omega (arith, s.all, w.before) in
          let size : length s.bytes - (left - n) ≡ n = omega (arith, s.long) in
          let bytes : drop (passed - 1016 * index) (drop (1016 * index) s.tail) ≡ drop n s.bytes
          = drop-drop (passed - 1016 * index) (1016 * index) s.tail ∙ ap (λ (k : ℕ). drop k s.tail) sum
          ∙ sym (s.ends (left - n) (omega (arith, s.long)) (omega (arith, s.all, w.some))) ∙ ap (λ (k : ℕ). drop k s.bytes) size in
          let to : Rest img (record { page = q; offset = 8 + (passed - 1016 * index) }) (drop n s.bytes)
          = subst (λ (x : ℕ). Rest img (record { page = x; offset = 8 + (passed - 1016 * index) }) (drop n s.bytes)) (sym is)
          (subst (Rest img _) bytes (rest_in img (record { page = along img s.first index; offset = 8 }) (drop (1016 * index) s.tail) start (passed - 1016 * index) (omega (arith, w.on)))) in
          record { to = λ t u. subst (λ (l : List ℕ). Rest img (record { page = q; offset = 8 + (passed - 1016 * index) }) (drop n l)) (rest-one img at s.bytes s.rest t u) to }

-- ---- A continuation page by its index: the loop along the heads, from the page of the chart on

module _ {scr chart img : List ℕ} {p index : ℕ} (w : Paged scr chart img p index) where
  -- the page that k links lead to from there
  abbrev pub on : ℕ → ℕ
  on k = along img p (16 * (index / 16) + k)

  pub paged-here : {k : ℕ} → k < index % 16 → InHead scr (on k) 4 4
  paged-here {k} l = let i = w.inside (16 * (index / 16) + k) (omega arith) in in_head w.lent i.low i.high (omega arith)

  pub paged-next : {k page next : ℕ} → k < index % 16 → page ≡ on k → next ≡ head32 scr page 4 → next ≡ on (k + 1)
  paged-next {k} l e is =
      let sum : suc (16 * (index / 16) + k) ≡ 16 * (index / 16) + (k + 1) = omega arith in
      is ∙ ap (λ (n : ℕ). head32 scr n 4) e ∙ head32-is w.lent (paged-here l) (omega arith) ∙ ap (along img p) sum
