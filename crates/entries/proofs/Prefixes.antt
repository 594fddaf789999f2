-- The rank of a key. Its prefix is read off the page, and what stands behind the key is cut off.
use Rattle.std.proofs.Common.{◌≡◌, ℕ, ◌+◌, ◌-◌, ◌*◌, ◌/◌, ◌%◌, ◌^◌, ◌<◌, ◌≤◌, List, [], get_or, take, drop, sym, ap, ◌∙◌, subst, lt_of_le_of_lt, mod-eq_of_lt, div-mul-le_self, arith}
use native.Mathlib.Decide.{dec_lt}
use mathlib.Core.Logic.{by_cases}
use Rattle.blockfile.specs.Bytes.{be64, Every}
use Rattle.pages.specs.Begins.{lead}
use Rattle.pages.proofs.Words.{Byte, bytes_take, lead-below, lead-take, lead-cut, be64-lead}
use Rattle.order.specs.declared.sort.Sort.{Sort}
use Rattle.order.specs.Sorts.{turn, rank}
use Rattle.order.proofs.Numbers.{rank-bound}
use Rattle.entries.specs.declared.place.Place.{Place}
use Rattle.entries.specs.Places.{Rest}
use Rattle.entries.specs.Keys.{KeyAt, Prefixed}
use Rattle.entries.specs.Sorted.{Ranked, RankMost}
use Rattle.entries.proofs.Rests.{rest-take}
use Rattle.entries.proofs.Octets.{bytes_rest}

-- ---- the number of eight bytes on a page

module _ {img : List ℕ} (bytes : (i : ℕ) → get_or img i 0 < 256) {at : Place} {n w : ℕ} (some : 1 ≤ n) (room : at.offset + 8 ≤ 1024)
    (here : w ≡ be64 img (1024 * (at.page - 1) + at.offset)) where
  whole : (s : List ℕ) → Rest img at s → w ≡ lead 8 s
  whole s r =
      let d : List ℕ = drop (1024 * (at.page - 1) + at.offset) img in
      here ∙ be64-lead img (1024 * (at.page - 1) + at.offset)
      ∙ sym (lead-take 8 8 d (omega arith)) ∙ sym (ap (lead 8) (rest-take img at s r 8 room)) ∙ lead-take 8 8 s (omega arith)

  pub prefix-whole : 8 ≤ n → Prefixed img at n w
  prefix-whole h = record { is = λ k q. whole q.bytes (q.rest some) ∙ sym (ap (lead 8) q.is ∙ lead-take 8 n q.bytes h) }

  pub prefix-cut : n < 8 → Prefixed img at n (w / 2 ^ (64 - 8 * n) * 2 ^ (64 - 8 * n) % 2 ^ 64)
  prefix-cut h =
      record {
        is = λ k q.
            let s : List ℕ = q.bytes in
            let P : ℕ = 2 ^ (64 - 8 * n) in
            let low : Every Byte s = bytes_rest img bytes at s (q.rest some) in
            let eight : n + (8 - n) ≡ 8 = omega arith in
            let bits : 8 * (8 - n) ≡ 64 - 8 * n = omega arith in
            let is : lead 8 (take n s) ≡ lead 8 s / P * P = rw (eight, bits) at (lead-cut n (8 - n) s low) in
            rw (whole s (q.rest some), q.is) (mod-eq_of_lt (lt_of_le_of_lt (div-mul-le_self (lead 8 s) P) (lead-below 8 s low)) ∙ sym is);
      }

-- ---- the rank of a key

module _ {s : Sort} {img : List ℕ} {at : Place} {n : ℕ} where
  pub rank_is : {p t r : ℕ} → Prefixed img at n p → t ≡ turn s → r ≡ (p + t) % 2 ^ 64 → Ranked s img at n r
  unfolding rank
  rank_is e f g = record { is = λ k a. rw (← e.is k a, ← f) g }

  pub rank-itself : {p : ℕ} → Ranked s img at n p → RankMost s img at n p
  rank-itself e = record { most = λ k a. omega (arith, e.is k a) }

  pub rank-all : RankMost s img at n 18446744073709551615
  rank-all = record { most = λ k a. rank-bound s k }

-- ---- the bytes of a key

module _ {img : List ℕ} (bytes : (i : ℕ) → get_or img i 0 < 256) {at : Place} {n : ℕ} where
  pub key-bytes-are : (k : List ℕ) → KeyAt img at n k → Every Byte k
  key-bytes-are k a =
      by_cases (dec_lt 0 n) (λ some. subst (Every Byte) (sym a.is) (bytes_take n a.bytes (bytes_rest img bytes at a.bytes (a.rest some))))
      (λ none. let e : n ≡ 0 = omega (arith, none) in subst (Every Byte) {x = []} (sym (a.is ∙ ap (λ (m : ℕ). take m a.bytes) e)) tt)
