-- Two byte strings that begin alike.
use Prim.Native.Nat.{ℕ, zero, suc, ◌+◌, ◌≤◌, ◌<◌, min}
use native.Mathlib.Omega.{arith}
use native.Mathlib.Decide.{dec_lt}
use Rattle.std.proofs.Math.Nat.{min-eq_left, min-eq_right}
use native.Mathlib.Numerals.{add-one}
use mathlib.Core.Path.{◌≡◌, refl, ap₂, sym, ◌∙◌}
use mathlib.Core.Logic.{by_cases}
use mathlib.Core.List.{List, ◌∷◌}
use lib.ListN.{length, drop, get_or, length-drop}
use lib.Seq.{drop-cons, drop-drop}
use lib.Bits.{bit_or, bit_xor, and_le_l, and_le_r, or_add_and, xor_add_and}
use Rattle.std.specs.Ordering.{nat_cmp, MatchOrdering}
use Rattle.std.proofs.lemmas.Cmp.{ranked}
use Rattle.blockfile.specs.Bytes.{be64, Every}
use Rattle.pages.specs.Begins.{lead}
use Rattle.pages.proofs.Words.{Byte, bytes-all, bytes_drop, be64-lead}
use Rattle.std.specs.declared.cmp.Ordering.{Ordering}
use Rattle.std.specs.declared.cmp.Ordering.TheVariants.{Less, Equal, Greater}
use Rattle.order.specs.Bytes.{order, Least, SameFrom, Alike, ByWords}
use Rattle.order.proofs.Orders.{order-less, order-greater, order-on, order-none, order-shorter, order-longer, word-order, lead-order, lead-above, lead-behind}

-- ---- bytes that two strings have in common

pub same_none : {x y : List ℕ} {i n : ℕ} → n ≤ i → SameFrom x y i n
same_none h = record { bytes = λ k a b. absurd (omega arith) }

module _ {x y : List ℕ} {i n : ℕ} (s : SameFrom x y i n) where
  -- one more
  same_more : {m : ℕ} → m ≤ n + 1 → get_or x n 0 ≡ get_or y n 0 → SameFrom x y i m
  same_more h e = record { bytes = λ k a b. by_cases (dec_lt k n) (λ l. s.bytes k a l) (λ l. let is : k ≡ n = omega arith in rw is e) }

  -- those from j on too, which may be among them
  pub same-join : {j l m : ℕ} → j ≤ n → m ≤ l → SameFrom x y j l → SameFrom x y i m
  same-join h f t = record { bytes = λ k a b. by_cases (dec_lt k n) (λ p. s.bytes k a p) (λ p. t.bytes k (omega arith) (omega arith)) }

xor_same : (a b : ℕ) → bit_xor a b ≡ 0 → a ≡ b
xor_same a b e = omega (arith, e, xor_add_and a b, and_le_l a b, and_le_r a b)

or-none : (a b : ℕ) → bit_or a b ≡ 0 → (a ≡ 0) × (b ≡ 0)
or-none a b e = let l = or_add_and a b in let h = and_le_l a b in let g = and_le_r a b in (omega (arith, e, l, h, g), omega (arith, e, l, h, g))

-- d has the differences of the bytes from i up to n: then those up to n + 1, with that of one byte more
pub same_turn : {x y : List ℕ} {i n d : ℕ} → (d ≡ 0 → SameFrom x y i n) → {m : ℕ} → m ≤ n + 1 → bit_or d (bit_xor (get_or x n 0) (get_or y n 0)) ≡ 0 → SameFrom x y i m
same_turn {x} {y} {i} {n} {d} s h e =
    let z = or-none d (bit_xor (get_or x n 0) (get_or y n 0)) e in
    same_more (s z.0) h (xor_same (get_or x n 0) (get_or y n 0) z.1)

-- ---- two strings whose first i bytes are the same

-- what std tells of the smaller of two numbers
pub least-min : {m n r : ℕ} → r ≡ min m n → Least m n r
least-min {m} {n} e = by_cases (dec_lt m n)
    (λ h. let f : m ≤ n = omega arith in record { first = omega (arith, e, min-eq_left f); second = omega (arith, e, min-eq_left f); whole = λ g. omega (arith, e, min-eq_left f); other = λ g. omega (arith, e, min-eq_left f) })
    (λ h. let f : n ≤ m = omega arith in record { first = omega (arith, e, min-eq_right f); second = omega (arith, e, min-eq_right f); whole = λ g. omega (arith, e, min-eq_right f); other = λ g. omega (arith, e, min-eq_right f) })

alike-none : {x y : List ℕ} {n : ℕ} → Least (length x) (length y) n → Alike x y n 0
alike-none h = record { least = h; few = omega arith; rest = refl }

-- what `cmp` tells of two numbers
pub equal-numbers : {a b : ℕ} {o : Ordering} → o ≡ nat_cmp a b → o ≡ Equal → a ≡ b
equal-numbers {a} {b} {o} e q = rw q at (ranked a b o e)

module _ {x y : List ℕ} {n i : ℕ} (a : Alike x y n i) where
  module _ (h : i < n) where
    here : drop i x ≡ get_or x i 0 ∷ drop (i + 1) x
    here = rw add-one (drop-cons x i 0 (omega (arith, a.least.first)))

    there : drop i y ≡ get_or y i 0 ∷ drop (i + 1) y
    there = rw add-one (drop-cons y i 0 (omega (arith, a.least.second)))

    alike-less : get_or x i 0 < get_or y i 0 → Less ≡ order x y
    alike-less l = sym (sym a.rest ∙ order-less _ _ _ _ _ _ here there l)

    alike-greater : get_or y i 0 < get_or x i 0 → Greater ≡ order x y
    alike-greater l = sym (sym a.rest ∙ order-greater _ _ _ _ _ _ here there l)

    pub alike-apart : {o : Ordering} → o ≡ nat_cmp (get_or x i 0) (get_or y i 0) → (o ≡ Equal → ⊥) → o ≡ order x y
    alike-apart {o} e d = go o (ranked (get_or x i 0) (get_or y i 0) o e) d
      where
        go : (o : Ordering) → MatchOrdering o (get_or x i 0 < get_or y i 0) (get_or x i 0 ≡ get_or y i 0) (get_or y i 0 < get_or x i 0) → (o ≡ Equal → ⊥) → o ≡ order x y
        go Less l d = alike-less l
        go Equal l d = absurd (d refl)
        go Greater l d = alike-greater l

    pub alike-more : get_or x i 0 ≡ get_or y i 0 → Alike x y n (i + 1)
    alike-more e = record { least = a.least; few = omega arith; rest = sym (order-on _ _ _ _ _ _ here there e) ∙ a.rest }

  module _ (h : n ≤ i) where
    -- one of the two ends here
    ends : i ≡ n
    ends = omega (arith, a.few)

    alike-shorter : length x < length y → Less ≡ order x y
    alike-shorter l = sym (sym a.rest ∙ order-shorter (drop i x) (drop i y) (rw length-drop (omega (arith, ends, a.least.whole (omega arith)))) (rw length-drop (omega (arith, ends, a.least.first))))

    alike-longer : length y < length x → Greater ≡ order x y
    alike-longer l = sym (sym a.rest ∙ order-longer (drop i x) (drop i y) (rw length-drop (omega (arith, ends, a.least.second))) (rw length-drop (omega (arith, ends, a.least.other (omega arith)))))

    alike_same : length y ≤ length x → length x ≤ length y → Equal ≡ order x y
    alike_same l m = sym (sym a.rest ∙ order-none (drop i x) (drop i y) (rw length-drop (omega (arith, ends, a.least.whole m))) (rw length-drop (omega (arith, ends, a.least.other l))))

    pub alike-ends : {o : Ordering} → o ≡ nat_cmp (length x) (length y) → o ≡ order x y
    alike-ends {o} e = go o (ranked (length x) (length y) o e)
      where
        go : (o : Ordering) → MatchOrdering o (length x < length y) (length x ≡ length y) (length y < length x) → o ≡ order x y
        go Less l = alike-shorter l
        go Equal l = alike_same (omega arith) (omega arith)
        go Greater l = alike-longer l

pub alike-start : {x y : List ℕ} {n : ℕ} → Least (length x) (length y) n → (i : ℕ) → i ≤ n → SameFrom x y 0 i → Alike x y n i
alike-start l zero h s = alike-none l
alike-start l (suc i) h s = rw (← add-one i) (alike-more (alike-start l i (omega arith) (record { bytes = λ k a b. s.bytes k a (omega arith) })) (omega arith) (s.bytes i (omega arith) (omega arith)))

-- ---- words, and the answer

module _ {x y : List ℕ} (left : (i : ℕ) → get_or x i 0 < 256) (right : (i : ℕ) → get_or y i 0 < 256) where
  pub by-words : {r : Ordering} → r ≡ order x y → ByWords x y r
  by-words e = record { words = e ∙ sym (word-order x y (bytes-all x left) (bytes-all y right)); bytes = e }

  module _ {n i a b : ℕ} (v : Alike x y n i) (p : a ≡ be64 x i) (q : b ≡ be64 y i) where
    lead-x : a ≡ lead 8 (drop i x)
    lead-x = p ∙ be64-lead x i

    lead_y : b ≡ lead 8 (drop i y)
    lead_y = q ∙ be64-lead y i

    bytes-x : Every Byte (drop i x)
    bytes-x = bytes_drop i x (bytes-all x left)

    bytes-y : Every Byte (drop i y)
    bytes-y = bytes_drop i y (bytes-all y right)

    word-less : a < b → Less ≡ order x y
    word-less l = sym (sym v.rest ∙ lead-order 8 (drop i x) (drop i y) bytes-y (omega (arith, lead-x, lead_y)))

    word-greater : b < a → Greater ≡ order x y
    word-greater l = sym (sym v.rest ∙ lead-above 8 (drop i x) (drop i y) bytes-x (omega (arith, lead-x, lead_y)))

    pub word-apart : {o : Ordering} → o ≡ nat_cmp a b → (o ≡ Equal → ⊥) → o ≡ order x y
    word-apart {o} e d = go o (ranked a b o e) d
      where
        go : (o : Ordering) → MatchOrdering o (a < b) (a ≡ b) (b < a) → (o ≡ Equal → ⊥) → o ≡ order x y
        go Less l d = word-less l
        go Equal l d = absurd (d refl)
        go Greater l d = word-greater l

    pub word_more : i + 8 ≤ n → a ≡ b → Alike x y n (i + 8)
    word_more h e =
        record {
          least = v.least;
          few = h;
          rest = ap₂ order (sym (drop-drop 8 i x)) (sym (drop-drop 8 i y))
              ∙ lead-behind 8 (drop i x) (drop i y) bytes-x bytes-y (rw length-drop (omega (arith, v.least.first))) (rw length-drop (omega (arith, v.least.second))) (sym lead-x ∙ e ∙ lead_y)
              ∙ v.rest;
        }
