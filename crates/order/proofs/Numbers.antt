-- Keys as numbers: the claim of `specs/Sorts`, and unsigned numbers that have the order of the keys.
use Prim.Native.Nat.{ℕ, suc, ◌+◌, ◌*◌, ◌-◌, ◌^◌, ◌≤◌, ◌<◌}
use native.Mathlib.Omega.{arith}
use native.Mathlib.Decide.{dec_lt}
use mathlib.Core.Path.{◌≡◌, refl, sym, ◌∙◌}
use mathlib.Core.Logic.{by_cases}
use mathlib.Core.Bool.{Bool, cond, ◌&&◌, ◌||◌}
use mathlib.Core.List.{List, [], ◌∷◌}
use lib.ListN.{length, drop_of_length-le}
use lib.Dec.{T, ltb, eqb}
use lib.Signed.{lt_z}
use mir.Syntax.{w32}
use mir.Val.{to_z}
use borrow.Author.Tests.{lt-ltb, le-ltb}
use Rattle.blockfile.specs.Bytes.{be16, be32, Every}
use Rattle.blockfile.specs.Order.{bytes_below, sign, numbers_below}
use Rattle.blockfile.proofs.Bools.{holds}
use Rattle.pages.specs.Begins.{lead}
use Rattle.pages.proofs.Words.{Byte, lead-below}
use Rattle.order.specs.declared.sort.Sort.{Sort}
use Rattle.order.specs.declared.sort.Sort.TheVariants.{Bytes, Numbers}
use Rattle.order.specs.Sorts.{SortAsNumbers, rule_as, turn, rank, turned}
use Rattle.order.proofs.Leads.{lead-less, lead-on}
use Rattle.order.proofs.Words.{below-only}
use Rattle.order.proofs.Sorts.{below-some}

-- ---- Four bytes

-- as a number
four-lead : (k : List ℕ) → length k ≡ 4 → be32 k 0 ≡ lead 4 k
unfolding lead be32 be16
four-lead [] e = absurd (omega arith)
four-lead (a ∷ []) e = absurd (omega arith)
four-lead (a ∷ b ∷ []) e = absurd (omega arith)
four-lead (a ∷ b ∷ c ∷ []) e = absurd (omega arith)
four-lead (a ∷ b ∷ c ∷ d ∷ []) e = omega arith
four-lead (a ∷ b ∷ c ∷ d ∷ x ∷ k) e = absurd (omega arith)

-- their sign is that of the number
sign-lead : (k : List ℕ) → length k ≡ 4 → Every Byte k → sign k ≡ cond (ltb (lead 4 k) 2147483648) 2 1
unfolding lead
sign-lead [] e h = absurd (omega arith)
sign-lead (x ∷ k) e h =
    by_cases (dec_lt x 0x80)
    (λ low. let w : x * 2 ^ 24 + lead 3 k < 2147483648 = omega (arith, lead-below 3 k h.1) in rw (lt-ltb x 0x80 low, lt-ltb (x * 2 ^ 24 + lead 3 k) 2147483648 w))
    (λ high.
    let v : 0x80 ≤ x = omega (arith, high) in
    let w : 2147483648 ≤ x * 2 ^ 24 + lead 3 k = omega arith in
    rw (le-ltb x 0x80 v, le-ltb (x * 2 ^ 24 + lead 3 k) 2147483648 w))

-- their order by bytes is that of the unsigned numbers
four_below : (k l : List ℕ) → length k ≡ 4 → length l ≡ 4 → Every Byte k → Every Byte l → bytes_below k l ≡ ltb (lead 4 k) (lead 4 l)
four_below k l e f h g =
    by_cases (dec_lt (lead 4 k) (lead 4 l)) (λ less. lead-less 4 k l g less ∙ sym (lt-ltb (lead 4 k) (lead 4 l) less))
    (λ not.
    let w : lead 4 l ≤ lead 4 k = omega (arith, not) in
    by_cases (dec_lt (lead 4 l) (lead 4 k)) (λ more. (below-only l k (lead-less 4 l k h more)).0 ∙ sym (le-ltb (lead 4 k) (lead 4 l) w))
    (λ nor.
    let is : lead 4 k ≡ lead 4 l = omega (arith, not, nor) in
    let o = (lead-on 4 k l h g (omega arith) (omega arith) is).0 in
    sym o ∙ rw (drop_of_length-le k {i = 4} (omega (arith, e)), drop_of_length-le l {i = 4} (omega (arith, f))) (sym (le-ltb (lead 4 k) (lead 4 l) w))))

-- ---- The order of two signed numbers, by the sign and then as unsigned ones

abbrev signed_below : (x y : ℕ) → Bool
signed_below x y =
    ltb (cond (ltb x 2147483648) 2 1) (cond (ltb y 2147483648) 2 1) || (eqb (cond (ltb x 2147483648) 2 1) (cond (ltb y 2147483648) 2 1) && ltb x y)

numbers-signed : (k l : List ℕ) → length k ≡ 4 → length l ≡ 4 → Every Byte k → Every Byte l → numbers_below k l ≡ signed_below (be32 k 0) (be32 l 0)
numbers-signed k l e f h g = rw (four-lead k e, four-lead l f, sign-lead k e h, sign-lead l f g, four_below k l e f h g)

-- one way for each pair of signs
by-signs : (x y : ℕ) {X : Type 0} → (x < 2147483648 → y < 2147483648 → X) → (x < 2147483648 → 2147483648 ≤ y → X) → (2147483648 ≤ x → y < 2147483648 → X)
    → (2147483648 ≤ x → 2147483648 ≤ y → X) → X
by-signs x y a b c d =
    by_cases (dec_lt x 2147483648) (λ p. by_cases (dec_lt y 2147483648) (a p) (λ q. b p (omega (arith, q))))
    (λ p. let v : 2147483648 ≤ x = omega (arith, p) in by_cases (dec_lt y 2147483648) (c v) (λ q. d v (omega (arith, q))))

-- where the one is below the other exactly if m is below n
same_test : (x y m n : ℕ) → (x < y → m < n) → (y ≤ x → n ≤ m) → ltb x y ≡ ltb m n
same_test x y m n up down =
    by_cases (dec_lt x y) (λ h. lt-ltb x y h ∙ sym (lt-ltb m n (up h)))
    (λ h. let w : y ≤ x = omega (arith, h) in le-ltb x y w ∙ sym (le-ltb m n (down w)))

signed-integers : (x y : ℕ) → x < 4294967296 → y < 4294967296 → signed_below x y ≡ lt_z (to_z w32 x) (to_z w32 y)
signed-integers x y h g =
    by-signs x y (λ p q. rw (lt-ltb x 2147483648 p, lt-ltb y 2147483648 q)) (λ p q. rw (lt-ltb x 2147483648 p, le-ltb y 2147483648 q))
    (λ p q. rw (le-ltb x 2147483648 p, lt-ltb y 2147483648 q))
    (λ p q. rw (le-ltb x 2147483648 p, le-ltb y 2147483648 q) (same_test x y (4294967296 - suc y) (4294967296 - suc x) (λ l. omega arith) (λ l. omega arith)))

signed-turned : (x y : ℕ) → x < 4294967296 → y < 4294967296 → signed_below x y ≡ ltb (turned x) (turned y)
unfolding turned
signed-turned x y h g =
    by-signs x y
    (λ p q. rw (lt-ltb x 2147483648 p, lt-ltb y 2147483648 q) (same_test x y (x + 2147483648) (y + 2147483648) (λ l. omega arith) (λ l. omega arith)))
    (λ p q.
    let w : y - 2147483648 ≤ x + 2147483648 = omega arith in
    rw (lt-ltb x 2147483648 p, le-ltb y 2147483648 q) (sym (le-ltb (x + 2147483648) (y - 2147483648) w)))
    (λ p q.
    let w : x - 2147483648 < y + 2147483648 = omega arith in
    rw (le-ltb x 2147483648 p, lt-ltb y 2147483648 q) (sym (lt-ltb (x - 2147483648) (y + 2147483648) w)))
    (λ p q. rw (le-ltb x 2147483648 p, le-ltb y 2147483648 q) (same_test x y (x - 2147483648) (y - 2147483648) (λ l. omega arith) (λ l. omega arith)))

small : (k : List ℕ) → length k ≡ 4 → Every Byte k → be32 k 0 < 4294967296
small k e h = omega (arith, four-lead k e, lead-below 4 k h)

-- the claim
pub sort-as-numbers : SortAsNumbers
unfolding SortAsNumbers
sort-as-numbers k l e f h g = numbers-signed k l e f h g ∙ signed-integers (be32 k 0) (be32 l 0) (small k e h) (small l f g)

-- and as unsigned numbers
pub numbers-turned : (k l : List ℕ) → length k ≡ 4 → length l ≡ 4 → Every Byte k → Every Byte l → numbers_below k l ≡ ltb (turned (be32 k 0)) (turned (be32 l 0))
numbers-turned k l e f h g = numbers-signed k l e f h g ∙ signed-turned (be32 k 0) (be32 l 0) (small k e h) (small l f g)

-- ---- The ways through `turned`

pub turned-low : (n : ℕ) → n < 2147483648 → n + 2147483648 ≡ turned n
unfolding turned
turned-low n h = rw (lt-ltb n 2147483648 h)

pub turned-high : (n : ℕ) → 2147483648 ≤ n → n - 2147483648 ≡ turned n
unfolding turned
turned-high n h = rw (le-ltb n 2147483648 h)

-- ---- The rank of a key

pub rank-bound : (s : Sort) (k : List ℕ) → rank s k ≤ 18446744073709551615
unfolding rank
rank-bound s k = omega arith

pub rank-none : (s : Sort) → rank s [] ≡ turn s
unfolding rank lead
rank-none Bytes = refl
rank-none Numbers = refl

-- the first byte tells whether the first eight bytes as a number are below a half of what they can be
lead_low : (x : ℕ) (k : List ℕ) → Every Byte k → x < 0x80 → lead 8 (x ∷ k) < 9223372036854775808
unfolding lead
lead_low x k h l = omega (arith, lead-below 7 k h)

lead_high : (x : ℕ) (k : List ℕ) → 0x80 ≤ x → 9223372036854775808 ≤ lead 8 (x ∷ k)
unfolding lead
lead_high x k l = omega arith

-- where the rank is lower the key is below
pub rank_below : (s : Sort) (k l : List ℕ) → Every Byte k → Every Byte l → 1 ≤ length l → rank s k < rank s l → T ((rule_as s).below k l)
unfolding rank
rank_below s k [] h g some r = absurd (omega arith)
rank_below Bytes k (y ∷ l) h g some r = holds (bytes_below k (y ∷ l)) (lead-less 8 k (y ∷ l) g (omega (arith, lead-below 8 k h, lead-below 8 (y ∷ l) g)))
rank_below Numbers [] (y ∷ l) h g some r = below-some Numbers (y ∷ l) (omega arith)
rank_below Numbers (x ∷ k) (y ∷ l) h g some r =
    let a = lead-below 8 (x ∷ k) h in
    let b = lead-below 8 (y ∷ l) g in
    by_cases (dec_lt x 0x80)
    (λ p.
    let c = lead_low x k h.1 p in
    by_cases (dec_lt y 0x80)
    (λ q.
    let less = lead-less 8 (x ∷ k) (y ∷ l) g (omega (arith, r, c, lead_low y l g.1 q)) in
    rw (lt-ltb x 0x80 p, lt-ltb y 0x80 q) (holds (bytes_below (x ∷ k) (y ∷ l)) less))
    (λ q. absurd (omega (arith, r, c, b, lead_high y l (omega (arith, q))))))
    (λ p.
    let v : 0x80 ≤ x = omega (arith, p) in
    by_cases (dec_lt y 0x80) (λ q. rw (le-ltb x 0x80 v, lt-ltb y 0x80 q) tt)
    (λ q.
    let w : 0x80 ≤ y = omega (arith, q) in
    let less = lead-less 8 (x ∷ k) (y ∷ l) g (omega (arith, r, a, b, lead_high x k v, lead_high y l w)) in
    rw (le-ltb x 0x80 v, le-ltb y 0x80 w) (holds (bytes_below (x ∷ k) (y ∷ l)) less)))
