-- Bytes as numbers: the first n bytes of a list, big endian.
use Prim.Native.Nat.{ℕ, zero, suc, ◌+◌, ◌*◌, ◌/◌, ◌^◌, ◌≤◌, ◌<◌}
use native.Mathlib.Omega.{arith}
use native.Mathlib.Decide.{dec_lt}
use native.Mathlib.Nat.{add-zero, zero-mul, mul_assoc, add-mul, mul-le-mul_right, div-eq_of_lt, zero-div, mul-add-div_right}
use mathlib.Core.Path.{◌≡◌, refl, ap, ap₂, sym, ◌∙◌, subst}
use mathlib.Core.Logic.{by_cases}
use mathlib.Core.List.{List, [], ◌∷◌}
use lib.ListN.{length, take, drop, get_or, take-append-drop}
use lib.Seq.{get_or-drop}
use lib.Pow.{pow_pos, pow-add}
use Rattle.blockfile.specs.Bytes.{be16, be32, be64, Every}
use Rattle.blockfile.proofs.Every.{every-left, every-right}
use Rattle.laws.proofs.Numbers.{be32-agree}
use Rattle.pages.specs.Begins.{lead}

-- ---- bytes

abbrev pub Byte : ℕ → Type 0
Byte x = x < 256

pub bytes-all : (s : List ℕ) → ((i : ℕ) → get_or s i 0 < 256) → Every Byte s
bytes-all [] h = tt
bytes-all (x ∷ s) h = (h 0, bytes-all s (λ i. h (suc i)))

pub bytes-at : (s : List ℕ) → Every Byte s → (i : ℕ) → get_or s i 0 < 256
bytes-at [] h i = omega arith
bytes-at (x ∷ s) h zero = h.0
bytes-at (x ∷ s) h (suc i) = bytes-at s h.1 i

pub bytes_take : (n : ℕ) (s : List ℕ) → Every Byte s → Every Byte (take n s)
bytes_take n s h = every-left Byte (take n s) (drop n s) (subst (Every Byte) (sym (take-append-drop n s)) h)

pub bytes_drop : (n : ℕ) (s : List ℕ) → Every Byte s → Every Byte (drop n s)
bytes_drop n s h = every-right Byte (take n s) (drop n s) (subst (Every Byte) (sym (take-append-drop n s)) h)

-- ---- the first n bytes as a number

-- a place of eight bits more
pow-byte : (n : ℕ) → 2 ^ (8 * suc n) ≡ 256 * 2 ^ (8 * n)
pow-byte n = let e : 8 * suc n ≡ 8 + 8 * n = omega arith in rw e (pow-add 2 8 (8 * n))

pub lead-none : (n : ℕ) → lead n [] ≡ 0
unfolding lead
lead-none zero = refl
lead-none (suc n) = refl

pub lead-below : (n : ℕ) (k : List ℕ) → Every Byte k → lead n k < 2 ^ (8 * n)
unfolding lead
lead-below zero k h = pow_pos 0
lead-below (suc n) [] h = pow_pos (8 * suc n)
lead-below (suc n) (x ∷ k) h =
    let most : x * 2 ^ (8 * n) ≤ 255 * 2 ^ (8 * n) = mul-le-mul_right (2 ^ (8 * n)) (omega (arith, h.0)) in
    omega (arith, most, lead-below n k h.1, pow-byte n)

-- m bytes more, or fewer, behind the first n
pub lead-take : (n m : ℕ) (k : List ℕ) → n ≤ m → lead n (take m k) ≡ lead n k
unfolding lead
lead-take zero m k h = refl
lead-take (suc n) zero k h = absurd (omega arith)
lead-take (suc n) (suc m) [] h = refl
lead-take (suc n) (suc m) (x ∷ k) h = ap (λ (z : ℕ). x * 2 ^ (8 * n) + z) (lead-take n m k (omega arith))

-- of n + m bytes only the first n
pub lead-cut : (n m : ℕ) (k : List ℕ) → Every Byte k → lead (n + m) (take n k) ≡ lead (n + m) k / 2 ^ (8 * m) * 2 ^ (8 * m)
unfolding lead
lead-cut zero m k h =
    let none : lead (0 + m) k / 2 ^ (8 * m) ≡ 0 = div-eq_of_lt (let e : 0 + m ≡ m = omega arith in rw e (lead-below m k h)) in
    lead-none (0 + m) ∙ sym (ap (λ (z : ℕ). z * 2 ^ (8 * m)) none ∙ zero-mul (2 ^ (8 * m)))
lead-cut (suc n) m [] h = lead-none (suc n + m) ∙ sym (ap (λ (z : ℕ). z / 2 ^ (8 * m) * 2 ^ (8 * m)) (lead-none (suc n + m)) ∙ ap (λ (z : ℕ). z * 2 ^ (8 * m)) (zero-div (2 ^ (8 * m))) ∙ zero-mul (2 ^ (8 * m)))
lead-cut (suc n) m (x ∷ k) h =
    let P : ℕ = 2 ^ (8 * m) in
    let r : ℕ = lead (n + m) k in
    let e : suc n + m ≡ suc (n + m) = omega arith in
    let high : x * 2 ^ (8 * (n + m)) ≡ x * 2 ^ (8 * n) * P = (let s : 8 * (n + m) ≡ 8 * n + 8 * m = omega arith in rw s (ap (λ (z : ℕ). x * z) (pow-add 2 (8 * n) (8 * m)) ∙ sym (mul_assoc x (2 ^ (8 * n)) P))) in
    rw e (ap₂ (λ (a b : ℕ). a + b) high (lead-cut n m k h.1)
    ∙ sym (ap (λ (a : ℕ). (a + r) / P * P) high ∙ ap (λ (a : ℕ). a * P) (mul-add-div_right (pow_pos (8 * m)) (x * 2 ^ (8 * n)) r) ∙ add-mul (x * 2 ^ (8 * n)) (r / P) P))

-- ---- the numbers are the same exactly if the bytes are

-- over plain numbers: the first of two digits with what follows below a unit
first-digit : (x y p r s : ℕ) → r < p → x * p + r ≡ y * p + s → x < y → ⊥
first-digit x y p r s h e l =
    let most : (x + 1) * p ≤ y * p = mul-le-mul_right p (omega arith) in
    let sum : (x + 1) * p ≡ x * p + 1 * p = add-mul x 1 p in
    omega arith

-- the first bytes are the same, and the numbers of the others
pub lead-next : (n x y : ℕ) (k l : List ℕ) → Every Byte k → Every Byte l → lead (suc n) (x ∷ k) ≡ lead (suc n) (y ∷ l) → (x ≡ y) × (lead n k ≡ lead n l)
unfolding lead
lead-next n x y k l h g e =
    by_cases (dec_lt x y) (λ less. absurd (first-digit x y (2 ^ (8 * n)) (lead n k) (lead n l) (lead-below n k h) e less))
    (λ a.
    by_cases (dec_lt y x) (λ more. absurd (first-digit y x (2 ^ (8 * n)) (lead n l) (lead n k) (lead-below n l g) (sym e) more))
    (λ b.
    let is : x ≡ y = omega arith in
    let q = subst (λ (z : ℕ). z * 2 ^ (8 * n) + lead n k ≡ y * 2 ^ (8 * n) + lead n l) is e in
    (is, omega (arith, q))))

-- of lists of the same length, n at most
pub lead-same : (n : ℕ) (a b : List ℕ) → Every Byte a → Every Byte b → length a ≡ length b → length a ≤ n → lead n a ≡ lead n b → a ≡ b
lead-same n [] [] h g l m e = refl
lead-same n [] (y ∷ b) h g l m e = absurd (omega arith)
lead-same n (x ∷ a) [] h g l m e = absurd (omega arith)
lead-same zero (x ∷ a) (y ∷ b) h g l m e = absurd (omega arith)
lead-same (suc n) (x ∷ a) (y ∷ b) h g l m e =
    let r : (x ≡ y) × (lead n a ≡ lead n b) = lead-next n x y a b h.1 g.1 e in
    ap₂ (λ (z : ℕ) (c : List ℕ). z ∷ c) r.0 (lead-same n a b h.1 g.1 (omega arith) (omega arith) r.1)

-- ---- eight bytes of a list

lead-at : (n i : ℕ) (s : List ℕ) → lead (suc n) (drop i s) ≡ get_or s i 0 * 2 ^ (8 * n) + lead n (drop (suc i) s)
unfolding lead
lead-at n zero [] = sym (ap₂ (λ (a b : ℕ). a + b) (zero-mul (2 ^ (8 * n))) (lead-none n))
lead-at n zero (x ∷ s) = refl
lead-at n (suc i) [] = sym (ap₂ (λ (a b : ℕ). a + b) (zero-mul (2 ^ (8 * n))) (lead-none n))
lead-at n (suc i) (x ∷ s) = lead-at n i s

no_lead : (k : List ℕ) → lead 0 k ≡ 0
unfolding lead
no_lead k = refl

lead-eight : (s : List ℕ) → be32 s 4 + be32 s 0 * 4294967296 ≡ lead 8 s
unfolding be32 be16
lead-eight s =
    omega (arith, lead-at 7 0 s, lead-at 6 1 s, lead-at 5 2 s, lead-at 4 3 s, lead-at 3 4 s, lead-at 2 5 s, lead-at 1 6 s, lead-at 0 7 s, no_lead (drop 8 s))

half_at : (s : List ℕ) (o i : ℕ) → be32 (drop o s) i ≡ be32 s (o + i)
half_at s o i = be32-agree (drop o s) i s (o + i) (λ k h. get_or-drop o s (i + k) 0 ∙ ap (λ (j : ℕ). get_or s j 0) (omega arith))

pub be64-lead : (s : List ℕ) (o : ℕ) → be64 s o ≡ lead 8 (drop o s)
unfolding be64
be64-lead s o =
    let e : o + 0 ≡ o = add-zero o in
    omega (arith, half_at s o 4, rw e at (half_at s o 0), lead-eight (drop o s))
