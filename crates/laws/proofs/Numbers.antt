-- Big-endian numbers: their bytes, and reading them back.
use Prim.Native.Nat.{ℕ, ◌+◌, ◌*◌, ◌/◌, ◌%◌, ◌<◌, ◌≤◌}
use native.Mathlib.Omega.{arith}
use native.Mathlib.Nat.{add-zero, add_assoc, div-div-eq-div-mul, div-add-mod', mod-eq_of_lt, div-lt_iff_lt-mul}
use lib.Dec.{lit<}
use mathlib.Core.Path.{◌≡◌, refl}
use mathlib.Core.List.{List, ◌++◌}
use lib.ListN.{length, get_or}
use Rattle.blockfile.specs.Bytes.{be16, be32, be64, word16, word32}
use Rattle.laws.specs.Lists.{Agree}
use Rattle.laws.proofs.Lists.{agree_left, agree_right}

-- ---- a number read where two lists agree

module _ (w v : ℕ) (b : List ℕ) (i : ℕ) (c : List ℕ) (j : ℕ) (e : Agree (w + v) b i c j) where
  -- the first w of w + v bytes, and the others
  agree-first : Agree w b i c j
  agree-first k q = e k (omega arith)

  agree-second : Agree v b (i + w) c (j + w)
  agree-second k q = simp add_assoc (e (w + k) (omega arith))

pub be16-agree : (b : List ℕ) (i : ℕ) (c : List ℕ) (j : ℕ) → Agree 2 b i c j → be16 b i ≡ be16 c j
unfolding be16
be16-agree b i c j e = omega (arith, simp add-zero at (e 0 (lit< tt)), e 1 (lit< tt))

pub be32-agree : (b : List ℕ) (i : ℕ) (c : List ℕ) (j : ℕ) → Agree 4 b i c j → be32 b i ≡ be32 c j
unfolding be32
be32-agree b i c j e = omega (arith, be16-agree b i c j (agree-first 2 2 b i c j e), be16-agree b (i + 2) c (j + 2) (agree-second 2 2 b i c j e))

pub be64-agree : (b : List ℕ) (i : ℕ) (c : List ℕ) (j : ℕ) → Agree 8 b i c j → be64 b i ≡ be64 c j
unfolding be64
be64-agree b i c j e = omega (arith, be32-agree b i c j (agree-first 4 4 b i c j e), be32-agree b (i + 4) c (j + 4) (agree-second 4 4 b i c j e))

-- in the first and in the second of two lists
module _ (xs ys : List ℕ) where
  pub be16-left : (i : ℕ) → i + 2 ≤ length xs → be16 (xs ++ ys) i ≡ be16 xs i
  be16-left i h = be16-agree (xs ++ ys) i xs i (agree_left 2 xs ys i h)

  pub be32-left : (i : ℕ) → i + 4 ≤ length xs → be32 (xs ++ ys) i ≡ be32 xs i
  be32-left i h = be32-agree (xs ++ ys) i xs i (agree_left 4 xs ys i h)

  pub be16-right : (n i : ℕ) → length xs ≡ n → be16 (xs ++ ys) (n + i) ≡ be16 ys i
  be16-right n i e = be16-agree (xs ++ ys) (n + i) ys i (agree_right 2 xs ys n i e)

  pub be32-right : (n i : ℕ) → length xs ≡ n → be32 (xs ++ ys) (n + i) ≡ be32 ys i
  be32-right n i e = be32-agree (xs ++ ys) (n + i) ys i (agree_right 4 xs ys n i e)

-- ---- bounds, where all are bytes

pub be16-below : (b : List ℕ) → ((i : ℕ) → get_or b i 0 < 256) → (o : ℕ) → be16 b o < 65536
unfolding be16
be16-below b bytes o = omega (arith, bytes o, bytes (o + 1))

pub be32-below : (b : List ℕ) → ((i : ℕ) → get_or b i 0 < 256) → (o : ℕ) → be32 b o < 4294967296
unfolding be32
be32-below b bytes o = omega (arith, be16-below b bytes o, be16-below b bytes (o + 2))

-- ---- the bytes of a number

pub length-word16 : (v : ℕ) → length (word16 v) ≡ 2
unfolding word16
length-word16 v = refl

pub length-word32 : (v : ℕ) → length (word32 v) ≡ 4
unfolding word32
length-word32 v = refl

pub be16-word16 : (v : ℕ) → v < 65536 → be16 (word16 v) 0 ≡ v
unfolding be16 word16
be16-word16 v h =
    let t : v / 256 % 256 ≡ v / 256 = mod-eq_of_lt ((div-lt_iff_lt-mul {k = 256} (lit< tt)).1 h) in
    rw t (div-add-mod' v 256)

-- from the digits, over plain variables
four : (v a b c r0 r1 r2 r3 : ℕ) → a * 256 + r0 ≡ v → b * 256 + r1 ≡ a → c * 256 + r2 ≡ b → r3 ≡ c → (r3 * 256 + r2) * 65536 + (r1 * 256 + r0) ≡ v
four v a b c r0 r1 r2 r3 e0 e1 e2 e3 = omega arith

pub be32-word32 : (v : ℕ) → v < 4294967296 → be32 (word32 v) 0 ≡ v
unfolding be32 be16 word32
be32-word32 v h =
    let e2 : v / 256 / 256 ≡ v / 65536 = div-div-eq-div-mul v 256 256 in
    let e3 : v / 65536 / 256 ≡ v / 16777216 = div-div-eq-div-mul v 65536 256 in
    four v (v / 256) (v / 65536) (v / 16777216) (v % 256) (v / 256 % 256) (v / 65536 % 256) (v / 16777216 % 256)
    (div-add-mod' v 256)
    (rw e2 at (div-add-mod' (v / 256) 256))
    (rw e3 at (div-add-mod' (v / 65536) 256))
    (mod-eq_of_lt ((div-lt_iff_lt-mul {k = 16777216} (lit< tt)).1 h))
