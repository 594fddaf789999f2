-- Pages of an image, and a write to one of them.
use Prim.Native.Nat.{ℕ, zero, suc, ◌+◌, ◌*◌, ◌-◌, ◌<◌, ◌≤◌}
use native.Mathlib.Omega.{arith}
use native.Mathlib.Decide.{dec_lt}
use native.Mathlib.Nat.{add-zero, add_assoc}
use mathlib.Core.Path.{◌≡◌, refl, ap, sym, ◌∙◌}
use mathlib.Core.Logic.{◌≢◌, inl, inr, by_cases}
use mathlib.Core.List.{List, ◌++◌}
use lib.ListN.{length, get_or, take, drop, replicate, length-append, length-take, length-drop, length-replicate}
use lib.Seq.{sets, length-sets, get_or-take, get_or-drop, ext_get_or}
use Rattle.blockfile.specs.Bytes.{pg, write, be16, be32, word16, word32, padded}
use Rattle.laws.specs.Lists.{Apart, Agree}
use Rattle.laws.proofs.Lists.{sets-append, sets-whole, take-sets-in, drop-sets, agree-off, agree-in}
use Rattle.laws.proofs.Numbers.{be16-agree, be32-agree, be16-word16, be32-word32, length-word16, length-word32}

-- ---- by the byte where a page begins, as code has it

pub pg-from : (img : List ℕ) (n : ℕ) → 1 ≤ n → pg img n ≡ take 1024 (drop (1024 * (n - 1)) img)
unfolding pg
pg-from img zero h = absurd (omega arith)
pg-from img (suc k) h = let e : suc k - 1 ≡ k = omega arith in rw e

pub write-from : (img : List ℕ) (n o : ℕ) (bs : List ℕ) → 1 ≤ n → write img n o bs ≡ sets img (1024 * (n - 1) + o) bs
unfolding write
write-from img zero o bs h = absurd (omega arith)
write-from img (suc k) o bs h = let e : suc k - 1 ≡ k = omega arith in rw e

-- ---- lengths

pub length-pg : (img : List ℕ) (n : ℕ) → 1 ≤ n → 1024 * n ≤ length img → length (pg img n) ≡ 1024
length-pg img n h g = rw (pg-from img n h) (simp (length-take, length-drop) (omega arith))

pub length-write : (img : List ℕ) (n o : ℕ) (bs : List ℕ) → length (write img n o bs) ≡ length img
unfolding write
length-write img zero o bs = refl
length-write img (suc k) o bs = length-sets img (1024 * k + o) bs

-- ---- a page's bytes are the image's

pub pg-at : (img : List ℕ) (n o : ℕ) → 1 ≤ n → o < 1024 → get_or (pg img n) o 0 ≡ get_or img (1024 * (n - 1) + o) 0
pg-at img n o h l = rw (pg-from img n h, get_or-take, get_or-drop)

pub agree-pg : (w : ℕ) (img : List ℕ) (n o : ℕ) → 1 ≤ n → o + w ≤ 1024 → Agree w (pg img n) o img (1024 * (n - 1) + o)
agree-pg w img n o h l k q = rw add_assoc (pg-at img n (o + k) h (omega arith))

pub be16-pg : (img : List ℕ) (n o : ℕ) → 1 ≤ n → o + 2 ≤ 1024 → be16 (pg img n) o ≡ be16 img (1024 * (n - 1) + o)
be16-pg img n o h l = be16-agree (pg img n) o img (1024 * (n - 1) + o) (agree-pg 2 img n o h l)

pub be32-pg : (img : List ℕ) (n o : ℕ) → 1 ≤ n → o + 4 ≤ 1024 → be32 (pg img n) o ≡ be32 img (1024 * (n - 1) + o)
be32-pg img n o h l = be32-agree (pg img n) o img (1024 * (n - 1) + o) (agree-pg 4 img n o h l)

-- ---- the page written, and the others

pub pg-write-same : (img : List ℕ) (n o : ℕ) (bs : List ℕ) → 1 ≤ n → o + length bs ≤ 1024 → pg (write img n o bs) n ≡ sets (pg img n) o bs
unfolding pg write
pg-write-same img zero o bs h f = absurd (omega arith)
pg-write-same img (suc k) o bs h f = ap (take 1024) (drop-sets bs img (1024 * k) o) ∙ take-sets-in bs (drop (1024 * k) img) o 1024 f

pub pg-write-whole : (img : List ℕ) (n : ℕ) (bs : List ℕ) → 1 ≤ n → 1024 * n ≤ length img → length bs ≡ 1024 → pg (write img n 0 bs) n ≡ bs
pg-write-whole img n bs h g l =
    pg-write-same img n 0 bs h (omega arith) ∙ sets-whole bs (pg img n) (l ∙ sym (length-pg img n h g))

pub pg-write-other : (img : List ℕ) (n m o : ℕ) (bs : List ℕ) → m ≢ n → o + length bs ≤ 1024 → pg (write img n o bs) m ≡ pg img m
unfolding pg write
pg-write-other img zero m o bs h f = refl
pg-write-other img (suc k) zero o bs h f = refl
pg-write-other img (suc k) (suc j) o bs h f =
    ext_get_or 0 (take 1024 (drop (1024 * j) written)) (take 1024 (drop (1024 * j) img)) (simp (length-take, length-drop, length-sets)) same
  where
    written : List ℕ
    written = sets img (1024 * k + o) bs

    away : j ≢ k
    away e = h (ap suc e)

    apart : Apart (1024 * j) 1024 (1024 * k + o) (length bs)
    apart = by_cases (dec_lt j k) (λ l. inl (omega arith)) (λ l. inr (omega (arith, away)))

    same : (i : ℕ) → i < length (take 1024 (drop (1024 * j) written)) → get_or (take 1024 (drop (1024 * j) written)) i 0 ≡ get_or (take 1024 (drop (1024 * j) img)) i 0
    same i l =
        let q : i < 1024 = omega (arith, simp length-take at l) in
        simp (get_or-take, get_or-drop) (agree-off 1024 bs img (1024 * k + o) (1024 * j) apart i q)

-- ---- numbers on a written page: at the write, in it, and off it

module _ (img : List ℕ) (n o : ℕ) (bs : List ℕ) (pos : 1 ≤ n) (fits : o + length bs ≤ 1024) where
  pub agree-write-off : (w a : ℕ) → Apart a w o (length bs) → Agree w (pg (write img n o bs) n) a (pg img n) a
  agree-write-off w a h = rw (pg-write-same img n o bs pos fits) (agree-off w bs (pg img n) o a h)

  pub be16-write-off : (a : ℕ) → Apart a 2 o (length bs) → be16 (pg (write img n o bs) n) a ≡ be16 (pg img n) a
  be16-write-off a h = be16-agree (pg (write img n o bs) n) a (pg img n) a (agree-write-off 2 a h)

  pub be32-write-off : (a : ℕ) → Apart a 4 o (length bs) → be32 (pg (write img n o bs) n) a ≡ be32 (pg img n) a
  be32-write-off a h = be32-agree (pg (write img n o bs) n) a (pg img n) a (agree-write-off 4 a h)

  module _ (there : 1024 * n ≤ length img) where
    pub agree-write-in : (w i : ℕ) → i + w ≤ length bs → Agree w (pg (write img n o bs) n) (o + i) bs i
    agree-write-in w i h = rw (pg-write-same img n o bs pos fits) (agree-in w bs (pg img n) o i h (omega (arith, length-pg img n pos there)))

    pub be16-write-in : (i : ℕ) → i + 2 ≤ length bs → be16 (pg (write img n o bs) n) (o + i) ≡ be16 bs i
    be16-write-in i h = be16-agree (pg (write img n o bs) n) (o + i) bs i (agree-write-in 2 i h)

    pub be32-write-in : (i : ℕ) → i + 4 ≤ length bs → be32 (pg (write img n o bs) n) (o + i) ≡ be32 bs i
    be32-write-in i h = be32-agree (pg (write img n o bs) n) (o + i) bs i (agree-write-in 4 i h)

module _ (img : List ℕ) (n o v : ℕ) (pos : 1 ≤ n) (there : 1024 * n ≤ length img) where
  pub be16-write-same : o + 2 ≤ 1024 → v < 65536 → be16 (pg (write img n o (word16 v)) n) o ≡ v
  be16-write-same f h =
      rw add-zero at (be16-write-in img n o (word16 v) pos (omega (arith, length-word16 v)) there 0 (omega (arith, length-word16 v)))
      ∙ be16-word16 v h

  pub be32-write-same : o + 4 ≤ 1024 → v < 4294967296 → be32 (pg (write img n o (word32 v)) n) o ≡ v
  be32-write-same f h =
      rw add-zero at (be32-write-in img n o (word32 v) pos (omega (arith, length-word32 v)) there 0 (omega (arith, length-word32 v)))
      ∙ be32-word32 v h

-- ---- two writes side by side are one

pub write-append : (img : List ℕ) (n o m : ℕ) (xs ys : List ℕ) → o + length xs ≡ m → write (write img n o xs) n m ys ≡ write img n o (xs ++ ys)
unfolding write
write-append img zero o m xs ys e = refl
write-append img (suc k) o m xs ys e =
    let s : 1024 * k + m ≡ 1024 * k + o + length xs = omega arith in
    rw s (sym (sets-append xs ys img (1024 * k + o)))

-- zeros after what is written
pub write-padded : (img : List ℕ) (n o k m z : ℕ) (bs : List ℕ) → o + length bs ≡ m → length bs + z ≡ k
    → write (write img n o bs) n m (replicate z 0) ≡ write img n o (padded k bs)
write-padded img n o k m z bs e l =
    let q : z ≡ k - length bs = omega arith in
    rw q (write-append img n o m bs (replicate (k - length bs) 0) e)

pub length-padded : (k : ℕ) (bs : List ℕ) → length bs ≤ k → length (padded k bs) ≡ k
length-padded k bs h = simp (length-append, length-replicate) (omega arith)
