-- The order of keys: a strict total order, and when two keys are the same.
use Prim.Native.Nat.{ℕ, ◌<◌}
use native.Mathlib.Omega.{arith}
use mathlib.Core.Path.{◌≡◌, refl, sym, subst}
use mathlib.Core.Bool.{Bool, true, false, cond, ◌&&◌, ◌||◌}
use mathlib.Core.List.{List, [], ◌∷◌}
use lib.Dec.{T, ltb, eqb, ltb→lt, lt→ltb, eqb→eq, eqb_refl}
use borrow.Author.Tests.{ltb-false}
use Rattle.blockfile.specs.Order.{KeyRule, bytes_below, sign, same, name_rule, bytes_rule, numbers_rule, is_offsets, key_rule}
use Rattle.blockfile.proofs.Bools.{holds, and_both, both-and}

-- a strict total order
pub record Ordered (r : KeyRule) : Type 0 where
  pub irrefl : (k : List ℕ) → T (r.below k k) → ⊥
  pub trans : (a b c : List ℕ) → T (r.below a b) → T (r.below b c) → T (r.below a c)
  pub total : (a b : List ℕ) → (T (same a b) → ⊥) → (T (r.below a b) → ⊥) → T (r.below b a)

-- ---- By unsigned bytes, a proper prefix first

-- a list that begins with x is below one that begins with y: x is below y, or they are the same and the rest is below
below-cases : (x y : ℕ) (b : Bool) {X : Type 0} → T (ltb x y || (eqb x y && b)) → (x < y → X) → (x ≡ y → T b → X) → X
below-cases x y b {X} t f g = go (ltb x y) refl t
  where
    go : (c : Bool) → ltb x y ≡ c → T (c || (eqb x y && b)) → X
    go true e t = f (ltb→lt x y (holds (ltb x y) e))
    go false e t = let h : T (eqb x y) × T b = and_both (eqb x y) b t in g (eqb→eq x y h.0) h.1

below-first : (x y : ℕ) (b : Bool) → x < y → T (ltb x y || (eqb x y && b))
below-first x y b h = go (ltb x y) (lt→ltb x y h)
  where
    go : (c : Bool) → T c → T (c || (eqb x y && b))
    go true t = tt
    go false t = absurd t

below_rest : (x y : ℕ) (b : Bool) → x ≡ y → T b → T (ltb x y || (eqb x y && b))
below_rest x y b e h = go (ltb x y)
  where
    go : (c : Bool) → T (c || (eqb x y && b))
    go true = tt
    go false = both-and (eqb x y) b (subst (λ (z : ℕ). T (eqb x z)) e (eqb_refl x)) h

bytes-irrefl : (k : List ℕ) → T (bytes_below k k) → ⊥
bytes-irrefl [] t = t
bytes-irrefl (x ∷ xs) t = below-cases x x (bytes_below xs xs) t (λ l. omega arith) (λ e. bytes-irrefl xs)

bytes-trans : (a b c : List ℕ) → T (bytes_below a b) → T (bytes_below b c) → T (bytes_below a c)
bytes-trans [] [] c s t = absurd s
bytes-trans [] (y ∷ ys) [] s t = absurd t
bytes-trans [] (y ∷ ys) (z ∷ zs) s t = tt
bytes-trans (x ∷ xs) [] c s t = absurd s
bytes-trans (x ∷ xs) (y ∷ ys) [] s t = absurd t
bytes-trans (x ∷ xs) (y ∷ ys) (z ∷ zs) s t =
    below-cases x y (bytes_below xs ys) s
    (λ l. below-cases y z (bytes_below ys zs) t
    (λ m. below-first x z (bytes_below xs zs) (omega arith))
    (λ e h. below-first x z (bytes_below xs zs) (omega arith)))
    (λ d g. below-cases y z (bytes_below ys zs) t
    (λ m. below-first x z (bytes_below xs zs) (omega arith))
    (λ e h. below_rest x z (bytes_below xs zs) (omega arith) (bytes-trans xs ys zs g h)))

bytes-total : (a b : List ℕ) → (T (same a b) → ⊥) → (T (bytes_below a b) → ⊥) → T (bytes_below b a)
bytes-total [] [] s n = s tt
bytes-total [] (y ∷ ys) s n = absurd (n tt)
bytes-total (x ∷ xs) [] s n = tt
bytes-total (x ∷ xs) (y ∷ ys) s n = go (ltb y x) refl (ltb x y) refl (bytes-total xs ys)
  where
    go : (c : Bool) → ltb y x ≡ c → (d : Bool) → ltb x y ≡ d → ((T (same xs ys) → ⊥) → (T (bytes_below xs ys) → ⊥) → T (bytes_below ys xs))
        → T (bytes_below (y ∷ ys) (x ∷ xs))
    go true e d f ih = below-first y x (bytes_below ys xs) (ltb→lt y x (holds (ltb y x) e))
    go false e true f ih = absurd (n (below-first x y (bytes_below xs ys) (ltb→lt x y (holds (ltb x y) f))))
    go false e false f ih =
        let q : x ≡ y = omega (arith, ltb-false y x e, ltb-false x y f) in
        below_rest y x (bytes_below ys xs) (sym q)
        (ih
        (λ t. s (both-and (eqb x y) (same xs ys) (subst (λ (z : ℕ). T (eqb x z)) q (eqb_refl x)) t))
        (λ t. n (below_rest x y (bytes_below xs ys) q t)))

pub names-ordered : Ordered name_rule
unfolding name_rule
names-ordered = record { irrefl = bytes-irrefl; trans = bytes-trans; total = bytes-total }

pub bytes-ordered : Ordered bytes_rule
bytes-ordered = record { irrefl = bytes-irrefl; trans = bytes-trans; total = bytes-total }

-- ---- As numbers: by bytes, with the sign first

pub numbers-ordered : Ordered numbers_rule
numbers-ordered =
    record {
      irrefl = λ k. bytes-irrefl (sign k ∷ k);
      trans = λ a b c. bytes-trans (sign a ∷ a) (sign b ∷ b) (sign c ∷ c);
      total = λ a b s n. bytes-total (sign a ∷ a) (sign b ∷ b) (λ t. s (and_both (eqb (sign a) (sign b)) (same a b) t).1) n;
    }

-- ---- The keys of a table

-- what holds for both rules holds for the keys of every table
pub by-rule : (P : KeyRule → Type 0) → P numbers_rule → P bytes_rule → (name : List ℕ) → P (key_rule name)
unfolding key_rule
by-rule P n b name = go (is_offsets name)
  where
    go : (c : Bool) → P (cond c numbers_rule bytes_rule)
    go true = n
    go false = b

pub keys-ordered : (name : List ℕ) → Ordered (key_rule name)
keys-ordered = by-rule Ordered numbers-ordered bytes-ordered
