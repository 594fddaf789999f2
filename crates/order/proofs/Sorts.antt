-- How the keys of a table sort: the sign decides, and else the bytes do; what tells the sort of a table.
use Prim.Native.Nat.{ℕ, ◌≤◌, ◌<◌}
use native.Mathlib.Omega.{arith}
use native.Mathlib.Decide.{dec_lt}
use mathlib.Core.Path.{◌≡◌, refl, ap, sym, ◌∙◌, subst}
use mathlib.Core.Logic.{by_cases}
use mathlib.Core.Bool.{Bool, true, false, cond}
use mathlib.Core.List.{List, [], ◌∷◌}
use lib.ListN.{length, get_or}
use lib.Dec.{T, ltb, eqb}
use borrow.Author.Tests.{lt-ltb, le-ltb, lt-leb, le-leb, eq-eqb, ne_eqb}
use Rattle.blockfile.specs.Order.{within, bytes_below, sign, same, bytes_rule, numbers_rule, is_offsets, key_rule}
use Rattle.blockfile.proofs.Bools.{so, not_so, same-eq}
use Rattle.laws.proofs.Orders.{Ordered, bytes-ordered, numbers-ordered}
use Rattle.std.specs.declared.cmp.Ordering.TheVariants.{Less, Equal, Greater}
use Rattle.order.specs.declared.sort.Sort.{Sort}
use Rattle.order.specs.declared.sort.Sort.TheVariants.{Bytes, Numbers}
use Rattle.order.specs.Bytes.{order}
use Rattle.order.specs.Sorts.{table_sort, rule_as, order_as, sign_as, LengthsAre}

-- ---- The rule of a table

-- the rule of a table's keys is that of its sort
pub rule-as : (name : List ℕ) → key_rule name ≡ rule_as (table_sort name)
unfolding key_rule
rule-as name = go (is_offsets name)
  where
    go : (c : Bool) → cond c numbers_rule bytes_rule ≡ rule_as (cond c Numbers Bytes)
    go true = refl
    go false = refl

-- also where the sort was told
pub rule-by : (name : List ℕ) {s : Sort} → s ≡ table_sort name → rule_as s ≡ key_rule name
rule-by name e = ap rule_as e ∙ sym (rule-as name)

pub sort-ordered : (s : Sort) → Ordered (rule_as s)
sort-ordered Bytes = bytes-ordered
sort-ordered Numbers = numbers-ordered

pub sort-hash : (b : ℕ) → b ≡ 0x23 → Numbers ≡ cond (eqb b 0x23) Numbers Bytes
sort-hash b h = rw (eq-eqb b 0x23 h)

pub sort-other : (b : ℕ) → (b ≡ 0x23 → ⊥) → Bytes ≡ cond (eqb b 0x23) Numbers Bytes
sort-other b h = rw (ne_eqb b 0x23 h)

pub sort-some : (k : List ℕ) {x : ℕ} {s : Sort} → 0 < length k → x ≡ get_or k 0 0 → s ≡ cond (eqb x 0x23) Numbers Bytes → s ≡ table_sort k
sort-some [] h e p = absurd (omega arith)
sort-some (y ∷ k) h e p = p ∙ ap (λ (z : ℕ). cond (eqb z 0x23) Numbers Bytes) e

-- ---- How long keys are

pub lengths-bytes : (s : Sort) → s ≡ Bytes → LengthsAre s (record { least = 1; most = 65535 })
lengths-bytes s e = record { some = omega arith; is = λ k. rw e }

four-within : (n : ℕ) → eqb n 4 ≡ within 4 4 n
four-within n =
    by_cases (dec_lt n 4) (λ h. rw (ne_eqb n 4 (λ e. omega (arith, e)), lt-leb 4 n h))
    (λ h.
    let w : 4 ≤ n = omega (arith, h) in
    by_cases (dec_lt 4 n) (λ g. rw (ne_eqb n 4 (λ e. omega (arith, e)), le-leb 4 n w, lt-leb n 4 g))
    (λ g. let e : n ≡ 4 = omega (arith, h, g) in let v : n ≤ 4 = omega arith in rw (eq-eqb n 4 e, le-leb 4 n w, le-leb n 4 v)))

pub lengths-numbers : (s : Sort) → s ≡ Numbers → LengthsAre s (record { least = 4; most = 4 })
lengths-numbers s e = record { some = omega arith; is = λ k. rw e (four-within (length k)) }

-- ---- The sign of a key

pub sign_low : (b : ℕ) → b < 0x80 → ◌≡◌ {A = ℕ} 2 (cond (ltb b 0x80) 2 1)
sign_low b h = rw (lt-ltb b 0x80 h)

pub sign_high : (b : ℕ) → 0x80 ≤ b → ◌≡◌ {A = ℕ} 1 (cond (ltb b 0x80) 2 1)
sign_high b h = rw (le-ltb b 0x80 h)

pub sign-bytes : (s : Sort) (k : List ℕ) → s ≡ Bytes → 0 ≡ sign_as s k
sign-bytes s k e = rw e

pub sign-none : (s : Sort) (k : List ℕ) → length k ≡ 0 → 0 ≡ sign_as s k
sign-none Bytes k e = refl
sign-none Numbers [] e = refl
sign-none Numbers (x ∷ k) e = absurd (omega arith)

pub sign-some : (s : Sort) (k : List ℕ) {x r : ℕ} → s ≡ Numbers → 0 < length k → x ≡ get_or k 0 0 → r ≡ cond (ltb x 0x80) 2 1 → r ≡ sign_as s k
sign-some s [] n h e p = absurd (omega arith)
sign-some s (y ∷ k) n h e p = rw n (p ∙ ap (λ (z : ℕ). cond (ltb z 0x80) 2 1) e)

-- ---- The order: by the sign, and then by bytes

apart : (s : Sort) (k l : List ℕ) → (sign_as s k ≡ sign_as s l → ⊥) → same k l ≡ false
apart s k l d = not_so (same k l) (λ t. d (ap (sign_as s) (same-eq k l t)))

pub sign-less : (s : Sort) (k l : List ℕ) → sign_as s k < sign_as s l → order_as s k l ≡ Less
unfolding order_as
sign-less Bytes k l h = absurd (omega arith)
sign-less Numbers k l h = rw (apart Numbers k l (λ e. omega (arith, e)), lt-ltb (sign k) (sign l) h)

pub sign-greater : (s : Sort) (k l : List ℕ) → sign_as s l < sign_as s k → order_as s k l ≡ Greater
unfolding order_as
sign-greater Bytes k l h = absurd (omega arith)
sign-greater Numbers k l h =
    let d : sign k ≡ sign l → ⊥ = λ e. omega (arith, e) in
    let w : sign l ≤ sign k = omega arith in
    rw (apart Numbers k l d, le-ltb (sign k) (sign l) w, ne_eqb (sign k) (sign l) d)

pub sign_same : (s : Sort) (k l : List ℕ) → sign_as s k ≡ sign_as s l → order_as s k l ≡ order k l
unfolding order_as order
sign_same Bytes k l e = refl
sign_same Numbers k l e = let w : sign l ≤ sign k = omega (arith, e) in rw (le-ltb (sign k) (sign l) w, eq-eqb (sign k) (sign l) e)

-- the answer tells whether one key is below the other
pub less-below : (s : Sort) (k l : List ℕ) → order_as s k l ≡ Less → T ((rule_as s).below k l)
unfolding order_as
less-below s k l e = go (same k l) ((rule_as s).below k l) e
  where
    go : (a b : Bool) → cond a Equal (cond b Less Greater) ≡ Less → T b
    go true b e = absurd (let z : ◌≡◌ {A = ℕ} 0 1 = cc in omega arith)
    go false true e = tt
    go false false e = absurd (let z : ◌≡◌ {A = ℕ} 0 1 = cc in omega arith)

pub below_less : (s : Sort) (k l : List ℕ) → T ((rule_as s).below k l) → order_as s k l ≡ Less
unfolding order_as
below_less s k l h =
    go (same k l) ((rule_as s).below k l)
    (not_so (same k l) (λ t. (sort-ordered s).irrefl k (subst (λ (x : List ℕ). T ((rule_as s).below k x)) (sym (same-eq k l t)) h)))
    (so ((rule_as s).below k l) h)
  where
    go : (a b : Bool) → a ≡ false → b ≡ true → cond a Equal (cond b Less Greater) ≡ Less
    go a b e f = rw (e, f)

pub equal-same : (s : Sort) (k l : List ℕ) → order_as s k l ≡ Equal → k ≡ l
unfolding order_as
equal-same s k l e = same-eq k l (go (same k l) ((rule_as s).below k l) e)
  where
    go : (a b : Bool) → cond a Equal (cond b Less Greater) ≡ Equal → T a
    go true b e = tt
    go false true e = absurd (let z : ◌≡◌ {A = ℕ} 0 1 = cc in omega arith)
    go false false e = absurd (let z : ◌≡◌ {A = ℕ} 0 1 = cc in omega arith)

pub greater-below : (s : Sort) (k l : List ℕ) → order_as s k l ≡ Greater → T ((rule_as s).below l k)
unfolding order_as
greater-below s k l e = go (same k l) ((rule_as s).below k l) e ((sort-ordered s).total k l)
  where
    go : (a b : Bool) → cond a Equal (cond b Less Greater) ≡ Greater → ((T a → ⊥) → (T b → ⊥) → T ((rule_as s).below l k)) → T ((rule_as s).below l k)
    go true b e f = absurd (let z : ◌≡◌ {A = ℕ} 0 1 = cc in omega arith)
    go false true e f = absurd (let z : ◌≡◌ {A = ℕ} 0 1 = cc in omega arith)
    go false false e f = f (λ t. t) (λ t. t)

-- ---- The empty key: below every other, and above none

none_below : (k : List ℕ) → T (bytes_below k []) → ⊥
none_below [] t = t
none_below (x ∷ k) t = t

signed : (x : ℕ) (k : List ℕ) → 0 < sign (x ∷ k)
signed x k = go (ltb x 0x80)
  where
    go : (b : Bool) → 0 < cond b 2 1
    go true = omega arith
    go false = omega arith

pub some_below : (s : Sort) (j k : List ℕ) → T ((rule_as s).below j k) → 1 ≤ length k
some_below s j (x ∷ k) t = omega arith
some_below Bytes j [] t = absurd (none_below j t)
some_below Numbers [] [] t = absurd t
some_below Numbers (x ∷ j) [] t =
    let w : 0 ≤ sign (x ∷ j) = omega arith in
    let d : sign (x ∷ j) ≡ 0 → ⊥ = λ e. omega (arith, e, signed x j) in
    absurd (rw (le-ltb (sign (x ∷ j)) 0 w, ne_eqb (sign (x ∷ j)) 0 d) at t)

pub below-some : (s : Sort) (k : List ℕ) → 1 ≤ length k → T ((rule_as s).below [] k)
below-some s [] h = absurd (omega arith)
below-some Bytes (x ∷ k) h = tt
below-some Numbers (x ∷ k) h = rw (lt-ltb 0 (sign (x ∷ k)) (signed x k)) tt
