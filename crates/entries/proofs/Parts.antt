-- Two keys compared part by part. What is left of a key is known by a property of lists: that it stands from a place on, or that
-- it is the rest of a slice.
use Rattle.std.proofs.Common.{◌≡◌, ℕ, ◌+◌, ◌-◌, ◌≤◌, ◌<◌, List, length, take, drop, sym, refl, ap, ◌∙◌, ap₂, arith, length-drop, drop-drop}
use Rattle.std.specs.Ordering.{nat_cmp, MatchOrdering}
use Rattle.std.proofs.lemmas.Cmp.{ranked}
use native.Mathlib.Decide.{dec_lt}
use mathlib.Core.Logic.{by_cases}
use Rattle.std.specs.declared.cmp.Ordering.{Ordering}
use Rattle.std.specs.declared.cmp.Ordering.TheVariants.{Less, Equal, Greater}
use Rattle.order.specs.Bytes.{order, Least, ByWords}
use Rattle.order.proofs.Orders.{order-none, order-shorter, order-longer, order-part, order-behind}
use Rattle.entries.specs.declared.place.Place.{Place}
use Rattle.entries.specs.Places.{Settled, Here, here}
use Rattle.entries.specs.Keys.{KeyAt, Key, Compared, ComparedTo}
use Rattle.entries.proofs.Keys.{key-length, key-part, key-settled, key-first, key-behind}

-- a list with the property has n bytes
pub record Long (F : List ℕ → Type 0) (n : ℕ) : Type 0 where
  pub is : (k : List ℕ) → F k → length k ≡ n

-- the order of all lists with these properties is r
pub record Ordered (F G : List ℕ → Type 0) (r : Ordering) : Type 0 where
  pub is : (k l : List ℕ) → F k → G l → r ≡ order k l

-- whatever the order of what is left, F and G, it is the order of the keys, A and B
pub record Walking (A B F G : List ℕ → Type 0) : Type 0 where
  pub same : (r : Ordering) → Ordered F G r → Ordered A B r

pub walking_start : (A B : List ℕ → Type 0) → Walking A B A B
walking_start A B = record { same = λ r o. o }

-- the bytes x are the first n of what is left, and behind them F' is left
pub record Part (F F' : List ℕ → Type 0) (x : List ℕ) (n : ℕ) : Type 0 where
  pub long : (k : List ℕ) → F k → n ≤ length k
  pub is : (k : List ℕ) → F k → x ≡ take n k
  pub behind : (k : List ℕ) → F k → F' (drop n k)

module _ {A B F G : List ℕ → Type 0} (w : Walking A B F G) where
  module _ {m n : ℕ} (f : Long F m) (g : Long G n) where
    walked_end : m ≡ 0 → n ≡ 0 → Ordered A B Equal
    walked_end d e = w.same Equal (record { is = λ k l p q. sym (order-none k l (f.is k p ∙ d) (g.is l q ∙ e)) })

    walked-shorter : m ≡ 0 → (n ≡ 0 → ⊥) → Ordered A B Less
    walked-shorter d e = w.same Less (record { is = λ k l p q. sym (order-shorter k l (f.is k p ∙ d) (omega (arith, g.is l q, e))) })

    walked-longer : (m ≡ 0 → ⊥) → n ≡ 0 → Ordered A B Greater
    walked-longer d e = w.same Greater (record { is = λ k l p q. sym (order-longer k l (omega (arith, f.is k p, d)) (g.is l q ∙ e)) })

    -- one of them is at its end: the shorter one comes first
    pub walked-ends : (0 < m → n ≡ 0) → {r : Ordering} → r ≡ nat_cmp m n → Ordered A B r
    walked-ends z {r} e = go r (ranked m n r e)
      where
        go : (o : Ordering) → MatchOrdering o (m < n) (m ≡ n) (n < m) → Ordered A B o
        go Less h = by_cases (dec_lt 0 m) (λ p. absurd (omega (arith, z p, h))) (λ p. walked-shorter (omega (arith, p)) (omega (arith, h)))
        go Equal h = by_cases (dec_lt 0 m) (λ p. absurd (omega (arith, z p, h, p))) (λ p. walked_end (omega (arith, p)) (omega (arith, h, p)))
        go Greater h = walked-longer (omega (arith, h)) (z (omega (arith, h)))

  module _ {F' G' : List ℕ → Type 0} {x y : List ℕ} {n : ℕ} (p : Part F F' x n) (q : Part G G' y n) {o : Ordering} (is : ByWords x y o) where
    parts : (k l : List ℕ) → F k → G l → o ≡ order (take n k) (take n l)
    parts k l e f = is.bytes ∙ ap₂ order (p.is k e) (q.is l f)

    pub walked-part : {r : Ordering} → o ≡ r → (r ≡ Equal → ⊥) → Ordered A B r
    walked-part {r} e z =
        w.same r (record {
          is = λ k l f g. let h : r ≡ order (take n k) (take n l) = sym e ∙ parts k l f g in h ∙ sym (order-part n k l (p.long k f) (q.long l g) (λ c. z (h ∙ c)));
        })

    pub walking-next : o ≡ Equal → Walking A B F' G'
    walking-next e =
        record {
          same = λ r h. w.same r (record {
            is = λ k l f g. h.is (drop n k) (drop n l) (p.behind k f) (q.behind l g) ∙ order-behind n k l (p.long k f) (q.long l g) (sym (parts k l f g) ∙ e);
          });
        }

-- ---- keys on pages

pub pages-next : {img : List ℕ} {x y : Place} {i j : ℕ} {b : List ℕ} {n : ℕ} → Part (KeyAt img x i) (KeyAt img y j) b n → Key img x i → Key img y j
pages-next {n = n} p k = record { key = drop n k.key; there = p.behind k.key k.there }

pub pages-long : {img : List ℕ} {at : Place} {n : ℕ} → Long (KeyAt img at n) n
pages-long = record { is = λ k p. key-length p }

module _ {img : List ℕ} {x u : Place} {i : ℕ} (z : i ≡ 0 → ⊥) (s : Settled img x 1 u) {n : ℕ} (some : 1 ≤ n) (few : n ≤ i) (fits : u.offset + n ≤ 1024) where
  pub pages-here : Here img u n
  pages-here = record { low = s.page.low; inside = omega (arith, s.page.low, s.page.high) }

  pub pages-part : {b : List ℕ} → b ≡ here img u n → Part (KeyAt img x i) (KeyAt img (record { page = u.page; offset = u.offset + n }) (i - n)) b n
  pages-part e =
      record {
        long = λ k p. omega (arith, key-length p);
        is = λ k p. e ∙ sym (key-part (key-first (key-settled p z s) n few) some fits);
        behind = λ k p. key-behind (key-settled p z s) n few fits;
      }

pub compared : {img : List ℕ} {a : Place} {m : ℕ} {b : Place} {n : ℕ} {r : Ordering} → Ordered (KeyAt img a m) (KeyAt img b n) r → Compared img a m b n r
compared o = record { is = o.is }

-- ---- a slice

-- what is left of it from j on
abbrev pub From : (s : List ℕ) (j : ℕ) → List ℕ → Type 0
From s j l = l ≡ drop j s

pub from-long : (s : List ℕ) (j : ℕ) → Long (From s j) (length s - j)
from-long s j = record { is = λ k p. ap length p ∙ length-drop j s }

pub from-part : (s : List ℕ) (j n : ℕ) → n ≤ length s - j → Part (From s j) (From s (j + n)) (take (j + n - j) (drop j s)) n
from-part s j n h =
    let e : j + n - j ≡ n = omega arith in
    record {
      long = λ k p. omega (arith, (from-long s j).is k p);
      is = λ k p. ap (λ (i : ℕ). take i (drop j s)) e ∙ ap (take n) (sym p);
      behind = λ k p. ap (drop n) p ∙ drop-drop n j s;
    }

pub compared-to : {img : List ℕ} {a : Place} {m : ℕ} {l : List ℕ} {r : Ordering} → Ordered (KeyAt img a m) (From l 0) r → ComparedTo img a m l r
compared-to {l = l} o = record { is = λ k p. o.is k l p refl }

-- ---- how many bytes lie together

pub least-some : {m n r : ℕ} → Least m n r → 1 ≤ m → 1 ≤ n → 1 ≤ r
least-some {m} {n} l a b = by_cases (dec_lt n m) (λ h. omega (arith, l.other (omega arith))) (λ h. omega (arith, l.whole (omega arith)))
