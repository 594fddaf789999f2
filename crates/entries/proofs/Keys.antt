-- Keys at places: a key is one list, and on one page it is a part of the image; the bytes of a name are read one by one.
use Rattle.std.proofs.Common.{◌≡◌, ℕ, zero, suc, ◌+◌, ◌-◌, ◌<◌, ◌≤◌, Bool, true, false, List, [], ◌∷◌, length, take, drop, sym, refl, ap, ◌∙◌, ap₂, arith, length-drop, length-take-le, drop-cons, take-take, take-add, drop_at}
use Rattle.blockfile.specs.Order.{all_within}
use Rattle.std.specs.declared.cmp.Ordering.{Ordering}
use Rattle.order.specs.Bytes.{order, ByWords}
use Rattle.entries.specs.declared.place.Place.{Place}
use Rattle.entries.specs.declared.place.Got.{Got}
use Rattle.entries.specs.Places.{IsPage, Rest, Enough, Settled, Here, here, Stepped}
use Rattle.entries.specs.Keys.{KeyAt, Key, Compared, ComparedTo, Printed, Near}
use Rattle.entries.proofs.Rests.{rest-one, rest-take, rest_in}
use Rattle.entries.proofs.Places.{gap-one}
use Rattle.entries.proofs.Names.{within_low, within-high, within_on}

module _ {img : List ℕ} {at : Place} {n : ℕ} {k : List ℕ} (a : KeyAt img at n k) where
  pub key-length : length k ≡ n
  key-length = ap length a.is ∙ length-take-le n a.bytes a.long

  -- the place of a key that is not empty
  pub record Stands : Type 0 where
    pub page : IsPage img at.page
    pub small : length img ≤ 4194304
    pub high : at.offset ≤ 1024

  pub key-stands : 0 < n → Stands
  key-stands h = let r : Rest img at a.bytes = a.rest h in record { page = r.page; small = r.small; high = r.high }

  pub key-enough : (n ≡ 0 → ⊥) → Enough img at 1
  key-enough z = let h : 0 < n = omega (arith, z) in record { bytes = a.bytes; rest = a.rest h; long = omega (arith, a.long) }

  -- on one page it is a part of the image
  pub key-part : 0 < n → at.offset + n ≤ 1024 → k ≡ here img at n
  key-part h f = a.is ∙ rest-take img at a.bytes (a.rest h) n f

pub key-near : {img : List ℕ} {at : Place} {n : ℕ} → Key img at n → Near at n
key-near a = record { high = λ h. (key-stands a.there h).high }

-- a key at a place is one list
pub key_one : (img : List ℕ) (at : Place) (n : ℕ) (k l : List ℕ) → KeyAt img at n k → KeyAt img at n l → k ≡ l
key_one img at zero k l a b = a.is ∙ sym b.is
key_one img at (suc n) k l a b = a.is ∙ ap (take (suc n)) (rest-one img at a.bytes (a.rest (omega arith)) b.bytes (b.rest (omega arith))) ∙ sym b.is

-- the first byte of a key, and the rest of it
pub record Headed (img : List ℕ) (n : ℕ) (k : List ℕ) (g : Got) : Type 0 where
  pub tail : List ℕ
  pub is : k ≡ g.byte ∷ tail
  pub key : KeyAt img g.after (n - 1) tail

key_step : (img : List ℕ) (at : Place) (n : ℕ) (k : List ℕ) → KeyAt img at n k → (n ≡ 0 → ⊥) → (g : Got) → Stepped img at g → Headed img n k g
key_step img at zero k a z g t = absurd (z refl)
key_step img at (suc n) k a z g t =
    let r : Rest img at a.bytes = a.rest (omega arith) in
    let one : suc n - 1 ≡ n = omega arith in
    record {
      tail = take n (drop 1 a.bytes);
      is = a.is ∙ ap (take (suc n)) (drop-cons a.bytes 0 0 (omega (arith, a.long))) ∙ ap (λ (b : ℕ). b ∷ take n (drop 1 a.bytes)) (sym (t.byte a.bytes r));
      key = rw one (record { bytes = drop 1 a.bytes; rest = λ h. t.moved.to a.bytes r; long = rw length-drop (omega (arith, a.long)); is = refl });
    }

-- a key from where its first byte is on the page, its first w bytes, and those behind them

pub key-settled : {img : List ℕ} {x u : Place} {i : ℕ} {k : List ℕ} → KeyAt img x i k → (i ≡ 0 → ⊥) → Settled img x 1 u → KeyAt img u i k
key-settled {img} {x} a z s =
    let r : Rest img x a.bytes = a.rest (omega (arith, z)) in
    record { bytes = a.bytes; rest = λ h. rw (gap-one x.offset r.high) at (s.moved.to a.bytes r); long = a.long; is = a.is }

pub key-first : {img : List ℕ} {u : Place} {i : ℕ} {k : List ℕ} → KeyAt img u i k → (w : ℕ) → w ≤ i → KeyAt img u w (take w k)
key-first {i = i} a w h = record { bytes = a.bytes; rest = λ f. a.rest (omega arith); long = omega (arith, a.long); is = ap (take w) a.is ∙ take-take w i a.bytes h }

pub key-behind : {img : List ℕ} {u : Place} {i : ℕ} {k : List ℕ} → KeyAt img u i k → (w : ℕ) → w ≤ i → u.offset + w ≤ 1024
    → KeyAt img (record { page = u.page; offset = u.offset + w }) (i - w) (drop w k)
key-behind {img} {u} {i} a w h f =
    let sum : i ≡ w + (i - w) = omega arith in
    record {
      bytes = drop w a.bytes;
      rest = λ g. rest_in img u a.bytes (a.rest (omega arith)) w f;
      long = rw length-drop (omega (arith, a.long));
      is = ap (drop w) (a.is ∙ ap (λ (n : ℕ). take n a.bytes) sum ∙ take-add w (i - w) a.bytes)
          ∙ drop_at (take w a.bytes) (take (i - w) (drop w a.bytes)) w (length-take-le w a.bytes (omega (arith, a.long)));
    }

-- ---- keys that lie on one page

module _ {img : List ℕ} {a : Place} {m : ℕ} (h : 0 < m) (f : a.offset + m ≤ 1024) where
  pub key_here : Key img a m → Here img a m
  key_here u = let s = key-stands u.there h in record { low = s.page.low; inside = omega (arith, s.page.high, s.page.low) }

  module _ {x : List ℕ} (e : x ≡ here img a m) where
    -- the bytes there are the key
    are : (k : List ℕ) → KeyAt img a m k → x ≡ k
    are k p = e ∙ sym (key-part p h f)

    pub compared-to-bytes : {l : List ℕ} {r : Ordering} → ByWords x l r → ComparedTo img a m l r
    compared-to-bytes {l} w = record { is = λ k p. w.bytes ∙ ap (λ (i : List ℕ). order i l) (are k p) }

    pub printed-bytes : {r : Bool} → r ≡ all_within 0x21 0x7e x → Printed img a m r
    printed-bytes is = record { is = λ k p. is ∙ ap (all_within 0x21 0x7e) (are k p) }

  pub compared-here : {b : Place} {n : ℕ} → 0 < n → b.offset + n ≤ 1024 → {r : Ordering} → ByWords (here img a m) (here img b n) r → Compared img a m b n r
  compared-here g d w = record { is = λ k l p q. w.bytes ∙ sym (ap₂ order (key-part p h f) (key-part q g d)) }

-- ---- the bytes of a name: i of them are left from x on

pub record Printing (img : List ℕ) (at : Place) (n : ℕ) (x : Place) (i : ℕ) : Type 0 where
  pub first : List ℕ
  pub first_there : KeyAt img at n first
  pub k : List ℕ
  pub k_there : KeyAt img x i k
  pub same : all_within 0x21 0x7e k ≡ all_within 0x21 0x7e first

none_within : (k : List ℕ) → length k ≡ 0 → all_within 0x21 0x7e k ≡ true
none_within [] e = refl
none_within (x ∷ k) e = absurd (omega arith)

module _ {img : List ℕ} {at : Place} {n : ℕ} {x : Place} {i : ℕ} (c : Printing img at n x i) where
  printed : (r : Bool) → all_within 0x21 0x7e c.k ≡ r → Printed img at n r
  printed r e = record { is = λ k p. let s = key_one img at n c.first k c.first_there p in sym e ∙ c.same ∙ ap (all_within 0x21 0x7e) s }

  pub printed-end : i ≡ 0 → Printed img at n true
  printed-end e = printed true (none_within c.k (key-length c.k_there ∙ e))

  module _ (z : i ≡ 0 → ⊥) where
    module _ (g : Got) (s : Stepped img x g) where
      headed : Headed img i c.k g
      headed = key_step img x i c.k c.k_there z g s

      pub printed-low : g.byte < 0x21 → Printed img at n false
      printed-low h = printed false (within_low _ _ _ headed.is h)

      module _ (low : 0x21 ≤ g.byte) where
        pub printed-high : 0x7e < g.byte → Printed img at n false
        printed-high h = printed false (within-high _ _ _ headed.is low h)

        pub printing-next : g.byte ≤ 0x7e → Printing img at n g.after (i - 1)
        printing-next h =
            record {
              first = c.first;
              first_there = c.first_there;
              k = headed.tail;
              k_there = headed.key;
              same = sym (within_on _ _ _ headed.is low h) ∙ c.same;
            }
