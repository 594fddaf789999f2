-- Keys that rise from one to the next rise through the whole table; and what the rules say of an entry.
use Prim.Native.Nat.{ℕ, ◌≤◌}
use native.Mathlib.Omega.{arith}
use mathlib.Core.Path.{◌≡◌}
use mathlib.Core.List.{List, [], ◌∷◌, ◌++◌}
use lib.ListN.{length}
use lib.Dec.{T, leb, le→leb, leb→le, eqb→eq}
use Rattle.blockfile.specs.Bytes.{Every}
use Rattle.blockfile.specs.Layout.{Entry}
use Rattle.blockfile.specs.Order.{Rising}
use Rattle.blockfile.proofs.Bools.{and_both, both-and, within-is}
use Rattle.blockfile.proofs.Every.{every-so}
use Rattle.order.specs.declared.sort.Sort.{Sort}
use Rattle.order.specs.declared.sort.Sort.TheVariants.{Bytes, Numbers}
use Rattle.order.specs.Sorts.{rule_as}
use Rattle.order.proofs.Sorts.{sort-ordered, below-some}
use Rattle.spans.specs.Entries.{fits, Above, last_key}

module _ (sort : Sort) where
  -- ---- from above a key on

  pub above_join : (low : List ℕ) (xs ys : List Entry) → Above sort low xs → Above sort (last_key low xs) ys → Above sort low (xs ++ ys)
  above_join low [] ys a b = b
  above_join low (x ∷ xs) ys a b = (a.0, above_join x.key xs ys a.1 b)

  pub above-left : (low : List ℕ) (xs ys : List Entry) → Above sort low (xs ++ ys) → Above sort low xs
  above-left low [] ys a = tt
  above-left low (x ∷ xs) ys a = (a.0, above-left x.key xs ys a.1)

  pub above-right : (low : List ℕ) (xs ys : List Entry) → Above sort low (xs ++ ys) → Above sort (last_key low xs) ys
  above-right low [] ys a = a
  above-right low (x ∷ xs) ys a = above-right x.key xs ys a.1

  -- ---- through the whole table

  above-all : (low : List ℕ) (es : List Entry) → Above sort low es → Every (λ y. T ((rule_as sort).below low y.key)) es
  above-all low [] a = tt
  above-all low (e ∷ es) a =
      (a.0, every-so (λ y. T ((rule_as sort).below e.key y.key)) (λ y. (sort-ordered sort).trans low e.key y.key a.0) es (above-all e.key es a.1))

  pub above-rising : (low : List ℕ) (es : List Entry) → Above sort low es → Rising (rule_as sort) es
  above-rising low [] a = tt
  above-rising low (e ∷ es) a = (above-all e.key es a.1, above-rising e.key es a.1)

  rising-above : (low : List ℕ) (es : List Entry) → Every (λ y. T ((rule_as sort).below low y.key)) es → Rising (rule_as sort) es → Above sort low es
  rising-above low [] h r = tt
  rising-above low (e ∷ es) h r = (h.0, rising-above e.key es r.0 r.1)

  -- ---- an entry's key and value

  pub fits-key : (k : List ℕ) (v : ℕ) → T (fits sort k v) → T ((rule_as sort).allowed k)
  fits-key k v h = (and_both (leb v 65535) ((rule_as sort).allowed k) h).1

  pub fits-value : (k : List ℕ) (v : ℕ) → T (fits sort k v) → v ≤ 65535
  fits-value k v h = leb→le v 65535 (and_both (leb v 65535) ((rule_as sort).allowed k) h).0

  pub both-fit : (k : List ℕ) (v : ℕ) → T ((rule_as sort).allowed k) → v ≤ 65535 → T (fits sort k v)
  both-fit k v a b = both-and (leb v 65535) ((rule_as sort).allowed k) (le→leb v 65535 b) a

  pub every-fits : (es : List Entry) → Every (λ e. T ((rule_as sort).allowed e.key)) es → Every (λ e. length e.value ≤ 65535) es
      → Every (λ e. T (fits sort e.key (length e.value))) es
  every-fits [] a b = tt
  every-fits (e ∷ es) a b = (both-fit e.key (length e.value) a.0 b.0, every-fits es a.1 b.1)

-- an allowed key is not empty
allowed-long : (sort : Sort) (k : List ℕ) → T ((rule_as sort).allowed k) → 1 ≤ length k
allowed-long Bytes k h = (within-is 1 65535 (length k) h).0
allowed-long Numbers k h = let e : length k ≡ 4 = eqb→eq (length k) 4 h in omega arith

pub rising-all : (sort : Sort) (es : List Entry) → Every (λ e. T ((rule_as sort).allowed e.key)) es → Rising (rule_as sort) es → Above sort [] es
rising-all sort es a r = rising-above sort [] es (every-so (λ e. T ((rule_as sort).allowed e.key)) (λ e h. below-some sort e.key (allowed-long sort e.key h)) es a) r
