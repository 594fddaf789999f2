-- The order of keys: the code compares as the rules of names and of keys do. The one place that ties the two.
use Prim.Native.Nat.{ℕ, ◌≤◌}
use native.Mathlib.Omega.{arith}
use mathlib.Core.Path.{◌≡◌, refl, ap, sym, subst}
use mathlib.Core.List.{List}
use lib.ListN.{length}
use lib.Dec.{T, eqb→eq}
use Rattle.blockfile.specs.Order.{KeyRule, within, all_within, name_rule, key_rule}
use Rattle.blockfile.proofs.Bools.{and_both, within-is}
use Rattle.laws.proofs.Orders.{Ordered, by-rule}
use Rattle.std.specs.declared.cmp.Ordering.TheVariants.{Less, Greater}
use Rattle.order.specs.declared.sort.Sort.TheVariants.{Bytes}
use Rattle.order.specs.Sorts.{table_sort, rule_as, order_as}
use Rattle.order.proofs.Sorts.{rule-as, sort-ordered, less-below, greater-below}
use Rattle.search.specs.Spans.{Sorts}

pub names-below : (k l : List ℕ) → name_rule.below k l ≡ (rule_as Bytes).below k l
unfolding name_rule
names-below k l = refl

pub names-some : (k : List ℕ) → T (name_rule.allowed k) → 1 ≤ length k
unfolding name_rule
names-some k h = (within-is 1 255 (length k) (and_both (within 1 255 (length k)) (all_within 0x21 0x7e k) h).0).0

abbrev pub names_sort : Sorts name_rule
names_sort = record { sort = Bytes; below = names-below; some = names-some }

pub keys-some : (name k : List ℕ) → T ((key_rule name).allowed k) → 1 ≤ length k
keys-some =
    by-rule (λ r. (k : List ℕ) → T (r.allowed k) → 1 ≤ length k) (λ k h. let e : length k ≡ 4 = eqb→eq (length k) 4 h in omega arith)
    (λ k h. (within-is 1 65535 (length k) h).0)

abbrev pub keys_sort : (name : List ℕ) → Sorts (key_rule name)
keys_sort name = record { sort = table_sort name; below = λ k l. ap (λ (r : KeyRule). r.below k l) (rule-as name); some = keys-some name }

module _ (r : KeyRule) (w : Sorts r) where
  pub sorts-ordered : Ordered r
  sorts-ordered =
      let o = sort-ordered w.sort in
      let to : (a b : List ℕ) → T (r.below a b) → T ((rule_as w.sort).below a b) = λ a b. subst T (w.below a b) in
      let from : (a b : List ℕ) → T ((rule_as w.sort).below a b) → T (r.below a b) = λ a b. subst T (sym (w.below a b)) in
      record {
        irrefl = λ k t. o.irrefl k (to k k t);
        trans = λ a b c t u. from a c (o.trans a b c (to a b t) (to b c u));
        total = λ a b s t. from b a (o.total a b s (λ u. t (from a b u)));
      }

  -- what the answer of a comparison says of the key j in the image and the key k that is sought
  module _ (j k : List ℕ) where
    pub less-under : order_as w.sort j k ≡ Less → T (r.below j k)
    less-under e = subst T (sym (w.below j k)) (less-below w.sort j k e)

    pub greater-over : order_as w.sort j k ≡ Greater → T (r.below k j)
    greater-over e = subst T (sym (w.below k j)) (greater-below w.sort j k e)
