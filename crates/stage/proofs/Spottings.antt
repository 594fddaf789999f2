-- The ways through `find_spot`: put and remove are changes at the spot.
use Prim.Native.Nat.{ℕ, ◌+◌, ◌-◌, ◌≤◌, ◌<◌}
use native.Mathlib.Omega.{arith}
use mathlib.Core.Path.{◌≡◌, refl, ap, sym, ◌∙◌, subst}
use mathlib.Core.List.{List, [], ◌∷◌, ◌++◌}
use mathlib.Core.Bool.{Bool, true, false, true≢false}
use mathlib.Core.Option.{none, some}
use lib.ListN.{length, take, drop, length-append}
use lib.Seq.{take_at, drop_at, drop-append-add}
use lib.Dec.{T}
use Rattle.std.specs.Prelude.{Ok, Err, is_ok}
use Rattle.std.specs.Int.{from_bool}
use Rattle.blockfile.specs.Bytes.{pg, be16, Every}
use Rattle.blockfile.specs.Layout.{Entry}
use Rattle.blockfile.specs.Order.{KeyRule, same, Rising, find, insert, erase}
use Rattle.blockfile.proofs.Bools.{so, same_refl}
use Rattle.blockfile.proofs.Every.{every-so}
use Rattle.laws.proofs.Orders.{Ordered}
use Rattle.laws.proofs.Middle.{rising-right, insert-middle, erase-middle}
use Rattle.pages.specs.Places.{Number}
use Rattle.entries.specs.declared.place.Sizes.{Sizes}
use Rattle.search.specs.Spans.{SpanOn, Before, Met, Passed, Ended}
use Rattle.search.proofs.Rules.{sorts-ordered}
use Rattle.search.proofs.Seeks.{span-size}
use Rattle.stage.specs.Changes.{spliced, Spotted}

-- the first part, what comes, and the rest without the first entries
splice-parts : (xs mid ys : List Entry) (n : ℕ) (drops adds : Bool) (e : Entry) → length xs ≡ n → length mid ≡ from_bool drops
    → spliced (record { index = n; drops = drops; adds = adds }) e (xs ++ (mid ++ ys)) ≡ xs ++ (take (from_bool adds) (e ∷ []) ++ ys)
unfolding spliced
splice-parts xs mid ys n d adds e l m =
    let drops : ℕ = from_bool d in
    let front : take n (xs ++ (mid ++ ys)) ≡ xs = take_at xs (mid ++ ys) n l in
    let sum : n + drops ≡ length xs + drops = omega arith in
    let back : drop (n + drops) (xs ++ (mid ++ ys)) ≡ ys = rw sum (drop-append-add xs (mid ++ ys) drops ∙ drop_at mid ys drops m) in
    rw (front, back)

-- es in three parts: keys below k, the entry with the key if there is one, keys above k
record Around (r : KeyRule) (k : List ℕ) (es : List Entry) (n : ℕ) (there : Bool) : Type 0 where
  lower : List Entry
  here : List Entry
  upper : List Entry
  under : Every (λ e. T (r.below e.key k)) lower
  over : Every (λ e. T (r.below k e.key)) upper
  all : es ≡ lower ++ (here ++ upper)
  lower_long : length lower ≡ n
  here_long : length here ≡ from_bool there
  puts : (v : List ℕ) → insert r k v here ≡ record { key = k; value = v } ∷ []
  drops : erase k here ≡ []

module _ {r : KeyRule} {k : List ℕ} {es : List Entry} {n : ℕ} {there : Bool} (o : Ordered r) (a : Around r k es n there) where
  put_is : (v : List ℕ) → insert r k v es ≡ spliced (record { index = n; drops = there; adds = true }) (record { key = k; value = v }) es
  put_is v =
      let e : Entry = record { key = k; value = v } in
      rw a.all
      (insert-middle r o k v a.lower a.here a.upper a.under a.over
      ∙ ap (λ (l : List Entry). a.lower ++ (l ++ a.upper)) (a.puts v)
      ∙ sym (splice-parts a.lower a.here a.upper n there true e a.lower_long a.here_long))

  remove-is : (e : Entry) → erase k es ≡ spliced (record { index = n; drops = there; adds = false }) e es
  remove-is e =
      rw a.all
      (erase-middle r o k a.lower a.here a.upper a.under a.over
      ∙ ap (λ (l : List Entry). a.lower ++ (l ++ a.upper)) a.drops
      ∙ sym (splice-parts a.lower a.here a.upper n there false e a.lower_long a.here_long))

  around-length : length es ≡ n + from_bool there + length a.upper
  around-length =
      ap length a.all ∙ length-append a.lower (a.here ++ a.upper) ∙ omega (arith, length-append a.here a.upper, a.lower_long, a.here_long)

  -- the spot is there or not
  module _ (w : length es < 65536) where
    around-found : there ≡ true → (v : List ℕ) × (find k es ≡ some v) → Spotted r k es (Ok n)
    around-found t f =
        record {
          inside = omega (arith, around-length, ap from_bool t);
          few = w;
          put = λ v. subst (λ (b : Bool). insert r k v es ≡ spliced (record { index = n; drops = b; adds = true }) (record { key = k; value = v }) es) t (put_is v);
          remove = λ e. subst (λ (b : Bool). erase k es ≡ spliced (record { index = n; drops = b; adds = false }) e es) t (remove-is e);
          found = λ i q. f;
          missing = λ i q. absurd (true≢false (ap is_ok q));
        }

    around-missing : there ≡ false → find k es ≡ none → Spotted r k es (Err n)
    around-missing t f =
        record {
          inside = omega (arith, around-length);
          few = w;
          put = λ v. subst (λ (b : Bool). insert r k v es ≡ spliced (record { index = n; drops = b; adds = true }) (record { key = k; value = v }) es) t (put_is v);
          remove = λ e. subst (λ (b : Bool). erase k es ≡ spliced (record { index = n; drops = b; adds = false }) e es) t (remove-is e);
          found = λ i q. absurd (true≢false (sym (ap is_ok q)));
          missing = λ i q. f;
        }

-- ---- from where the search stopped, `size` being the number of entries

module _ {img : List ℕ} {page : ℕ} (x : SpanOn img page) (k : List ℕ) (size : ℕ) (n : Number (be16 (pg img page) 18) 65536 size) where
  abbrev r : KeyRule
  r = x.rule

  abbrev es : List Entry
  es = x.linked.span.entries

  long : size ≡ length es
  long = n.is ∙ span-size x

  few : length es < 65536
  few = omega (arith, n.below, long)

  o : Ordered r
  o = sorts-ordered r x.there.order

  before-length : {rest : List Entry} (b : Before r k es rest) → length b.passed + length rest ≡ size
  before-length {rest} b = sym (length-append b.passed rest) ∙ sym (ap length b.all) ∙ sym long

  -- the keys behind those that were passed over rise
  rest-rising : {rest : List Entry} (b : Before r k es rest) → Rising r rest
  rest-rising {rest} b = rising-right r b.passed rest (subst (Rising r) b.all x.there.rising)

  pub spot-here : {g : Sizes} {left : ℕ} → Met img r k es g left → Spotted r k es (Ok (size - left))
  spot-here {g} {left} m =
      let e : Entry = m.entry in
      let t : same k e.key ≡ true = so (same k e.key) (subst (λ (j : List ℕ). T (same k j)) (sym m.same) (same_refl k)) in
      around-found o
      (record {
        lower = m.before.passed;
        here = e ∷ [];
        upper = m.more;
        under = m.before.under;
        over = subst (λ (j : List ℕ). Every (λ y. T (r.below j y.key)) m.more) m.same (rest-rising m.before).0;
        all = m.before.all;
        lower_long = omega (arith, m.count, before-length m.before);
        here_long = refl;
        puts = λ v. rw t;
        drops = rw t;
      })
      few refl (e.value, m.found)

  pub spot-above : {g : Sizes} {left : ℕ} → Passed img r k es g left → Spotted r k es (Err (size - left))
  spot-above {g} {left} m =
      let e : Entry = m.entry in
      around-missing o
      (record {
        lower = m.before.passed;
        here = [];
        upper = e ∷ m.more;
        under = m.before.under;
        over = (m.over, every-so (λ (y : Entry). T (r.below e.key y.key)) (λ y. o.trans k e.key y.key m.over) m.more (rest-rising m.before).0);
        all = m.before.all;
        lower_long = omega (arith, m.count, before-length m.before);
        here_long = refl;
        puts = λ v. refl;
        drops = refl;
      })
      few refl m.found

  pub spot-end : Ended r k es → Spotted r k es (Err size)
  spot-end m =
      around-missing o
      (record {
        lower = m.before.passed;
        here = [];
        upper = [];
        under = m.before.under;
        over = tt;
        all = m.before.all;
        lower_long = omega (arith, before-length m.before);
        here_long = refl;
        puts = λ v. refl;
        drops = refl;
      })
      few refl m.found

  -- the entries left are some of all
  pub here-left : {g : Sizes} {left : ℕ} → Met img r k es g left → left ≤ size
  here-left m = omega (arith, m.count, before-length m.before)

  pub above-left : {g : Sizes} {left : ℕ} → Passed img r k es g left → left ≤ size
  above-left m = omega (arith, m.count, before-length m.before)
