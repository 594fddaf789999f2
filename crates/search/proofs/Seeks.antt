-- The ways through `seek` and the functions on one span.
use Prim.Native.Nat.{ℕ, ◌+◌, ◌-◌, ◌≤◌}
use native.Mathlib.Omega.{arith}
use mathlib.Core.Path.{◌≡◌, refl, ap, sym, ◌∙◌, subst}
use mathlib.Core.Bool.{Bool, true, false, not, ◌||◌}
use mathlib.Core.List.{List, [], ◌∷◌, ◌++◌, append_assoc}
use mathlib.Core.Option.{Option as TextOption, none, some}
use lib.ListN.{length}
use lib.Dec.{T}
use Rattle.blockfile.specs.Bytes.{pg, be16, Every}
use Rattle.blockfile.specs.Layout.{Entry}
use Rattle.blockfile.specs.Order.{KeyRule, same, Rising, find, above}
use Rattle.blockfile.specs.Path.{begun}
use Rattle.blockfile.proofs.Bools.{so, not_so, same_refl}
use Rattle.blockfile.proofs.Every.{every-so, every-join}
use Rattle.laws.proofs.Orders.{Ordered}
use Rattle.laws.proofs.Maps.{find-low}
use Rattle.laws.proofs.Middle.{under-differs, under-not-over}
use Rattle.pages.specs.Places.{Inside}
use Rattle.std.specs.declared.cmp.Ordering.{Ordering}
use Rattle.std.specs.declared.cmp.Ordering.TheVariants.{Less, Equal, Greater}
use Rattle.order.specs.declared.sort.Sort.{Sort}
use Rattle.order.specs.Sorts.{order_as}
use Rattle.order.proofs.Sorts.{equal-same, some_below}
use Rattle.entries.specs.declared.place.Place.{Place}
use Rattle.entries.specs.declared.place.Sizes.{Sizes}
use Rattle.entries.specs.Places.{Moved, Measured}
use Rattle.entries.specs.Sorted.{ComparedAs}
use Rattle.std.specs.Prelude.{Option, Some, None}
use Rattle.std.proofs.lemmas.Option.{none-some, same_Some}
use Rattle.search.specs.declared.span.Extent.{Extent}
use Rattle.search.specs.declared.span.Stop.{Stop}
use Rattle.search.specs.declared.span.Stop.TheVariants.{Here, Above, End}
use Rattle.search.specs.Spans.{Sorts, SpanOn, BytesAt, Along, EntryThere, EntryAt, Answered, Before, Met, Passed, Ended, Stopped, KeyOf}
use Rattle.search.proofs.Rules.{sorts-ordered, less-under, greater-over}
use Rattle.search.proofs.Entries.{bytes-key, along-entry, span-along}

-- ---- Answers

pub answer-found : {img : List ℕ} {o : TextOption (List ℕ)} {x : Extent} (v : List ℕ) → o ≡ some v → BytesAt img x.at x.length v → Answered img o (Some x)
answer-found {img} {o} {x} v e b =
    record {
      found = λ y q. (v, e, subst (λ (i : Extent). BytesAt img i.at i.length v) (same_Some x y q) b);
      missing = λ q. absurd (none-some x (sym q));
    }

pub answer-none : {img : List ℕ} {o : TextOption (List ℕ)} → o ≡ none → Answered img o None
answer-none e = record { found = λ y q. absurd (none-some y q); missing = λ q. e }

pub answer-as : {img : List ℕ} {o u : TextOption (List ℕ)} {r : Option Extent} → u ≡ o → Answered img o r → Answered img u r
answer-as {img} {r = r} e a = subst (λ (x : TextOption (List ℕ)). Answered img x r) (sym e) a

stop-here : {img : List ℕ} {r : KeyRule} {k : List ℕ} {es : List Entry} {g : Sizes} {left : ℕ} → Met img r k es g left → Stopped img r k es (Here g left)
stop-here {img} {r} {k} {es} {g} {left} m =
    record {
      met = λ h n q. let x : g ≡ h = cc in let y : left ≡ n = cc in subst (λ (i : ℕ). Met img r k es h i) y (subst (λ (i : Sizes). Met img r k es i left) x m);
      passed = λ h n q. absurd (let z : ◌≡◌ {A = ℕ} 0 1 = cc in omega arith);
      end = λ q. absurd (let z : ◌≡◌ {A = ℕ} 0 1 = cc in omega arith);
    }

stop-above : {img : List ℕ} {r : KeyRule} {k : List ℕ} {es : List Entry} {g : Sizes} {left : ℕ} → Passed img r k es g left → Stopped img r k es (Above g left)
stop-above {img} {r} {k} {es} {g} {left} m =
    record {
      met = λ h n q. absurd (let z : ◌≡◌ {A = ℕ} 0 1 = cc in omega arith);
      passed = λ h n q. let x : g ≡ h = cc in let y : left ≡ n = cc in subst (λ (i : ℕ). Passed img r k es h i) y (subst (λ (i : Sizes). Passed img r k es i left) x m);
      end = λ q. absurd (let z : ◌≡◌ {A = ℕ} 0 1 = cc in omega arith);
    }

stop-end : {img : List ℕ} {r : KeyRule} {k : List ℕ} {es : List Entry} → Ended r k es → Stopped img r k es End
stop-end m =
    record {
      met = λ h n q. absurd (let z : ◌≡◌ {A = ℕ} 0 1 = cc in omega arith);
      passed = λ h n q. absurd (let z : ◌≡◌ {A = ℕ} 0 1 = cc in omega arith);
      end = λ q. m;
    }

-- ---- The first of rising entries against the key

module _ (r : KeyRule) (w : Sorts r) (k : List ℕ) (e : Entry) (es : List Entry) where
  o : Ordered r
  o = sorts-ordered r w

  -- a key of some bytes is not the empty one
  some_key : (j : List ℕ) → 1 ≤ length j → same j [] ≡ false
  some_key [] h = absurd (omega arith)
  some_key (x ∷ j) h = refl

  or-true : (a b : Bool) → T b → a || b ≡ true
  or-true true b t = refl
  or-true false b t = so b t

  module _ (u : T (r.below e.key k)) where
    find-on : find k (e ∷ es) ≡ find k es
    find-on = rw (under-differs r o k e.key u)

    above_on : above r k (e ∷ es) ≡ above r k es
    above_on = rw (some_key k (some_below w.sort e.key k (subst T (w.below e.key k) u)), under-not-over r o k e.key u)

  module _ (v : T (r.below k e.key)) (h : Rising r (e ∷ es)) where
    find-over : find k (e ∷ es) ≡ none
    find-over = find-low r o k (e ∷ es) (v, every-so (λ (y : Entry). T (r.below e.key y.key)) (λ y. o.trans k e.key y.key v) es h.0)

    above-over : above r k (e ∷ es) ≡ some e.key
    above-over = rw (or-true (same k []) (r.below k e.key) v)

  module _ (q : e.key ≡ k) (a : T (r.allowed e.key)) (h : Rising r (e ∷ es)) where
    find-same : find k (e ∷ es) ≡ some e.value
    find-same = rw (so (same k e.key) (subst (λ (j : List ℕ). T (same k j)) (sym q) (same_refl k)))

    -- all that follow are above the key
    above_more : (fs : List Entry) → Every (λ y. T (r.below e.key y.key)) fs → above r k fs ≡ above r [] fs
    above_more [] t = refl
    above_more (y ∷ fs) t = rw (or-true (same k []) (r.below k y.key) (subst (λ (j : List ℕ). T (r.below j y.key)) q t.0))

    above_same : above r k (e ∷ es) ≡ above r [] es
    above_same =
        let a1 : same k [] ≡ false = subst (λ (j : List ℕ). same j [] ≡ false) q (some_key e.key (w.some e.key a)) in
        let a2 : r.below k e.key ≡ false = not_so (r.below k e.key) (λ t. o.irrefl k (subst (λ (j : List ℕ). T (r.below k j)) q t)) in
        rw (a1, a2) (above_more es h.0)

-- ---- Rising entries from a place on

pub record Ahead (img : List ℕ) (r : KeyRule) (at : Place) (es : List Entry) : Type 0 where
  pub along : Along img at es
  pub keys : Every (λ e. T (r.allowed e.key)) es
  pub rising : Rising r es

module _ {img : List ℕ} {page : ℕ} (x : SpanOn img page) where
  pub span-ahead : Ahead img x.rule (record { page = page; offset = 20 }) x.linked.span.entries
  span-ahead =
      record {
        along = subst (λ (p : ℕ). Along img (record { page = p; offset = 20 }) x.linked.span.entries) x.at (span-along x.there);
        keys = x.there.keys;
        rising = x.there.rising;
      }

  pub span-size : be16 (pg img page) 18 ≡ length x.linked.span.entries
  span-size = subst (λ (p : ℕ). be16 (pg img p) 18 ≡ length x.linked.span.entries) x.at x.there.borne.0.size

  pub span-inside : (o n : ℕ) → o + n ≤ 1024 → Inside img page o n
  span-inside o n h =
      subst (λ (p : ℕ). Inside img p o n) x.at (record { small = x.there.small; low = x.there.borne.1.0.low; high = x.there.borne.1.0.high; fits = h })

-- ---- Entries passed over by the search

module _ {r : KeyRule} {k : List ℕ} {es : List Entry} where
  before-start : Before r k es es
  before-start = record { passed = []; under = tt; all = refl }

  before-next : {e : Entry} {more : List Entry} → T (r.below e.key k) → Before r k es (e ∷ more) → Before r k es more
  before-next {e} {more} u b =
      record {
        passed = b.passed ++ e ∷ [];
        under = every-join (λ (y : Entry). T (r.below y.key k)) b.passed (e ∷ []) b.under (u, tt);
        all = b.all ∙ sym (append_assoc b.passed (e ∷ []) more);
      }

-- ---- seek: the entries from the place on are left, and find and above go on in them

pub record Seeking (img : List ℕ) (r : KeyRule) (k : List ℕ) (es : List Entry) (at : Place) (left : ℕ) : Type 0 where
  pub rest : List Entry
  pub ahead : Ahead img r at rest
  pub count : left ≡ length rest
  pub before : Before r k es rest
  pub same : find k es ≡ find k rest
  pub next : above r k es ≡ above r k rest

-- with the first of them
pub record Opened (img : List ℕ) (r : KeyRule) (k : List ℕ) (es : List Entry) (at : Place) (left : ℕ) : Type 0 where
  pub first : Entry
  pub more : List Entry
  pub ahead : Ahead img r at (first ∷ more)
  pub count : left ≡ 1 + length more
  pub before : Before r k es (first ∷ more)
  pub same : find k es ≡ find k (first ∷ more)
  pub next : above r k es ≡ above r k (first ∷ more)

pub seeking-start : {img : List ℕ} {page : ℕ} (k : List ℕ) (left : ℕ) → left ≡ be16 (pg img page) 18 → (x : SpanOn img page)
    → Seeking img x.rule k x.linked.span.entries (record { page = page; offset = 20 }) left
seeking-start k left e x = record { rest = x.linked.span.entries; ahead = span-ahead x; count = e ∙ span-size x; before = before-start; same = refl; next = refl }

module _ {img : List ℕ} {r : KeyRule} {k : List ℕ} {es : List Entry} {at : Place} {left : ℕ} (s : Seeking img r k es at left) where
  pub seeking-end : left ≡ 0 → Stopped img r k es End
  seeking-end z = go s.rest s.count s.before s.same s.next
    where
      go : (rest : List Entry) → left ≡ length rest → Before r k es rest → find k es ≡ find k rest → above r k es ≡ above r k rest → Stopped img r k es End
      go [] c b f n = stop-end (record { before = b; found = f; next = n })
      go (e ∷ rest) c b f n = absurd (omega arith)

  pub seeking-open : (left ≡ 0 → ⊥) → Opened img r k es at left
  seeking-open z = go s.rest s.ahead s.count s.before s.same s.next
    where
      go : (rest : List Entry) → Ahead img r at rest → left ≡ length rest → Before r k es rest → find k es ≡ find k rest → above r k es ≡ above r k rest
          → Opened img r k es at left
      go [] a c b f n = absurd (z c)
      go (e ∷ rest) a c b f n = record { first = e; more = rest; ahead = a; count = omega arith; before = b; same = f; next = n }

module _ {img : List ℕ} {r : KeyRule} {k : List ℕ} {es : List Entry} {at : Place} {left : ℕ} (s : Opened img r k es at left) (g : Sizes) (m : Measured img at g) where
  pub opened-entry : EntryAt img g s.first s.more
  opened-entry = along-entry s.ahead.along g m

  module _ (w : Sorts r) {sort : Sort} (by : w.sort ≡ sort) (a : Ordering) (c : ComparedAs sort img g.after g.key k a) where
    compared : a ≡ order_as w.sort s.first.key k
    compared = c.is s.first.key (bytes-key opened-entry.key) ∙ ap (λ (i : Sort). order_as i s.first.key k) (sym by)

    pub seeking-next : a ≡ Less → (p : Place) → Moved img g.after (g.key + g.value) p → Seeking img r k es p (left - 1)
    seeking-next e p t =
        let u : T (r.below s.first.key k) = less-under r w s.first.key k (sym compared ∙ e) in
        record {
          rest = s.more;
          ahead = record { along = opened-entry.next p t; keys = s.ahead.keys.1; rising = s.ahead.rising.1 };
          count = omega (arith, s.count);
          before = before-next u s.before;
          same = s.same ∙ find-on r w k s.first s.more u;
          next = s.next ∙ above_on r w k s.first s.more u;
        }

    pub seeking-here : a ≡ Equal → Stopped img r k es (Here g left)
    seeking-here e =
        let q : s.first.key ≡ k = equal-same w.sort s.first.key k (sym compared ∙ e) in
        stop-here
        (record {
          entry = s.first;
          more = s.more;
          at = opened-entry;
          same = q;
          before = s.before;
          count = s.count;
          found = s.same ∙ find-same r w k s.first s.more q s.ahead.keys.0 s.ahead.rising;
          next = s.next ∙ above_same r w k s.first s.more q s.ahead.keys.0 s.ahead.rising;
        })

    pub seeking-above : a ≡ Greater → Stopped img r k es (Above g left)
    seeking-above e =
        let v : T (r.below k s.first.key) = greater-over r w s.first.key k (sym compared ∙ e) in
        stop-above
        (record {
          entry = s.first;
          more = s.more;
          at = opened-entry;
          over = v;
          before = s.before;
          count = s.count;
          found = s.same ∙ find-over r w k s.first s.more v s.ahead.rising;
          next = s.next ∙ above-over r w k s.first s.more v s.ahead.rising;
        })

-- ---- find_entry and key_above, from where seek stopped

module _ {img : List ℕ} {r : KeyRule} {k : List ℕ} {es : List Entry} {s : Stop} (h : Stopped img r k es s) where
  pub found_here : (g : Sizes) (left : ℕ) → s ≡ Here g left → (p : Place) → Moved img g.after g.key p → Answered img (find k es) (Some (record { at = p; length = g.value }))
  found_here g left e p t = let m : Met img r k es g left = h.met g left e in answer-found m.entry.value m.found (m.at.value p t)

  pub found-not-here : ((g : Sizes) (left : ℕ) → s ≡ Here g left → ⊥) → Answered img (find k es) None
  found-not-here other = go s refl
    where
      go : (t : Stop) → s ≡ t → Answered img (find k es) None
      go (Here g left) e = absurd (other g left e)
      go (Above g left) e = answer-none (h.passed g left e).found
      go End e = answer-none (h.end e).found

  pub next-above : (g : Sizes) (left : ℕ) → s ≡ Above g left → Answered img (above r k es) (Some (record { at = g.after; length = g.key }))
  next-above g left e = let m : Passed img r k es g left = h.passed g left e in answer-found m.entry.key m.next m.at.key

  pub next-end : s ≡ End → Answered img (above r k es) None
  next-end e = answer-none (h.end e).next

  module _ (g : Sizes) (left : ℕ) (e : s ≡ Here g left) where
    met : Met img r k es g left
    met = h.met g left e

    pub next_last : left ≡ 1 → Answered img (above r k es) None
    next_last l = go met.more met.count met.next
      where
        go : (more : List Entry) → left ≡ 1 + length more → above r k es ≡ above r [] more → Answered img (above r k es) None
        go [] c n = answer-none n
        go (y ∷ more) c n = absurd (omega arith)

    -- the entry after it
    record After (p : Place) : Type 0 where
      there : EntryThere img p
      next : above r k es ≡ some there.first.key

    after : (left ≡ 1 → ⊥) → (p : Place) → Moved img g.after (g.key + g.value) p → After p
    after l p t = go met.more met.count met.next (met.at.next p t)
      where
        go : (more : List Entry) → left ≡ 1 + length more → above r k es ≡ above r [] more → Along img p more → After p
        go [] c n a = absurd (l (omega arith))
        go (y ∷ more) c n a = record { there = record { first = y; more = more; along = a }; next = n }

    module _ (l : left ≡ 1 → ⊥) (p : Place) (t : Moved img g.after (g.key + g.value) p) where
      pub next-there : EntryThere img p
      next-there = (after l p t).there

      pub next-is : (a : Extent) → KeyOf img p a → Answered img (above r k es) (Some a)
      unfolding after next-there
      next-is a q = answer-as (after l p t).next (q.is next-there)

-- ---- key_of

pub key-of-is : {img : List ℕ} {at : Place} (g : Sizes) → Measured img at g → KeyOf img at (record { at = g.after; length = g.key })
key-of-is g m = record { is = λ x. answer-found x.first.key refl (along-entry x.along g m).key }

-- ---- begins_past

pub record First (es : List Entry) : Type 0 where
  pub first : Entry
  pub more : List Entry
  pub is : es ≡ first ∷ more

first-of : (es : List Entry) → (length es ≡ 0 → ⊥) → First es
first-of [] z = absurd (z refl)
first-of (e ∷ es) z = record { first = e; more = es; is = refl }

-- by the first key j: above the key, below it, or the key itself
module _ (r : KeyRule) (o : Ordered r) (k : List ℕ) (e : Entry) (es : List Entry) where
  over-greater : (b : Bool) → T (r.below k e.key) → true ≡ not (begun b r k (e ∷ es))
  over-greater true t = sym (ap not (under-not-over r o e.key k t))
  over-greater false t = sym (ap (λ (v : Bool). not (not v)) (so (r.below k e.key) t))

  over-less : (b : Bool) → T (r.below e.key k) → false ≡ not (begun b r k (e ∷ es))
  over-less true t = sym (ap not (so (r.below e.key k) t))
  over-less false t = sym (ap (λ (v : Bool). not (not v)) (under-not-over r o k e.key t))

  over_equal : (b : Bool) → e.key ≡ k → b ≡ not (begun b r k (e ∷ es))
  over_equal true q = sym (ap not (not_so (r.below e.key k) (λ t. o.irrefl k (subst (λ (i : List ℕ). T (r.below i k)) q t))))
  over_equal false q = sym (ap (λ (v : Bool). not (not v)) (not_so (r.below k e.key) (λ t. o.irrefl k (subst (λ (i : List ℕ). T (r.below k i)) q t))))

module _ {img : List ℕ} {page : ℕ} (x : SpanOn img page) where
  pub not-empty : (be16 (pg img page) 18 ≡ 0 → ⊥) → length x.linked.span.entries ≡ 0 → ⊥
  not-empty n z = n (span-size x ∙ z)

  module _ (z : length x.linked.span.entries ≡ 0 → ⊥) where
    opening : First x.linked.span.entries
    opening = first-of x.linked.span.entries z

    -- the first entry of a span that is not empty
    pub span-entry : EntryThere img (record { page = page; offset = 20 })
    span-entry =
        record {
          first = opening.first;
          more = opening.more;
          along = subst (Along img (record { page = page; offset = 20 })) opening.is (span-ahead x).along;
        }

    pub span-first : above x.rule [] x.linked.span.entries ≡ some span-entry.first.key
    unfolding span-entry opening
    span-first = ap (above x.rule []) opening.is

    module _ (k : List ℕ) (g : Sizes) (m : Measured img (record { page = page; offset = 20 }) g) {sort : Sort} (by : x.there.order.sort ≡ sort) (a : Ordering)
        (c : ComparedAs sort img g.after g.key k a) (b : Bool) where
      abbrev j : List ℕ
      j = opening.first.key

      abbrev ordered : Ordered x.rule
      ordered = sorts-ordered x.rule x.there.order

      compared-first : a ≡ order_as x.there.order.sort j k
      unfolding span-entry
      compared-first = c.is j (bytes-key (along-entry span-entry.along g m).key) ∙ ap (λ (i : Sort). order_as i j k) (sym by)

      from_first : (v : Bool) → v ≡ not (begun b x.rule k (opening.first ∷ opening.more)) → v ≡ not (begun b x.rule k x.linked.span.entries)
      from_first v e = e ∙ ap (λ (es : List Entry). not (begun b x.rule k es)) (sym opening.is)

      pub begins-greater : a ≡ Greater → true ≡ not (begun b x.rule k x.linked.span.entries)
      begins-greater e =
          from_first true (over-greater x.rule ordered k opening.first opening.more b (greater-over x.rule x.there.order j k (sym compared-first ∙ e)))

      pub begins-less : a ≡ Less → false ≡ not (begun b x.rule k x.linked.span.entries)
      begins-less e = from_first false (over-less x.rule ordered k opening.first opening.more b (less-under x.rule x.there.order j k (sym compared-first ∙ e)))

      pub begins-equal : a ≡ Equal → b ≡ not (begun b x.rule k x.linked.span.entries)
      begins-equal e = from_first b (over_equal x.rule ordered k opening.first opening.more b (equal-same x.there.order.sort j k (sym compared-first ∙ e)))
