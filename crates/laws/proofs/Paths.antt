-- The spans behind the first are cut in two by a key: those up to there begin at it or below it (or strictly below it), no other does. So
-- the towers passed are the last ones of the columns up to the cut, and the search by towers ends at the target.
use Prim.Native.Nat.{ℕ, zero, suc, ◌+◌, ◌-◌, ◌≤◌, ◌<◌}
use native.Mathlib.Omega.{arith}
use mathlib.Core.Path.{◌≡◌, refl, ap, sym, ◌∙◌, subst}
use mathlib.Core.Bool.{Bool, true, false, not, cond, true≢false}
use mathlib.Core.List.{List, [], ◌∷◌, ◌++◌}
use mathlib.Core.Option.{Option, none, some}
use lib.ListN.{length, get_or, take, drop, length-map, length-drop, take-append-drop}
use lib.Seq.{drop-cons, get_or-take, get_or-drop, length-take-le}
use lib.Dec.{T}
use borrow.Author.Tests.{not-false}
use Rattle.blockfile.specs.Bytes.{Every}
use Rattle.blockfile.specs.Layout.{Entry, Span, Tower, Column, Table, columns, spans_of, towers_of, tower_in}
use Rattle.blockfile.specs.Order.{KeyRule, Rising}
use Rattle.blockfile.specs.WellFormed.{TableOk}
use Rattle.blockfile.specs.Put.{begins, last_place, target, span_at, last_at}
use Rattle.blockfile.specs.Path.{towers_where, passed, begins_below, begun, towered, last_tower, walk_from, by_towers}
use Rattle.blockfile.proofs.Bools.{holds, so, not_so}
use Rattle.blockfile.proofs.Every.{every-right}
use Rattle.laws.proofs.Orders.{Ordered}
use Rattle.laws.proofs.Middle.{rising-right}
use Rattle.laws.proofs.Places.{every-at, entries_in}
use Rattle.laws.proofs.Targets.{entries_from, Filled}

-- ---- The cut

-- the first n spans begin so, the others do not
pub record Cut (so : List Entry → Bool) (ss : List Span) (n : ℕ) : Type 0 where
  pub most : n ≤ length ss
  pub before : Every (λ s. so s.entries ≡ true) (take n ss)
  pub behind : Every (λ s. so s.entries ≡ false) (drop n ss)

cut-first : {so : List Entry → Bool} (s : Span) {ss : List Span} {n : ℕ} → so s.entries ≡ true → Cut so ss n → Cut so (s ∷ ss) (suc n)
cut-first s e c = record { most = omega (arith, c.most); before = (e, c.before); behind = c.behind }

-- at a place
pub cut-begun : {so : List Entry → Bool} (ss : List Span) (n : ℕ) (d : Span) → Cut so ss n → (i : ℕ) → i < n → so (get_or ss i d).entries ≡ true
cut-begun {so} ss n d c i l =
    ap (λ (s : Span). so s.entries) (sym (get_or-take n ss i d l))
    ∙ every-at (λ (s : Span). so s.entries ≡ true) i d (take n ss) (omega (arith, length-take-le n ss c.most)) c.before

pub cut_later : {so : List Entry → Bool} (ss : List Span) (n : ℕ) (d : Span) → Cut so ss n → (i : ℕ) → n ≤ i → i < length ss → so (get_or ss i d).entries ≡ false
cut_later {so} ss n d c i l h =
    let sum : n + (i - n) ≡ i = omega arith in
    ap (λ (j : ℕ). so (get_or ss j d).entries) (sym sum) ∙ ap (λ (s : Span). so s.entries) (sym (get_or-drop n ss (i - n) d))
    ∙ every-at (λ (s : Span). so s.entries ≡ false) (i - n) d (drop n ss) (omega (arith, length-drop n ss)) c.behind

-- without the first ones
pub cut-drop : {so : List Entry → Bool} (i : ℕ) (ss : List Span) (n : ℕ) → i ≤ n → Cut so ss n → Cut so (drop i ss) (n - i)
cut-drop zero ss n l c = let z : n ≡ n - 0 = omega arith in subst (Cut _ ss) z c
cut-drop (suc i) [] n l c = absurd (omega (arith, c.most))
cut-drop (suc i) (s ∷ ss) zero l c = absurd (omega arith)
cut-drop {so} (suc i) (s ∷ ss) (suc n) l c =
    let e : n - i ≡ suc n - suc i = omega arith in
    subst (Cut so (drop i ss)) e (cut-drop i ss n (omega arith) (record { most = omega (arith, c.most); before = c.before.1; behind = c.behind }))

-- the first key of the entries is this one
abbrev pub BeginsWith : (key : List ℕ) → List Entry → Type 0
BeginsWith k [] = ⊥
BeginsWith k (e ∷ es) = e.key ≡ k

module _ (r : KeyRule) (o : Ordered r) (k : List ℕ) where
  -- a span that does not begin so has none behind it that does
  above-not : (strict : Bool) (e f : Entry) (es fs : List Entry) → T (r.below e.key f.key) → begun strict r k (e ∷ es) ≡ false → begun strict r k (f ∷ fs) ≡ false
  above-not true e f es fs l b =
      not_so (r.below f.key k) (λ t. true≢false (sym (so (r.below e.key k) (o.trans e.key f.key k l t)) ∙ b))
  above-not false e f es fs l b =
      ap not (so (r.below k f.key) (o.trans k e.key f.key (holds (r.below k e.key) (not-false (r.below k e.key) b)) l))

  later-not : (strict : Bool) (e : Entry) (es : List Entry) (ss : List Span) → Filled ss → Every (λ y. T (r.below e.key y.key)) (entries_from ss) → begun strict r k (e ∷ es) ≡ false
      → Every (λ s. begun strict r k s.entries ≡ false) ss
  later-not strict e es [] f l b = tt
  later-not strict e es (s ∷ ss) f l b =
      (go s.entries f.0 l, later-not strict e es ss f.1 (every-right (λ (y : Entry). T (r.below e.key y.key)) s.entries (entries_from ss) l) b)
    where
      go : (fs : List Entry) → 1 ≤ length fs → Every (λ y. T (r.below e.key y.key)) (fs ++ entries_from ss) → begun strict r k fs ≡ false
      go [] n l = absurd (omega arith)
      go (x ∷ fs) n l = above-not strict e x es fs l.0 b

  pub cut_of : (strict : Bool) (ss : List Span) → Filled ss → Rising r (entries_from ss) → (n : ℕ) × Cut (begun strict r k) ss n
  cut_of strict [] f h = (0, record { most = omega arith; before = tt; behind = tt })
  cut_of strict (s ∷ ss) f h = go (begun strict r k s.entries) refl (cut_of strict ss f.1 (rising-right r s.entries (entries_from ss) h))
    where
      none : (es : List Entry) → 1 ≤ length es → begun strict r k es ≡ false → Rising r (es ++ entries_from ss) → Every (λ s. begun strict r k s.entries ≡ false) ss
      none [] n b h = absurd (omega arith)
      none (e ∷ es) n b h = later-not strict e es ss f.1 (every-right (λ (y : Entry). T (r.below e.key y.key)) es (entries_from ss) h.0) b

      go : (b : Bool) → begun strict r k s.entries ≡ b → (n : ℕ) × Cut (begun strict r k) ss n → (n : ℕ) × Cut (begun strict r k) (s ∷ ss) n
      go true e c = (suc c.0, cut-first s e c.1)
      go false e c = (0, record { most = omega arith; before = tt; behind = (e, none s.entries f.0 e h) })

  -- at a span whose first key is the key, the strict cut is before it
  below-here : (e : Entry) (xs : List Span) (s : Span) (bs : List Span) → BeginsWith k s.entries → Every (λ y. T (r.below e.key y.key)) (entries_from (xs ++ s ∷ bs)) → T (r.below e.key k)
  below-here e [] s bs h l = go s.entries h l
    where
      go : (es : List Entry) → BeginsWith k es → Every (λ y. T (r.below e.key y.key)) (es ++ entries_from bs) → T (r.below e.key k)
      go [] h l = absurd h
      go (x ∷ es) h l = subst (λ (j : List ℕ). T (r.below e.key j)) h l.0
  below-here e (a ∷ xs) s bs h l = below-here e xs s bs h (every-right (λ (y : Entry). T (r.below e.key y.key)) a.entries (entries_from (xs ++ s ∷ bs)) l)

  cut-before : (xs : List Span) (s : Span) (bs : List Span) → Filled (xs ++ s ∷ bs) → Rising r (entries_from (xs ++ s ∷ bs)) → BeginsWith k s.entries → Cut (begins_below r k) (xs ++ s ∷ bs) (length xs)
  cut-before [] s bs f h b = record { most = omega arith; before = tt; behind = go s.entries b h }
    where
      go : (es : List Entry) → BeginsWith k es → Rising r (es ++ entries_from bs) → (begins_below r k es ≡ false) × Every (λ s. begins_below r k s.entries ≡ false) bs
      go [] b h = absurd b
      go (e ∷ es) b h =
          let n : r.below e.key k ≡ false = not_so (r.below e.key k) (λ t. o.irrefl k (subst (λ (j : List ℕ). T (r.below j k)) b t)) in
          (n, later-not true e es bs f.1 (every-right (λ (y : Entry). T (r.below e.key y.key)) es (entries_from bs) h.0) n)
  cut-before (a ∷ xs) s bs f h b =
      cut-first a (go a.entries f.0 h) (cut-before xs s bs f.1 (rising-right r a.entries (entries_from (xs ++ s ∷ bs)) h) b)
    where
      go : (es : List Entry) → 1 ≤ length es → Rising r (es ++ entries_from (xs ++ s ∷ bs)) → begins_below r k es ≡ true
      go [] n h = absurd (omega arith)
      go (e ∷ es) n h =
          so (r.below e.key k) (below-here e xs s bs b (every-right (λ (y : Entry). T (r.below e.key y.key)) es (entries_from (xs ++ s ∷ bs)) h.0))

  -- the strict cut is not behind the other
  cut-less : (ss : List Span) (n m : ℕ) → Cut (begins_below r k) ss n → Cut (begins r k) ss m → n ≤ m
  cut-less ss zero m c d = omega arith
  cut-less [] (suc n) m c d = absurd (omega (arith, c.most))
  cut-less (s ∷ ss) (suc n) zero c d = go s.entries c.before.0 d.behind.0
    where
      go : (es : List Entry) → begins_below r k es ≡ true → begins r k es ≡ false → suc n ≤ 0
      go [] b a = absurd (true≢false (sym b))
      go (e ∷ es) b a =
          absurd (o.irrefl k (o.trans k e.key k (holds (r.below k e.key) (not-false (r.below k e.key) a)) (holds (r.below e.key k) b)))
  cut-less (s ∷ ss) (suc n) (suc m) c d =
      omega (arith, cut-less ss n m (record { most = omega (arith, c.most); before = c.before.1; behind = c.behind }) (record { most = omega (arith, d.most); before = d.before.1; behind = d.behind }))

-- ---- The places up to the cut, in the text's definitions

module _ (r : KeyRule) (k : List ℕ) where
  pub last-behind : (found i : ℕ) (ss : List Span) → Every (λ s. begins r k s.entries ≡ false) ss → last_place r k found i ss ≡ found
  last-behind found i [] h = refl
  last-behind found i (s ∷ ss) h = rw h.0 (last-behind found (suc i) ss h.1)

  last-cut : (found : ℕ) (ss : List Span) (n : ℕ) → Cut (begins r k) ss n → last_place r k found (suc found) ss ≡ found + n
  last-cut found ss zero c = last-behind found (suc found) ss c.behind ∙ omega arith
  last-cut found [] (suc n) c = absurd (omega (arith, c.most))
  last-cut found (s ∷ ss) (suc n) c =
      rw c.before.0 (last-cut (suc found) ss n (record { most = omega (arith, c.most); before = c.before.1; behind = c.behind }) ∙ omega arith)

  cut-target : (t : Table) (n : ℕ) → Cut (begins r k) (spans_of t.rest) n → target r k t ≡ n
  unfolding target
  cut-target t n c = ap (λ (f : ℕ). last_place r k f 1 (spans_of t.rest)) (go (begins r k t.first.entries)) ∙ last-cut 0 (spans_of t.rest) n c ∙ omega arith
    where
      go : (b : Bool) → ◌≡◌ {A = ℕ} (cond b 0 0) 0
      go true = refl
      go false = refl

  no-tower : (found i : ℕ) (cs : List Column) → Every (λ s. begins r k s.entries ≡ false) (spans_of cs) → last_tower r k found i cs ≡ found
  no-tower found i [] h = refl
  no-tower found i (c ∷ cs) h = rw h.0 (no-tower found (suc i) cs h.1)

  tower-most : (found i n b : ℕ) (cs : List Column) → Cut (begins r k) (spans_of cs) n → found ≤ b → i + n ≤ suc b → last_tower r k found i cs ≤ b
  tower-most found i zero b cs x l m = omega (arith, no-tower found i cs x.behind)
  tower-most found i (suc n) b [] x l m = absurd (omega (arith, x.most))
  tower-most found i (suc n) b (c ∷ cs) x l m =
      rw x.before.0
      (tower-most (towered i found c.tower) (suc i) n b cs (record { most = omega (arith, x.most); before = x.before.1; behind = x.behind }) (go c.tower) (omega arith))
    where
      go : (w : Option Tower) → towered i found w ≤ b
      go none = l
      go (some w) = omega arith

  walk-cut : (i : ℕ) (ss : List Span) (n : ℕ) → Cut (begins r k) ss n → walk_from r k i ss ≡ i + n
  walk-cut i [] zero c = omega arith
  walk-cut i [] (suc n) c = absurd (omega (arith, c.most))
  walk-cut i (s ∷ ss) zero c = rw c.behind.0 (omega arith)
  walk-cut i (s ∷ ss) (suc n) c = rw c.before.0 (walk-cut (suc i) ss n (record { most = omega (arith, c.most); before = c.before.1; behind = c.behind }) ∙ omega arith)

  cut-by-towers : (t : Table) (n : ℕ) → Cut (begins r k) (spans_of t.rest) n → by_towers r k t ≡ n
  unfolding by_towers
  cut-by-towers t n c =
      let i : ℕ = last_tower r k 0 1 t.rest in
      let l : i ≤ n = tower-most 0 1 n n t.rest c (omega arith) (omega arith) in
      walk-cut i (drop i (spans_of t.rest)) (n - i) (cut-drop i (spans_of t.rest) n l c) ∙ omega (arith, l)

-- the towers passed are the last ones of the columns up to the cut
towers-cut : (so : List Entry → Bool) (cs : List Column) (n : ℕ) → Cut so (spans_of cs) n → towers_where so cs ≡ towers_of (take n cs)
towers-cut so [] zero x = refl
towers-cut so [] (suc n) x = refl
towers-cut so (c ∷ cs) zero x = rw x.behind.0 (towers-cut so cs zero (record { most = omega arith; before = tt; behind = x.behind.1 }))
towers-cut so (c ∷ cs) (suc n) x =
    rw x.before.0
    (ap (λ (ts : List Tower). tower_in c.tower ++ ts) (towers-cut so cs n (record { most = omega (arith, x.most); before = x.before.1; behind = x.behind })))

pub passed-cut : (so : List Entry → Bool) (t : Table) (n : ℕ) → Cut so (spans_of t.rest) n → (i : ℕ) → passed so t i ≡ last_at i t.head.page (towers_of (take n t.rest))
unfolding passed
passed-cut so t n c i = ap (last_at i t.head.page) (towers-cut so t.rest n c)

-- ---- Of a table

module _ (r : KeyRule) (o : Ordered r) (k : List ℕ) (t : Table) (ok : TableOk r t) where
  rest-rising : Rising r (entries_from (spans_of t.rest))
  rest-rising = rising-right r t.first.entries (entries_in t.rest) ok.rising

  pub table-cut : (strict : Bool) → (n : ℕ) × Cut (begun strict r k) (spans_of t.rest) n
  table-cut strict = cut_of r o k strict (spans_of t.rest) ok.filled rest-rising

  pub target-cut : Cut (begins r k) (spans_of t.rest) (target r k t)
  target-cut = let c = table-cut false in subst (Cut (begins r k) (spans_of t.rest)) (sym (cut-target r k t c.0 c.1)) c.1

  -- neither cut is behind the target
  pub cut_most : (strict : Bool) (n : ℕ) → Cut (begun strict r k) (spans_of t.rest) n → n ≤ target r k t
  cut_most true n c = cut-less r o k (spans_of t.rest) n (target r k t) c target-cut
  cut_most false n c = omega (arith, cut-target r k t n c)

  -- where the span at place j + 1 begins with the key, the strict cut is before it
  pub strict-cut : (j : ℕ) → suc j < length (columns t) → BeginsWith k (span_at t (suc j)).entries → Cut (begins_below r k) (spans_of t.rest) j
  unfolding span_at
  strict-cut j l b =
      let ss : List Span = spans_of t.rest in
      let many : length ss ≡ length t.rest = length-map t.rest (λ c. c.span) in
      let split : take j ss ++ (get_or ss j t.first ∷ drop (suc j) ss) ≡ ss
      = ap (λ (x : List Span). take j ss ++ x) (sym (drop-cons ss j t.first (omega (arith, many)))) ∙ take-append-drop j ss in
      subst (λ (n : ℕ). Cut (begins_below r k) ss n) (length-take-le j ss (omega (arith, many)))
      (subst (λ (x : List Span). Cut (begins_below r k) x (length (take j ss))) split
      (cut-before r o k (take j ss) (get_or ss j t.first) (drop (suc j) ss) (subst Filled (sym split) ok.filled)
      (subst (λ (x : List Span). Rising r (entries_from x)) (sym split) rest-rising) b))

  -- the search by towers ends at the target
  pub same_place : by_towers r k t ≡ target r k t
  same_place = cut-by-towers r k t (target r k t) target-cut
