-- The spans and towers of a table that keeps the rules fit their pages, and so do its counts.
use Prim.Native.Nat.{ℕ, zero, suc, ◌+◌, ◌*◌, ◌≤◌}
use native.Mathlib.Omega.{arith}
use mathlib.Core.Path.{◌≡◌, refl, ap, sym, ◌∙◌, subst}
use mathlib.Core.Bool.{Bool, true, false, cond}
use mathlib.Core.Option.{Option, none, some}
use mathlib.Core.List.{List, [], ◌∷◌, ◌++◌, map}
use lib.ListN.{length, length-append, length-map}
use lib.Dec.{T, lit<, ltb, eqb→eq}
use Rattle.blockfile.specs.Bytes.{write, Every, gather, from, first_of}
use Rattle.blockfile.specs.Layout.{Entry, Span, Tower, Column, Table, Block, columns, spans_of, towers_of, tower_in, entries_of, reached}
use Rattle.blockfile.specs.Order.{KeyRule, name_rule, key_rule, Within, within, all_within}
use Rattle.blockfile.specs.Fields.{SkipList, LinkedSpan, LinkedTower}
use Rattle.blockfile.specs.WellFormed.{link_spans, next_at, link_towers, spans_in, towers_in, skip_list_of, TableOk}
use Rattle.blockfile.specs.Encode.{counts}
use Rattle.blockfile.specs.Put.{counts_on}
use Rattle.blockfile.proofs.Bools.{and_both, within-is}
use Rattle.blockfile.proofs.Every.{every-left, every-right, every-so}
use Rattle.laws.proofs.Orders.{by-rule}
use Rattle.laws.proofs.State.{Shows}
use Rattle.laws.proofs.Opens.{held}
use Rattle.laws.proofs.Edits.{counts-written}
use Rattle.laws.proofs.Encodes.{Small, SpanFits, TowerFits}
use Rattle.laws.proofs.Columns.{TowerOk}
use Rattle.laws.proofs.SpanLinks.{link-between, length-between}
use Rattle.laws.proofs.Relinks.{every-from}
use Rattle.laws.proofs.TableTowers.{recounted}
use Rattle.laws.proofs.Inside.{Word, spans-few}
use Rattle.laws.proofs.Turns.{Turns}

-- the keys that a rule allows are short
abbrev pub Short : KeyRule → Type 0
Short r = (k : List ℕ) → T (r.allowed k) → length k ≤ 65535

-- those of a table are
pub keys-short : (name : List ℕ) → Short (key_rule name)
keys-short name = by-rule Short (λ k h. let e : length k ≡ 4 = eqb→eq (length k) 4 h in omega arith) (λ k h. (within-is 1 65535 (length k) h).1) name

-- and so are names
pub names-short : Short name_rule
unfolding name_rule
names-short k h =
    let w : Within 1 255 (length k) = within-is 1 255 (length k) (and_both (within 1 255 (length k)) (all_within 0x21 0x7e k) h).0 in
    omega arith

-- the page numbers of a table's spans and towers are small
pub record SmallPages (t : Table) : Type 0 where
  pub spans : Every (λ s. Word s.page) (spans_of (columns t))
  pub towers : Every (λ w. Word w.page) (towers_of (columns t))

-- ---- Spans

first_word : (ss : List Span) → Every (λ s. Word s.page) ss → Word (first_of (map (λ x. x.page) ss))
first_word [] h = lit< tt
first_word (s ∷ ss) h = h.0

small-entries : (r : KeyRule) → Short r → (es : List Entry) → Every (λ e. T (r.allowed e.key)) es → Every (λ e. length e.value ≤ 65535) es → Small es
small-entries r f [] k v = tt
small-entries r f (e ∷ es) k v = ((f e.key k.0, v.0), small-entries r f es k.1 v.1)

link_fits : (r : KeyRule) → Short r → (z p : ℕ) → z ≤ 128 → Word p → (ss : List Span) → Every (λ s. Word s.page) ss
    → Every (λ s. length s.entries ≤ z) ss → Every (λ s. 1 + length s.conts ≡ reached s.entries) ss
    → Every (λ e. T (r.allowed e.key)) (gather (λ s. s.entries) ss) → Every (λ e. length e.value ≤ 65535) (gather (λ s. s.entries) ss)
    → Every SpanFits (link_spans z p ss)
link_fits r f z p l w [] pages sizes reach keys vals = tt
link_fits r f z p l w (s ∷ ss) pages sizes reach keys vals = (
  record {
    reach = reach.0;
    prev_small = w;
    next_small = first_word ss pages.1;
    keys_small = omega arith;
    size_small = omega (arith, sizes.0);
    entries_small =
        small-entries r f s.entries (every-left (λ (e : Entry). T (r.allowed e.key)) s.entries (gather (λ s. s.entries) ss) keys)
        (every-left (λ (e : Entry). length e.value ≤ 65535) s.entries (gather (λ s. s.entries) ss) vals);
  },
  link_fits r f z s.page l pages.0 ss pages.1 sizes.1 reach.1 (every-right (λ (e : Entry). T (r.allowed e.key)) s.entries (gather (λ s. s.entries) ss) keys)
      (every-right (λ (e : Entry). length e.value ≤ 65535) s.entries (gather (λ s. s.entries) ss) vals),
)

-- ---- Towers

next_word : (i : ℕ) (ts : List Tower) → Every (λ w. Word w.page) ts → Word (next_at i ts)
next_word i [] h = lit< tt
next_word i (t ∷ ts) h = go (ltb i t.height) (next_word i ts h.1)
  where
    go : (b : Bool) → Word (next_at i ts) → Word (cond b t.page (next_at i ts))
    go true k = h.0
    go false k = k

-- as many numbers as levels
pub length-levels : (f : ℕ → ℕ) (j n : ℕ) → length (map f (from j n)) ≡ n
length-levels f j zero = refl
length-levels f j (suc n) = ap suc (length-levels f (suc j) n)

tower-fits : (w : Tower) (q : ℕ) (ts : List Tower) → TowerOk w → Word q → Every (λ u. Word u.page) ts
    → TowerFits (record { tower = w; span_page = q; nexts = map (λ i. next_at i ts) (from 0 w.height) })
tower-fits w q ts o s h =
    record {
      max_small = omega (arith, o.0.1);
      height_small = omega (arith, o.0.1, o.1);
      span_small = s;
      few = rw length-levels (omega (arith, o.0.1, o.1));
      nexts_small = every-from Word (λ i. next_at i ts) 0 w.height (λ i l. next_word i ts h);
    }

link-towers-fit : (cs : List Column) → Every (λ s. Word s.page) (spans_of cs) → Every (λ w. Word w.page) (towers_of cs) → Every TowerOk (towers_of cs) → Every TowerFits (link_towers cs)
link-towers-fit [] s t o = tt
link-towers-fit (c ∷ cs) s t o = go c.tower t o (link-towers-fit cs s.1)
  where
    go : (w : Option Tower) → Every (λ w. Word w.page) (tower_in w ++ towers_of cs) → Every TowerOk (tower_in w ++ towers_of cs)
        → (Every (λ w. Word w.page) (towers_of cs) → Every TowerOk (towers_of cs) → Every TowerFits (link_towers cs))
        → Every TowerFits
        (map (λ t. record { tower = t; span_page = c.span.page; nexts = map (λ i. next_at i (towers_of cs)) (from 0 t.height) }) (tower_in w) ++ link_towers cs)
    go none t o ih = ih t o
    go (some w) t o ih = (tower-fits w c.span.page (towers_of cs) o.0 s.0 t.1, ih t.1 o.1)

module _ (r : KeyRule) (short : Short r) (t : Table) (ok : TableOk r t) (small : SmallPages t) where
  -- its spans fit
  pub spans_fit : Every SpanFits (spans_in t)
  spans_fit = link_fits r short t.span_size 0 ok.span_size.1 (lit< tt) (spans_of (columns t)) small.spans ok.sizes ok.reach ok.keys ok.values

  -- its towers fit
  pub towers-fit : Every TowerFits (towers_in t)
  towers-fit = link-towers-fit (columns t) small.spans small.towers ok.heights

-- no tower is higher than the head
pub others-low : (r : KeyRule) (t : Table) → TableOk r t → Every (λ w. w.height ≤ t.head.height) (towers_of t.rest)
others-low r t ok = every-so (λ (w : Tower). Within 1 t.head.height w.height) (λ w h. h.1) (towers_of t.rest) ok.others

-- ---- Counts

pub many-entries : (z : ℕ) → z ≤ 128 → (ss : List Span) → Every (λ s. length s.entries ≤ z) ss → length (gather (λ s. s.entries) ss) ≤ 128 * length ss
many-entries z l [] h = omega arith
many-entries z l (s ∷ ss) h = rw (length-append s.entries (gather (λ s. s.entries) ss)) (omega (arith, many-entries z l ss h.1, h.0))

-- a table has at most as many towers as spans
pub many-towers : (cs : List Column) → length (towers_of cs) ≤ length cs
many-towers [] = omega arith
many-towers (c ∷ cs) = go c.tower (many-towers cs)
  where
    go : (w : Option Tower) → length (towers_of cs) ≤ length cs → length (tower_in w ++ towers_of cs) ≤ suc (length cs)
    go none h = omega arith
    go (some w) h = omega arith

length-spans : (t : Table) → length (spans_in t) ≡ length (columns t)
length-spans t =
    ap length (link-between t.span_size 0 (spans_of (columns t))) ∙ length-between t.span_size 0 0 (spans_of (columns t)) ∙ length-map (columns t) (λ (c : Column). c.span)

part-few : {A : Type 0} (xs ys zs : List A) (n : ℕ) → length (xs ++ (ys ++ zs)) ≤ n → length ys ≤ n
part-few xs ys zs n h = omega (arith, length-append xs (ys ++ zs), length-append ys zs)

-- the counts of the table u are written over those of t
pub counts-turn : {p z : ℕ} {ts : List LinkedTower} {bs : List Block} {sp : List ℕ} (ks js : List SkipList) (xs ys : List LinkedSpan) (r : KeyRule) (t u : Table) → TableOk r u
    → skip_list_of u ≡ recounted (skip_list_of t) (length (entries_of u)) (length (columns u)) (length (towers_of (columns u)))
    → Turns p z (counts_on u ∷ []) (held (ks ++ skip_list_of t ∷ js) (xs ++ (spans_in u ++ ys)) ts bs sp) (held (ks ++ skip_list_of u ∷ js) (xs ++ (spans_in u ++ ys)) ts bs sp)
counts-turn {p} {z} {ts} {bs} {sp} ks js xs ys r t u ok e =
    record {
      turn = λ img s.
          let m : length (columns u) ≤ 4096 = omega (arith, part-few xs (spans_in u) ys 4096 (spans-few s), length-spans u) in
          let l : length (towers_of (columns u)) ≤ length (columns u) = many-towers (columns u) in
          let a : length (entries_of u) ≤ 128 * length (spans_of (columns u)) = many-entries u.span_size ok.span_size.1 (spans_of (columns u)) ok.sizes in
          let n : length (spans_of (columns u)) ≡ length (columns u) = length-map (columns u) (λ (c : Column). c.span) in
          subst (λ (k : SkipList). Shows p z (write img k.page 16 (counts k)) (held (ks ++ k ∷ js) (xs ++ (spans_in u ++ ys)) ts bs sp)) (sym e)
          (counts-written ks js (skip_list_of t) (length (entries_of u)) (length (columns u)) (length (towers_of (columns u)))
          (below (length (entries_of u)) (length (spans_of (columns u))) (length (columns u)) a n m) (omega arith) (omega arith) s);
    }
  where
    below : (a n m : ℕ) → a ≤ 128 * n → n ≡ m → m ≤ 4096 → Word a
    below a n m h e l = omega arith
