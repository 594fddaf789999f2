-- The rules for a table, column by column.
use Prim.Native.Nat.{ℕ, ◌+◌, ◌<◌, ◌≤◌}
use mathlib.Core.Path.{◌≡◌, sym, subst}
use mathlib.Core.List.{List, [], ◌∷◌}
use lib.ListN.{length, length-map}
use lib.Dec.{T}
use Rattle.blockfile.specs.Bytes.{Every}
use Rattle.blockfile.specs.Layout.{Entry, Span, Tower, Column, Table, columns, spans_of, towers_of, tower_in, entries_of, reached}
use Rattle.blockfile.specs.Order.{KeyRule, Within, Rising, insert, erase}
use Rattle.blockfile.specs.WellFormed.{TableOk}
use Rattle.blockfile.specs.Put.{span_at}
use Rattle.blockfile.proofs.Every.{every-left, every-right, every-join}
use Rattle.laws.proofs.Orders.{Ordered}
use Rattle.laws.proofs.Maps.{insert-rising, erase-rising}
use Rattle.laws.proofs.Middle.{every-insert, every-erase}
use Rattle.laws.proofs.Places.{every-at}

-- size at most max keys, and as many continuation pages as the entries reach
pub record SpanOk (z : ℕ) (s : Span) : Type 0 where
  pub size : length s.entries ≤ z
  pub reach : 1 + length s.conts ≡ reached s.entries

-- max height 1 to 252, current at most max
abbrev pub TowerOk : Tower → Type 0
TowerOk w = Within 1 252 w.max_height × (w.height ≤ w.max_height)

-- a span that is not the first, with its tower; z is the span size, h the head's height
pub record ColumnOk (z h : ℕ) (c : Column) : Type 0 where
  pub span : SpanOk z c.span
  pub filled : 1 ≤ length c.span.entries
  pub towers : Every TowerOk (tower_in c.tower)
  pub heights : Every (λ w. Within 1 h w.height) (tower_in c.tower)

-- keys as the rule has them, values at most 65,535 bytes, keys rise
pub record EntriesOk (r : KeyRule) (es : List Entry) : Type 0 where
  pub keys : Every (λ e. T (r.allowed e.key)) es
  pub values : Every (λ e. length e.value ≤ 65535) es
  pub rising : Rising r es

-- ---- From the rules of a table, and back

-- what holds of columns by their rules holds of their spans and of their towers
every-span : (z h : ℕ) (R : Span → Type 0) → ((c : Column) → ColumnOk z h c → R c.span) → (cs : List Column) → Every (ColumnOk z h) cs → Every R (spans_of cs)
every-span z h R f [] k = tt
every-span z h R f (c ∷ cs) k = (f c k.0, every-span z h R f cs k.1)

every-tower : (z h : ℕ) (R : Tower → Type 0) → ((c : Column) → ColumnOk z h c → Every R (tower_in c.tower)) → (cs : List Column) → Every (ColumnOk z h) cs → Every R (towers_of cs)
every-tower z h R f [] k = tt
every-tower z h R f (c ∷ cs) k = every-join R (tower_in c.tower) (towers_of cs) (f c k.0) (every-tower z h R f cs k.1)

-- the columns of which the rules hold one by one
columns-ok : (z h : ℕ) (cs : List Column) → Every (λ s. length s.entries ≤ z) (spans_of cs) → Every (λ s. 1 ≤ length s.entries) (spans_of cs)
    → Every (λ s. 1 + length s.conts ≡ reached s.entries) (spans_of cs) → Every TowerOk (towers_of cs) → Every (λ w. Within 1 h w.height) (towers_of cs)
    → Every (ColumnOk z h) cs
columns-ok z h [] a b c d e = tt
columns-ok z h (x ∷ cs) a b c d e = (
  record {
    span = record { size = a.0; reach = c.0 };
    filled = b.0;
    towers = every-left TowerOk (tower_in x.tower) (towers_of cs) d;
    heights = every-left (λ (w : Tower). Within 1 h w.height) (tower_in x.tower) (towers_of cs) e;
  },
  columns-ok z h cs a.1 b.1 c.1 (every-right TowerOk (tower_in x.tower) (towers_of cs) d)
      (every-right (λ (w : Tower). Within 1 h w.height) (tower_in x.tower) (towers_of cs) e),
)

module _ (r : KeyRule) (t : Table) where
  -- of a table that keeps the rules, the first span
  pub first-ok : TableOk r t → SpanOk t.span_size t.first
  first-ok ok = record { size = ok.sizes.0; reach = ok.reach.0 }

  -- the head
  pub head_ok : TableOk r t → TowerOk t.head
  head_ok ok = ok.heights.0

  -- the other columns
  pub rest_ok : TableOk r t → Every (ColumnOk t.span_size t.head.height) t.rest
  rest_ok ok = columns-ok t.span_size t.head.height t.rest ok.sizes.1 ok.filled ok.reach.1 ok.heights.1 ok.others

  -- the entries
  pub entries-ok : TableOk r t → EntriesOk r (entries_of t)
  entries-ok ok = record { keys = ok.keys; values = ok.values; rising = ok.rising }

  -- a table whose parts keep the rules
  pub table-ok : Within 2 128 t.span_size → SpanOk t.span_size t.first → TowerOk t.head → Every (ColumnOk t.span_size t.head.height) t.rest → EntriesOk r (entries_of t)
      → TableOk r t
  table-ok z f w c e =
      record {
        span_size = z;
        sizes = (f.size, every-span t.span_size t.head.height (λ s. length s.entries ≤ t.span_size) (λ x k. k.span.size) t.rest c);
        filled = every-span t.span_size t.head.height (λ s. 1 ≤ length s.entries) (λ x k. k.filled) t.rest c;
        reach = (f.reach, every-span t.span_size t.head.height (λ s. 1 + length s.conts ≡ reached s.entries) (λ x k. k.span.reach) t.rest c);
        keys = e.keys;
        values = e.values;
        rising = e.rising;
        heights = (w, every-tower t.span_size t.head.height TowerOk (λ x k. k.towers) t.rest c);
        others = every-tower t.span_size t.head.height (λ w. Within 1 t.head.height w.height) (λ x k. k.heights) t.rest c;
      }

module _ (r : KeyRule) (t : Table) (ok : TableOk r t) (i : ℕ) (l : i < length (columns t)) where
  within-spans : i < length (spans_of (columns t))
  within-spans = subst (λ (n : ℕ). i < n) (sym (length-map (columns t) (λ c. c.span))) l

  -- the span at a place keeps the rules
  pub span-ok : SpanOk t.span_size (span_at t i)
  unfolding span_at
  span-ok =
      record {
        size = every-at (λ (s : Span). length s.entries ≤ t.span_size) i t.first (spans_of (columns t)) within-spans ok.sizes;
        reach = every-at (λ (s : Span). 1 + length s.conts ≡ reached s.entries) i t.first (spans_of (columns t)) within-spans ok.reach;
      }

-- ---- Entries after a put and after a remove

module _ (r : KeyRule) (o : Ordered r) (k : List ℕ) (es : List Entry) (ok : EntriesOk r es) where
  -- entries with an allowed key and a short value put
  pub insert-ok : (v : List ℕ) → T (r.allowed k) → length v ≤ 65535 → EntriesOk r (insert r k v es)
  insert-ok v a l =
      record {
        keys = every-insert (λ e. T (r.allowed e.key)) r k v es a ok.keys;
        values = every-insert (λ e. length e.value ≤ 65535) r k v es l ok.values;
        rising = insert-rising r o k v es ok.rising;
      }

  -- entries with a key dropped
  pub erase-ok : EntriesOk r (erase k es)
  erase-ok =
      record {
        keys = every-erase (λ e. T (r.allowed e.key)) k es ok.keys;
        values = every-erase (λ e. length e.value ≤ 65535) k es ok.values;
        rising = erase-rising r o k es ok.rising;
      }
