-- The table whose span at a place is rewritten: its columns, its entries, its rules.
use Prim.Native.Nat.{ℕ, zero, suc, ◌≤◌, ◌<◌, max}
use native.Mathlib.Omega.{arith}
use mathlib.Core.Path.{◌≡◌, refl, ap, ap₂, sym, ◌∙◌, subst}
use mathlib.Core.List.{List, [], ◌∷◌, ◌++◌, append_assoc}
use mathlib.Core.Option.{some}
use lib.ListN.{length, get_or, take, drop}
use lib.Seq.{take-suc}
use Rattle.blockfile.specs.Bytes.{Every, gather}
use Rattle.blockfile.specs.Layout.{Entry, Span, Tower, Column, Table, columns, spans_of, towers_of, tower_in, entries_of}
use Rattle.blockfile.specs.Order.{KeyRule, Within}
use Rattle.blockfile.specs.WellFormed.{TableOk}
use Rattle.blockfile.specs.Put.{Parts, parts, Shared, share, span_at, new_columns, set_span, with_span, with_columns, table_after}
use Rattle.blockfile.proofs.Every.{every-join, every-so}
use Rattle.laws.proofs.Places.{take-map, drop-map, every_take, every_drop, every-at, entries_in, entries_before, entries_after, column_at, spans-append, towers-append, entries-append}
use Rattle.laws.proofs.Columns.{TowerOk, ColumnOk, EntriesOk, first-ok, head_ok, rest_ok, table-ok}
use Rattle.laws.proofs.Splits.{Fits, parts-plain, plain-new}

-- ---- Columns

-- the head with its current height raised to h if lower
abbrev pub raised : (h : ℕ) → Tower → Tower
raised h w = record { page = w.page; max_height = w.max_height; height = max w.height h }

-- the table with its head raised
abbrev pub lifted : (h : ℕ) → Table → Table
lifted h t = record { root = t.root; span_size = t.span_size; first = t.first; head = raised h t.head; rest = t.rest }

-- a column with another span
abbrev pub refilled : Span → Column → Column
refilled s c = record { span = s; tower = c.tower }

-- a head not raised is the same
pub raised-none : (w : Tower) → raised 0 w ≡ w
raised-none w = let e : max w.height 0 ≡ w.height = omega arith in ap (λ (h : ℕ). record { page = w.page; max_height = w.max_height; height = h }) e

set-span : (i : ℕ) (s : Span) (cs : List Column) (d : Column) → i < length cs → set_span i s cs ≡ take i cs ++ refilled s (get_or cs i d) ∷ drop (suc i) cs
set-span i s [] d l = absurd (omega arith)
set-span zero s (c ∷ cs) d l = refl
set-span (suc i) s (c ∷ cs) d l = ap (λ (x : List Column). c ∷ x) (set-span i s cs d (omega arith))

-- the columns once the span at place i is another one
pub columns-span : (t : Table) (i : ℕ) (s : Span) → i < length (columns t)
    → columns (with_span i s t) ≡ take i (columns t) ++ refilled s (column_at t i) ∷ drop (suc i) (columns t)
columns-span t zero s l = refl
columns-span t (suc i) s l =
    ap (λ (x : List Column). record { span = t.first; tower = some t.head } ∷ x)
    (set-span i s t.rest (record { span = t.first; tower = some t.head }) (omega arith))

-- the columns once the columns cs are behind place i and the head is raised
pub columns-more : (t : Table) (i : ℕ) (cs : List Column) (h : ℕ)
    → columns (with_columns i cs h t) ≡ take (suc i) (columns (lifted h t)) ++ (cs ++ drop (suc i) (columns t))
columns-more t i cs h = refl

-- the other columns once the one at place i has another span and new ones behind it
set-around : (i : ℕ) (s : Span) (cs new : List Column) (d : Column) → i < length cs
    → take (suc i) (set_span i s cs) ++ (new ++ drop (suc i) (set_span i s cs)) ≡ take i cs ++ refilled s (get_or cs i d) ∷ (new ++ drop (suc i) cs)
set-around i s [] new d l = absurd (omega arith)
set-around zero s (c ∷ cs) new d l = refl
set-around (suc i) s (c ∷ cs) new d l = ap (λ (x : List Column). c ∷ x) (set-around i s cs new d (omega arith))

-- the span at place i once it is rewritten
abbrev pub span_after : Table → (i : ℕ) → Parts → Shared → Span
span_after t i p s = record { page = (span_at t i).page; conts = s.conts; entries = p.stay }

module _ (t : Table) (i : ℕ) (p : Parts) (s : Shared) (l : i < length (columns t)) where
  -- the columns before the place with the head raised, the one at the place with its new span, the new ones, those after it
  pub columns-after : columns (table_after t i p s)
      ≡ take i (columns (lifted p.height t)) ++ refilled (span_after t i p s) (column_at (lifted p.height t) i) ∷ (new_columns t p s ++ drop (suc i) (columns t))
  unfolding table_after
  columns-after = go i l (span_after t i p s)
    where
      go : (j : ℕ) → j < length (columns t) → (u : Span)
          → columns (with_columns j (new_columns t p s) p.height (with_span j u t))
          ≡ take j (columns (lifted p.height t)) ++ refilled u (column_at (lifted p.height t) j) ∷ (new_columns t p s ++ drop (suc j) (columns t))
      go zero l u = refl
      go (suc j) l u =
          ap (λ (x : List Column). record { span = t.first; tower = some (raised p.height t.head) } ∷ x)
          (set-around j u t.rest (new_columns t p s) (record { span = t.first; tower = some (raised p.height t.head) }) (omega arith))

-- raising the head changes no span
pub spans-lifted : (t : Table) (h i : ℕ) → spans_of (take i (columns (lifted h t))) ≡ take i (spans_of (columns t))
spans-lifted t h i = sym (take-map (λ c. c.span) i (columns (lifted h t)))

module _ (t : Table) (i : ℕ) (p : Parts) (s : Shared) (l : i < length (columns t)) where
  -- the spans before the place, the one there, the new one, those after it
  pub spans-after : spans_of (columns (table_after t i p s))
      ≡ take i (spans_of (columns t)) ++ span_after t i p s ∷ (spans_of (new_columns t p s) ++ drop (suc i) (spans_of (columns t)))
  spans-after =
      ap spans_of (columns-after t i p s l)
      ∙ spans-append (take i (columns (lifted p.height t))) (refilled (span_after t i p s) (column_at (lifted p.height t) i) ∷ (new_columns t p s ++ drop (suc i) (columns t)))
      ∙ ap₂ (λ (x y : List Span). x ++ span_after t i p s ∷ y) (spans-lifted t p.height i)
      (spans-append (new_columns t p s) (drop (suc i) (columns t)) ∙ ap (λ (x : List Span). spans_of (new_columns t p s) ++ x) (sym (drop-map (λ c. c.span) (suc i) (columns t))))

-- the towers: those up to the place with the head raised, the new one, those after it
pub towers-after : (t : Table) (i : ℕ) (p : Parts) (s : Shared) → i < length (columns t)
    → towers_of (columns (table_after t i p s)) ≡ towers_of (take (suc i) (columns (lifted p.height t))) ++ (towers_of (new_columns t p s) ++ towers_of (drop (suc i) (columns t)))
towers-after t i p s l =
    let c : Column = column_at (lifted p.height t) i in
    let a : List Column = take i (columns (lifted p.height t)) in
    let b : List Column = new_columns t p s ++ drop (suc i) (columns t) in
    ap towers_of (columns-after t i p s l) ∙ towers-append a (refilled (span_after t i p s) c ∷ b) ∙ sym (towers-append a (c ∷ b))
    ∙ ap towers_of (sym (append_assoc a (c ∷ []) b)) ∙ ap (λ (x : List Column). towers_of (x ++ b)) (sym (take-suc (columns (lifted p.height t)) i d l))
    ∙ towers-append (take (suc i) (columns (lifted p.height t))) b
    ∙ ap (λ (x : List Tower). towers_of (take (suc i) (columns (lifted p.height t))) ++ x) (towers-append (new_columns t p s) (drop (suc i) (columns t)))
  where
    d : Column
    d = record { span = t.first; tower = some (raised p.height t.head) }

-- with at most max keys: only the span at the place is another one, and the head is the same
pub columns-plain : (t : Table) (i : ℕ) (es : List Entry) (ps : List ℕ) → i < length (columns t) → length es ≤ t.span_size
    → columns (table_after t i (parts t es) (share (parts t es) ps))
    ≡ take i (columns t) ++ refilled (record { page = (span_at t i).page; conts = (share (parts t es) ps).conts; entries = es }) (column_at t i) ∷ drop (suc i) (columns t)
columns-plain t i es ps l h =
    columns-after t i (parts t es) (share (parts t es) ps) l
    ∙ ap₂ (λ (u : Table) (p : Parts). take i (columns u) ++ refilled (span_after t i p (share (parts t es) ps)) (column_at u i) ∷ (new_columns t (parts t es) (share (parts t es) ps) ++ drop (suc i) (columns t)))
    (ap (λ (p : Parts). lifted p.height t) (parts-plain t es h) ∙ ap (λ (w : Tower). record { root = t.root; span_size = t.span_size; first = t.first; head = w; rest = t.rest }) (raised-none t.head))
    (parts-plain t es h)
    ∙ ap (λ (x : List Column). take i (columns t) ++ refilled (record { page = (span_at t i).page; conts = (share (parts t es) ps).conts; entries = es }) (column_at t i) ∷ (x ++ drop (suc i) (columns t)))
    (plain-new t es h ps)

-- ---- What stays the same

-- the same skip-list page, span size, pages of the first span and of the head, and max height
pub record Kept (t u : Table) : Type 0 where
  pub root : u.root ≡ t.root
  pub span_size : u.span_size ≡ t.span_size
  pub first_page : u.first.page ≡ t.first.page
  pub head_page : u.head.page ≡ t.head.page
  pub max_height : u.head.max_height ≡ t.head.max_height

module _ (t : Table) (p : Parts) (s : Shared) where
  -- they stay the same in a table with a span rewritten
  pub kept-after : (i : ℕ) → Kept t (table_after t i p s)
  unfolding table_after span_at
  kept-after zero = record { root = refl; span_size = refl; first_page = refl; head_page = refl; max_height = refl }
  kept-after (suc i) = record { root = refl; span_size = refl; first_page = refl; head_page = refl; max_height = refl }

  -- the head is raised to the height of the new tower
  pub head-after : (i : ℕ) → (table_after t i p s).head ≡ raised p.height t.head
  unfolding table_after
  head-after zero = refl
  head-after (suc i) = refl

-- ---- Entries and rules

module _ (t : Table) (i : ℕ) (p : Parts) (s : Shared) (l : i < length (columns t)) (f : Fits t p s) where
  -- the entries before the place, those that stay, those that move, those after it
  pub entries-after : entries_of (table_after t i p s) ≡ entries_before t i ++ ((p.stay ++ p.move) ++ entries_after t i)
  entries-after =
      ap entries_in (columns-after t i p s l)
      ∙ entries-append (take i (columns (lifted p.height t))) (refilled (span_after t i p s) (column_at (lifted p.height t) i) ∷ (new_columns t p s ++ drop (suc i) (columns t)))
      ∙ ap₂ (λ (x y : List Entry). x ++ (p.stay ++ y)) front (entries-append (new_columns t p s) (drop (suc i) (columns t)) ∙ ap (λ (x : List Entry). x ++ entries_after t i) f.moved)
      ∙ ap (λ (x : List Entry). entries_before t i ++ x) (sym (append_assoc p.stay p.move (entries_after t i)))
    where
      front : entries_in (take i (columns (lifted p.height t))) ≡ entries_before t i
      front = ap (gather (λ u. u.entries)) (spans-lifted t p.height i ∙ take-map (λ c. c.span) i (columns t))

-- the rules of columns, under a higher head
higher : (z h k : ℕ) → h ≤ k → (cs : List Column) → Every (ColumnOk z h) cs → Every (ColumnOk z k) cs
higher z h k l cs e = every-so (ColumnOk z h) up cs e
  where
    up : (c : Column) → ColumnOk z h c → ColumnOk z k c
    up c o =
        record {
          span = o.span;
          filled = o.filled;
          towers = o.towers;
          heights = every-so (λ (w : Tower). Within 1 h w.height) (λ w a. omega arith) (tower_in c.tower) o.heights;
        }

module _ (r : KeyRule) (t : Table) (ok : TableOk r t) (p : Parts) (s : Shared) (f : Fits t p s) where
  abbrev Good : Column → Type 0
  Good = ColumnOk t.span_size (max t.head.height p.height)

  head-fits : TowerOk (raised p.height t.head)
  head-fits = let w : TowerOk t.head = head_ok r t ok in (w.0, omega (arith, f.low))

  others : Every Good t.rest
  others = higher t.span_size t.head.height (max t.head.height p.height) (omega arith) t.rest (rest_ok r t ok)

  -- a table with a span rewritten keeps the rules, if its entries do and no span but the first is left empty
  pub after-ok : (i : ℕ) → i < length (columns t) → (1 ≤ i → 1 ≤ length p.stay) → EntriesOk r (entries_of (table_after t i p s)) → TableOk r (table_after t i p s)
  unfolding table_after
  after-ok zero l n e =
      table-ok r (table_after t zero p s) ok.span_size (record { size = f.size; reach = f.reach }) head-fits
      (every-join Good (new_columns t p s) t.rest f.new others) e
  after-ok (suc i) l n e =
      table-ok r (table_after t (suc i) p s) ok.span_size (first-ok r t ok) head-fits
      (subst (Every Good) (sym (set-around i (span_after t (suc i) p s) t.rest (new_columns t p s) d (omega arith)))
      (every-join Good (take i t.rest) (refilled (span_after t (suc i) p s) (get_or t.rest i d) ∷ (new_columns t p s ++ drop (suc i) t.rest))
      (every_take Good i t.rest others)
      (again, every-join Good (new_columns t p s) (drop (suc i) t.rest) f.new (every_drop Good (suc i) t.rest others)))) e
    where
      d : Column
      d = record { span = t.first; tower = some t.head }

      again : Good (refilled (span_after t (suc i) p s) (get_or t.rest i d))
      again =
          let g : Good (get_or t.rest i d) = every-at Good i d t.rest (omega arith) others in
          record { span = record { size = f.size; reach = f.reach }; filled = n (omega arith); towers = g.towers; heights = g.heights }
