-- What is written when a span is rewritten, in the numbers that the code has at hand.
use Rattle.std.specs.Prelude.{ℕ, zero, suc, ◌+◌, ◌*◌, List, [], ◌∷◌, ◌++◌, map, cond, get_or, ltb}
use Rattle.blockfile.specs.Bytes.{Write, on, word16, word32, from}
use Rattle.blockfile.specs.Layout.{Entry}
use Rattle.blockfile.specs.Encode.{whole_span, whole_tower}
use Rattle.links.specs.Links.{levels_below, tower_as}

-- ---- Spans

-- a span that is rewritten: its page, the pages of the spans before it and behind it, 0 for none, and max keys; its continuation
-- pages and entries after the call; the entries that move to a new span
pub record Cut : Type 0 where
  pub page : ℕ
  pub prev : ℕ
  pub next : ℕ
  pub most : ℕ
  pub conts : List ℕ
  pub stay : List Entry
  pub move : List Entry

-- the span whole, with the span on page n behind it
abbrev pub stayed : Cut → (n : ℕ) → List Write
stayed c n = whole_span (record { span = record { page = c.page; conts = c.conts; entries = c.stay }; prev = c.prev; next = n; max_keys = c.most })

-- the new span whole, on page q with the continuation pages qs
abbrev pub moved : Cut → (q : ℕ) (qs : List ℕ) → List Write
moved c q qs = whole_span (record { span = record { page = q; conts = qs; entries = c.move }; prev = c.page; next = c.next; max_keys = c.most })

-- the previous link of the span on page n becomes q; 0 is no span
abbrev pub prev_on : (n q : ℕ) → List Write
prev_on zero q = []
prev_on (suc n) q = on (suc n) 8 (word32 q) ∷ []

-- the spans, where the new one has these pages, none without a split
abbrev pub span_writes : Cut → (pages : List ℕ) → List Write
span_writes c [] = stayed c c.next
span_writes c (q ∷ qs) = stayed c q ++ (moved c q qs ++ prev_on c.next q)

-- ---- Towers

-- a new tower: the head's page, current and max height; its own height and its span's page; at each level the page of the tower
-- before it, and of the one behind it, 0 for none
pub record Rise : Type 0 where
  pub head : ℕ
  pub top : ℕ
  pub max : ℕ
  pub height : ℕ
  pub span : ℕ
  pub before : List ℕ
  pub after : List ℕ

-- at each level below h, the entry of the tower on the page in `before` becomes n
abbrev pub links_on : (before : List ℕ) (n h : ℕ) → List Write
links_on before n h = map (λ l. on (get_or before l 0) (16 + 4 * l) (word32 n)) (from 0 h)

-- the tower, where it has these pages, none without a tower: it whole, the links to it, the head's current height where it rises
abbrev pub tower_writes : Rise → (pages : List ℕ) → List Write
tower_writes x [] = []
tower_writes x (n ∷ ns) =
    whole_tower (tower_as n x.max x.height x.span (levels_below x.after x.height))
    ++ (links_on x.before n x.height ++ cond (ltb x.top x.height) (on x.head 10 (word16 x.height) ∷ []) [])

-- ---- Counts

abbrev pub counts_at : (root size spans levels : ℕ) → Write
counts_at root size spans levels = on root 16 (word32 size ++ (word32 spans ++ word32 levels))
