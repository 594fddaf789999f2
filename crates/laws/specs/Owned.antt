-- The pages of an image by their owners, and what a call changes of them.
use Rattle.std.specs.Prelude.{ℕ, ◌+◌, ◌*◌, ◌≤◌, ◌≡◌, List, [], ◌∷◌, ◌++◌, map, length, drop}
use Rattle.std.proofs.Math.Option.{Option, none, some}
use Rattle.blockfile.specs.Bytes.{Every, gather}
use Rattle.blockfile.specs.Layout.{Keyed, Span, Tower, Table, Block, Layout}
use Rattle.blockfile.specs.Order.{name_rule, key_rule, find}
use Rattle.blockfile.specs.WellFormed.{pages_of, table_pieces}
use Rattle.blockfile.specs.Plan.{Plan}
use Rattle.blockfile.specs.Put.{target}
use Rattle.blockfile.specs.Refusals.{Op, check, get, put, remove, next, create}

-- ---- Tables

-- the pages of a table: its skip-list page, its spans with their continuation pages, its towers
abbrev pub table_pages : Table → List ℕ
table_pages t = gather pages_of (table_pieces t)

-- the pages of all named tables
abbrev pub named_pages : List (Keyed Table) → List ℕ
named_pages ns = gather pages_of (gather (λ n. table_pieces n.value) ns)

-- the table, if there is one, as a list
abbrev pub in_option : Option Table → List Table
in_option none = []
in_option (some t) = t ∷ []

-- the pages of the table of a name, if there is one
abbrev pub pages_under : List ℕ → List (Keyed Table) → List ℕ
pages_under name ns = gather table_pages (in_option (find name ns))

-- ---- Parts of a table

-- the pages of spans
abbrev pub first_pages : List Span → List ℕ
first_pages ss = map (λ s. s.page) ss

-- the continuation pages of spans
abbrev pub cont_pages : List Span → List ℕ
cont_pages ss = gather (λ s. s.conts) ss

-- the pages of towers
abbrev pub pages_in : List Tower → List ℕ
pages_in ts = map (λ t. t.page) ts

-- ---- Free pages

-- the pages of free-list blocks
abbrev pub block_pages : Layout → List ℕ
block_pages L = map (λ b. b.page) L.free

-- a block on page n and the pages that it lists end at m or before
abbrev pub Bounded : (n m : ℕ) → List Block → Type 0
Bounded n m bs = Every (λ b. n ≡ b.page → 16 + 4 * length b.listed ≤ m) bs

-- ---- What a call changes

-- the table that a call may change, if there is one
abbrev pub changed_by : Layout → Op → List Table
changed_by L check = []
changed_by L (get n k) = []
changed_by L (put n k v) = in_option (find n L.tables)
changed_by L (remove n k) = in_option (find n L.tables)
changed_by L (next n k) = []
changed_by L (create n) = L.meta ∷ []

-- the place in that table of the span that changes; 0 for a call that changes none
abbrev pub place_in : Op → Table → ℕ
place_in check t = 0
place_in (get n k) t = 0
place_in (put n k v) t = target (key_rule n) k t
place_in (remove n k) t = target (key_rule n) k t
place_in (next n k) t = 0
place_in (create n) t = target name_rule n t

-- the pages that a plan gives back
abbrev pub given_by : Plan → List ℕ
given_by p = drop p.wanted p.old ++ p.gone
