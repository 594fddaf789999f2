-- Search by towers (document 02, T-08): the tower passed at each level, and the walk along the spans from the last one.
use Rattle.std.specs.Prelude.{ℕ, suc, Bool, false, cond, List, [], ◌∷◌, ◌++◌, map, drop}
use Rattle.std.proofs.Math.Option.{Option, none, some}
use Rattle.blockfile.specs.Bytes.{from}
use Rattle.blockfile.specs.Layout.{Entry, Span, Tower, Column, Table, spans_of, tower_in}
use Rattle.blockfile.specs.Order.{KeyRule}
use Rattle.blockfile.specs.Put.{begins, last_at}

-- ---- The path: one tower for each level below the head's current

-- the towers of those columns whose spans begin so
abbrev pub towers_where : (so : List Entry → Bool) → List Column → List Tower
towers_where so [] = []
towers_where so (c ∷ cs) = cond (so c.span.entries) (tower_in c.tower) [] ++ towers_where so cs

-- the tower passed at level i: the last one there whose span begins so, the head if none does. The first span is the head's, and
-- the head is passed however that span begins, empty or not
unfoldable pub passed : (so : List Entry → Bool) → Table → (i : ℕ) → ℕ
passed so t i = last_at i t.head.page (towers_where so t.rest)

-- the path to a key is `path (begins r key)`: the spans begin at the key or below it
unfoldable pub path : (so : List Entry → Bool) → Table → List ℕ
path so t = map (passed so t) (from 0 t.head.height)

-- strictly below it, for the towers before a span that goes: its one key is the one that is removed
abbrev pub begins_below : KeyRule → (key : List ℕ) → List Entry → Bool
begins_below r k [] = false
begins_below r k (e ∷ es) = r.below e.key k

abbrev pub begun : (strict : Bool) → KeyRule → (key : List ℕ) → List Entry → Bool
begun strict r k = cond strict (begins_below r k) (begins r k)

-- ---- The search

-- i where there is a tower
abbrev pub towered : (i found : ℕ) → Option Tower → ℕ
towered i found none = found
towered i found (some w) = i

-- the place of the last tower whose span begins at the key or below it, the columns being at the places from i on; found if there is
-- none
abbrev pub last_tower : KeyRule → (key : List ℕ) (found i : ℕ) → List Column → ℕ
last_tower r k found i [] = found
last_tower r k found i (c ∷ cs) = last_tower r k (cond (begins r k c.span.entries) (towered i found c.tower) found) (suc i) cs

-- from place i, where the spans ss follow, on as long as the next one begins at the key or below it
abbrev pub walk_from : KeyRule → (key : List ℕ) (i : ℕ) → List Span → ℕ
walk_from r k i [] = i
walk_from r k i (s ∷ ss) = cond (begins r k s.entries) (walk_from r k (suc i) ss) i

-- the walk begins at that tower's span, or at the first span if there is none
unfoldable pub by_towers : KeyRule → (key : List ℕ) → Table → ℕ
by_towers r k t = let i : ℕ = last_tower r k 0 1 t.rest in walk_from r k i (drop i (spans_of t.rest))
