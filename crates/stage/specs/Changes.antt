-- A change of a span's entries, and cursors in the list that it makes.
use Rattle.std.specs.Prelude.{ℕ, ◌+◌, ◌≤◌, ◌<◌, ◌≡◌, Bool, true, false, List, [], ◌∷◌, ◌++◌, length, take, drop, Result, Ok, Err, is_ok}
use Rattle.std.specs.Int.{from_bool}
use Rattle.std.proofs.Math.Option.{none, some}
use Rattle.blockfile.specs.Layout.{Entry}
use Rattle.blockfile.specs.Order.{KeyRule, find, insert, erase}
use Rattle.order.specs.declared.sort.Sort.{Sort}
use Rattle.entries.specs.declared.place.Place.{Place}
use Rattle.entries.specs.declared.place.Sizes.{Sizes}
use Rattle.search.specs.Spans.{SpanBy, Along, EntryAt}
use Rattle.stage.specs.declared.change.Change.{Change}
use Rattle.stage.specs.declared.change.Cursor.{Cursor}
use Rattle.stage.specs.declared.change.Next.{Next}
use Rattle.stage.specs.declared.change.Next.TheVariants.{New, Old}

-- the entries after the change, e being the one that comes
unfoldable pub spliced : Change → Entry → List Entry → List Entry
spliced c e es = take c.index es ++ (take (from_bool c.adds) (e ∷ []) ++ drop (c.index + from_bool c.drops) es)

-- the change is one of these entries
pub record Fits (c : Change) (es : List Entry) : Type 0 where
  pub inside : c.index + from_bool c.drops ≤ length es
  pub few : length es < 65536

-- ---- Where a key belongs

-- the index of a spot, whether or not the key is there
abbrev pub spot_index : Result ℕ ℕ → ℕ
spot_index (Ok i) = i
spot_index (Err i) = i

-- the changes that put and remove make at a spot
abbrev pub put_at : Result ℕ ℕ → Change
put_at s = record { index = spot_index s; drops = is_ok s; adds = true }

abbrev pub remove_at : Result ℕ ℕ → Change
remove_at s = record { index = spot_index s; drops = is_ok s; adds = false }

-- the spot of k in es: put and remove are changes there
pub record Spotted (r : KeyRule) (k : List ℕ) (es : List Entry) (s : Result ℕ ℕ) : Type 0 where
  pub inside : spot_index s + from_bool (is_ok s) ≤ length es
  pub few : length es < 65536
  pub put : (v : List ℕ) → insert r k v es ≡ spliced (put_at s) (record { key = k; value = v }) es
  pub remove : (e : Entry) → erase k es ≡ spliced (remove_at s) e es
  pub found : (i : ℕ) → s ≡ Ok i → (v : List ℕ) × (find k es ≡ some v)
  pub missing : (i : ℕ) → s ≡ Err i → find k es ≡ none

pub record SpottedOn (img : List ℕ) (page : ℕ) (sort : Sort) (k : List ℕ) (s : Result ℕ ℕ) : Type 0 where
  pub is : (x : SpanBy img page sort) → Spotted x.on.rule k x.on.linked.span.entries s

-- ---- Cursors

-- the second place is behind the entry at the first
pub record PassedOver (img : List ℕ) (at after : Place) : Type 0 where
  pub on : (e : Entry) (es : List Entry) → Along img at (e ∷ es) → Along img after es

-- the cursor is in the list that the change makes of es; `old` is the index of the old entry that comes next, which may be the one
-- that gives way
pub record Stands (img : List ℕ) (c : Change) (es : List Entry) (u : Cursor) : Type 0 where
  pub fits : Fits c es
  pub old : ℕ
  pub before : u.index ≤ c.index → old ≡ u.index
  pub behind : c.index < u.index → old + from_bool c.adds ≡ u.index + from_bool c.drops
  pub along : Along img u.at (drop old es)

-- n entries are left from the cursor on
abbrev pub Has : Change → List Entry → Cursor → ℕ → Type 0
Has c es u n = u.index + n + from_bool c.drops ≤ length es + from_bool c.adds

-- the cursor is in such a list, and there are n entries from it on
pub record Going (img : List ℕ) (c : Change) (u : Cursor) (n : ℕ) : Type 0 where
  pub entries : List Entry
  pub stands : Stands img c entries u
  pub has : Has c entries u n

-- the entries from the place on are those from index `old` on, where the new list goes on
pub record Onward (img : List ℕ) (c : Change) (es : List Entry) (u : Cursor) (at : Place) : Type 0 where
  pub old : ℕ
  pub before : u.index < c.index → old ≡ u.index
  pub here : u.index ≡ c.index → old ≡ c.index + from_bool c.drops
  pub behind : c.index < u.index → old + from_bool c.adds ≡ u.index + from_bool c.drops
  pub along : Along img at (drop old es)

pub record Reached (img : List ℕ) (c : Change) (u : Cursor) (at : Place) : Type 0 where
  pub is : (es : List Entry) → Stands img c es u → Has c es u 1 → Onward img c es u at

-- r tells whether the entry at the cursor is the one that comes
pub record IsNew (c : Change) (u : Cursor) (r : Bool) : Type 0 where
  pub yes : r ≡ true → (u.index ≡ c.index) × (c.adds ≡ true)
  pub other : r ≡ false → u.index ≡ c.index → c.adds ≡ true → ⊥

-- x is the entry of the list at the cursor u, and v is the cursor behind it
pub record Turned (img : List ℕ) (c : Change) (e : Entry) (es : List Entry) (u : Cursor) (x : Entry) (v : Cursor) : Type 0 where
  pub is : drop u.index (spliced c e es) ≡ x ∷ drop (u.index + 1) (spliced c e es)
  pub index : v.index ≡ u.index + 1
  pub stands : Stands img c es v

-- the entry at the cursor is an old one, with these lengths and the place of its key
pub record Kept (img : List ℕ) (c : Change) (e : Entry) (es : List Entry) (u : Cursor) (g : Sizes) (v : Cursor) : Type 0 where
  pub entry : Entry
  pub more : List Entry
  pub at : EntryAt img g entry more
  pub turned : Turned img c e es u entry v

pub record NextOf (img : List ℕ) (c : Change) (u : Cursor) (r : Next) : Type 0 where
  pub small : (g : Sizes) (v : Cursor) → r ≡ Old g v → (g.key < 65536) × (g.value < 65536)
  pub new : (v : Cursor) → r ≡ New v → (e : Entry) (es : List Entry) → Stands img c es u → Has c es u 1 → Turned img c e es u e v
  pub old : (g : Sizes) (v : Cursor) → r ≡ Old g v → (e : Entry) (es : List Entry) → Stands img c es u → Has c es u 1
      → Kept img c e es u g v
