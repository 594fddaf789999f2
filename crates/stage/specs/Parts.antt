-- Parts of the list that a change makes: where they end, and their bytes.
use Rattle.std.specs.Prelude.{ℕ, ◌+◌, ◌-◌, ◌≤◌, ◌<◌, ◌≡◌, List, [], ◌∷◌, ◌++◌, length, take, drop, replicate}
use Rattle.std.specs.Int.{from_bool}
use Rattle.std.proofs.lemmas.List.Edits.{sets}
use Rattle.blockfile.specs.Bytes.{word16}
use Rattle.blockfile.specs.Layout.{Entry, entries_from, lens_start, entry_end, entries_end}
use Rattle.blockfile.specs.Encode.{entries_bytes}
use Rattle.entries.specs.declared.place.Sizes.{Sizes}
use Rattle.search.specs.Spans.{SpanOn, EntryAt}
use Rattle.stage.specs.declared.change.Change.{Change}
use Rattle.stage.specs.declared.change.Cursor.{Cursor}
use Rattle.stage.specs.declared.measure.Part.{Part}
use Rattle.stage.specs.declared.measure.Ends.{Ends}
use Rattle.stage.specs.Changes.{spliced, Fits, Stands, Has, Turned}

-- ---- Measured

-- no position in a span's stream reaches this: there are at most 65,536 entries, of at most 131,077 bytes each
abbrev pub far : ℕ
far = 1099511627776

-- key and value have n bytes together
abbrev pub Sized : Entry → ℕ → Type 0
Sized e n = length e.key + length e.value ≡ n

-- n entries from the cursor on
abbrev pub part : Change → Entry → List Entry → Cursor → ℕ → List Entry
part c e es u n = take n (drop u.index (spliced c e es))

-- the entry x at the cursor ends at r's end, r's cursor is behind it
pub record Measures (img : List ℕ) (c : Change) (e : Entry) (es : List Entry) (u : Cursor) (end : ℕ) (r : Part) : Type 0 where
  pub entry : Entry
  pub turned : Turned img c e es u entry r.after
  pub is : r.end ≡ entry_end end entry

pub record EntryMeasured (img : List ℕ) (c : Change) (u : Cursor) (both end : ℕ) (r : Part) : Type 0 where
  pub near : r.end ≤ end + 131077
  pub is : (e : Entry) (es : List Entry) → Sized e both → Stands img c es u → Has c es u 1 → Measures img c e es u end r

-- the cursor v is n entries behind u, and these end at `end`
pub record Gone (img : List ℕ) (c : Change) (e : Entry) (es : List Entry) (u : Cursor) (n : ℕ) (v : Cursor) (end : ℕ) : Type 0 where
  pub index : v.index ≡ u.index + n
  pub stands : Stands img c es v
  pub is : end ≡ entries_end entries_from (part c e es u n)

pub record PartMeasured (img : List ℕ) (c : Change) (u : Cursor) (both n : ℕ) (r : Part) : Type 0 where
  pub near : r.end < far
  pub is : (e : Entry) (es : List Entry) → Sized e both → Stands img c es u → Has c es u n → Gone img c e es u n r.after r.end

-- a span is on the page, the change is one of its entries, and leaves `half` entries or more
pub record Measurable (img : List ℕ) (page : ℕ) (c : Change) (half : ℕ) : Type 0 where
  pub span : SpanOn img page
  pub fits : Fits c span.linked.span.entries
  pub has : half + from_bool c.drops ≤ length span.linked.span.entries + from_bool c.adds

-- the entries after the change, in two parts
pub record Halved (c : Change) (e : Entry) (es : List Entry) (half : ℕ) (r : Ends) : Type 0 where
  pub stay : r.stay ≡ entries_end entries_from (take half (spliced c e es))
  pub moved : r.moved ≡ entries_end entries_from (drop half (spliced c e es))

pub record MeasuredOn (img : List ℕ) (page : ℕ) (c : Change) (both half : ℕ) (r : Ends) : Type 0 where
  pub stay_near : r.stay < far
  pub moved_near : r.moved < far
  pub is : (x : SpanOn img page) (e : Entry) → Sized e both → Halved c e x.linked.span.entries half r

-- ---- Staged

-- the bytes of an entry before its key
abbrev pub length_bytes : (end key value : ℕ) → List ℕ
length_bytes end key value = replicate (lens_start end - end) 0 ++ (word16 key ++ word16 value)

pub record Lengthened (old : List ℕ) (end key value : ℕ) (new : List ℕ) (r : ℕ) : Type 0 where
  pub is : new ≡ sets old end (length_bytes end key value)
  pub first : r ≡ lens_start end + 4

-- the entry stands in the buffer from `end` on, and ends at r
pub record EntryPut (old : List ℕ) (end : ℕ) (e : Entry) (new : List ℕ) (r : ℕ) : Type 0 where
  pub is : new ≡ sets old end (entries_bytes end (e ∷ []))
  pub ends : r ≡ entry_end end e

-- g are the lengths of an entry of the image, and the buffer has room for it
pub record Copyable (img : List ℕ) (g : Sizes) (stream : List ℕ) (end : ℕ) : Type 0 where
  pub entry : Entry
  pub more : List Entry
  pub at : EntryAt img g entry more
  pub room : entry_end end entry ≤ length stream

pub record OldPut (img : List ℕ) (g : Sizes) (old : List ℕ) (end : ℕ) (new : List ℕ) (r : ℕ) : Type 0 where
  pub is : (e : Entry) (es : List Entry) → EntryAt img g e es → EntryPut old end e new r

-- the buffer has room for the entry at the cursor, the one that comes having key k and value v
pub record EntryStageable (img : List ℕ) (c : Change) (u : Cursor) (k v : List ℕ) (end : ℕ) (stream : List ℕ) : Type 0 where
  pub entries : List Entry
  pub stands : Stands img c entries u
  pub has : Has c entries u 1
  pub room : (x : Entry) → part c (record { key = k; value = v }) entries u 1 ≡ x ∷ [] → entry_end end x ≤ length stream

pub record StagesEntry (img : List ℕ) (c : Change) (e : Entry) (es : List Entry) (u : Cursor) (end : ℕ) (old new : List ℕ) (r : Part) : Type 0 where
  pub entry : Entry
  pub turned : Turned img c e es u entry r.after
  pub put : EntryPut old end entry new r.end

pub record EntryStaged (img : List ℕ) (c : Change) (u : Cursor) (k v : List ℕ) (end : ℕ) (old new : List ℕ) (r : Part) : Type 0 where
  pub is : (es : List Entry) → Stands img c es u → Has c es u 1 → StagesEntry img c (record { key = k; value = v }) es u end old new r

-- the buffer has exactly the bytes of the header and of n entries from the cursor on
pub record Stageable (img : List ℕ) (c : Change) (u : Cursor) (k v : List ℕ) (n : ℕ) (stream : List ℕ) : Type 0 where
  pub entries : List Entry
  pub stands : Stands img c entries u
  pub has : Has c entries u n
  pub long : length stream ≡ entries_end entries_from (part c (record { key = k; value = v }) entries u n)

-- these entries stand there behind the header, and the cursor r is behind them
pub record Stages (img : List ℕ) (c : Change) (e : Entry) (es : List Entry) (u : Cursor) (n : ℕ) (old new : List ℕ) (r : Cursor) : Type 0 where
  pub is : new ≡ take entries_from old ++ entries_bytes entries_from (part c e es u n)
  pub behind : drop entries_from new ≡ entries_bytes entries_from (part c e es u n)
  pub index : r.index ≡ u.index + n
  pub stands : Stands img c es r

pub record Staged (img : List ℕ) (c : Change) (u : Cursor) (k v : List ℕ) (n : ℕ) (old new : List ℕ) (r : Cursor) : Type 0 where
  pub is : (es : List Entry) → Stands img c es u → Has c es u n
      → length old ≡ entries_end entries_from (part c (record { key = k; value = v }) es u n)
      → Stages img c (record { key = k; value = v }) es u n old new r
