-- A span's entries as the code reads them: from place to place, in step with the list.
use Rattle.std.specs.Prelude.{ℕ, ◌+◌, ◌*◌, ◌≤◌, ◌<◌, ◌≡◌, Bool, not, List, [], ◌∷◌, ◌++◌, length, take, drop, T}
use Rattle.std.specs.Prelude.{Option, Some, None}
use Rattle.std.proofs.Math.Option.{Option as TextOption, none, some}
use Rattle.blockfile.specs.Bytes.{pg, be16, Every}
use Rattle.blockfile.specs.Layout.{Entry, entries_end, reached}
use Rattle.blockfile.specs.Order.{KeyRule, Rising, find, above}
use Rattle.blockfile.specs.Fields.{LinkedSpan, EntriesAt}
use Rattle.blockfile.specs.WellFormed.{Piece, span, pages_of, Bears}
use Rattle.blockfile.specs.Path.{begun}
use Rattle.order.specs.declared.sort.Sort.{Sort}
use Rattle.order.specs.Sorts.{rule_as}
use Rattle.entries.specs.declared.place.Place.{Place}
use Rattle.entries.specs.declared.place.Sizes.{Sizes}
use Rattle.entries.specs.Places.{IsPage, Rest, Enough, Moved}
use Rattle.search.specs.declared.span.Bound.{Bound}
use Rattle.search.specs.declared.span.Extent.{Extent}
use Rattle.search.specs.declared.span.Stop.{Stop}
use Rattle.search.specs.declared.span.Stop.TheVariants.{Here, Above, End}

-- the rule has an order in which the code compares keys, and allows no empty key
pub record Sorts (r : KeyRule) : Type 0 where
  pub sort : Sort
  pub below : (k l : List ℕ) → r.below k l ≡ (rule_as sort).below k l
  pub some : (k : List ℕ) → T (r.allowed k) → 1 ≤ length k

-- ---- A span on the image

-- a piece is on pages of the image, and these bear it
abbrev pub Borne : (img : List ℕ) → Piece → Type 0
Borne img p = Bears (pg img) p × Every (IsPage img) (pages_of p)

-- all that reading a span of a table with this rule needs
pub record Spanned (img : List ℕ) (r : KeyRule) (x : LinkedSpan) : Type 0 where
  pub small : length img ≤ 4194304
  pub borne : Borne img (span x)
  pub reach : 1 + length x.span.conts ≡ reached x.span.entries
  pub keys : Every (λ e. T (r.allowed e.key)) x.span.entries
  pub rising : Rising r x.span.entries
  pub order : Sorts r

-- a span of a table is on the page
pub record SpanOn (img : List ℕ) (page : ℕ) : Type 0 where
  pub rule : KeyRule
  pub linked : LinkedSpan
  pub there : Spanned img rule linked
  pub at : linked.span.page ≡ page

-- with keys that sort so
pub record SpanBy (img : List ℕ) (page : ℕ) (s : Sort) : Type 0 where
  pub on : SpanOn img page
  pub by : on.there.order.sort ≡ s

-- and it is not empty, by the number of its entries on the page
pub record FilledBy (img : List ℕ) (page : ℕ) (s : Sort) : Type 0 where
  pub span : SpanBy img page s
  pub some : be16 (pg img page) 18 ≡ 0 → ⊥

-- ---- Bytes and entries at a place

-- v are the n bytes from the place on
pub record BytesAt (img : List ℕ) (at : Place) (n : ℕ) (v : List ℕ) : Type 0 where
  pub bytes : List ℕ
  pub rest : Rest img at bytes
  pub long : n ≤ length bytes
  pub is : v ≡ take n bytes

-- the entries es are those from the place on, which is a position of the span's stream
pub record Along (img : List ℕ) (at : Place) (es : List Entry) : Type 0 where
  pub stream : List ℕ
  pub pages : ℕ
  pub position : ℕ
  pub whole : length stream ≡ 1016 * pages
  pub rest : Rest img at (drop position stream)
  pub fits : entries_end position es ≤ length stream
  pub are : EntriesAt stream position es

-- there is an entry at the place
pub record EntryThere (img : List ℕ) (at : Place) : Type 0 where
  pub first : Entry
  pub more : List Entry
  pub along : Along img at (first ∷ more)

-- g are the lengths of the entry e and the place of its key; the entries more follow it
pub record EntryAt (img : List ℕ) (g : Sizes) (e : Entry) (more : List Entry) : Type 0 where
  pub key_small : g.key < 65536
  pub value_small : g.value < 65536
  pub enough : Enough img g.after (g.key + g.value)
  pub key : BytesAt img g.after g.key e.key
  pub value : (p : Place) → Moved img g.after g.key p → BytesAt img p g.value e.value
  pub both : BytesAt img g.after (g.key + g.value) (e.key ++ e.value)
  pub next : (p : Place) → Moved img g.after (g.key + g.value) p → Along img p more

-- ---- Answers

-- r says what the option is: where its bytes are and how many, or that there are none
pub record Answered (img : List ℕ) (o : TextOption (List ℕ)) (r : Option Extent) : Type 0 where
  pub found : (e : Extent) → r ≡ Some e → (v : List ℕ) × (o ≡ some v) × BytesAt img e.at e.length v
  pub missing : r ≡ None → o ≡ none

-- es are entries with keys below k, and then the entries from the place of the search on
pub record Before (r : KeyRule) (k : List ℕ) (es rest : List Entry) : Type 0 where
  pub passed : List Entry
  pub under : Every (λ e. T (r.below e.key k)) passed
  pub all : es ≡ passed ++ rest

-- the search for k in es stopped at the entry with that key; with it, `left` entries are left
pub record Met (img : List ℕ) (r : KeyRule) (k : List ℕ) (es : List Entry) (g : Sizes) (left : ℕ) : Type 0 where
  pub entry : Entry
  pub more : List Entry
  pub at : EntryAt img g entry more
  pub same : entry.key ≡ k
  pub before : Before r k es (entry ∷ more)
  pub count : left ≡ 1 + length more
  pub found : find k es ≡ some entry.value
  pub next : above r k es ≡ above r [] more

-- it stopped at the first entry above the key, which is not there; with it, `left` entries are left
pub record Passed (img : List ℕ) (r : KeyRule) (k : List ℕ) (es : List Entry) (g : Sizes) (left : ℕ) : Type 0 where
  pub entry : Entry
  pub more : List Entry
  pub at : EntryAt img g entry more
  pub over : T (r.below k entry.key)
  pub before : Before r k es (entry ∷ more)
  pub count : left ≡ 1 + length more
  pub found : find k es ≡ none
  pub next : above r k es ≡ some entry.key

-- it stopped behind the last entry
pub record Ended (r : KeyRule) (k : List ℕ) (es : List Entry) : Type 0 where
  pub before : Before r k es []
  pub found : find k es ≡ none
  pub next : above r k es ≡ none

-- where the search for k in es stopped
pub record Stopped (img : List ℕ) (r : KeyRule) (k : List ℕ) (es : List Entry) (s : Stop) : Type 0 where
  pub met : (g : Sizes) (left : ℕ) → s ≡ Here g left → Met img r k es g left
  pub passed : (g : Sizes) (left : ℕ) → s ≡ Above g left → Passed img r k es g left
  pub end : s ≡ End → Ended r k es

-- ---- What the functions on a span answer, for every span that is on the page and sorts so

pub record StoppedOn (img : List ℕ) (page : ℕ) (s : Sort) (k : List ℕ) (r : Stop) : Type 0 where
  pub is : (x : SpanBy img page s) → Stopped img x.on.rule k x.on.linked.span.entries r

pub record FoundOn (img : List ℕ) (page : ℕ) (s : Sort) (k : List ℕ) (r : Option Extent) : Type 0 where
  pub is : (x : SpanBy img page s) → Answered img (find k x.on.linked.span.entries) r

pub record AboveOn (img : List ℕ) (page : ℕ) (s : Sort) (k : List ℕ) (r : Option Extent) : Type 0 where
  pub is : (x : SpanBy img page s) → Answered img (above x.on.rule k x.on.linked.span.entries) r

pub record OverOn (img : List ℕ) (page : ℕ) (b : Bound) (k : List ℕ) (r : Bool) : Type 0 where
  pub is : (x : SpanBy img page b.sort) → r ≡ not (begun b.strict x.on.rule k x.on.linked.span.entries)

-- the key of the entry at the place
pub record KeyOf (img : List ℕ) (at : Place) (e : Extent) : Type 0 where
  pub is : (x : EntryThere img at) → Answered img (some x.first.key) (Some e)
