-- A span that a walk finds: its pages, its bytes; and the spans after the first.
use Rattle.std.specs.Prelude.{Option, Some, None, ℕ, ◌+◌, ◌≤◌, ◌≡◌, List, [], ◌∷◌, map, length, take, T}
use Rattle.blockfile.specs.Bytes.{pg, be32, Every, first_of}
use Rattle.blockfile.specs.Marks.{span_mark}
use Rattle.blockfile.specs.Layout.{Entry, Span, reached}
use Rattle.blockfile.specs.Fields.{LinkedSpan, AreConts}
use Rattle.blockfile.specs.WellFormed.{span, Bears, link_spans}
use Rattle.walks.specs.Found.{Fresh, claims, Found, FindsAt}
use Rattle.entries.specs.Places.{IsPage}
use Rattle.spans.specs.declared.entry.Last.{Last}
use Rattle.spans.specs.declared.span.Spanned.{Spanned}
use Rattle.spans.specs.declared.Counted.{Counted}
use Rattle.order.specs.declared.sort.Sort.{Sort}
use Rattle.spans.specs.Spans.{entries_in}
use Rattle.spans.specs.Entries.{fits, Above, last_key, LastIs}
use Rattle.spans.specs.Charts.{Charted}

-- ---- The pages of a span

-- from page p on, n pages having been counted, stand continuation pages that can be claimed, m in all; s is the scratch then
pub record ContsFound (img scr : List ℕ) (p n m : ℕ) (s : List ℕ) : Type 0 where
  pub conts : List ℕ
  pub first : p ≡ first_of conts
  pub are : AreConts conts (map (pg img) conts)
  pub fresh : Fresh scr conts
  pub long : m ≡ n + length conts
  pub left : s ≡ claims scr conts

-- page p bears a span's mark, it and its m continuation pages can be claimed; s is the scratch then
pub record PagesFound (img scr : List ℕ) (p m : ℕ) (s : List ℕ) : Type 0 where
  pub conts : List ℕ
  pub marked : take 4 (pg img p) ≡ span_mark
  pub linked : be32 (pg img p) 4 ≡ first_of conts
  pub are : AreConts conts (map (pg img) conts)
  pub fresh : Fresh scr (p ∷ conts)
  pub long : m ≡ length conts
  pub left : s ≡ claims scr (p ∷ conts)

-- the continuation pages from p on are claimed, and those that were are in the chart
pub record ContsClaimed (img scr : List ℕ) (p : ℕ) (r : Option ℕ) (s chart : List ℕ) : Type 0 where
  pub found : FindsAt Some (ContsFound img scr p 0) r s
  pub charted : (m : ℕ) → r ≡ Some m → Charted img p m chart

-- the pages of the span on page p are claimed
pub record PagesClaimed (img scr : List ℕ) (p : ℕ) (r : Option ℕ) (s chart : List ℕ) : Type 0 where
  pub found : FindsAt Some (PagesFound img scr p) r s
  pub charted : (m : ℕ) → r ≡ Some m → Charted img (be32 (pg img p) 4) m chart

-- ---- The bytes of a span

-- page p with these continuation pages
pub record SpanPages (img : List ℕ) (p : ℕ) (conts : List ℕ) : Type 0 where
  pub small : length img ≤ 4194304
  pub page : IsPage img p
  pub marked : take 4 (pg img p) ≡ span_mark
  pub linked : be32 (pg img p) 4 ≡ first_of conts
  pub are : AreConts conts (map (pg img) conts)
  pub inside : Every (IsPage img) conts

-- a span with its links
abbrev pub with_links : (sp : Span) (prev next z : ℕ) → LinkedSpan
with_links sp p n z = record { span = sp; prev = p; next = n; max_keys = z }

abbrev pub span_on : (p : ℕ) (conts : List ℕ) → List Entry → Span
span_on p conts es = record { page = p; conts = conts; entries = es }

-- the rules for one span whose keys are to rise from above low on
pub record SpanOk (sort : Sort) (z : ℕ) (low : List ℕ) (sp : Span) : Type 0 where
  pub size : length sp.entries ≤ z
  pub reach : 1 + length sp.conts ≡ reached sp.entries
  pub above : Above sort low sp.entries
  pub fine : Every (λ e. T (fits sort e.key (length e.value))) sp.entries

-- the image bears the span, and it keeps the rules
pub record SpanIs (sort : Sort) (img : List ℕ) (prev z : ℕ) (low : List ℕ) (sp : Span) (next : ℕ) : Type 0 where
  pub bears : Bears (pg img) (span (with_links sp prev next z))
  pub ok : SpanOk sort z low sp

pub record ReadySpan (sort : Sort) (img : List ℕ) (p more : ℕ) (l : Last) : Type 0 where
  pub conts : List ℕ
  pub pages : SpanPages img p conts
  pub long : more ≡ length conts
  pub few : more ≤ 4096
  pub low : List ℕ
  pub key : LastIs sort img l low

pub record SpanRight (sort : Sort) (img : List ℕ) (p : ℕ) (conts : List ℕ) (prev z : ℕ) (low : List ℕ) (a : Spanned) : Type 0 where
  pub entries : List Entry
  pub is : SpanIs sort img prev z low (span_on p conts entries) a.next
  pub count : a.size ≡ length entries
  pub key : LastIs sort img a.last (last_key low entries)

abbrev pub SpanSays : Sort → (img : List ℕ) (p : ℕ) (conts : List ℕ) (prev z : ℕ) (low : List ℕ) → Option Spanned → Type 0
SpanSays sort img p conts prev z low None = (es : List Entry) (next : ℕ) → SpanIs sort img prev z low (span_on p conts es) next → ⊥
SpanSays sort img p conts prev z low (Some a) = SpanRight sort img p conts prev z low a

-- the answer for the span on page p, whatever its continuation pages and the last key met
pub record Reading (sort : Sort) (img : List ℕ) (p prev z : ℕ) (l : Last) (r : Option Spanned) : Type 0 where
  pub is : (conts low : List ℕ) → SpanPages img p conts → LastIs sort img l low → SpanSays sort img p conts prev z low r

-- ---- A span: its pages and its bytes

pub record SpanFound (sort : Sort) (img scr : List ℕ) (p prev z : ℕ) (low : List ℕ) (sp : Span) (next : ℕ) (s : List ℕ) : Type 0 where
  pub named : sp.page ≡ p
  pub ok : SpanOk sort z low sp
  pub found : Found img scr (span (with_links sp prev next z) ∷ []) s

-- the span that an answer tells
pub record Told (sort : Sort) (img scr : List ℕ) (p prev z : ℕ) (low : List ℕ) (a : Spanned) (s : List ℕ) : Type 0 where
  pub sp : Span
  pub found : SpanFound sort img scr p prev z low sp a.next s
  pub count : a.size ≡ length sp.entries
  pub key : LastIs sort img a.last (last_key low sp.entries)

-- the answer that a span has
pub record Answered (sort : Sort) (img low : List ℕ) (sp : Span) (next : ℕ) (t : List ℕ) (r : Option Spanned) (s : List ℕ) : Type 0 where
  pub last : Last
  pub is : r ≡ Some (record { size = length sp.entries; next = next; last = last })
  pub left : s ≡ t
  pub key : LastIs sort img last (last_key low sp.entries)

-- the answer is right exactly where there is such a span
pub record Verified (sort : Sort) (img scr : List ℕ) (p prev z : ℕ) (low : List ℕ) (r : Option Spanned) (s : List ℕ) : Type 0 where
  pub sound : (a : Spanned) → r ≡ Some a → Told sort img scr p prev z low a s
  pub complete : (sp : Span) (next : ℕ) (t : List ℕ) → SpanFound sort img scr p prev z low sp next t → Answered sort img low sp next t r s

pub record VerifiedAll (sort : Sort) (img scr : List ℕ) (p prev z : ℕ) (l : Last) (r : Option Spanned) (s : List ℕ) : Type 0 where
  pub is : (low : List ℕ) → LastIs sort img l low → Verified sort img scr p prev z low r s

-- ---- Spans one after another

-- from page p on stand these spans; the one before is on page prev, and its last key is low
pub record ChainFound (sort : Sort) (img scr : List ℕ) (z p prev : ℕ) (low : List ℕ) (ss : List Span) (s : List ℕ) : Type 0 where
  pub named : first_of (map (λ x. x.page) ss) ≡ p
  pub sizes : Every (λ x. length x.entries ≤ z) ss
  pub reach : Every (λ x. 1 + length x.conts ≡ reached x.entries) ss
  pub above : Above sort low (entries_in ss)
  pub fine : Every (λ e. T (fits sort e.key (length e.value))) (entries_in ss)
  pub found : Found img scr (map span (link_spans z prev ss)) s

-- some keys and spans having been counted, from page p on stand further spans; only the first of all may be empty
pub record SpansFrom (sort : Sort) (img scr : List ℕ) (z p prev : ℕ) (low : List ℕ) (keys spans : ℕ) (a : Counted) (s : List ℕ) : Type 0 where
  pub here : Span
  pub others : List Span
  pub chain : ChainFound sort img scr z p prev low (here ∷ others) s
  pub some : 1 ≤ spans → 1 ≤ length here.entries
  pub filled : Every (λ x. 1 ≤ length x.entries) others
  pub keys_are : a.keys ≡ keys + length (entries_in (here ∷ others))
  pub spans_are : a.spans ≡ spans + length (here ∷ others)
