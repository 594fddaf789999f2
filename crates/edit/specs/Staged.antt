-- A span in a buffer: the list of its pages, and its entries, encoded.
use Rattle.std.specs.Prelude.{ℕ, ◌+◌, ◌*◌, ◌-◌, ◌≤◌, ◌<◌, ◌≡◌, List, ◌++◌, length, take, drop}
use Rattle.std.proofs.lemmas.List.Edits.{sets}
use Rattle.blockfile.specs.Bytes.{word16, word32, apply, Every, first_of}
use Rattle.blockfile.specs.Layout.{Entry, entries_from, entries_end, reached}
use Rattle.blockfile.specs.Fields.{Numbers, LinkedSpan}
use Rattle.blockfile.specs.Encode.{entries_bytes, whole_span}
use Rattle.draw.specs.Writing.{PageOf}
use Rattle.edit.specs.declared.span.Part.{Part}

-- the bytes from `from` up to `end`
abbrev pub stream_in : (buffer : List ℕ) (from end : ℕ) → List ℕ
stream_in b f e = take (e - f) (drop f b)

-- the first bytes of a span's stream: its links, max keys and size
abbrev pub header : (prev next most size : ℕ) → List ℕ
header prev next most size = word32 prev ++ (word32 next ++ (word16 most ++ word16 size))

-- es, encoded, stand in the buffer behind the header of a stream that begins at byte `at`
pub record Staged (buffer : List ℕ) (at : ℕ) (es : List Entry) : Type 0 where
  pub inside : at + entries_end entries_from es ≤ length buffer
  pub is : take (entries_end entries_from es - 12) (drop (at + 12) buffer) ≡ entries_bytes entries_from es

-- the pages and entries of the span that the part is
pub record PartOf (img buffer : List ℕ) (x : Part) (pages : List ℕ) (es : List Entry) : Type 0 where
  pub stand : Numbers buffer (4 * x.at) pages
  pub many : length pages ≡ x.count
  pub reach : x.count ≡ reached es
  pub each : Every (PageOf (length img)) pages
  pub apart : x.at + x.count ≤ x.word
  pub staged : Staged buffer (4 * x.word) es
  pub end : x.end ≡ 4 * x.word + entries_end entries_from es
  pub size : x.top.size ≡ length es

-- there are such, and the image is small
pub record PartReady (img buffer : List ℕ) (x : Part) : Type 0 where
  pub small : length img ≤ 4194304
  pub most : x.top.most < 65536
  pub few : x.top.size < 65536
  pub pages : List ℕ
  pub entries : List Entry
  pub part : PartOf img buffer x pages entries

-- the span
abbrev pub span_of : Part → (pages : List ℕ) → List Entry → LinkedSpan
span_of x ps es = record { span = record { page = first_of ps; conts = drop 1 ps; entries = es }; prev = x.top.prev; next = x.top.next; max_keys = x.top.most }

-- it was written whole, and its header stored in the buffer
pub record WrotePart (img buffer : List ℕ) (x : Part) (out after : List ℕ) : Type 0 where
  pub image : (ps : List ℕ) (es : List Entry) → PartOf img buffer x ps es → out ≡ apply (whole_span (span_of x ps es)) img
  pub kept : after ≡ sets buffer (4 * x.word) (header x.top.prev x.top.next x.top.most x.top.size)
