-- The fields of each kind of page. Each statement is over the bytes b of the page; bytes not named may hold anything.
use Rattle.std.specs.Prelude.{ℕ, ◌+◌, ◌*◌, ◌≤◌, ◌≡◌, List, [], ◌∷◌, length, get_or, take, drop}
use Rattle.std.proofs.Math.Seq.{slice}
use Rattle.blockfile.specs.Bytes.{be16, be32, be64, gather, first_of}
use Rattle.blockfile.specs.Marks.{super_mark, skip_mark, tower_mark, span_mark, cont_mark, block_mark, free_mark}
use Rattle.blockfile.specs.Layout.{Entry, Span, Tower, entries_from, lens_start, entry_end}

-- Superblock: p is P, f the first free-list page or 0, z the span size. The count of free pages in bytes 28 to 31 is not one of its
-- fields: it is a rule on the whole image, and does not hold between the writes of a call
pub record IsSuperblock (p f z : ℕ) (b : List ℕ) : Type 0 where
  pub mark : take 6 b ≡ super_mark
  pub major : get_or b 6 0 ≡ 1
  pub minor : get_or b 7 0 ≡ 2
  pub file_length : be64 b 8 ≡ 1024 * p
  pub free : be32 b 16 ≡ f
  pub mounted : be16 b 20 ≤ 1
  pub span_size : be16 b 22 ≡ z
  pub page_size : be32 b 24 ≡ 1024

-- Skip list: its page and fields
pub record SkipList : Type 0 where
  pub page : ℕ
  pub first : ℕ
  pub level : ℕ
  pub size : ℕ
  pub spans : ℕ
  pub levels : ℕ
  pub span_size : ℕ

pub record IsSkipList (k : SkipList) (b : List ℕ) : Type 0 where
  pub mark : take 8 b ≡ skip_mark
  pub first : be32 b 8 ≡ k.first
  pub level : be32 b 12 ≡ k.level
  pub size : be32 b 16 ≡ k.size
  pub spans : be32 b 20 ≡ k.spans
  pub levels : be32 b 24 ≡ k.levels
  pub span_size : be16 b 28 ≡ k.span_size

-- the four-byte numbers from offset o on are ns
abbrev pub Numbers : (b : List ℕ) (o : ℕ) (ns : List ℕ) → Type 0
Numbers b o [] = Unit {0}
Numbers b o (n ∷ ns) = (be32 b o ≡ n) × Numbers b (o + 4) ns

-- Levels: a tower with its span's page and its next towers, lowest first, as many as its current height
pub record LinkedTower : Type 0 where
  pub tower : Tower
  pub span_page : ℕ
  pub nexts : List ℕ

pub record IsTower (x : LinkedTower) (b : List ℕ) : Type 0 where
  pub mark : take 8 b ≡ tower_mark
  pub max_height : be16 b 8 ≡ x.tower.max_height
  pub height : be16 b 10 ≡ x.tower.height
  pub span_page : be32 b 12 ≡ x.span_page
  pub nexts : Numbers b 16 x.nexts

-- Span: a span with its links and max keys
pub record LinkedSpan : Type 0 where
  pub span : Span
  pub prev : ℕ
  pub next : ℕ
  pub max_keys : ℕ

-- the entries stand in the stream s from position v on; that s is long enough for them is the rule on continuation pages
abbrev pub EntriesAt : (s : List ℕ) (v : ℕ) → List Entry → Type 0
EntriesAt s v [] = Unit {0}
EntriesAt s v (e ∷ es) =
    (be16 s (lens_start v) ≡ length e.key)
    × (be16 s (lens_start v + 2) ≡ length e.value)
    × (slice (lens_start v + 4) (lens_start v + 4 + length e.key) s ≡ e.key)
    × (slice (lens_start v + 4 + length e.key) (entry_end v e) s ≡ e.value)
    × EntriesAt s (entry_end v e) es

-- continuation pages, by their numbers and their bytes: each is linked to the next one, the last to 0
abbrev pub AreConts : (pages : List ℕ) → (bytes : List (List ℕ)) → Type 0
AreConts [] [] = Unit {0}
AreConts [] (b ∷ bs) = ⊥
AreConts (n ∷ ns) [] = ⊥
AreConts (n ∷ ns) (b ∷ bs) = (take 4 b ≡ cont_mark) × (be32 b 4 ≡ first_of ns) × AreConts ns bs

-- b are the bytes of the span's page, cs those of its continuation pages
pub record IsSpan (x : LinkedSpan) (b : List ℕ) (cs : List (List ℕ)) : Type 0 where
  pub mark : take 4 b ≡ span_mark
  pub cont : be32 b 4 ≡ first_of x.span.conts
  pub prev : be32 b 8 ≡ x.prev
  pub next : be32 b 12 ≡ x.next
  pub max_keys : be16 b 16 ≡ x.max_keys
  pub size : be16 b 18 ≡ length x.span.entries
  pub conts : AreConts x.span.conts cs
  pub entries : EntriesAt (gather (λ c. drop 8 c) (b ∷ cs)) entries_from x.span.entries

-- Free list: the block lists the pages ns; n is the next block or 0
pub record IsBlock (ns : List ℕ) (n : ℕ) (b : List ℕ) : Type 0 where
  pub mark : take 8 b ≡ block_mark
  pub next : be32 b 8 ≡ n
  pub count : be32 b 12 ≡ length ns
  pub listed : Numbers b 16 ns

-- Free page
abbrev pub IsFree : List ℕ → Type 0
IsFree b = take 8 b ≡ free_mark
