-- Entries as a walk meets them: read off what is left of a stream of whole pages.
use Rattle.std.specs.Prelude.{Option, Some, None, ℕ, zero, suc, ◌+◌, ◌-◌, ◌%◌, ◌≤◌, ◌≡◌, Bool, true, cond, ◌&&◌, List, [], ◌∷◌, length, take, drop, T, leb, ltb, eqb}
use Rattle.blockfile.specs.Bytes.{pg, be16}
use Rattle.blockfile.specs.Layout.{Entry}
use Rattle.order.specs.declared.sort.Sort.{Sort}
use Rattle.order.specs.declared.sort.Sort.TheVariants.{Bytes, Numbers}
use Rattle.order.specs.Sorts.{rule_as, rank}
use Rattle.entries.specs.declared.place.Place.{Place}
use Rattle.entries.specs.Places.{Rest}
use Rattle.entries.specs.Keys.{KeyAt}
use Rattle.spans.specs.declared.entry.Last.{Last}
use Rattle.spans.specs.declared.entry.Position.{Position}
use Rattle.spans.specs.declared.entry.Passed.{Passed}
use Rattle.spans.specs.declared.entry.Skimmed.{Skimmed}
use Rattle.spans.specs.declared.entry.Tried.{Tried}

-- a key may stand in a table whose keys sort so, with a value of v bytes
abbrev pub fits : Sort → (k : List ℕ) (v : ℕ) → Bool
fits sort k v = leb v 65535 && (rule_as sort).allowed k

-- keys that sort as numbers have four bytes; for others this asks nothing
abbrev pub four_as : Sort → (n : ℕ) → Bool
four_as Bytes n = true
four_as Numbers n = eqb n 4

-- k is the last key met; the empty one, of length 0, where none was met
pub record LastIs (sort : Sort) (img : List ℕ) (l : Last) (k : List ℕ) : Type 0 where
  pub there : KeyAt img l.at l.length k
  pub most : rank sort k ≤ l.rank
  pub four : 1 ≤ l.length → T (four_as sort l.length)

-- there is a last key
pub record Met (sort : Sort) (img : List ℕ) (l : Last) : Type 0 where
  pub low : List ℕ
  pub key : LastIs sort img l low

-- a key of n bytes is as long as the keys of its table are, and above the last key met
pub record IsAbove (sort : Sort) (img : List ℕ) (l : Last) (at : Place) (n : ℕ) (r : Bool) : Type 0 where
  pub is : (low k : List ℕ) → LastIs sort img l low → KeyAt img at n k → r ≡ (four_as sort n && (rule_as sort).below low k)

-- keys rise strictly, from above k on
abbrev pub Above : Sort → List ℕ → List Entry → Type 0
Above sort k [] = Unit {0}
Above sort k (e ∷ es) = T ((rule_as sort).below k e.key) × Above sort e.key es

-- the last key, k if there is no entry
abbrev pub last_key : List ℕ → List Entry → List ℕ
last_key k [] = k
last_key k (e ∷ es) = last_key e.key es

-- ---- The entry at the start of what is left, s: whole pages end where s ends, so its length says where the page ends

-- the bytes up to its length bytes
unfoldable pub skip : List ℕ → ℕ
skip s = cond (ltb (length s % 1016) 4) (length s % 1016) 0

unfoldable pub key_length : List ℕ → ℕ
key_length s = be16 (drop (skip s) s) 0

unfoldable pub value_length : List ℕ → ℕ
value_length s = be16 (drop (skip s) s) 2

unfoldable pub key_of : List ℕ → List ℕ
key_of s = take (key_length s) (drop (skip s + 4) s)

-- the bytes that it takes
unfoldable pub taken : List ℕ → ℕ
taken s = skip s + 4 + (key_length s + value_length s)

-- n entries stand in s, their keys rise from above low on; t is what is left after them and hi the last key
abbrev pub Run : Sort → (s low : List ℕ) (n : ℕ) (t hi : List ℕ) → Type 0
Run sort s low zero t hi = (s ≡ t) × (low ≡ hi)
Run sort s low (suc n) t hi =
    (taken s ≤ length s) × (T ((rule_as sort).below low (key_of s)) × T (fits sort (key_of s) (value_length s))) × Run sort (drop (taken s) s) (key_of s) n t hi

-- ---- The walk

-- what is left, and the last key
pub record Ready (sort : Sort) (img : List ℕ) (at : Place) (left : ℕ) (l : Last) : Type 0 where
  pub bytes : List ℕ
  pub rest : Rest img at bytes
  pub long : left ≡ length bytes
  pub low : List ℕ
  pub key : LastIs sort img l low

pub record Ended (sort : Sort) (img s low : List ℕ) (n : ℕ) (at : Place) (left : ℕ) (l : Last) : Type 0 where
  pub bytes : List ℕ
  pub hi : List ℕ
  pub run : Run sort s low n bytes hi
  pub rest : Rest img at bytes
  pub long : left ≡ length bytes
  pub key : LastIs sort img l hi

abbrev pub Ends : Sort → (img s low : List ℕ) (n : ℕ) → Option Position → Type 0
Ends sort img s low n None = (t hi : List ℕ) → Run sort s low n t hi → ⊥
Ends sort img s low n (Some p) = Ended sort img s low n p.at p.left p.last

-- a position by its parts
abbrev pub position : Place → (left : ℕ) → Last → Position
position at n l = record { at = at; left = n; last = l }

-- the answer for n entries that follow the place, whatever stands there
pub record Entering (sort : Sort) (img : List ℕ) (at : Place) (l : Last) (n : ℕ) (r : Option Position) : Type 0 where
  pub is : (s low : List ℕ) → Rest img at s → LastIs sort img l low → Ends sort img s low n r

-- ---- Entries on one page

-- another offset of the place's page
abbrev pub on_page : Place → (offset : ℕ) → Place
on_page at o = record { page = at.page; offset = o }

-- the key of the entry at the place, whose lengths stand there, as the last key
abbrev pub last_at : (img : List ℕ) → Place → (rank : ℕ) → Last
last_at img at r = record { at = on_page at (at.offset + 4); length = be16 (pg img at.page) at.offset; rank = r }

-- the entry at the place is read, behind a last key of rank high: it ends at this offset of the page, and its key has this rank
pub record ReadOnPage (sort : Sort) (img : List ℕ) (at : Place) (high end rank : ℕ) : Type 0 where
  pub some : at.offset + 4 ≤ end
  pub inside : end ≤ 1024
  pub read : (left : ℕ) (l : Last) → Ready sort img at left l → l.rank ≡ high
      → Entering sort img at l 1 (Some (position (on_page at end) (left - (end - at.offset)) (last_at img at rank)))

-- an entry that was tried: nothing is said of one that was left
abbrev pub Trying : Sort → (img : List ℕ) (at : Place) (high : ℕ) → Option Tried → Type 0
Trying sort img at high None = Unit {0}
Trying sort img at high (Some t) = ReadOnPage sort img at high t.end t.rank

pub record Tries (sort : Sort) (img : List ℕ) (at : Place) (high : ℕ) (r : Option Tried) : Type 0 where
  pub is : Trying sort img at high r

-- entries were passed on the page, from the place on
pub record Skimming (sort : Sort) (img : List ℕ) (at : Place) (left : ℕ) (last : Last) (p : Passed) : Type 0 where
  pub start : Ready sort img at left last
  pub key : Last
  pub read : Entering sort img at last p.count (Some (position (on_page at p.end) (left - (p.end - at.offset)) key))
  pub ranked : key.rank ≡ p.rank
  pub low : at.offset ≤ p.end
  pub high : p.end ≤ 1024
  pub none : p.count ≡ 0 → (p.end ≡ at.offset) × (key ≡ last)
  pub some : 1 ≤ p.count → (at.offset ≤ p.before) × (p.before + 4 ≤ p.end) × (key ≡ last_at img (on_page at p.before) p.rank)

-- some of n entries were read
pub record Skims (sort : Sort) (img : List ℕ) (at : Place) (l : Last) (n : ℕ) (r : Skimmed) : Type 0 where
  pub few : r.count ≤ n
  pub read : Entering sort img at l r.count (Some r.to)
