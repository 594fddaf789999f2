-- Places in the pages of a span, and the bytes from there on.
use Rattle.std.specs.Prelude.{◌≡◌, ℕ, ◌+◌, ◌-◌, ◌*◌, ◌<◌, ◌≤◌, cond, List, ◌++◌, map, length, take, drop, nat_lt, slice_index}
use Rattle.blockfile.specs.Bytes.{pg, be16, be32, Every, gather, first_of}
use Rattle.blockfile.specs.Fields.{AreConts}
use Rattle.entries.specs.declared.place.Place.{Place}
use Rattle.entries.specs.declared.place.Got.{Got}
use Rattle.entries.specs.declared.place.Sizes.{Sizes}

-- n is one of the pages of the image
pub record IsPage (img : List ℕ) (n : ℕ) : Type 0 where
  pub low : 1 ≤ n
  pub high : 1024 * n ≤ length img

-- the bytes of pages as one stream, each from offset 8 on
abbrev pub stream_of : (img pages : List ℕ) → List ℕ
stream_of img ps = gather (λ b. drop 8 b) (map (pg img) ps)

-- s are the bytes from the place on: the rest of its page, and the continuation pages that follow along the links up to 0
pub record Rest (img : List ℕ) (at : Place) (s : List ℕ) : Type 0 where
  pub small : length img ≤ 4194304
  pub page : IsPage img at.page
  pub low : 8 ≤ at.offset
  pub high : at.offset ≤ 1024
  pub more : List ℕ
  pub linked : be32 (pg img at.page) 4 ≡ first_of more
  pub conts : AreConts more (map (pg img) more)
  pub inside : Every (IsPage img) more
  pub is : s ≡ drop at.offset (pg img at.page) ++ stream_of img more

-- there are n bytes from the place on
pub record Enough (img : List ℕ) (at : Place) (n : ℕ) : Type 0 where
  pub bytes : List ℕ
  pub rest : Rest img at bytes
  pub long : n ≤ length bytes

-- the second place is n bytes after the first
pub record Moved (img : List ℕ) (at : Place) (n : ℕ) (after : Place) : Type 0 where
  pub to : (s : List ℕ) → Rest img at s → Rest img after (drop n s)

-- how many bytes are passed over from offset o on so that n bytes lie on one page
unfoldable pub gap : (o n : ℕ) → ℕ
gap o n = cond (nat_lt 1024 (o + n)) (1024 - o) 0

-- the first place from here on where n bytes lie on one page
pub record Settled (img : List ℕ) (at : Place) (n : ℕ) (here : Place) : Type 0 where
  pub moved : Moved img at (gap at.offset n) here
  pub small : length img ≤ 4194304
  pub page : IsPage img here.page
  pub low : 8 ≤ here.offset
  pub room : here.offset + n ≤ 1024

-- the image has n bytes more from the place on, if no page breaks off before
pub record Here (img : List ℕ) (at : Place) (n : ℕ) : Type 0 where
  pub low : 1 ≤ at.page
  pub inside : 1024 * (at.page - 1) + at.offset + n ≤ length img

-- these bytes
abbrev pub here : (img : List ℕ) → Place → (n : ℕ) → List ℕ
here img at n = take n (drop (1024 * (at.page - 1) + at.offset) img)

-- the byte at the place, and the place after it
pub record Stepped (img : List ℕ) (at : Place) (g : Got) : Type 0 where
  pub byte : (s : List ℕ) → Rest img at s → g.byte ≡ slice_index s 0
  pub moved : Moved img at 1 g.after

-- the lengths of the entry that follows, and the place after them
pub record Measured (img : List ℕ) (at : Place) (g : Sizes) : Type 0 where
  pub key : (s : List ℕ) → Rest img at s → g.key ≡ be16 (drop (gap at.offset 4) s) 0
  pub value : (s : List ℕ) → Rest img at s → g.value ≡ be16 (drop (gap at.offset 4) s) 2
  pub moved : Moved img at (gap at.offset 4 + 4) g.after
  pub key_below : g.key < 65536
  pub value_below : g.value < 65536

-- the four bytes at the place as a number
pub record Numbered (img : List ℕ) (at : Place) (r : ℕ) : Type 0 where
  pub is : (s : List ℕ) → Rest img at s → r ≡ be32 s 0
  pub below : r < 4294967296

-- the n bytes from the place on are copied over the start of a buffer; its other bytes are kept
pub record Copied (img : List ℕ) (at : Place) (n : ℕ) (old new : List ℕ) : Type 0 where
  pub is : (s : List ℕ) → Rest img at s → new ≡ take n s ++ drop n old
