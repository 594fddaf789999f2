-- Pages in hand while a call works: the old continuation pages of a span, pages taken, pages given back.
use Rattle.std.specs.Prelude.{ℕ, ◌+◌, ◌*◌, ◌-◌, ◌≤◌, ◌≡◌, List, [], ◌++◌, map, length, take, drop}
use Rattle.std.proofs.lemmas.List.Edits.{sets}
use Rattle.blockfile.specs.Bytes.{pg, word32, apply, gather, first_of}
use Rattle.blockfile.specs.Layout.{Block, free_count}
use Rattle.blockfile.specs.Fields.{Numbers, AreConts}
use Rattle.blockfile.specs.WellFormed.{Piece}
use Rattle.blockfile.specs.Free.{Drawn, take_many, give_many, draw}
use Rattle.laws.proofs.Steps.{Holds}
use Rattle.laws.proofs.Opens.{all_pieces}
use Rattle.laws.proofs.Draws.{Few}
use Rattle.draw.specs.declared.draw.Kept.{Kept}

-- the image holds a free list and other things, and the pages `old` are in hand, with further pages
pub record InHand (img old : List ℕ) : Type 0 where
  pub pages : ℕ
  pub span_size : ℕ
  pub things : List Piece
  pub free : List Block
  pub spare : List ℕ
  pub holds : Holds pages img (all_pieces pages span_size things free) (old ++ spare)
  pub few : Few free

-- the pages in hand are continuation pages, linked from `start` on
pub record Chained (img : List ℕ) (start : ℕ) : Type 0 where
  pub old : List ℕ
  pub hand : InHand img old
  pub first : start ≡ first_of old
  pub linked : AreConts old (map (pg img) old)

-- the numbers with others stored from index i on
abbrev pub stored : (numbers : List ℕ) (i : ℕ) (ns : List ℕ) → List ℕ
stored numbers i ns = sets numbers (4 * i) (gather word32 ns)

-- ---- Old pages kept

-- so many of the pages `old` are kept for `wanted`, and their numbers stored; r also has the first page that is left
pub record Keeps (old : List ℕ) (wanted : ℕ) (numbers : List ℕ) (at : ℕ) (r : Kept) (list : List ℕ) : Type 0 where
  pub count : r.count ≡ length (take wanted old)
  pub next : r.next ≡ first_of (drop wanted old)
  pub listed : list ≡ stored numbers at (take wanted old)

pub record KeptFor (img : List ℕ) (start wanted : ℕ) (numbers : List ℕ) (at : ℕ) (r : Kept) (list : List ℕ) : Type 0 where
  pub is : (c : Chained img start) → Keeps c.old wanted numbers at r list

-- ---- Pages taken

-- so many pages can be taken
pub record Stocked (img : List ℕ) (count : ℕ) : Type 0 where
  pub hand : InHand img []
  pub enough : count ≤ free_count hand.free

-- they were taken, which left the image out, and their numbers were stored
pub record TookAll (img : List ℕ) (count : ℕ) (numbers : List ℕ) (at : ℕ) (out list : List ℕ) : Type 0 where
  pub image : (s : Stocked img count) → out ≡ apply (take_many count s.hand.free).writes img
  pub listed : (s : Stocked img count) → list ≡ stored numbers at (take_many count s.hand.free).pages

-- ---- Pages given back

-- the continuation pages, r of them, were given back, which left the image out
pub record GaveChain (img : List ℕ) (start r : ℕ) (out : List ℕ) : Type 0 where
  pub image : (c : Chained img start) → out ≡ apply (give_many c.old c.hand.free).writes img
  pub given : (c : Chained img start) → r ≡ length c.old

-- ---- Pages drawn

-- so many pages can be drawn, the old ones first
pub record Drawable (img : List ℕ) (start wanted : ℕ) : Type 0 where
  pub chain : Chained img start
  pub enough : wanted ≤ length chain.old + free_count chain.hand.free

abbrev pub drawn : {img : List ℕ} {start wanted : ℕ} → Drawable img start wanted → Drawn
drawn {img} {start} {wanted} d = draw d.chain.old wanted [] d.chain.hand.free

-- they were drawn, which left the image out; their numbers are in the list, and no other byte of it changed; r old pages were left over
pub record Drew (img : List ℕ) (start wanted : ℕ) (numbers : List ℕ) (at r : ℕ) (out list : List ℕ) : Type 0 where
  pub image : (d : Drawable img start wanted) → out ≡ apply (drawn d).writes img
  pub listed : (d : Drawable img start wanted) → list ≡ stored numbers at (drawn d).pages
  pub stand : (d : Drawable img start wanted) → Numbers list (4 * at) (drawn d).pages
  pub given : (d : Drawable img start wanted) → r ≡ length d.chain.old - wanted
