-- The free list as code reads it: its pages are in range, and taking and giving back go by the numbers in the bytes.
use Prim.Native.Nat.{ℕ, zero, suc, ◌+◌, ◌*◌, ◌-◌, ◌<◌, ◌≤◌}
use native.Mathlib.Omega.{arith}
use mathlib.Core.Path.{◌≡◌, refl, ap, sym, ◌∙◌, subst}
use mathlib.Core.Bool.{Bool, true, false, ◌&&◌, cond}
use mathlib.Core.List.{List, [], ◌∷◌, ◌++◌, map}
use lib.ListN.{length, get_or}
use lib.Dec.{leb}
use borrow.Author.Tests.{lt-ltb, le-ltb, leb-true, eq-eqb}
use Rattle.blockfile.specs.Bytes.{be32, word32, Write, on, Every, gather}
use Rattle.blockfile.specs.Marks.{block_mark, free_mark}
use Rattle.blockfile.specs.Layout.{Block, free_count}
use Rattle.blockfile.specs.Order.{Within, within}
use Rattle.blockfile.specs.Fields.{Numbers}
use Rattle.blockfile.specs.WellFormed.{Piece, free_page, Bears, pages_of, free_pieces, first_block, count}
use Rattle.blockfile.specs.Free.{Drawn, take_from, take_page, give_page}
use Rattle.laws.specs.FreeList.{FreeList, free_pages}

-- ---- how often a page is in a free list

pub count-append : (n : ℕ) (xs ys : List ℕ) → count n (xs ++ ys) ≡ count n xs + count n ys
count-append n [] ys = omega arith
count-append n (x ∷ xs) ys = omega (arith, count-append n xs ys)

count-listed : (n : ℕ) (ns : List ℕ) (ps : List Piece) → count n (gather pages_of (map free_page ns ++ ps)) ≡ count n ns + count n (gather pages_of ps)
count-listed n [] ps = omega arith
count-listed n (x ∷ ns) ps = omega (arith, count-listed n ns ps)

-- the block itself, the pages it lists, the blocks after it
pub count-block : (n : ℕ) (b : Block) (bs : List Block)
    → count n (free_pages (b ∷ bs)) ≡ count n (b.page ∷ []) + (count n b.listed + count n (free_pages bs))
count-block n b bs = omega (arith, count-listed n b.listed (free_pieces bs))

pub count-self : (n : ℕ) → count n (n ∷ []) ≡ 1
count-self n = rw (eq-eqb n n refl)

pub count-get_d : (ns : List ℕ) (i : ℕ) → i < length ns → 1 ≤ count (get_or ns i 0) ns
count-get_d [] i l = absurd (omega arith)
count-get_d (n ∷ ns) zero l = omega (arith, count-self n)
count-get_d (n ∷ ns) (suc i) l = omega (arith, count-get_d ns i (omega arith))

-- ---- the pages of a free list are in range

-- a page of the image, not its first
pub record Ranged (img : List ℕ) (n : ℕ) : Type 0 where
  pub low : 2 ≤ n
  pub high : 1024 * n ≤ length img

pub within_both : (lo hi n : ℕ) → 1 ≤ cond (within lo hi n) 1 0 → Within lo hi n
within_both lo hi n = go (leb lo n) (leb n hi) refl refl
  where
    go : (a b : Bool) → leb lo n ≡ a → leb n hi ≡ b → 1 ≤ cond (a && b) 1 0 → Within lo hi n
    go true true p q h = (leb-true lo n p, leb-true n hi q)
    go true false p q h = absurd (omega arith)
    go false b p q h = absurd (omega arith)

module _ {img : List ℕ} where
  pub in-range : {bs : List Block} → FreeList img bs → (n : ℕ) → 1 ≤ count n (free_pages bs) → Ranged img n
  in-range h n l =
      let r : Within 2 h.pages n = within_both 2 h.pages n (omega (arith, h.once n)) in
      record { low = r.0; high = omega (arith, h.size) }

  pub first-in : (bs : List Block) → FreeList img bs → 1 ≤ first_block bs → Ranged img (first_block bs)
  first-in [] h l = absurd (omega arith)
  first-in (b ∷ bs) h l = in-range h b.page (omega (arith, count-block b.page b bs, count-self b.page))

  pub listed_in : (b : Block) (bs : List Block) → FreeList img (b ∷ bs) → (i : ℕ) → i < length b.listed → Ranged img (get_or b.listed i 0)
  listed_in b bs h i l = in-range h (get_or b.listed i 0) (omega (arith, count-block (get_or b.listed i 0) b bs, count-get_d b.listed i l))

  -- a list that is not empty has a first block
  pub first_some : (bs : List Block) → FreeList img bs → 1 ≤ free_count bs → 1 ≤ first_block bs
  unfolding free_count
  first_some [] h l = absurd (omega arith)
  first_some (b ∷ bs) h l = let r : Ranged img b.page = in-range h b.page (omega (arith, count-block b.page b bs, count-self b.page)) in omega (arith, r.low)

-- ---- taking and giving back

pub numbers-at : (b : List ℕ) (o : ℕ) (ns : List ℕ) (i : ℕ) → Numbers b o ns → i < length ns → be32 b (o + 4 * i) ≡ get_or ns i 0
numbers-at b o [] i h l = absurd (omega arith)
numbers-at b o (n ∷ ns) zero h l = let e : o + 4 * 0 ≡ o = omega arith in rw e h.0
numbers-at b o (n ∷ ns) (suc i) h l = let e : o + 4 * suc i ≡ o + 4 + 4 * i = omega arith in rw e (numbers-at b (o + 4) ns i h.1 (omega arith))

-- what taking a page does
pub record Takes (d : Drawn) (x : ℕ) (w : Write) : Type 0 where
  pub page : d.pages ≡ x ∷ []
  pub write : d.writes ≡ w ∷ []

-- what is written where the page x is listed in the block f with count c, and where it becomes the first block before f
abbrev pub list_writes : (x f c : ℕ) → List Write
list_writes x f c = on x 0 free_mark ∷ on f (16 + 4 * c) (word32 x) ∷ on f 12 (word32 (c + 1)) ∷ []

abbrev pub block_writes : (x f : ℕ) → List Write
block_writes x f = on x 0 (block_mark ++ (word32 f ++ word32 0)) ∷ on 1 16 (word32 x) ∷ []

-- g gives the bytes of a page; f is the first free-list page and c its count, as read
module _ (g : ℕ → List ℕ) (f c : ℕ) (some : 1 ≤ f) (count : c ≡ be32 (g f) 12) where
  counted : (b : Block) (bs : List Block) → f ≡ b.page → Every (Bears g) (free_pieces (b ∷ bs)) → length b.listed ≡ c
  counted b bs e h = sym h.0.count ∙ ap (λ (n : ℕ). be32 (g n) 12) (sym e) ∙ sym count

  pub count-few : (bs : List Block) → f ≡ first_block bs → Every (Bears g) (free_pieces bs) → Every (λ b. length b.listed ≤ 252) bs → c ≤ 252
  count-few [] e h few = absurd (omega arith)
  count-few (b ∷ bs) e h few = omega (arith, counted b bs e h, few.0)

  pub take-block : (bs : List Block) → f ≡ first_block bs → Every (Bears g) (free_pieces bs) → c ≡ 0
      → Takes (take_page bs) f (on 1 16 (word32 (be32 (g f) 8)))
  take-block [] e h z = absurd (omega arith)
  take-block (b ∷ bs) e h z = record { page = rw (counted b bs e h ∙ z, e); write = rw (counted b bs e h ∙ z, e, h.0.next) }

  pub take-listed : (bs : List Block) → f ≡ first_block bs → Every (Bears g) (free_pieces bs) → 1 ≤ c
      → Takes (take_page bs) (be32 (g f) (12 + 4 * c)) (on f 12 (word32 (c - 1)))
  take-listed [] e h z = absurd (omega arith)
  take-listed (b ∷ bs) e h z =
      let l : length b.listed ≡ suc (c - 1) = omega (arith, counted b bs e h) in
      let o : 12 + 4 * c ≡ 16 + 4 * (c - 1) = omega arith in
      let last : be32 (g b.page) (12 + 4 * c) ≡ get_or b.listed (c - 1) 0
      = rw o (numbers-at (g b.page) 16 b.listed (c - 1) h.0.listed (omega arith)) in
      record { page = rw (l, e, last); write = rw (l, e) }

  module _ (x : ℕ) where
    pub give-listed : (bs : List Block) → f ≡ first_block bs → Every (Bears g) (free_pieces bs) → c < 252
        → (give_page x bs).writes ≡ list_writes x f c
    give-listed [] e h l = absurd (omega arith)
    give-listed (b ∷ bs) e h l = rw (counted b bs e h, lt-ltb c 252 l, e)

    pub give-full : (bs : List Block) → f ≡ first_block bs → Every (Bears g) (free_pieces bs) → 252 ≤ c → (give_page x bs).writes ≡ block_writes x f
    give-full [] e h l = absurd (omega arith)
    give-full (b ∷ bs) e h l = rw (counted b bs e h, le-ltb c 252 l, e)

-- the page taken is in range
pub taken_in : {img : List ℕ} (bs : List Block) → FreeList img bs → (x : ℕ) → (take_page bs).pages ≡ x ∷ [] → Ranged img x
taken_in {img} [] h x e = absurd (let z : ◌≡◌ {A = ℕ} 0 1 = cc in omega arith)
taken_in {img} (b ∷ bs) h x e = go (length b.listed) refl e
  where
    go : (n : ℕ) → length b.listed ≡ n → (take_from b.page b.listed n bs).pages ≡ x ∷ [] → Ranged img x
    go zero l e = let q : b.page ≡ x = cc in subst (Ranged img) q (in-range h b.page (omega (arith, count-block b.page b bs, count-self b.page)))
    go (suc n) l e = let q : get_or b.listed n 0 ≡ x = cc in subst (Ranged img) q (listed_in b bs h n (omega arith))

-- a list with no first block is empty
pub give-empty : {img : List ℕ} (x : ℕ) (bs : List Block) → FreeList img bs → first_block bs ≡ 0 → (give_page x bs).writes ≡ block_writes x 0
give-empty x [] h e = refl
give-empty x (b ∷ bs) h e = let r : 1 ≤ b.page = first_some (b ∷ bs) h (unfold free_count in (omega arith)) in absurd (omega arith)
