-- The free list walked for the page that is taken after so many others.
use Prim.Native.Nat.{ℕ, suc, ◌+◌, ◌*◌, ◌-◌, ◌≤◌, ◌<◌}
use native.Mathlib.Omega.{arith}
use mathlib.Core.List.{List, [], ◌∷◌, map}
use mathlib.Core.Path.{◌≡◌, refl, ap, sym, ◌∙◌, subst}
use lib.ListN.{length, get_or}
use Rattle.blockfile.specs.Bytes.{pg, be32, Every}
use Rattle.blockfile.specs.Layout.{Block, free_count}
use Rattle.blockfile.specs.WellFormed.{free_page, Bears, free_pieces, first_block, count}
use Rattle.blockfile.proofs.Every.{every-right}
use Rattle.laws.specs.FreeList.{FreeList, free_pages}
use Rattle.laws.proofs.FreeRead.{Ranged, in-range, count-block, count-self, count-get_d, numbers-at}
use Rattle.laws.proofs.TakeOrder.{take_order, order-listed, order_block, order-behind, taken_at}
use Rattle.pages.specs.Places.{Inside}
use Rattle.pages.specs.Taking.{Ahead, TakenAfter}

-- the walk for the page after j others of the free list bs is at the block on the page, and `left` pages from there on are skipped
pub record Skipped (img : List ℕ) (bs : List Block) (j page left : ℕ) : Type 0 where
  pub first : Block
  pub others : List Block
  pub bears : Every (Bears (pg img)) (free_pieces (first ∷ others))
  pub few : Every (λ b. length b.listed ≤ 252) (first ∷ others)
  pub inside : (n : ℕ) → 1 ≤ count n (free_pages (first ∷ others)) → Ranged img n
  pub at : page ≡ first.page
  pub more : left < free_count (first ∷ others)
  pub same : get_or (take_order bs) j 0 ≡ get_or (take_order (first ∷ others)) left 0

-- it is so for every free list of more than j pages, and the block lists `many` pages
pub record Skips (img : List ℕ) (j page many left : ℕ) : Type 0 where
  pub lists : many ≡ be32 (pg img page) 12
  pub walk : (bs : List Block) → FreeList img bs → j < free_count bs → Skipped img bs j page left

-- the blocks ds, more than `left` pages, are left
skipped_at : (img : List ℕ) (bs : List Block) (j page left : ℕ) (ds : List Block) → Every (Bears (pg img)) (free_pieces ds) → Every (λ b. length b.listed ≤ 252) ds
    → ((n : ℕ) → 1 ≤ count n (free_pages ds) → Ranged img n) → page ≡ first_block ds → left < free_count ds
    → get_or (take_order bs) j 0 ≡ get_or (take_order ds) left 0 → Skipped img bs j page left
unfolding free_count
skipped_at img bs j page left [] h few i e l s = absurd (omega arith)
skipped_at img bs j page left (d ∷ ds) h few i e l s = record { first = d; others = ds; bears = h; few = few; inside = i; at = e; more = l; same = s }

pub skips-start : (img : List ℕ) (j page many : ℕ) → page ≡ be32 (pg img 1) 16 → many ≡ be32 (pg img page) 12 → Skips img j page many j
skips-start img j page many e c =
    record { lists = c; walk = λ bs h l. skipped_at img bs j page j bs h.bears h.few (in-range h) (e ∙ h.first) l refl }

module _ {img : List ℕ} {bs : List Block} {j page left : ℕ} (s : Skipped img bs j page left) where
  first-ranged : Ranged img page
  first-ranged =
      subst (Ranged img) (sym s.at) (s.inside s.first.page (omega (arith, count-block s.first.page s.first s.others, count-self s.first.page)))

  block_inside : FreeList img bs → (o w : ℕ) → o + w ≤ 1024 → Inside img page o w
  block_inside h o w l = record { small = omega (arith, h.size, h.range); low = omega (arith, first-ranged.low); high = first-ranged.high; fits = l }

  module _ (c : ℕ) (many : c ≡ be32 (pg img page) 12) where
    lists-many : c ≡ length s.first.listed
    lists-many = many ∙ ap (λ (n : ℕ). be32 (pg img n) 12) s.at ∙ s.bears.0.count

    lists-few : c ≤ 252
    lists-few = omega (arith, lists-many, s.few.0)

    in_order : {i n : ℕ} → get_or (take_order (s.first ∷ s.others)) i 0 ≡ n → left ≡ i → get_or (take_order bs) j 0 ≡ n
    in_order e l = s.same ∙ ap (λ (i : ℕ). get_or (take_order (s.first ∷ s.others)) i 0) l ∙ e

    skipped-next : c < left → (n : ℕ) → n ≡ be32 (pg img page) 8 → Skipped img bs j n (left - (c + 1))
    unfolding free_count
    skipped-next l n e =
        skipped_at img bs j n (left - (c + 1)) s.others (every-right (Bears (pg img)) (map free_page s.first.listed) (free_pieces s.others) s.bears.1) s.few.1
        (λ m k. s.inside m (omega (arith, count-block m s.first s.others))) (e ∙ ap (λ (n : ℕ). be32 (pg img n) 8) s.at ∙ s.bears.0.next)
        (omega (arith, s.more, lists-many))
        (s.same ∙ order-behind s.first.page s.first.listed (take_order s.others) (length s.first.listed) left (omega (arith, lists-many))
        ∙ ap (λ (i : ℕ). get_or (take_order s.others) i 0) (omega (arith, lists-many)))

    is_block : left ≡ c → get_or (take_order bs) j 0 ≡ page
    is_block l = in_order (order_block s.first.page s.first.listed (take_order s.others) (length s.first.listed)) (l ∙ lists-many) ∙ sym s.at

    module _ (r : ℕ) (l : left < c) (e : r ≡ be32 (pg img page) (12 + 4 * (c - left))) where
      at-index : r ≡ get_or s.first.listed (length s.first.listed - suc left) 0
      at-index =
          let i : ℕ = length s.first.listed - suc left in
          let o : 12 + 4 * (c - left) ≡ 16 + 4 * i = omega (arith, lists-many) in
          e ∙ (λ k. be32 (pg img (s.at k)) (o k)) ∙ numbers-at (pg img s.first.page) 16 s.first.listed i s.bears.0.listed (omega (arith, lists-many))

      listed-ranged : Ranged img r
      listed-ranged =
          let i : ℕ = length s.first.listed - suc left in
          let x : ℕ = get_or s.first.listed i 0 in
          subst (Ranged img) (sym at-index) (s.inside x (omega (arith, count-block x s.first s.others, count-get_d s.first.listed i (omega (arith, lists-many)))))

      is-listed : get_or (take_order bs) j 0 ≡ r
      is-listed =
          s.same ∙ order-listed s.first.page s.first.listed (take_order s.others) (length s.first.listed) left (omega (arith, lists-many)) ∙ sym at-index

module _ {img : List ℕ} {j page c left : ℕ} (s : Skips img j page c left) where
  pub skips-next : c < left → (n : ℕ) → n ≡ be32 (pg img page) 8 → (m : ℕ) → m ≡ be32 (pg img n) 12 → Skips img j n m (left - (c + 1))
  skips-next l n e m k = record { lists = k; walk = λ bs h g. skipped-next (s.walk bs h g) c s.lists l n e }

  pub skips-inside : Ahead img j → (o w : ℕ) → o + w ≤ 1024 → Inside img page o w
  skips-inside a o w l = block_inside (s.walk a.free a.shown a.more) a.shown o w l

  pub skips-few : Ahead img j → c ≤ 252
  skips-few a = lists-few (s.walk a.free a.shown a.more) c s.lists

  taken : (r : ℕ) → Ranged img r → ((bs : List Block) → FreeList img bs → j < free_count bs → get_or (take_order bs) j 0 ≡ r) → TakenAfter img j r
  taken r i f = record { low = i.low; high = i.high; is = λ bs h l. sym (taken_at (suc j) j bs (omega arith) (omega arith) ∙ f bs h l) }

  pub skips-block : Ahead img j → left ≡ c → TakenAfter img j page
  skips-block a l = taken page (first-ranged (s.walk a.free a.shown a.more)) (λ bs h g. is_block (s.walk bs h g) c s.lists l)

  pub skips-listed : Ahead img j → left < c → (r : ℕ) → r ≡ be32 (pg img page) (12 + 4 * (c - left)) → TakenAfter img j r
  skips-listed a l r e = taken r (listed-ranged (s.walk a.free a.shown a.more) c s.lists r l e) (λ bs h g. is-listed (s.walk bs h g) c s.lists r l e)
