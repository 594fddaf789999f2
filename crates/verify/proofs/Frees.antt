-- The steps of the walk over the free list.
use Prim.Native.Nat.{ℕ, zero, suc, ◌+◌, ◌*◌, ◌-◌, ◌≤◌, ◌<◌}
use native.Mathlib.Omega.{arith}
use mathlib.Core.Path.{◌≡◌, refl, ap, ap₂, sym, ◌∙◌, subst}
use mathlib.Core.Bool.{Bool, true, false, true≢false}
use mathlib.Core.List.{List, [], ◌∷◌, map}
use lib.ListN.{length}
use Rattle.blockfile.specs.Bytes.{pg, be32, Every, gather}
use Rattle.blockfile.specs.Marks.{block_mark, free_mark}
use Rattle.blockfile.specs.Layout.{Block, free_count}
use Rattle.blockfile.specs.Fields.{Numbers, IsBlock}
use Rattle.blockfile.specs.WellFormed.{Piece, pages_of, Bears, block, free_page, free_pieces, first_block}
use Rattle.heads.specs.Claims.{Lent, claimable, claimed, Claimed}
use Rattle.pages.proofs.Begins.{begins-take, take_begins}
use Rattle.std.proofs.Common.{Option as Answer, Some, None}
use Rattle.std.proofs.lemmas.Option.{none-some, same_Some}
use Rattle.walks.specs.Found.{Open, claims, unclaimed, Found, FindsAt}
use Rattle.walks.proofs.Founds.{SameAt, same_start, same_turn, finds-none, finds-done, found_none, found-join, found_first, found-second, found-lent, claimable-open, unclaimed-claims, length-claimed, length-claims}
use Rattle.walks.proofs.Pieces.{Single, found-claimable, found-rest, found-cons, claim-done, claim-not, claim-lent}
use Rattle.verify.specs.Free.{numbers_at, ListedFound, BlockFound, FreeFound}

pub length-numbers : (b : List ℕ) (o n : ℕ) → length (numbers_at b o n) ≡ n
length-numbers b o zero = refl
length-numbers b o (suc n) = ap suc (length-numbers b (o + 4) n)

-- the numbers that stand there are these
numbers-are : (b : List ℕ) (o : ℕ) (ns : List ℕ) → Numbers b o ns → ns ≡ numbers_at b o (length ns)
numbers-are b o [] h = refl
numbers-are b o (n ∷ ns) h = ap₂ (λ (m : ℕ) (ms : List ℕ). m ∷ ms) (sym h.0) (numbers-are b (o + 4) ns h.1)

are-numbers : (b : List ℕ) (o n : ℕ) → Numbers b o (numbers_at b o n)
are-numbers b o zero = tt
are-numbers b o (suc n) = (refl, are-numbers b (o + 4) n)

-- ---- Listed pages

free-single : (img : List ℕ) (n : ℕ) → Single img (free_page n) n 6
unfolding free_mark
free-single img n = record { page = refl; mark = λ b. take_begins free_mark (pg img n) b }

-- with the page at o claimed, the rest is to be found from there
module _ (img scr : List ℕ) (p o k n : ℕ) (is : n ≡ be32 (pg img p) o) where
  after_one : claimable img scr n 6 ≡ true → SameAt {A = Unit {0}} (λ u. ListedFound img (claimed scr n) p (o + 4) k) (λ u. ListedFound img scr p o (suc k))
  unfolding free_mark
  after_one e =
      let b : Bears (pg img) (free_page n) = begins-take free_mark (pg img n) (claimable-open img scr n 6 e).1 in
      subst
      (λ (m : ℕ). SameAt {A = Unit {0}} (λ u. ListedFound img (claimed scr n) p (o + 4) k)
      (λ u out. Found img scr (free_page m ∷ map free_page (numbers_at (pg img p) (o + 4) k)) out))
      is
      (record {
        to = λ u out f. found-cons img scr (free_page n) n 6 (free-single img n) (map free_page (numbers_at (pg img p) (o + 4) k)) out e b f;
        back = λ u out f. found-rest img scr (free_page n) n 6 (free-single img n) (map free_page (numbers_at (pg img p) (o + 4) k)) out f;
      })

  never : claimable img scr n 6 ≡ false → (out : List ℕ) → ListedFound img scr p o (suc k) out → ⊥
  never e out f =
      true≢false
      (sym (found-claimable img scr (free_page n) n 6 (free-single img n) (map free_page (numbers_at (pg img p) (o + 4) k)) out
      (subst (λ (m : ℕ). Found img scr (free_page m ∷ map free_page (numbers_at (pg img p) (o + 4) k)) out) (sym is) f))
      ∙ e)

-- the loop over the listed pages: i of them are claimed
pub record Listing (img scr₀ scr : List ℕ) (p count i : ℕ) : Type 0 where
  pub most : i ≤ count
  pub long : length scr ≡ length scr₀
  pub lent : Lent img scr
  pub same : SameAt {A = Unit {0}} (λ u. ListedFound img scr p (16 + 4 * i) (count - i)) (λ u. ListedFound img scr₀ p 16 count)

abbrev pub ListedIs : (img scr₀ : List ℕ) (p count : ℕ) (r : Bool) (out : List ℕ) → Type 0
ListedIs img scr₀ p count r out = FindsAt {A = Unit {0}} (λ u. true) (λ u. ListedFound img scr₀ p 16 count) r out

module _ (img scr₀ scr : List ℕ) (p count i : ℕ) (v : Listing img scr₀ scr p count i) where
  pub listing-end : (i < count → ⊥) → ListedIs img scr₀ p count true scr
  listing-end h =
      let z : count - i ≡ 0 = omega arith in
      record {
        sound = λ u e. v.same.to u scr (rw z (found_none img scr));
        complete = λ u t f. let g = v.same.back u t f in (refl, sym (rw z at g.left));
      }

  module _ (l : i < count) (n : ℕ) (is : n ≡ be32 (pg img p) (16 + 4 * i)) (r : Bool) (s : List ℕ) (c : Claimed img scr n 6 r s) where
    here : SameAt {A = Unit {0}} (λ u. ListedFound img scr p (16 + 4 * i) (suc (count - (i + 1)))) (λ u. ListedFound img scr₀ p 16 count)
    here = let z : count - i ≡ suc (count - (i + 1)) = omega arith in rw z at v.same

    pub listing-no : r ≡ false → ListedIs img scr₀ p count false s
    listing-no e =
        record {
          sound = λ u q. absurd (true≢false (sym q));
          complete = λ u t f. absurd (never img scr p (16 + 4 * i) (count - (i + 1)) n is (claim-not img scr n 6 r s c e) t (here.back u t f));
        }

    pub listing-next : r ≡ true → Listing img scr₀ s p count (i + 1)
    listing-next e =
        let d : (claimable img scr n 6 ≡ true) × (s ≡ claimed scr n) = claim-done img scr n 6 r s c e in
        let o : 16 + 4 * (i + 1) ≡ 16 + 4 * i + 4 = omega arith in
        record {
          most = omega arith;
          long = ap length d.1 ∙ length-claimed scr n ∙ v.long;
          lent = claim-lent c e v.lent;
          same = rw (o, d.1) (same_turn (after_one img scr p (16 + 4 * i) (count - (i + 1)) n is d.0) here);
        }

-- ---- A block

block-single : (img : List ℕ) (p n : ℕ) (ns : List ℕ) → Single img (block (record { page = p; listed = ns }) n) p 5
unfolding block_mark
block-single img p n ns = record { page = refl; mark = λ b. take_begins block_mark (pg img p) b.mark }

module _ (img scr : List ℕ) (p : ℕ) where
  -- the block's page, with the fields that its bytes have
  abbrev block_at : Block
  block_at = record { page = p; listed = numbers_at (pg img p) 16 (be32 (pg img p) 12) }

  abbrev block_pieces : List Piece
  block_pieces = block block_at (be32 (pg img p) 8) ∷ map free_page block_at.listed

  -- a block that is found is the one that the bytes have
  found-is : (m : ℕ) (out : List ℕ) → BlockFound img scr p m out → (m ≡ 1 + be32 (pg img p) 12) × (be32 (pg img p) 12 ≤ 252) × Found img scr block_pieces out
  found-is m out f =
      let i : IsBlock f.listed (be32 (pg img p) 8) (pg img p) = f.found.bears.0 in
      let l : f.listed ≡ block_at.listed = numbers-are (pg img p) 16 f.listed i.listed ∙ ap (numbers_at (pg img p) 16) (sym i.count) in (
        omega (arith, f.total, i.count),
        omega (arith, f.few, i.count),
        subst (λ (ns : List ℕ). Found img scr (block (record { page = p; listed = ns }) (be32 (pg img p) 8) ∷ map free_page ns) out) l f.found,
      )

  is_found : (out : List ℕ) → be32 (pg img p) 12 ≤ 252 → Found img scr block_pieces out → BlockFound img scr p (1 + be32 (pg img p) 12) out
  is_found out h f =
      let n : length block_at.listed ≡ be32 (pg img p) 12 = length-numbers (pg img p) 16 (be32 (pg img p) 12) in
      record { listed = block_at.listed; few = omega arith; found = f; total = omega arith }

  module _ (r : Bool) (s : List ℕ) (c : Claimed img scr p 5 r s) where
    pub block_no : r ≡ false → FindsAt Some (BlockFound img scr p) None s
    block_no e =
        finds-none (same_start (BlockFound img scr p))
        (λ m t f. true≢false
        (sym (found-claimable img scr (block block_at (be32 (pg img p) 8)) p 5 (block-single img p _ _) (map free_page block_at.listed) t (found-is m t f).2)
        ∙ claim-not img scr p 5 r s c e))

    module _ (e : r ≡ true) (n : ℕ) (is : n ≡ be32 (pg img p) 12) where
      pub block-over : 252 < n → FindsAt Some (BlockFound img scr p) None s
      block-over h =
          finds-none (same_start (BlockFound img scr p)) (λ m t f. omega (arith, (found-is m t f).1))

      module _ (q : Bool) (t : List ℕ) (l : ListedIs img s p n q t) where
        listed-is : ListedIs img (claimed scr p) p (be32 (pg img p) 12) q t
        listed-is = subst (λ (x : List ℕ). ListedIs img x p (be32 (pg img p) 12) q t) (claim-done img scr p 5 r s c e).1 (rw is at l)

        inner : (u : List ℕ) → Found img scr block_pieces u → ListedFound img (claimed scr p) p 16 (be32 (pg img p) 12) u
        inner u f = found-rest img scr (block block_at (be32 (pg img p) 8)) p 5 (block-single img p _ _) (map free_page block_at.listed) u f

        pub block-not : q ≡ false → FindsAt Some (BlockFound img scr p) None t
        block-not h =
            finds-none (same_start (BlockFound img scr p))
            (λ m u f. true≢false (sym (listed-is.complete tt u (inner u (found-is m u f).2)).0 ∙ h))

        pub block-done : n ≤ 252 → q ≡ true → FindsAt Some (BlockFound img scr p) (Some (1 + n)) t
        unfolding block_mark
        block-done few h =
            let d : (claimable img scr p 5 ≡ true) × (s ≡ claimed scr p) = claim-done img scr p 5 r s c e in
            let b : Bears (pg img) (block block_at (be32 (pg img p) 8)) =
            record {
              mark = begins-take block_mark (pg img p) (claimable-open img scr p 5 d.0).1;
              next = refl;
              count = sym (length-numbers (pg img p) 16 (be32 (pg img p) 12));
              listed = are-numbers (pg img p) 16 (be32 (pg img p) 12);
            } in
            let f : Found img scr block_pieces t
            = found-cons img scr (block block_at (be32 (pg img p) 8)) p 5 (block-single img p _ _) (map free_page block_at.listed) t d.0 b (listed-is.sound tt h) in
            finds-done (same_start (BlockFound img scr p)) (1 + n)
            (subst (λ (m : ℕ). BlockFound img scr p (1 + m) t) (sym is) (is_found t (omega arith) f))
            (λ m u g. (omega (arith, (found-is m u g).0), (listed-is.complete tt u (inner u (found-is m u g).2)).1))

-- ---- The chain of blocks

owned-free : (ns : List ℕ) → gather pages_of (map free_page ns) ≡ ns
owned-free [] = refl
owned-free (n ∷ ns) = ap (λ (ms : List ℕ). n ∷ ms) (owned-free ns)

-- a block that was claimed is a page of the image, and uses up pages that were not claimed
pub block-turn : (img scr : List ℕ) (p m : ℕ) (out : List ℕ) → BlockFound img scr p m out → Open scr p × (unclaimed scr ≡ m + unclaimed out) × (1 ≤ m) × (length out ≡ length scr)
block-turn img scr p m out f =
    let ns : List ℕ = gather pages_of (block (record { page = p; listed = f.listed }) (be32 (pg img p) 8) ∷ map free_page f.listed) in
    let n : length ns ≡ 1 + length f.listed = ap (λ (ms : List ℕ). suc (length ms)) (owned-free f.listed) ∙ add-comm-one (length f.listed) in (
      f.found.fresh.0,
      omega (arith, unclaimed-claims scr ns f.found.fresh, ap unclaimed f.found.left, n, f.total),
      omega (arith, f.total),
      ap length f.found.left ∙ length-claims scr ns,
    )
  where
    add-comm-one : (k : ℕ) → suc k ≡ 1 + k
    add-comm-one k = omega arith

module _ (img scr : List ℕ) (p n : ℕ) where
  chain-end : p ≡ 0 → FreeFound img scr p n n scr
  unfolding free_count
  chain-end e = record { blocks = []; first = e; few = tt; found = found_none img scr; total = omega arith }

  chain-only : p ≡ 0 → (m : ℕ) (out : List ℕ) → FreeFound img scr p n m out → (n ≡ m) × (scr ≡ out)
  unfolding free_count
  chain-only e m out f = go f.blocks f.first f.found f.total
    where
      go : (bs : List Block) → p ≡ first_block bs → Found img scr (free_pieces bs) out → m ≡ n + free_count bs → (n ≡ m) × (scr ≡ out)
      go [] q g t = (omega arith, sym g.left)
      go (b ∷ bs) q g t = absurd (omega (arith, g.fresh.0.low))

  -- the first block, and the chain after it
  chain-split : (p ≡ 0 → ⊥) → (m : ℕ) (out : List ℕ) → FreeFound img scr p n m out
      → (k : ℕ) × (mid : List ℕ) × BlockFound img scr p k mid × FreeFound img mid (be32 (pg img p) 8) (n + k) m out
  unfolding free_count
  chain-split z m out f = go f.blocks f.first f.few f.found f.total
    where
      go : (bs : List Block) → p ≡ first_block bs → Every (λ b. length b.listed ≤ 252) bs → Found img scr (free_pieces bs) out → m ≡ n + free_count bs
          → (k : ℕ) × (mid : List ℕ) × BlockFound img scr p k mid × FreeFound img mid (be32 (pg img p) 8) (n + k) m out
      go [] q h g t = absurd (z q)
      go (b ∷ bs) q h g t =
          let own : List Piece = block b (first_block bs) ∷ map free_page b.listed in
          let x : first_block bs ≡ be32 (pg img p) 8 = sym g.bears.0.next ∙ ap (λ (m : ℕ). be32 (pg img m) 8) (sym q) in (
            1 + length b.listed,
            claims scr (gather pages_of own),
            record {
              listed = b.listed;
              few = h.0;
              found = subst (λ (ps : List Piece). Found img scr ps (claims scr (gather pages_of own)))
                  (λ i. block (record { page = sym q i; listed = b.listed }) (x i) ∷ map free_page b.listed) (found_first img scr own (free_pieces bs) out g);
              total = refl;
            },
            record { blocks = bs; first = sym x; few = h.1; found = found-second img scr own (free_pieces bs) out g; total = omega arith },
          )

  module _ (z : p ≡ 0 → ⊥) (a : Answer ℕ) (s : List ℕ) (b : FindsAt Some (BlockFound img scr p) a s) where
    chain-no : a ≡ None → (m : ℕ) (out : List ℕ) → FreeFound img scr p n m out → ⊥
    chain-no e m out f =
        let x = chain-split z m out f in
        none-some x.0 (sym e ∙ (b.complete x.0 x.1 x.2).0)

    chain_more : (k : ℕ) → a ≡ Some k → SameAt (FreeFound img s (be32 (pg img p) 8) (n + k)) (FreeFound img scr p n)
    unfolding free_count
    chain_more k e =
        let f : BlockFound img scr p k s = b.sound k e in
        record {
          to = λ m out g. record {
            blocks = record { page = p; listed = f.listed } ∷ g.blocks;
            first = refl;
            few = (f.few, g.few);
            found = found-join img scr (block (record { page = p; listed = f.listed }) (first_block g.blocks) ∷ map free_page f.listed) (free_pieces g.blocks) s out
                (subst (λ (x : ℕ). Found img scr (block (record { page = p; listed = f.listed }) x ∷ map free_page f.listed) s) g.first f.found) g.found;
            total = omega (arith, f.total, g.total);
          };
          back = λ m out g.
              let x = chain-split z m out g in
              let d = b.complete x.0 x.1 x.2 in
              let j : x.0 ≡ k = same_Some x.0 k (sym d.0 ∙ e) in
              subst (λ (i : ℕ). FreeFound img s (be32 (pg img p) 8) (n + i) m out) j
              (subst (λ (t : List ℕ). FreeFound img t (be32 (pg img p) 8) (n + x.0) m out) (sym d.1) x.3);
        }

-- the loop over the blocks: n pages are found, and the next block is on page p
pub record Freeing (img scr₀ : List ℕ) (start : ℕ) (scr : List ℕ) (p n : ℕ) : Type 0 where
  pub long : length scr ≡ length scr₀
  pub lent : Lent img scr
  pub used : n + unclaimed scr ≡ unclaimed scr₀
  pub same : SameAt (FreeFound img scr p n) (FreeFound img scr₀ start 0)

module _ (img scr₀ : List ℕ) (start : ℕ) (scr : List ℕ) (p n : ℕ) (v : Freeing img scr₀ start scr p n) where
  pub freeing-end : p ≡ 0 → FindsAt Some (FreeFound img scr₀ start 0) (Some n) scr
  freeing-end e = finds-done v.same n (chain-end img scr p n e) (chain-only img scr p n e)

  module _ (z : p ≡ 0 → ⊥) (a : Answer ℕ) (s : List ℕ) (b : FindsAt Some (BlockFound img scr p) a s) where
    pub freeing-no : a ≡ None → FindsAt Some (FreeFound img scr₀ start 0) None s
    freeing-no e = finds-none v.same (chain-no img scr p n z a s b e)

    pub freeing-next : (k m : ℕ) → a ≡ Some k → m ≡ be32 (pg img p) 8 → Freeing img scr₀ start s m (n + k)
    freeing-next k m e is =
        let t = block-turn img scr p k s (b.sound k e) in
        record {
          long = t.3 ∙ v.long;
          lent = found-lent v.lent (b.sound k e).found;
          used = omega (arith, t.1, v.used);
          same = rw is (same_turn (chain_more img scr p n z a s b k e) v.same);
        }
