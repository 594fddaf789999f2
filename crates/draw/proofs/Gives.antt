-- A chain of continuation pages given back, page by page.
use Prim.Native.Nat.{ℕ, suc, ◌+◌, ◌<◌, ◌≤◌}
use native.Mathlib.Omega.{arith}
use mathlib.Core.Path.{◌≡◌, refl, ap, sym, ◌∙◌, subst}
use mathlib.Core.Logic.{◌≢◌}
use mathlib.Core.Bool.{Bool, true, false, cond}
use mathlib.Core.List.{List, [], ◌∷◌, ◌++◌, map}
use lib.ListN.{length}
use lib.Dec.{ltb, lit≤}
use borrow.Author.Tests.{ltb-true}
use Rattle.blockfile.specs.Bytes.{pg, be32, word32, apply, first_of}
use Rattle.blockfile.specs.Marks.{block_mark, free_mark}
use Rattle.blockfile.specs.Layout.{Block}
use Rattle.blockfile.specs.Fields.{AreConts}
use Rattle.blockfile.specs.WellFormed.{Piece, superblock, block, free_page, free_pieces, first_block, count}
use Rattle.blockfile.specs.Free.{list_page, new_block, give_page, give_many}
use Rattle.blockfile.proofs.Count.{count-here, count-append, every-counted}
use Rattle.blockfile.proofs.Owned.{owned_by}
use Rattle.laws.proofs.Numbers.{length-word32}
use Rattle.laws.proofs.Writes.{apply-append, length-apply, pg-apply-other}
use Rattle.laws.proofs.Steps.{Holds, Kept, map-kept, at-most-once, piece-owned}
use Rattle.laws.proofs.Opens.{all_pieces}
use Rattle.laws.proofs.Draws.{give-one, few-given}
use Rattle.pages.specs.Places.{Inside}
use Rattle.pages.specs.Taking.{Giveable, Gave}
use Rattle.draw.specs.Hands.{InHand, Chained, GaveChain}
use Rattle.draw.proofs.Hands.{shown, hand-pages, hand-few}
use Rattle.draw.proofs.Chains.{first_some, chain-inside, pages_from, chain_length}

-- ---- The other pages in hand stay

module _ (p z : ℕ) (things : List Piece) (img : List ℕ) (x : ℕ) (sp : List ℕ) (n : ℕ) (there : 1 ≤ count n sp) where
  -- what a page in hand is not: a page that is owned, or the page x in hand before it
  not-owned : (qs : List Piece) → Holds p img qs (x ∷ sp) → (m : ℕ) → 1 ≤ count m (owned_by qs) + count m (x ∷ []) → n ≢ m
  not-owned qs h m l e = omega (arith, at-most-once h m, subst (λ (k : ℕ). 1 ≤ count k sp) e there)

  module _ (bs : List Block) (h : Holds p img (all_pieces p z things bs) (x ∷ sp)) where
    not-given : n ≢ x
    not-given = not-owned (all_pieces p z things bs) h x (omega (arith, count-here x []))

    new-stays : pg (apply (new_block x bs).writes img) n ≡ pg img n
    unfolding block_mark word32
    new-stays =
        pg-apply-other n (new_block x bs).writes img (lit≤ tt, (lit≤ tt, tt))
        (not-given, (not-owned (all_pieces p z things bs) h 1 (omega (arith, piece-owned [] (things ++ free_pieces bs) (superblock p (first_block bs) z) 1 [] refl)), tt))

  listed-stays : (b : Block) (bs : List Block) → Holds p img (all_pieces p z things (b ∷ bs)) (x ∷ sp) → length b.listed < 252
      → pg (apply (list_page x b bs).writes img) n ≡ pg img n
  listed-stays b bs h l =
      let top : List Piece = superblock p b.page z ∷ things in
      let not : n ≢ b.page = not-owned (all_pieces p z things (b ∷ bs)) h b.page
      (omega (arith, piece-owned top (map free_page b.listed ++ free_pieces bs) (block b (first_block bs)) b.page [] refl)) in
      pg-apply-other n (list_page x b bs).writes img
      (unfold free_mark in (lit≤ tt), (omega (arith, length-word32 x), (omega (arith, length-word32 (length b.listed + 1)), tt)))
      (not-given (b ∷ bs) h, (not, (not, tt)))

  -- giving back the page x leaves the page n
  given_stays : (bs : List Block) → Holds p img (all_pieces p z things bs) (x ∷ sp) → pg (apply (give_page x bs).writes img) n ≡ pg img n
  given_stays [] h = new-stays [] h
  given_stays (b ∷ bs) h = go (ltb (length b.listed) 252) refl
    where
      go : (t : Bool) → ltb (length b.listed) 252 ≡ t → pg (apply (cond t (list_page x b bs) (new_block x (b ∷ bs))).writes img) n ≡ pg img n
      go true e = listed-stays b bs h (ltb-true (length b.listed) 252 e)
      go false e = new-stays (b ∷ bs) h

-- ---- One page of a chain given back

-- of the pages `old`, with the free list bs, the first was given back, which left img'; the chain goes on from `next`
pub record Turn (img old : List ℕ) (bs : List Block) (next : ℕ) (img' : List ℕ) : Type 0 where
  pub after : Chained img' next
  pub fewer : suc (length after.old) ≡ length old
  pub same : apply (give_many after.old after.hand.free).writes img' ≡ apply (give_many old bs).writes img
  pub size : length img' ≡ length img

module _ {img : List ℕ} where
  give-first : (x : ℕ) (xs : List ℕ) (h : InHand img (x ∷ xs)) → AreConts (x ∷ xs) (map (pg img) (x ∷ xs)) → (next : ℕ) → next ≡ be32 (pg img x) 4
      → Turn img (x ∷ xs) h.free next (apply (give_page x h.free).writes img)
  give-first x xs h l next e =
      let bs : List Block = h.free in
      let img' : List ℕ = apply (give_page x bs).writes img in
      let stays : Kept (pg img) (pg img') xs
      = every-counted (λ n. pg img n ≡ pg img' n) xs
      (λ n k. sym (given_stays h.pages h.span_size h.things img x (xs ++ h.spare) n (omega (arith, count-append n xs h.spare)) bs h.holds)) in
      record {
        after = record {
          old = xs;
          hand = record {
            pages = h.pages;
            span_size = h.span_size;
            things = h.things;
            free = (give_page x bs).free;
            spare = h.spare;
            holds = give-one h.pages h.span_size h.things img (xs ++ h.spare) x bs h.holds;
            few = few-given (x ∷ []) bs h.few;
          };
          first = e ∙ l.1;
          linked = subst (AreConts xs) (map-kept (pg img) (pg img') xs stays) l.2;
        };
        fewer = refl;
        same = sym (apply-append (give_page x bs).writes (give_many xs (give_page x bs).free).writes img);
        size = length-apply (give_page x bs).writes img;
      }

  module _ {page : ℕ} (c : Chained img page) (some : page ≡ 0 → ⊥) where
    there : 0 < length c.old
    there = first_some 0 c.old (λ z. some (c.first ∙ z))

    pub give-inside : (o w : ℕ) → o + w ≤ 1024 → Inside img page o w
    give-inside o w f = rw c.first (chain-inside c 0 o w there f)

    pub giveable : Giveable img page
    giveable =
        let i : Inside img page 0 0 = give-inside 0 0 (omega arith) in
        record { free = c.hand.free; shown = shown c.hand; low = i.low; high = i.high }

    pub give-turn : (next : ℕ) → next ≡ be32 (pg img page) 4 → (img' : List ℕ) → Gave img page img' → Turn img c.old c.hand.free next img'
    give-turn next e img' g = go c.old c.hand c.first c.linked
      where
        go : (old : List ℕ) (h : InHand img old) → page ≡ first_of old → AreConts old (map (pg img) old) → Turn img old h.free next img'
        go [] h f l = absurd (some f)
        go (x ∷ xs) h f l =
            subst (Turn img (x ∷ xs) h.free next) (sym (g h.free (shown h) ∙ ap (λ (k : ℕ). apply (give_page k h.free).writes img) f))
            (give-first x xs h l next (e ∙ ap (λ (k : ℕ). be32 (pg img k) 4) f))

-- ---- The loop

-- the pages from `page` on are left to be given back, which makes the image up to `goal`; with the pages given they are `all`
pub record Left (goal : List ℕ) (all : ℕ) (img : List ℕ) (page given : ℕ) : Type 0 where
  pub chain : Chained img page
  pub same : apply (give_many chain.old chain.hand.free).writes img ≡ goal
  pub many : given + length chain.old ≡ all

pub record Giving (img₀ : List ℕ) (start : ℕ) (img : List ℕ) (page given : ℕ) : Type 0 where
  pub size : length img ≡ length img₀
  pub left : (c : Chained img₀ start) → Left (apply (give_many c.old c.hand.free).writes img₀) (length c.old) img page given

pub giving-start : (img : List ℕ) (start : ℕ) → Giving img start img start 0
giving-start img start = record { size = refl; left = λ c. record { chain = c; same = refl; many = omega arith } }

module _ {img₀ : List ℕ} {start : ℕ} {img : List ℕ} {page given : ℕ} (v : Giving img₀ start img page given) where
  -- no more than the image has
  pub given-few : Chained img₀ start → given ≤ 4096
  given-few c = omega (arith, (v.left c).many, hand-few c.hand, c.hand.holds.pages)

  pub giving-next : Chained img₀ start → (page ≡ 0 → ⊥) → (next : ℕ) → next ≡ be32 (pg img page) 4 → (img' : List ℕ) → Gave img page img'
      → Giving img₀ start img' next (given + 1)
  giving-next c₀ some next e img' g =
      record {
        size = (turn c₀).size ∙ v.size;
        left = λ c. record { chain = (turn c).after; same = (turn c).same ∙ (v.left c).same; many = omega (arith, (turn c).fewer, (v.left c).many) };
      }
    where
      turn : (c : Chained img₀ start) → Turn img (v.left c).chain.old (v.left c).chain.hand.free next img'
      turn c = give-turn (v.left c).chain some next e img' g

  -- there are fewer pages from the next one on
  pub giving-less : Chained img₀ start → (page ≡ 0 → ⊥) → (next : ℕ) → next ≡ be32 (pg img page) 4 → (img' : List ℕ) → Gave img page img'
      → pages_from (pg img') (length img') next < pages_from (pg img) (length img) page
  giving-less c some next e img' g =
      let t : Turn img (v.left c).chain.old (v.left c).chain.hand.free next img' = give-turn (v.left c).chain some next e img' g in
      omega (arith, t.fewer, chain_length t.after, chain_length (v.left c).chain)

  pub giving-end : page ≡ 0 → GaveChain img₀ start given img
  giving-end z = record { image = λ c. (over c).0; given = λ c. (over c).1 }
    where
      go : {goal : List ℕ} {all : ℕ} (old : List ℕ) (h : InHand img old) → page ≡ first_of old → apply (give_many old h.free).writes img ≡ goal
          → given + length old ≡ all → (img ≡ goal) × (given ≡ all)
      go [] h f e n = (e, omega arith)
      go (x ∷ xs) h f e n = absurd (omega (arith, (hand-pages h).0))

      over : (c : Chained img₀ start) → (img ≡ apply (give_many c.old c.hand.free).writes img₀) × (given ≡ length c.old)
      over c = let l = v.left c in go l.chain.old l.chain.hand l.chain.first l.same l.many
