-- Taking free pages, giving pages back, and drawing, on what an image holds.
use Prim.Native.Nat.{ℕ, zero, suc, ◌+◌, ◌*◌, ◌-◌, ◌<◌, ◌≤◌}
use native.Mathlib.Omega.{arith}
use mathlib.Core.Path.{◌≡◌, refl, ap, sym, ◌∙◌, subst}
use mathlib.Core.Bool.{Bool, true, false, cond}
use mathlib.Core.List.{List, [], ◌∷◌, ◌++◌, map, append_assoc, map-append}
use lib.ListN.{length, get_or, take, drop, length-append, length-take, length-drop, take-append-drop}
use lib.Seq.{take-suc, take_all}
use lib.Dec.{lit<, lit≤, ltb}
use borrow.Author.Tests.{ltb-true}
use Rattle.blockfile.specs.Bytes.{pg, write, be32, word32, apply, Every}
use Rattle.blockfile.specs.Marks.{block_mark, free_mark}
use Rattle.blockfile.specs.Layout.{Block, free_count}
use Rattle.blockfile.specs.Order.{Within}
use Rattle.blockfile.specs.Fields.{SkipList, LinkedSpan, LinkedTower}
use Rattle.blockfile.specs.WellFormed.{Piece, superblock, block, free_page, free_pieces, first_block, count}
use Rattle.blockfile.specs.Free.{Drawn, take_from, take_page, list_page, new_block, give_page, take_many, give_many, and_then, draw}
use Rattle.blockfile.proofs.Count.{count-here, count-append}
use Rattle.laws.proofs.Numbers.{length-word32}
use Rattle.laws.proofs.Pages.{be32-write-same}
use Rattle.laws.proofs.Writes.{apply-append}
use Rattle.blockfile.proofs.Owned.{owned_by}
use Rattle.laws.proofs.State.{Shows}
use Rattle.laws.proofs.Steps.{Holds, in-range, lies_in, piece-owned, piece-within, in_hand, release, adopt, edit}
use Rattle.laws.proofs.Opens.{held, thing_pieces, all_pieces, to-pieces, from_pieces}
use Rattle.laws.proofs.Written.{super-free, block-less, block-beyond, block_more, block_new, free_new}

-- each block lists at most 252 pages
abbrev pub Few : List Block → Type 0
Few bs = Every (λ b. length b.listed ≤ 252) bs

-- the page n with what it lists
abbrev block_of : (n : ℕ) → List ℕ → Block
block_of n ws = record { page = n; listed = ws }

-- ---- Where a listed page stands among the pieces

around : (top : List Piece) (q : Piece) (ws : List ℕ) (x : ℕ) (fs : List Piece)
    → top ++ (q ∷ (map free_page (ws ++ x ∷ []) ++ fs)) ≡ (top ++ (q ∷ map free_page ws)) ++ (free_page x ∷ fs)
around top q ws x fs = simp (map-append, append_assoc)

behind : (top : List Piece) (q : Piece) (ws : List ℕ) (fs : List Piece) → top ++ (q ∷ (map free_page ws ++ fs)) ≡ (top ++ (q ∷ map free_page ws)) ++ fs
behind top q ws fs = simp append_assoc

-- the first block's page is a page of the image, or 0
first_small : {p : ℕ} {img sp : List ℕ} (qs : List Piece) (bs : List Block) → Holds p img (qs ++ free_pieces bs) sp → first_block bs < 4294967296
first_small qs [] h = lit< tt
first_small {p} {img} {sp} qs (b ∷ bs) h =
    let r : Within 1 p b.page
    = piece-within qs (map free_page b.listed ++ free_pieces bs) (block b (first_block bs)) b.page [] refl h in
    omega (arith, h.pages.1)

-- the superblock points to another first block
point : {p f z : ℕ} {img : List ℕ} (qs : List Piece) {sp : List ℕ} (v : ℕ) → v < 4294967296
    → Holds p img (superblock p f z ∷ qs) sp → Holds p (write img 1 16 (word32 v)) (superblock p v z ∷ qs) sp
point {p} {f} {z} {img} qs v l h =
    edit [] qs (superblock p f z) (superblock p v z) 1 16 [] (word32 v) (omega (arith, length-word32 v)) refl refl
    (λ pos there k b. super-free img 1 pos there v l b) h

-- ---- Taking and giving back one page

-- after what is written the image holds these things and the free list after it
abbrev pub Draws : (p z : ℕ) (img : List ℕ) (things : List Piece) → Drawn → (spare : List ℕ) → Type 0
Draws p z img things d sp = Holds p (apply d.writes img) (all_pieces p z things d.free) sp

module _ (p z : ℕ) (things : List Piece) (img sp : List ℕ) where
  -- the first block lists a page
  take-listed : (n : ℕ) (ws : List ℕ) (x : ℕ) (bs : List Block) → length ws < 4294967296
      → Holds p img (all_pieces p z things (block_of n (ws ++ x ∷ []) ∷ bs)) sp
      → Holds p (write img n 12 (word32 (length ws))) (all_pieces p z things (block_of n ws ∷ bs)) (x ∷ sp)
  take-listed n ws x bs small h =
      let w : List ℕ = word32 (length ws) in
      let top : List Piece = superblock p n z ∷ things in
      let b : Piece = block (block_of n ws) (first_block bs) in
      let h1 : Holds p (write img n 12 w) (top ++ (b ∷ (map free_page (ws ++ x ∷ []) ++ free_pieces bs))) sp
      = edit top (map free_page (ws ++ x ∷ []) ++ free_pieces bs) (block (block_of n (ws ++ x ∷ [])) (first_block bs)) b n 12 [] w
      (omega (arith, length-word32 (length ws))) refl refl (λ pos there k i. block-less img n pos there ws x small i) h in
      subst (λ (l : List Piece). Holds p (write img n 12 w) l (x ∷ sp)) (sym (behind top b ws (free_pieces bs)))
      (release (top ++ (b ∷ map free_page ws)) (free_pieces bs) (free_page x) sp
      (subst (λ (l : List Piece). Holds p (write img n 12 w) l sp) (around top b ws x (free_pieces bs)) h1))

  -- the first block lists none: it goes itself
  take-empty : (n : ℕ) (bs : List Block) → Holds p img (all_pieces p z things (block_of n [] ∷ bs)) sp
      → Holds p (write img 1 16 (word32 (first_block bs))) (all_pieces p z things bs) (n ∷ sp)
  take-empty n bs h =
      let top : List Piece = superblock p n z ∷ things in
      let h1 : Holds p img (top ++ free_pieces bs) (n ∷ sp) = release top (free_pieces bs) (block (block_of n []) (first_block bs)) sp h in
      point (things ++ free_pieces bs) (first_block bs) (first_small top bs h1) h1

  take_cases : (n : ℕ) (ws : List ℕ) (c : ℕ) (bs : List Block) → length ws ≡ c → Few (block_of n ws ∷ bs)
      → Holds p img (all_pieces p z things (block_of n ws ∷ bs)) sp → Draws p z img things (take_from n ws c bs) ((take_from n ws c bs).pages ++ sp)
  take_cases n [] zero bs e f h = take-empty n bs h
  take_cases n (w ∷ ws) zero bs e f h = absurd (omega arith)
  take_cases n ws (suc c) bs e f h =
      let l : length (take c ws) ≡ c = rw length-take (omega arith) in
      let q : ws ≡ take c ws ++ get_or ws c 0 ∷ [] = sym (take_all (suc c) ws (omega arith)) ∙ take-suc ws c 0 (omega arith) in
      let few : length ws ≤ 252 = f.0 in
      subst (λ (k : ℕ). Holds p (write img n 12 (word32 k)) (all_pieces p z things (block_of n (take c ws) ∷ bs)) (get_or ws c 0 ∷ sp)) l
      (take-listed n (take c ws) (get_or ws c 0) bs (omega arith) (subst (λ (r : List ℕ). Holds p img (all_pieces p z things (block_of n r ∷ bs)) sp) q h))

  -- a page is taken
  pub take-one : (b : Block) (bs : List Block) → Few (b ∷ bs) → Holds p img (all_pieces p z things (b ∷ bs)) sp
      → Draws p z img things (take_page (b ∷ bs)) ((take_page (b ∷ bs)).pages ++ sp)
  take-one b bs f h = take_cases b.page b.listed (length b.listed) bs refl f h

  module _ (x : ℕ) where
    -- the page x in hand becomes the first block
    give-new : (bs : List Block) → Holds p img (all_pieces p z things bs) (x ∷ sp) → Draws p z img things (new_block x bs) sp
    unfolding block_mark word32
    give-new bs h =
        let n : ℕ = first_block bs in
        let top : List Piece = superblock p n z ∷ things in
        let c : count x (x ∷ sp) ≡ 1 + count x sp = count-here x sp in
        let r : Within 1 p x = in-range h x (omega arith) in
        let nsmall : n < 4294967296 = first_small top bs h in
        point (things ++ (block (block_of x []) n ∷ free_pieces bs)) x (omega (arith, h.pages.1))
        (adopt top (free_pieces bs) (block (block_of x []) n) sp x (block_mark ++ (word32 n ++ word32 0)) (lit≤ tt) refl
        (λ pos there. block_new img x pos there n nsmall) h)

    -- the page x in hand is marked free and listed in the first block
    give-listed : (n : ℕ) (ws : List ℕ) (bs : List Block) → length ws < 252 → Holds p img (all_pieces p z things (block_of n ws ∷ bs)) (x ∷ sp)
        → Draws p z img things (list_page x (block_of n ws) bs) sp
    give-listed n ws bs low h = h3
      where
        o : ℕ
        o = 16 + 4 * length ws

        img1 : List ℕ
        img1 = write img x 0 free_mark

        img2 : List ℕ
        img2 = write img1 n o (word32 x)

        img3 : List ℕ
        img3 = write img2 n 12 (word32 (length ws + 1))

        top : List Piece
        top = superblock p n z ∷ things

        lists : List ℕ → Piece
        lists us = block (block_of n us) (first_block bs)

        rest : List Piece
        rest = map free_page (ws ++ x ∷ []) ++ free_pieces bs

        h1 : Holds p img1 (top ++ (lists ws ∷ rest)) sp
        h1 =
            subst (λ (l : List Piece). Holds p img1 l sp) (sym (around top (lists ws) ws x (free_pieces bs)))
            (adopt (top ++ (lists ws ∷ map free_page ws)) (free_pieces bs) (free_page x) sp x free_mark (unfold free_mark in (lit≤ tt)) refl
            (λ pos there. free_new img x pos there) (subst (λ (l : List Piece). Holds p img l (x ∷ sp)) (behind top (lists ws) ws (free_pieces bs)) h))

        small : x < 4294967296
        small =
            let c : count x (x ∷ sp) ≡ 1 + count x sp = count-here x sp in
            let r : Within 1 p x = in-range h x (omega arith) in
            omega (arith, h.pages.1)

        stands : be32 (pg img2 n) o ≡ x
        stands =
            let r : 1 ≤ count n (owned_by (top ++ (lists ws ∷ rest))) = piece-owned top rest (lists ws) n [] refl in
            be32-write-same img1 n o x (in-range h1 n (omega arith)).0 (lies_in h1 n (omega arith)) (omega arith) small

        h2 : Holds p img2 (top ++ (lists ws ∷ rest)) sp
        h2 =
            edit top rest (lists ws) (lists ws) n o [] (word32 x) (omega (arith, length-word32 x)) refl refl
            (λ pos there k b. block-beyond img1 n pos there ws x (omega arith) b) h1

        h3 : Holds p img3 (top ++ (lists (ws ++ x ∷ []) ∷ rest)) sp
        h3 =
            edit top rest (lists ws) (lists (ws ++ x ∷ [])) n 12 [] (word32 (length ws + 1)) (omega (arith, length-word32 (length ws + 1))) refl refl
            (λ pos there k b. block_more img2 n pos there ws x (omega arith) stands b) h2

    -- a page is given back
    pub give-one : (bs : List Block) → Holds p img (all_pieces p z things bs) (x ∷ sp) → Draws p z img things (give_page x bs) sp
    give-one [] h = give-new [] h
    give-one (b ∷ bs) h = go (ltb (length b.listed) 252) refl
      where
        go : (t : Bool) → ltb (length b.listed) 252 ≡ t → Draws p z img things (cond t (list_page x b bs) (new_block x (b ∷ bs))) sp
        go true e = give-listed b.page b.listed bs (ltb-true (length b.listed) 252 e) h
        go false e = give-new (b ∷ bs) h

-- ---- How many pages, and how many a block lists

take-cases-few : (n : ℕ) (ws : List ℕ) (c : ℕ) (bs : List Block) → Few (block_of n ws ∷ bs) → Few (take_from n ws c bs).free
take-cases-few n ws zero bs f = f.1
take-cases-few n ws (suc c) bs f = (rw length-take (omega (arith, f.0)), f.1)

pub take-cases-left : (n : ℕ) (ws : List ℕ) (c : ℕ) (bs : List Block) → length ws ≡ c → suc (free_count (take_from n ws c bs).free) ≡ 1 + length ws + free_count bs
unfolding free_count
take-cases-left n ws zero bs e = omega arith
take-cases-left n ws (suc c) bs e = let l : length (take c ws) ≡ c = rw length-take (omega arith) in omega arith

take-cases-one : (n : ℕ) (ws : List ℕ) (c : ℕ) (bs : List Block) → length (take_from n ws c bs).pages ≡ 1
take-cases-one n ws zero bs = refl
take-cases-one n ws (suc c) bs = refl

-- blocks list at most 252 pages after taking if they did before
pub few-taken : (n : ℕ) (bs : List Block) → Few bs → Few (take_many n bs).free
few-taken zero bs f = f
few-taken (suc n) [] f = few-taken n [] f
few-taken (suc n) (b ∷ bs) f = few-taken n (take_page (b ∷ bs)).free (take-cases-few b.page b.listed (length b.listed) bs f)

-- as many pages as are taken come out
pub length_taken : (n : ℕ) (bs : List Block) → n ≤ free_count bs → length (take_many n bs).pages ≡ n
unfolding free_count
length_taken zero bs h = refl
length_taken (suc n) [] h = absurd (omega arith)
length_taken (suc n) (b ∷ bs) h =
    let l : suc (free_count (take_page (b ∷ bs)).free) ≡ 1 + length b.listed + free_count bs
    = take-cases-left b.page b.listed (length b.listed) bs refl in
    length-append (take_page (b ∷ bs)).pages (take_many n (take_page (b ∷ bs)).free).pages
    ∙ omega (arith, take-cases-one b.page b.listed (length b.listed) bs, length_taken n (take_page (b ∷ bs)).free (omega arith))

-- and the free list is that much shorter
pub left-taken : (n : ℕ) (bs : List Block) → n ≤ free_count bs → free_count (take_many n bs).free + n ≡ free_count bs
unfolding free_count
left-taken zero bs h = omega arith
left-taken (suc n) [] h = absurd (omega arith)
left-taken (suc n) (b ∷ bs) h =
    let l : suc (free_count (take_page (b ∷ bs)).free) ≡ 1 + length b.listed + free_count bs
    = take-cases-left b.page b.listed (length b.listed) bs refl in
    omega (arith, left-taken n (take_page (b ∷ bs)).free (omega arith))

-- what giving back one page does to the list
record Gives (bs : List Block) (d : Drawn) : Type 0 where
  pub none : d.pages ≡ []
  pub few : Few bs → Few d.free
  pub left : free_count d.free ≡ 1 + free_count bs

gives : (x : ℕ) (bs : List Block) → Gives bs (give_page x bs)
unfolding free_count
gives x [] = record { none = refl; few = λ f. (lit≤ tt, f); left = refl }
gives x (b ∷ bs) = go (ltb (length b.listed) 252) refl
  where
    go : (t : Bool) → ltb (length b.listed) 252 ≡ t → Gives (b ∷ bs) (cond t (list_page x b bs) (new_block x (b ∷ bs)))
    go true e =
        let low : length b.listed < 252 = ltb-true (length b.listed) 252 e in
        record { none = refl; few = λ f. (rw length-append (omega arith), f.1); left = rw length-append (omega arith) }
    go false e = record { none = refl; few = λ f. (lit≤ tt, f); left = omega arith }

-- blocks list at most 252 pages after giving back if they did before
pub few-given : (xs : List ℕ) (bs : List Block) → Few bs → Few (give_many xs bs).free
few-given [] bs f = f
few-given (x ∷ xs) bs f = few-given xs (give_page x bs).free ((gives x bs).few f)

-- giving back yields no page
pub none-given : (xs : List ℕ) (bs : List Block) → (give_many xs bs).pages ≡ []
none-given [] bs = refl
none-given (x ∷ xs) bs = rw (gives x bs).none (none-given xs (give_page x bs).free)

-- the free list is longer by what is given back
pub left-given : (xs : List ℕ) (bs : List Block) → free_count (give_many xs bs).free ≡ length xs + free_count bs
left-given [] bs = omega arith
left-given (x ∷ xs) bs = omega (arith, left-given xs (give_page x bs).free, (gives x bs).left)

-- ---- Several pages

module _ (p z : ℕ) (things : List Piece) where
  then-draws : (img : List ℕ) (d : Drawn) (f : List Block → Drawn) (sp : List ℕ) → Draws p z (apply d.writes img) things (f d.free) sp
      → Draws p z img things (and_then d f) sp
  then-draws img d f sp h =
      subst (λ (i : List ℕ). Holds p i (all_pieces p z things (f d.free).free) sp) (sym (apply-append d.writes (f d.free).writes img)) h

  -- several pages are taken
  pub take-many : (n : ℕ) (img sp : List ℕ) (bs : List Block) → Few bs → n ≤ free_count bs → Holds p img (all_pieces p z things bs) sp
      → Draws p z img things (take_many n bs) ((take_many n bs).pages ++ sp)
  unfolding free_count
  take-many zero img sp bs f l h = h
  take-many (suc n) img sp [] f l h = absurd (omega arith)
  take-many (suc n) img sp (b ∷ bs) f l h =
      let d : Drawn = take_page (b ∷ bs) in
      let e : List ℕ = (take_many n d.free).pages in
      let k : suc (free_count d.free) ≡ 1 + length b.listed + free_count bs = take-cases-left b.page b.listed (length b.listed) bs refl in
      then-draws img d (take_many n) ((d.pages ++ e) ++ sp)
      (in_hand ((d.pages ++ e) ++ sp) (λ m. regroup m d.pages e sp)
      (take-many n (apply d.writes img) (d.pages ++ sp) d.free (few-taken 1 (b ∷ bs) f) (omega arith) (take-one p z things img sp b bs f h)))
    where
      regroup : (m : ℕ) (xs ys zs : List ℕ) → count m ((xs ++ ys) ++ zs) ≡ count m (ys ++ (xs ++ zs))
      regroup m xs ys zs = simp count-append (omega arith)

  -- several pages in hand are given back
  pub give-many : (xs img sp : List ℕ) (bs : List Block) → Holds p img (all_pieces p z things bs) (xs ++ sp) → Draws p z img things (give_many xs bs) sp
  give-many [] img sp bs h = h
  give-many (x ∷ xs) img sp bs h =
      then-draws img (give_page x bs) (give_many xs) sp
      (give-many xs (apply (give_page x bs).writes img) sp (give_page x bs).free (give-one p z things img (xs ++ sp) x bs h))

-- ---- Drawing

-- the old pages that are left over, and those gone, come back behind the pages that are drawn
shared : (m w : ℕ) (old gone rest taken : List ℕ)
    → count m ((drop w old ++ gone) ++ ((take w old ++ (taken ++ [])) ++ rest)) ≡ count m (taken ++ (old ++ (gone ++ rest)))
shared m w old gone rest taken =
    let c : count m old ≡ count m (take w old) + count m (drop w old)
    = ap (count m) (sym (take-append-drop w old)) ∙ count-append m (take w old) (drop w old) in
    simp count-append (omega arith)

-- blocks list at most 252 pages after drawing if they did before
pub few-drawn : (old : List ℕ) (wanted : ℕ) (gone : List ℕ) (bs : List Block) → Few bs → Few (draw old wanted gone bs).free
unfolding draw
few-drawn old wanted gone bs f = few-given (drop wanted old ++ gone) (take_many (wanted - length old) bs).free (few-taken (wanted - length old) bs f)

module _ (old : List ℕ) (wanted : ℕ) (gone : List ℕ) (bs : List Block) (room : wanted ≤ length old + free_count bs) where
  -- as many pages are drawn as are wanted
  pub length-drawn : length (draw old wanted gone bs).pages ≡ wanted
  unfolding draw
  length-drawn =
      let t : Drawn = take_many (wanted - length old) bs in
      let g : List ℕ = (give_many (drop wanted old ++ gone) t.free).pages in
      length-append (take wanted old) (t.pages ++ g) ∙ ap (λ (k : ℕ). length (take wanted old) + k) (length-append t.pages g)
      ∙ omega (arith, length-take wanted old, length_taken (wanted - length old) bs (omega arith), ap length (none-given (drop wanted old ++ gone) t.free))

  -- pages old and gone are free after it, those wanted are not
  pub left-drawn : free_count (draw old wanted gone bs).free + wanted ≡ free_count bs + length old + length gone
  unfolding draw
  left-drawn =
      let t : Drawn = take_many (wanted - length old) bs in
      omega (
        arith,
        left-given (drop wanted old ++ gone) t.free,
        length-append (drop wanted old) gone,
        length-drop wanted old,
        left-taken (wanted - length old) bs (omega arith),
      )

  module _ {p z : ℕ} {img : List ℕ} {ks : List SkipList} {xs : List LinkedSpan} {ts : List LinkedTower} where
    -- what drawing writes: the old pages and those gone were in hand, the pages drawn are in hand
    pub drawn-shows : (rest : List ℕ) → Few bs → Shows p z img (held ks xs ts bs (old ++ (gone ++ rest)))
        → Shows p z (apply (draw old wanted gone bs).writes img) (held ks xs ts (draw old wanted gone bs).free ((draw old wanted gone bs).pages ++ rest))
    unfolding draw
    drawn-shows rest f s =
        let q : List Piece = thing_pieces ks xs ts in
        let k : ℕ = wanted - length old in
        let t : Drawn = take_many k bs in
        let left : List ℕ = drop wanted old ++ gone in
        let g : List ℕ = (give_many left t.free).pages in
        let out : List ℕ = (take wanted old ++ (t.pages ++ g)) ++ rest in
        let h1 : Holds p (apply t.writes img) (all_pieces p z q t.free) (t.pages ++ (old ++ (gone ++ rest)))
        = take-many p z q k img (old ++ (gone ++ rest)) bs f (omega arith) (to-pieces p z ks xs ts bs (old ++ (gone ++ rest)) img s) in
        let same : (m : ℕ) → count m (left ++ out) ≡ count m (t.pages ++ (old ++ (gone ++ rest)))
        = λ m. ap (λ (r : List ℕ). count m (left ++ ((take wanted old ++ (t.pages ++ r)) ++ rest))) (none-given left t.free) ∙ shared m wanted old gone rest t.pages in
        let d : Drawn = and_then t (give_many left) in
        from_pieces p z ks xs ts d.free out (apply d.writes img)
        (then-draws p z q img t (give_many left) out (give-many p z q left (apply t.writes img) out t.free (in_hand (left ++ out) same h1)))
