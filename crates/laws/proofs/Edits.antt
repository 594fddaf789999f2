-- Steps on what is held: pages let go, pages in hand, and one field of one thing written.
use Prim.Native.Nat.{ℕ, ◌+◌, ◌*◌, ◌<◌, ◌≤◌}
use native.Mathlib.Omega.{arith}
use mathlib.Core.Path.{◌≡◌, refl, sym, subst}
use mathlib.Core.List.{List, [], ◌∷◌, ◌++◌, map, append_assoc, map-append}
use lib.ListN.{length, set}
use Rattle.blockfile.specs.Bytes.{pg, write, word16, word32}
use Rattle.blockfile.specs.Layout.{Block}
use Rattle.blockfile.specs.Order.{Within}
use Rattle.blockfile.specs.Fields.{SkipList, LinkedSpan, LinkedTower, IsSpan}
use Rattle.blockfile.specs.WellFormed.{Piece, superblock, skip_list, tower, span, free_pieces, first_block, count}
use Rattle.blockfile.specs.Encode.{counts}
use Rattle.laws.proofs.Numbers.{length-word16, length-word32}
use Rattle.laws.proofs.State.{Shows}
use Rattle.laws.proofs.Steps.{Holds, map-kept, in-range, piece-within, in_hand, release, reread, scribble, edit}
use Rattle.laws.proofs.Opens.{held, thing_pieces, all_pieces, to-pieces, from_pieces}
use Rattle.laws.proofs.Written.{numbers-join, numbers_of, are-numbers, with_prev, with_next, with_counts, with_nexts, with_height, skip-counts, span-prev, span-next, tower-entry, tower-height}

-- ---- One place in a list: the pieces before it and after it

-- the pieces before a place among the spans
abbrev pub before_span : (p z : ℕ) → List Block → List SkipList → List LinkedSpan → List Piece
before_span p z bs ks xs = superblock p (first_block bs) z ∷ (map skip_list ks ++ map span xs)

-- and after it
abbrev pub after_span : List LinkedTower → List Block → List LinkedSpan → List Piece
after_span ts bs ys = map span ys ++ (map tower ts ++ free_pieces bs)

-- the pieces before a place among the towers
abbrev pub before_tower : (p z : ℕ) → List Block → List SkipList → List LinkedSpan → List LinkedTower → List Piece
before_tower p z bs ks xs ts = superblock p (first_block bs) z ∷ (map skip_list ks ++ (map span xs ++ map tower ts))

-- and after it
abbrev pub after_tower : List Block → List LinkedTower → List Piece
after_tower bs us = map tower us ++ free_pieces bs

-- the pieces before a place among the skip lists
abbrev pub before_skip : (p z : ℕ) → List Block → List SkipList → List Piece
before_skip p z bs ks = superblock p (first_block bs) z ∷ map skip_list ks

-- and after it
abbrev pub after_skip : List LinkedSpan → List LinkedTower → List Block → List SkipList → List Piece
after_skip xs ts bs js = map skip_list js ++ (map span xs ++ (map tower ts ++ free_pieces bs))

module _ (p z : ℕ) (bs : List Block) where
  at-spans : (ks : List SkipList) (ts : List LinkedTower) (xs qs ys : List LinkedSpan)
      → all_pieces p z (thing_pieces ks (xs ++ (qs ++ ys)) ts) bs ≡ before_span p z bs ks xs ++ (map span qs ++ after_span ts bs ys)
  at-spans ks ts xs qs ys = simp (map-append, append_assoc)

  at-towers : (ks : List SkipList) (xs : List LinkedSpan) (ts qs us : List LinkedTower)
      → all_pieces p z (thing_pieces ks xs (ts ++ (qs ++ us))) bs ≡ before_tower p z bs ks xs ts ++ (map tower qs ++ after_tower bs us)
  at-towers ks xs ts qs us = simp (map-append, append_assoc)

  at-skips : (xs : List LinkedSpan) (ts : List LinkedTower) (ks qs js : List SkipList)
      → all_pieces p z (thing_pieces (ks ++ (qs ++ js)) xs ts) bs ≡ before_skip p z bs ks ++ (map skip_list qs ++ after_skip xs ts bs js)
  at-skips xs ts ks qs js = simp (map-append, append_assoc)

pub length-counts : (k : SkipList) → length (counts k) ≡ 12
unfolding counts word32
length-counts k = refl

-- ---- Pages in hand

module _ {p z : ℕ} {img : List ℕ} {ks : List SkipList} {xs : List LinkedSpan} {ts : List LinkedTower} {bs : List Block} {sp : List ℕ} where
  -- what is in hand may be any list with the same counts
  pub respare : (sp' : List ℕ) → ((m : ℕ) → count m sp' ≡ count m sp) → Shows p z img (held ks xs ts bs sp) → Shows p z img (held ks xs ts bs sp')
  respare sp' e s = from_pieces p z ks xs ts bs sp' img (in_hand sp' e (to-pieces p z ks xs ts bs sp img s))

  -- a page in hand is a page of the image
  pub spare-within : Shows p z img (held ks xs ts bs sp) → (n : ℕ) → 1 ≤ count n sp → Within 1 p n
  spare-within s n c = in-range (to-pieces p z ks xs ts bs sp img s) n (omega arith)

  -- a write to a page in hand
  pub scribbled : (n o : ℕ) (w : List ℕ) → o + length w ≤ 1024 → 1 ≤ count n sp → Shows p z img (held ks xs ts bs sp)
      → Shows p z (write img n o w) (held ks xs ts bs sp)
  scribbled n o w f c s =
      from_pieces p z ks xs ts bs sp (write img n o w)
      (scribble (all_pieces p z (thing_pieces ks xs ts) bs) sp n o w f c (to-pieces p z ks xs ts bs sp img s))

-- ---- A span

module _ {p z : ℕ} {ks : List SkipList} {ts : List LinkedTower} {bs : List Block} where
  -- what is held, seen at a place among the spans
  pub open-spans : (img sp : List ℕ) (xs qs ys : List LinkedSpan) → Shows p z img (held ks (xs ++ (qs ++ ys)) ts bs sp)
      → Holds p img (before_span p z bs ks xs ++ (map span qs ++ after_span ts bs ys)) sp
  open-spans img sp xs qs ys s =
      subst (λ (l : List Piece). Holds p img l sp) (at-spans p z bs ks ts xs qs ys) (to-pieces p z ks (xs ++ (qs ++ ys)) ts bs sp img s)

  -- and back
  pub close-spans : (img sp : List ℕ) (xs qs ys : List LinkedSpan) → Holds p img (before_span p z bs ks xs ++ (map span qs ++ after_span ts bs ys)) sp
      → Shows p z img (held ks (xs ++ (qs ++ ys)) ts bs sp)
  close-spans img sp xs qs ys h =
      from_pieces p z ks (xs ++ (qs ++ ys)) ts bs sp img (subst (λ (l : List Piece). Holds p img l sp) (sym (at-spans p z bs ks ts xs qs ys)) h)

  -- a span's page is a page of the image
  pub span-within : {img sp : List ℕ} (xs ys : List LinkedSpan) (x : LinkedSpan) → Shows p z img (held ks (xs ++ x ∷ ys) ts bs sp) → Within 1 p x.span.page
  span-within {img} {sp} xs ys x s =
      piece-within (before_span p z bs ks xs) (after_span ts bs ys) (span x) x.span.page x.span.conts refl (open-spans img sp xs (x ∷ []) ys s)

  -- a span is let go: its pages are in hand
  pub forget-span : {img sp : List ℕ} (xs ys : List LinkedSpan) (x : LinkedSpan) → Shows p z img (held ks (xs ++ x ∷ ys) ts bs sp)
      → Shows p z img (held ks (xs ++ ys) ts bs (x.span.page ∷ (x.span.conts ++ sp)))
  forget-span {img} {sp} xs ys x s =
      close-spans img (x.span.page ∷ (x.span.conts ++ sp)) xs [] ys
      (release (before_span p z bs ks xs) (after_span ts bs ys) (span x) sp (open-spans img sp xs (x ∷ []) ys s))

  -- a span's page is written so that its links become a and b
  links-written : {img sp : List ℕ} (xs ys : List LinkedSpan) (x : LinkedSpan) (a b o : ℕ) (w : List ℕ) → o + length w ≤ 1024
      → (1 ≤ x.span.page → 1024 * x.span.page ≤ length img → (cs : List (List ℕ)) → IsSpan x (pg img x.span.page) cs
      → IsSpan (with_prev a (with_next b x)) (pg (write img x.span.page o w) x.span.page) cs)
      → Shows p z img (held ks (xs ++ x ∷ ys) ts bs sp) → Shows p z (write img x.span.page o w) (held ks (xs ++ with_prev a (with_next b x) ∷ ys) ts bs sp)
  links-written {img} {sp} xs ys x a b o w fits step s =
      let n : ℕ = x.span.page in
      let y : LinkedSpan = with_prev a (with_next b x) in
      close-spans (write img n o w) sp xs (y ∷ []) ys
      (edit (before_span p z bs ks xs) (after_span ts bs ys) (span x) (span y) n o x.span.conts w fits refl refl
      (λ pos there k i. subst (IsSpan y (pg (write img n o w) n)) (map-kept (pg img) (pg (write img n o w)) x.span.conts k)
      (step pos there (map (pg img) x.span.conts) i))
      (open-spans img sp xs (x ∷ []) ys s))

  -- a span's previous link is written
  pub prev-written : {img sp : List ℕ} (xs ys : List LinkedSpan) (x : LinkedSpan) (v : ℕ) → v < 4294967296 → Shows p z img (held ks (xs ++ x ∷ ys) ts bs sp)
      → Shows p z (write img x.span.page 8 (word32 v)) (held ks (xs ++ with_prev v x ∷ ys) ts bs sp)
  prev-written {img} xs ys x v h s =
      links-written xs ys x v x.next 8 (word32 v) (omega (arith, length-word32 v)) (λ pos there cs i. span-prev img x.span.page pos there v h i) s

  -- a span's next link is written
  pub next-written : {img sp : List ℕ} (xs ys : List LinkedSpan) (x : LinkedSpan) (v : ℕ) → v < 4294967296 → Shows p z img (held ks (xs ++ x ∷ ys) ts bs sp)
      → Shows p z (write img x.span.page 12 (word32 v)) (held ks (xs ++ with_next v x ∷ ys) ts bs sp)
  next-written {img} xs ys x v h s =
      links-written xs ys x x.prev v 12 (word32 v) (omega (arith, length-word32 v)) (λ pos there cs i. span-next img x.span.page pos there v h i) s

-- ---- A tower

module _ {p z : ℕ} {ks : List SkipList} {xs : List LinkedSpan} {bs : List Block} where
  -- what is held, seen at a place among the towers
  pub open-towers : (img sp : List ℕ) (ts qs us : List LinkedTower) → Shows p z img (held ks xs (ts ++ (qs ++ us)) bs sp)
      → Holds p img (before_tower p z bs ks xs ts ++ (map tower qs ++ after_tower bs us)) sp
  open-towers img sp ts qs us s =
      subst (λ (l : List Piece). Holds p img l sp) (at-towers p z bs ks xs ts qs us) (to-pieces p z ks xs (ts ++ (qs ++ us)) bs sp img s)

  -- and back
  pub close-towers : (img sp : List ℕ) (ts qs us : List LinkedTower) → Holds p img (before_tower p z bs ks xs ts ++ (map tower qs ++ after_tower bs us)) sp
      → Shows p z img (held ks xs (ts ++ (qs ++ us)) bs sp)
  close-towers img sp ts qs us h =
      from_pieces p z ks xs (ts ++ (qs ++ us)) bs sp img (subst (λ (l : List Piece). Holds p img l sp) (sym (at-towers p z bs ks xs ts qs us)) h)

  -- a tower's page is a page of the image
  pub tower-within : {img sp : List ℕ} (ts us : List LinkedTower) (t : LinkedTower) → Shows p z img (held ks xs (ts ++ t ∷ us) bs sp) → Within 1 p t.tower.page
  tower-within {img} {sp} ts us t s =
      piece-within (before_tower p z bs ks xs ts) (after_tower bs us) (tower t) t.tower.page [] refl (open-towers img sp ts (t ∷ []) us s)

  -- a tower is let go: its page is in hand
  pub forget-tower : {img sp : List ℕ} (ts us : List LinkedTower) (t : LinkedTower) → Shows p z img (held ks xs (ts ++ t ∷ us) bs sp)
      → Shows p z img (held ks xs (ts ++ us) bs (t.tower.page ∷ sp))
  forget-tower {img} {sp} ts us t s =
      close-towers img (t.tower.page ∷ sp) ts [] us
      (release (before_tower p z bs ks xs ts) (after_tower bs us) (tower t) sp (open-towers img sp ts (t ∷ []) us s))

  -- entry i of a tower is written
  pub entry-written : {img sp : List ℕ} (ts us : List LinkedTower) (t : LinkedTower) (i v : ℕ) → i < length t.nexts → i < 252 → v < 4294967296
      → Shows p z img (held ks xs (ts ++ t ∷ us) bs sp)
      → Shows p z (write img t.tower.page (16 + 4 * i) (word32 v)) (held ks xs (ts ++ with_nexts (set t.nexts i v) t ∷ us) bs sp)
  entry-written {img} {sp} ts us t i v low room h s =
      let n : ℕ = t.tower.page in
      let y : LinkedTower = with_nexts (set t.nexts i v) t in
      close-towers (write img n (16 + 4 * i) (word32 v)) sp ts (y ∷ []) us
      (edit (before_tower p z bs ks xs ts) (after_tower bs us) (tower t) (tower y) n (16 + 4 * i) [] (word32 v) (omega (arith, length-word32 v)) refl refl
      (λ pos there k b. tower-entry img n pos there i v low (omega arith) h b) (open-towers img sp ts (t ∷ []) us s))

  -- a tower's current height is written
  pub height-written : {img sp : List ℕ} (ts us : List LinkedTower) (t : LinkedTower) (v : ℕ) → v < 65536 → Shows p z img (held ks xs (ts ++ t ∷ us) bs sp)
      → Shows p z (write img t.tower.page 10 (word16 v)) (held ks xs (ts ++ with_height v t ∷ us) bs sp)
  height-written {img} {sp} ts us t v h s =
      let n : ℕ = t.tower.page in
      close-towers (write img n 10 (word16 v)) sp ts (with_height v t ∷ []) us
      (edit (before_tower p z bs ks xs ts) (after_tower bs us) (tower t) (tower (with_height v t)) n 10 [] (word16 v) (omega (arith, length-word16 v)) refl refl
      (λ pos there k b. tower-height img n pos there v h b) (open-towers img sp ts (t ∷ []) us s))

  -- a tower's entries are extended by the k numbers that its page holds after them
  pub entries-extended : {img sp : List ℕ} (ts us : List LinkedTower) (t : LinkedTower) (k : ℕ) → Shows p z img (held ks xs (ts ++ t ∷ us) bs sp)
      → Shows p z img
      (held ks xs (ts ++ with_nexts (t.nexts ++ numbers_of (pg img t.tower.page) (16 + 4 * length t.nexts) k) t ∷ us) bs sp)
  entries-extended {img} {sp} ts us t k s =
      let b : List ℕ = pg img t.tower.page in
      let o : ℕ = 16 + 4 * length t.nexts in
      let y : LinkedTower = with_nexts (t.nexts ++ numbers_of b o k) t in
      close-towers img sp ts (y ∷ []) us
      (reread (before_tower p z bs ks xs ts) (after_tower bs us) (tower t) (tower y) sp refl
      (λ i. record {
        mark = i.mark;
        max_height = i.max_height;
        height = i.height;
        span_page = i.span_page;
        nexts = numbers-join b 16 t.nexts (numbers_of b o k) i.nexts (are-numbers b o k);
      })
      (open-towers img sp ts (t ∷ []) us s))

-- ---- A skip list

module _ {p z : ℕ} {xs : List LinkedSpan} {ts : List LinkedTower} {bs : List Block} where
  -- what is held, seen at a place among the skip lists
  pub open-skips : (img sp : List ℕ) (ks qs js : List SkipList) → Shows p z img (held (ks ++ (qs ++ js)) xs ts bs sp)
      → Holds p img (before_skip p z bs ks ++ (map skip_list qs ++ after_skip xs ts bs js)) sp
  open-skips img sp ks qs js s =
      subst (λ (l : List Piece). Holds p img l sp) (at-skips p z bs xs ts ks qs js) (to-pieces p z (ks ++ (qs ++ js)) xs ts bs sp img s)

  -- and back
  pub close-skips : (img sp : List ℕ) (ks qs js : List SkipList) → Holds p img (before_skip p z bs ks ++ (map skip_list qs ++ after_skip xs ts bs js)) sp
      → Shows p z img (held (ks ++ (qs ++ js)) xs ts bs sp)
  close-skips img sp ks qs js h =
      from_pieces p z (ks ++ (qs ++ js)) xs ts bs sp img (subst (λ (l : List Piece). Holds p img l sp) (sym (at-skips p z bs xs ts ks qs js)) h)

  -- the three counts of a skip list are written
  pub counts-written : {img sp : List ℕ} (ks js : List SkipList) (k : SkipList) (a m l : ℕ) → a < 4294967296 → m < 4294967296 → l < 4294967296
      → Shows p z img (held (ks ++ k ∷ js) xs ts bs sp)
      → Shows p z (write img k.page 16 (counts (with_counts a m l k))) (held (ks ++ with_counts a m l k ∷ js) xs ts bs sp)
  counts-written {img} {sp} ks js k a m l ha hm hl s =
      let y : SkipList = with_counts a m l k in
      close-skips (write img k.page 16 (counts y)) sp ks (y ∷ []) js
      (edit (before_skip p z bs ks) (after_skip xs ts bs js) (skip_list k) (skip_list y) k.page 16 [] (counts y) (omega (arith, length-counts y)) refl refl
      (λ pos there q b. skip-counts img k.page pos there a m l ha hm hl b) (open-skips img sp ks (k ∷ []) js s))
