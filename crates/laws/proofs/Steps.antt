-- Pieces that an image bears, with pages in hand that no piece owns; how a write to one page changes them.
use Prim.Native.Nat.{ℕ, ◌+◌, ◌*◌, ◌<◌, ◌≤◌}
use native.Mathlib.Omega.{arith}
use mathlib.Core.Path.{◌≡◌, refl, ap, ap₂, sym, ◌∙◌, subst, subst₂}
use mathlib.Core.Bool.{cond}
use mathlib.Core.List.{List, [], ◌∷◌, ◌++◌, map, append-nil}
use lib.ListN.{length}
use Rattle.blockfile.specs.Bytes.{pg, write, Every}
use Rattle.blockfile.specs.Order.{Within, within}
use Rattle.blockfile.specs.Fields.{IsSuperblock, IsSkipList, IsTower, IsSpan, IsBlock, IsFree}
use Rattle.blockfile.specs.WellFormed.{Piece, superblock, skip_list, tower, span, block, free_page, pages_of, Bears, count}
use Rattle.blockfile.proofs.Bools.{bit-low, bit-true, within-is}
use Rattle.blockfile.proofs.Every.{every-left, every-right, every-join}
use Rattle.blockfile.proofs.Count.{count-here, count-append, not_first}
use Rattle.laws.proofs.Pages.{length-write, pg-write-other}
use Rattle.blockfile.proofs.Owned.{owned_by, count-owned}

-- ---- What is said of pieces stands on their own pages alone

-- g and h give the same bytes of each of these pages
abbrev pub Kept : (g h : ℕ → List ℕ) → List ℕ → Type 0
Kept g h ns = Every (λ n. g n ≡ h n) ns

module _ (g h : ℕ → List ℕ) where
  -- the bytes of pages kept
  pub map-kept : (ns : List ℕ) → Kept g h ns → map g ns ≡ map h ns
  map-kept [] k = refl
  map-kept (n ∷ ns) k = ap₂ {C = List (List ℕ)} (λ b bs. b ∷ bs) k.0 (map-kept ns k.1)

  -- a piece whose pages are kept is borne alike
  pub bears-kept : (q : Piece) → Kept g h (pages_of q) → Bears g q → Bears h q
  bears-kept (superblock p f z) k b = subst (IsSuperblock p f z) k.0 b
  bears-kept (skip_list x) k b = subst (IsSkipList x) k.0 b
  bears-kept (tower x) k b = subst (IsTower x) k.0 b
  bears-kept (span x) k b = subst₂ (IsSpan x) k.0 (map-kept x.span.conts k.1) b
  bears-kept (block x n) k b = subst (IsBlock x.listed n) k.0 b
  bears-kept (free_page n) k b = subst IsFree k.0 b

  -- where the pages that pieces own are kept, the pieces are borne alike
  pub frame : (qs : List Piece) → Kept g h (owned_by qs) → Every (Bears g) qs → Every (Bears h) qs
  frame [] k b = tt
  frame (q ∷ qs) k b = (
    bears-kept q (every-left (λ n. g n ≡ h n) (pages_of q) (owned_by qs) k) b.0,
    frame qs (every-right (λ n. g n ≡ h n) (pages_of q) (owned_by qs) k) b.1,
  )

-- a write to a page that is not in the list keeps the list's pages
pub untouched : (img : List ℕ) (n o : ℕ) (bs ns : List ℕ) → o + length bs ≤ 1024 → count n ns ≡ 0 → Kept (pg img) (pg (write img n o bs)) ns
untouched img n o bs [] f z = tt
untouched img n o bs (m ∷ ms) f z = (
  sym (pg-write-other img n m o bs (not_first n m ms z) f),
  untouched img n o bs ms f (omega arith),
)

-- a write leaves what is said of the pieces that do not own its page
pub frame-write : (img : List ℕ) (n o : ℕ) (bs : List ℕ) (qs : List Piece) → o + length bs ≤ 1024 → count n (owned_by qs) ≡ 0
    → Every (Bears (pg img)) qs → Every (Bears (pg (write img n o bs))) qs
frame-write img n o bs qs f z b = frame (pg img) (pg (write img n o bs)) qs (untouched img n o bs (owned_by qs) f z) b

-- ---- Pieces held, and pages in hand

-- an image of p pages bears these pieces, and each page is owned or in hand once
pub record Holds (p : ℕ) (img : List ℕ) (qs : List Piece) (spare : List ℕ) : Type 0 where
  pub pages : Within 4 4096 p
  pub size : length img ≡ 1024 * p
  pub bears : Every (Bears (pg img)) qs
  pub once : (n : ℕ) → count n (owned_by qs) + count n spare ≡ cond (within 1 p n) 1 0

module _ {p : ℕ} {img : List ℕ} {qs : List Piece} {sp : List ℕ} (h : Holds p img qs sp) where
  -- a page that is owned or in hand is a page of the image
  pub in-range : (n : ℕ) → 1 ≤ count n (owned_by qs) + count n sp → Within 1 p n
  in-range n c = within-is 1 p n (bit-true (within 1 p n) (subst (λ (k : ℕ). 1 ≤ k) (h.once n) c))

  -- and it is so only once
  pub at-most-once : (n : ℕ) → count n (owned_by qs) + count n sp ≤ 1
  at-most-once n = subst (λ (k : ℕ). k ≤ 1) (sym (h.once n)) (bit-low (within 1 p n))

  -- its bytes lie in the image
  pub lies_in : (n : ℕ) → 1 ≤ count n (owned_by qs) + count n sp → 1024 * n ≤ length img
  lies_in n c = let r : Within 1 p n = in-range n c in omega (arith, h.size)

  -- numbers of pages in hand are small
  pub hand-small : (ns : List ℕ) → ((m : ℕ) → count m ns ≤ count m sp) → Every (λ n. n < 4294967296) ns
  hand-small [] c = tt
  hand-small (n ∷ ns) c =
      let a : count n (n ∷ ns) ≤ count n sp = c n in
      let s : count n (n ∷ ns) ≡ 1 + count n ns = count-here n ns in
      let r : Within 1 p n = in-range n (omega arith) in
      (omega (arith, h.pages.1), hand-small ns (λ m. (let b : count m (n ∷ ns) ≤ count m sp = c m in omega arith)))

-- counts of three parts
pub count-three : (n : ℕ) (xs qs ys : List Piece)
    → count n (owned_by (xs ++ (qs ++ ys))) ≡ count n (owned_by xs) + (count n (owned_by qs) + count n (owned_by ys))
count-three n xs qs ys = count-owned n xs (qs ++ ys) ∙ ap (λ (k : ℕ). count n (owned_by xs) + k) (count-owned n qs ys)

-- the counts of one piece
pub count-one : (m : ℕ) (q : Piece) → count m (owned_by (q ∷ [])) ≡ count m (pages_of q)
count-one m q = ap (count m) (append-nil (pages_of q))

-- a piece's first page is owned
pub piece-owned : (xs ys : List Piece) (q : Piece) (n : ℕ) (ns : List ℕ) → pages_of q ≡ n ∷ ns → 1 ≤ count n (owned_by (xs ++ (q ∷ ys)))
piece-owned xs ys q n ns e =
    let k3 : count n (owned_by (xs ++ (q ∷ ys))) ≡ count n (owned_by xs) + (count n (owned_by (q ∷ [])) + count n (owned_by ys)) = count-three n xs (q ∷ []) ys in
    let k1 : count n (owned_by (q ∷ [])) ≡ count n (n ∷ ns) = count-one n q ∙ ap (count n) e in
    let s1 : count n (n ∷ ns) ≡ 1 + count n ns = count-here n ns in
    omega arith

-- and so a page of the image
pub piece-within : {p : ℕ} {img sp : List ℕ} (xs ys : List Piece) (q : Piece) (n : ℕ) (ns : List ℕ) → pages_of q ≡ n ∷ ns
    → Holds p img (xs ++ (q ∷ ys)) sp → Within 1 p n
piece-within xs ys q n ns e h = in-range h n (omega (arith, piece-owned xs ys q n ns e))

-- only the counts of what is in hand matter
pub in_hand : {p : ℕ} {img : List ℕ} {qs : List Piece} {sp : List ℕ} (sp' : List ℕ) → ((m : ℕ) → count m sp' ≡ count m sp)
    → Holds p img qs sp → Holds p img qs sp'
in_hand {qs = qs} sp' e h =
    record { pages = h.pages; size = h.size; bears = h.bears; once = λ m. ap (λ (k : ℕ). count m (owned_by qs) + k) (e m) ∙ h.once m }

-- pages of some pieces exchanged for others, with those in hand
once-kept : (n : ℕ) (xs ys qs qs' : List Piece) (sp sp' : List ℕ) → count n (owned_by qs') + count n sp' ≡ count n (owned_by qs) + count n sp
    → count n (owned_by (xs ++ (qs' ++ ys))) + count n sp' ≡ count n (owned_by (xs ++ (qs ++ ys))) + count n sp
once-kept n xs ys qs qs' sp sp' e = simp count-owned (omega arith)

-- A write to a page of the pieces qs, or to a page in hand: it is enough to look at qs
pub replace : {p : ℕ} {img : List ℕ} (xs ys qs qs' : List Piece) {sp : List ℕ} (sp' : List ℕ) (n o : ℕ) (w : List ℕ)
    → o + length w ≤ 1024
    → 1 ≤ count n (owned_by qs) + count n sp
    → ((m : ℕ) → count m (owned_by qs') + count m sp' ≡ count m (owned_by qs) + count m sp)
    → (Every (Bears (pg img)) qs → Every (Bears (pg (write img n o w))) qs')
    → Holds p img (xs ++ (qs ++ ys)) sp
    → Holds p (write img n o w) (xs ++ (qs' ++ ys)) sp'
replace {p} {img} xs ys qs qs' {sp} sp' n o w f c eq step h =
    let R : Piece → Type 0 = Bears (pg img) in
    let R' : Piece → Type 0 = Bears (pg (write img n o w)) in
    let k3 : count n (owned_by (xs ++ (qs ++ ys))) ≡ count n (owned_by xs) + (count n (owned_by qs) + count n (owned_by ys)) = count-three n xs qs ys in
    let m1 : count n (owned_by (xs ++ (qs ++ ys))) + count n sp ≤ 1 = at-most-once h n in
    let rest : Every R (qs ++ ys) = every-right R xs (qs ++ ys) h.bears in
    record {
      pages = h.pages;
      size = length-write img n o w ∙ h.size;
      bears = every-join R' xs (qs' ++ ys)
          (frame-write img n o w xs f (omega arith) (every-left R xs (qs ++ ys) h.bears))
          (every-join R' qs' ys
          (step (every-left R qs ys rest))
          (frame-write img n o w ys f (omega arith) (every-right R qs ys rest)));
      once = λ m. once-kept m xs ys qs qs' sp sp' (eq m) ∙ h.once m;
    }

-- other pieces take the place of some, on the same pages and those in hand; no byte changes
pub exchange : {p : ℕ} {img : List ℕ} (xs ys qs qs' : List Piece) {sp : List ℕ} (sp' : List ℕ)
    → ((m : ℕ) → count m (owned_by qs') + count m sp' ≡ count m (owned_by qs) + count m sp)
    → (Every (Bears (pg img)) qs → Every (Bears (pg img)) qs')
    → Holds p img (xs ++ (qs ++ ys)) sp → Holds p img (xs ++ (qs' ++ ys)) sp'
exchange {p} {img} xs ys qs qs' {sp} sp' eq step h =
    let R : Piece → Type 0 = Bears (pg img) in
    let rest : Every R (qs ++ ys) = every-right R xs (qs ++ ys) h.bears in
    record {
      pages = h.pages;
      size = h.size;
      bears = every-join R xs (qs' ++ ys) (every-left R xs (qs ++ ys) h.bears)
          (every-join R qs' ys (step (every-left R qs ys rest)) (every-right R qs ys rest));
      once = λ m. once-kept m xs ys qs qs' sp sp' (eq m) ∙ h.once m;
    }

-- a piece is let go: its pages are in hand
pub release : {p : ℕ} {img : List ℕ} (xs ys : List Piece) (q : Piece) (sp : List ℕ)
    → Holds p img (xs ++ (q ∷ ys)) sp → Holds p img (xs ++ ys) (pages_of q ++ sp)
release xs ys q sp h =
    exchange xs ys (q ∷ []) [] (pages_of q ++ sp)
    (λ m. (let a : count m (pages_of q ++ sp) ≡ count m (pages_of q) + count m sp = count-append m (pages_of q) sp in omega (arith, count-one m q)))
    (λ b. tt) h

-- pages in hand that bear a piece become it
pub claim : {p : ℕ} {img : List ℕ} (xs ys : List Piece) (q : Piece) (sp : List ℕ) → Bears (pg img) q
    → Holds p img (xs ++ ys) (pages_of q ++ sp) → Holds p img (xs ++ (q ∷ ys)) sp
claim xs ys q sp b h =
    exchange xs ys [] (q ∷ []) sp
    (λ m. (let a : count m (pages_of q ++ sp) ≡ count m (pages_of q) + count m sp = count-append m (pages_of q) sp in omega (arith, count-one m q)))
    (λ e. (b, tt)) h

-- a piece is seen as another one of the same pages
pub reread : {p : ℕ} {img : List ℕ} (xs ys : List Piece) (q q' : Piece) (sp : List ℕ) → pages_of q' ≡ pages_of q
    → (Bears (pg img) q → Bears (pg img) q') → Holds p img (xs ++ (q ∷ ys)) sp → Holds p img (xs ++ (q' ∷ ys)) sp
reread xs ys q q' sp e step h =
    exchange xs ys (q ∷ []) (q' ∷ []) sp
    (λ m. (let a : count m (pages_of q') ≡ count m (pages_of q) = ap (count m) e in omega (arith, count-one m q, count-one m q')))
    (λ b. (step b.0, tt)) h

-- a write to a page in hand
pub scribble : {p : ℕ} {img : List ℕ} (qs : List Piece) (sp : List ℕ) (n o : ℕ) (w : List ℕ) → o + length w ≤ 1024 → 1 ≤ count n sp
    → Holds p img qs sp → Holds p (write img n o w) qs sp
scribble qs sp n o w f c h = replace [] qs [] [] sp n o w f (omega arith) (λ m. refl) (λ e. tt) h

-- a page in hand is written from its start on, and becomes a piece of one page
pub adopt : {p : ℕ} {img : List ℕ} (xs ys : List Piece) (q : Piece) (sp : List ℕ) (n : ℕ) (w : List ℕ) → length w ≤ 1024 → pages_of q ≡ n ∷ []
    → (1 ≤ n → 1024 * n ≤ length img → Bears (pg (write img n 0 w)) q)
    → Holds p img (xs ++ ys) (n ∷ sp) → Holds p (write img n 0 w) (xs ++ (q ∷ ys)) sp
adopt {p} {img} xs ys q sp n w f e b h =
    let c : count n (n ∷ sp) ≡ 1 + count n sp = count-here n sp in
    let r : Within 1 p n = in-range h n (omega arith) in
    claim xs ys q sp (b r.0 (lies_in h n (omega arith)))
    (subst (λ (ns : List ℕ). Holds p (write img n 0 w) (xs ++ ys) (ns ++ sp)) (sym e) (scribble (xs ++ ys) (n ∷ sp) n 0 w (omega arith) (omega arith) h))

-- A field of one piece's first page n is written: the piece becomes another of the same pages
pub edit : {p : ℕ} {img : List ℕ} (xs ys : List Piece) (q q' : Piece) {sp : List ℕ} (n o : ℕ) (ns w : List ℕ)
    → o + length w ≤ 1024 → pages_of q ≡ n ∷ ns → pages_of q' ≡ n ∷ ns
    → (1 ≤ n → 1024 * n ≤ length img → Kept (pg img) (pg (write img n o w)) ns → Bears (pg img) q → Bears (pg (write img n o w)) q')
    → Holds p img (xs ++ (q ∷ ys)) sp → Holds p (write img n o w) (xs ++ (q' ∷ ys)) sp
edit {p} {img} xs ys q q' {sp} n o ns w f e e' step h =
    let k3 : count n (owned_by (xs ++ (q ∷ ys))) ≡ count n (owned_by xs) + (count n (owned_by (q ∷ [])) + count n (owned_by ys)) = count-three n xs (q ∷ []) ys in
    let k1 : count n (owned_by (q ∷ [])) ≡ count n (n ∷ ns) = count-one n q ∙ ap (count n) e in
    let s1 : count n (n ∷ ns) ≡ 1 + count n ns = count-here n ns in
    let m1 : count n (owned_by (xs ++ (q ∷ ys))) + count n sp ≤ 1 = at-most-once h n in
    let r : Within 1 p n = in-range h n (omega arith) in
    replace xs ys (q ∷ []) (q' ∷ []) sp n o w f (omega arith)
    (λ m. (let a : count m (pages_of q') ≡ count m (pages_of q) = ap (count m) (e' ∙ sym e) in omega (arith, count-one m q, count-one m q')))
    (λ b. (step r.0 (lies_in h n (omega arith)) (untouched img n o w ns f (omega arith)) b.0, tt))
    h
