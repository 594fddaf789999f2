-- The pages of a free list in the order in which they are taken: of each block the pages it lists, the last one first, then the block.
use Prim.Native.Nat.{ℕ, zero, suc, ◌+◌, ◌-◌, ◌<◌, ◌≤◌}
use native.Mathlib.Omega.{arith}
use mathlib.Core.Path.{◌≡◌, refl, ap, ap₂, sym, ◌∙◌}
use mathlib.Core.List.{List, [], ◌∷◌, ◌++◌, append-nil}
use lib.ListN.{length, get_or, take, drop, length-take}
use lib.Seq.{take_all, get_or-take, get_or-append-add}
use Rattle.blockfile.specs.Layout.{Block, free_count}
use Rattle.blockfile.specs.Free.{Drawn, take_from, take_page, take_many, draw}
use Rattle.laws.proofs.Draws.{take-cases-left, none-given}

-- those of a block on page p, of whose list ns the first c pages are left, and then the others
abbrev pub order_from : (p : ℕ) (ns : List ℕ) (c : ℕ) (others : List ℕ) → List ℕ
order_from p ns zero rs = p ∷ rs
order_from p ns (suc c) rs = get_or ns c 0 ∷ order_from p ns c rs

abbrev pub take_order : List Block → List ℕ
take_order [] = []
take_order (b ∷ bs) = order_from b.page b.listed (length b.listed) (take_order bs)

module _ (p : ℕ) (ns rs : List ℕ) where
  -- a listed page
  pub order-listed : (c j : ℕ) → j < c → get_or (order_from p ns c rs) j 0 ≡ get_or ns (c - suc j) 0
  order-listed zero j l = absurd (omega arith)
  order-listed (suc c) zero l = ap (λ (i : ℕ). get_or ns i 0) (omega arith)
  order-listed (suc c) (suc j) l = order-listed c j (omega arith) ∙ ap (λ (i : ℕ). get_or ns i 0) (omega arith)

  -- the block
  pub order_block : (c : ℕ) → get_or (order_from p ns c rs) c 0 ≡ p
  order_block zero = refl
  order_block (suc c) = order_block c

  -- a page behind them
  pub order-behind : (c j : ℕ) → c < j → get_or (order_from p ns c rs) j 0 ≡ get_or rs (j - suc c) 0
  order-behind c zero l = absurd (omega arith)
  order-behind zero (suc j) l = ap (λ (i : ℕ). get_or rs i 0) (omega arith)
  order-behind (suc c) (suc j) l = order-behind c j (omega arith) ∙ ap (λ (i : ℕ). get_or rs i 0) (omega arith)

  -- the pages behind the first c of the list don't matter
  order-front : (d c : ℕ) → c ≤ d → order_from p (take d ns) c rs ≡ order_from p ns c rs
  order-front d zero l = refl
  order-front d (suc c) l = ap₂ (λ (x : ℕ) (l : List ℕ). x ∷ l) (get_or-take d ns c 0 (omega arith)) (order-front d c (omega arith))

-- several pages taken are the first in that order
taken-first : (n : ℕ) (bs : List Block) → n ≤ free_count bs → (take_many n bs).pages ≡ take n (take_order bs)
unfolding free_count
taken-first zero bs l = refl
taken-first (suc n) [] l = absurd (omega arith)
taken-first (suc n) (b ∷ bs) l =
    go (length b.listed) refl
    (taken-first n (take_page (b ∷ bs)).free (omega (arith, take-cases-left b.page b.listed (length b.listed) bs refl)))
  where
    go : (c : ℕ) → length b.listed ≡ c → (take_many n (take_from b.page b.listed c bs).free).pages ≡ take n (take_order (take_from b.page b.listed c bs).free)
        → (take_from b.page b.listed c bs).pages ++ (take_many n (take_from b.page b.listed c bs).free).pages
        ≡ take (suc n) (order_from b.page b.listed c (take_order bs))
    go zero e ih = ap (λ (l : List ℕ). b.page ∷ l) ih
    go (suc c) e ih =
        let m : length (take c b.listed) ≡ c = rw length-take (omega arith) in
        ap (λ (l : List ℕ). get_or b.listed c 0 ∷ l)
        (ih ∙ ap (take n) (ap (λ (k : ℕ). order_from b.page (take c b.listed) k (take_order bs)) m ∙ order-front b.page b.listed (take_order bs) c c (omega arith)))

-- the page taken after j others
pub taken_at : (n j : ℕ) (bs : List Block) → j < n → n ≤ free_count bs → get_or (take_many n bs).pages j 0 ≡ get_or (take_order bs) j 0
taken_at n j bs l m = ap (λ (ps : List ℕ). get_or ps j 0) (taken-first n bs m) ∙ get_or-take n (take_order bs) j 0 l

-- a page that is drawn behind the old ones
pub drawn-at : (old : List ℕ) (wanted j : ℕ) (bs : List Block) → length old ≤ j → j < wanted → wanted ≤ length old + free_count bs
    → get_or (draw old wanted [] bs).pages j 0 ≡ get_or (take_order bs) (j - length old) 0
unfolding draw
drawn-at old w j bs l m n =
    let d : Drawn = take_many (w - length old) bs in
    let e : length old + (j - length old) ≡ j = omega arith in
    ap (λ (ps : List ℕ). get_or (take w old ++ ps) j 0) (ap (λ (ps : List ℕ). d.pages ++ ps) (none-given (drop w old ++ []) d.free) ∙ append-nil d.pages)
    ∙ ap (λ (ps : List ℕ). get_or (ps ++ d.pages) j 0) (take_all w old (omega arith))
    ∙ ap (λ (i : ℕ). get_or (old ++ d.pages) i 0) (sym e)
    ∙ get_or-append-add old d.pages (j - length old) 0
    ∙ taken_at (w - length old) (j - length old) bs (omega arith) (omega arith)
