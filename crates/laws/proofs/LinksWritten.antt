-- Links of towers written one by one: on what is held they are the edits of links.
use Prim.Native.Nat.{ℕ, ◌+◌, ◌*◌, ◌<◌, ◌≤◌}
use native.Mathlib.Omega.{arith}
use mathlib.Core.Path.{◌≡◌, refl, ap, ap₂, sym, ◌∙◌, subst}
use mathlib.Core.Bool.{Bool, true, false, cond}
use mathlib.Core.List.{List, [], ◌∷◌, ◌++◌, map, map-append, append_assoc}
use lib.ListN.{length, set, length-set}
use lib.Dec.{ltb, eqb}
use borrow.Author.Tests.{ltb-true, eqb-true, eq-eqb}
use Rattle.blockfile.specs.Bytes.{write, word32, apply, Every}
use Rattle.blockfile.specs.Layout.{Block}
use Rattle.blockfile.specs.Fields.{SkipList, LinkedSpan, LinkedTower}
use Rattle.blockfile.specs.WellFormed.{count}
use Rattle.blockfile.proofs.Every.{every-so}
use Rattle.blockfile.proofs.Count.{count-here, count-append}
use Rattle.laws.proofs.State.{Shows, tower_pages}
use Rattle.laws.proofs.Opens.{held}
use Rattle.laws.proofs.Written.{with_nexts}
use Rattle.laws.proofs.Edits.{entry-written}
use Rattle.laws.proofs.TowerLinks.{Link, link_write, set_entry, set_next, set_nexts, sets-append, sets-apart}
use Rattle.laws.proofs.Inside.{Word, towers-once}

-- the pages of the towers that have more than k links
abbrev pub tall : (k : ℕ) → List LinkedTower → List ℕ
tall k [] = []
tall k (x ∷ xs) = cond (ltb k (length x.nexts)) (x.tower.page ∷ tall k xs) (tall k xs)

-- a link that can be written: a tower on its page has its level, and it leads to a page's number
pub record LinkFits (ws : List LinkedTower) (l : Link) : Type 0 where
  pub there : 1 ≤ count l.page (tall l.level ws)
  pub low : l.level < 252
  pub small : Word l.to

-- ---- The tower on a page

-- a tower on page n with more than k links
record Seen (n k : ℕ) (ws : List LinkedTower) : Type 0 where
  before : List LinkedTower
  here : LinkedTower
  behind : List LinkedTower
  is : ws ≡ before ++ here ∷ behind
  on_page : n ≡ here.tower.page
  high : k < length here.nexts

further : (n k : ℕ) (x : LinkedTower) (xs : List LinkedTower) → Seen n k xs → Seen n k (x ∷ xs)
further n k x xs s =
    record { before = x ∷ s.before; here = s.here; behind = s.behind; is = ap (λ (l : List LinkedTower). x ∷ l) s.is; on_page = s.on_page; high = s.high }

seen : (n k : ℕ) (ws : List LinkedTower) → 1 ≤ count n (tall k ws) → Seen n k ws
seen n k [] h = absurd (omega arith)
seen n k (x ∷ xs) h = go (ltb k (length x.nexts)) refl (eqb n x.tower.page) refl h (λ c. further n k x xs (seen n k xs c))
  where
    go : (b : Bool) → ltb k (length x.nexts) ≡ b → (c : Bool) → eqb n x.tower.page ≡ c
        → 1 ≤ count n (cond b (x.tower.page ∷ tall k xs) (tall k xs)) → (1 ≤ count n (tall k xs) → Seen n k (x ∷ xs)) → Seen n k (x ∷ xs)
    go true e true f h later =
        record { before = []; here = x; behind = xs; is = refl; on_page = eqb-true n x.tower.page f; high = ltb-true k (length x.nexts) e }
    go true e false f h later = later (omega (arith, rw f at h))
    go false e c f h later = later h

count-towers : (n : ℕ) (xs ys : List LinkedTower) → count n (tower_pages (xs ++ ys)) ≡ count n (tower_pages xs) + count n (tower_pages ys)
count-towers n xs ys = ap (count n) (map-append (λ (x : LinkedTower). x.tower.page) xs ys) ∙ count-append n (tower_pages xs) (tower_pages ys)

-- no other tower is on its page
alone : (n : ℕ) (ts xs : List LinkedTower) (x : LinkedTower) (ys us : List LinkedTower) → n ≡ x.tower.page → count n (tower_pages (ts ++ ((xs ++ x ∷ ys) ++ us))) ≤ 1
    → (count n (tower_pages xs) ≡ 0) × (count n (tower_pages ys) ≡ 0)
alone n ts xs x ys us e o =
    let c : count n (x.tower.page ∷ tower_pages ys) ≡ 1 + count n (tower_pages ys)
    = subst (λ (m : ℕ). count n (m ∷ tower_pages ys) ≡ 1 + count n (tower_pages ys)) e (count-here n (tower_pages ys)) in
    parts (omega (arith, count-towers n ts ((xs ++ x ∷ ys) ++ us), count-towers n (xs ++ x ∷ ys) us, count-towers n xs (x ∷ ys)))
  where
    parts : count n (tower_pages xs) + (1 + count n (tower_pages ys)) ≤ 1 → (count n (tower_pages xs) ≡ 0) × (count n (tower_pages ys) ≡ 0)
    parts h = (omega arith, omega arith)

-- ---- Edits leave pages and levels

entry_length : (b : Bool) (ns : List ℕ) (i m : ℕ) → length (cond b (set ns i m) ns) ≡ length ns
entry_length true ns i m = length-set ns i m
entry_length false ns i m = refl

tall-set : (k p i m : ℕ) (ws : List LinkedTower) → tall k (set_next p i m ws) ≡ tall k ws
tall-set k p i m [] = refl
tall-set k p i m (x ∷ xs) =
    ap₂ (λ (n : ℕ) (l : List ℕ). cond (ltb k n) (x.tower.page ∷ l) l) (entry_length (eqb p x.tower.page) x.nexts i m) (tall-set k p i m xs)

-- one tower's entry, with the others on other pages
set-one : (l : Link) (xs : List LinkedTower) (x : LinkedTower) (ys : List LinkedTower) → l.page ≡ x.tower.page
    → count l.page (tower_pages xs) ≡ 0 → count l.page (tower_pages ys) ≡ 0
    → set_next l.page l.level l.to (xs ++ x ∷ ys) ≡ xs ++ with_nexts (set x.nexts l.level l.to) x ∷ ys
set-one l xs x ys e a b =
    sets-append (l ∷ []) xs (x ∷ ys)
    ∙ ap₂ (λ (k m : List LinkedTower). k ++ set_entry l.page l.level l.to x ∷ m) (sets-apart (l ∷ []) xs (a, tt)) (sets-apart (l ∷ []) ys (b, tt))
    ∙ ap (λ (c : Bool). xs ++ with_nexts (cond c (set x.nexts l.level l.to) x.nexts) x ∷ ys) (eq-eqb l.page x.tower.page e)

-- a place in a part in the middle
pub in-middle : {A : Type 0} (ts xs : List A) (x : A) (ys us : List A) → ts ++ ((xs ++ x ∷ ys) ++ us) ≡ (ts ++ xs) ++ x ∷ (ys ++ us)
in-middle ts xs x ys us = simp append_assoc

module _ {p z : ℕ} {ks : List SkipList} {xs : List LinkedSpan} {bs : List Block} {sp : List ℕ} where
  link-written : {img : List ℕ} (ts us ws : List LinkedTower) (l : Link) → LinkFits ws l → Shows p z img (held ks xs (ts ++ (ws ++ us)) bs sp)
      → Shows p z (write img l.page (16 + 4 * l.level) (word32 l.to)) (held ks xs (ts ++ (set_next l.page l.level l.to ws ++ us)) bs sp)
  link-written {img} ts us ws l f s =
      let w : Seen l.page l.level ws = seen l.page l.level ws f.there in
      let x : LinkedTower = w.here in
      let y : LinkedTower = with_nexts (set x.nexts l.level l.to) x in
      let b : List LinkedTower = w.before in
      let a : List LinkedTower = w.behind in
      let o : (count l.page (tower_pages b) ≡ 0) × (count l.page (tower_pages a) ≡ 0)
      = alone l.page ts b x a us w.on_page
      (subst (λ (v : List LinkedTower). count l.page (tower_pages (ts ++ (v ++ us))) ≤ 1) w.is (omega (arith, towers-once s l.page))) in
      let e : ts ++ (set_next l.page l.level l.to ws ++ us) ≡ (ts ++ b) ++ y ∷ (a ++ us)
      = ap (λ (v : List LinkedTower). ts ++ (set_next l.page l.level l.to v ++ us)) w.is
      ∙ ap (λ (v : List LinkedTower). ts ++ (v ++ us)) (set-one l b x a w.on_page o.0 o.1) ∙ in-middle ts b y a us in
      let d : ts ++ (ws ++ us) ≡ (ts ++ b) ++ x ∷ (a ++ us) = ap (λ (v : List LinkedTower). ts ++ (v ++ us)) w.is ∙ in-middle ts b x a us in
      subst (λ (n : ℕ). Shows p z (write img n (16 + 4 * l.level) (word32 l.to)) (held ks xs (ts ++ (set_next l.page l.level l.to ws ++ us)) bs sp)) (sym w.on_page)
      (subst (λ (v : List LinkedTower). Shows p z (write img x.tower.page (16 + 4 * l.level) (word32 l.to)) (held ks xs v bs sp)) (sym e)
      (entry-written (ts ++ b) (a ++ us) x l.level l.to w.high f.low f.small
      (subst (λ (v : List LinkedTower). Shows p z img (held ks xs v bs sp)) d s)))

  -- links written, one after another
  pub links-written : (ts us : List LinkedTower) (ls : List Link) (ws : List LinkedTower) → Every (LinkFits ws) ls
      → (img : List ℕ) → Shows p z img (held ks xs (ts ++ (ws ++ us)) bs sp) → Shows p z (apply (map link_write ls) img) (held ks xs (ts ++ (set_nexts ls ws ++ us)) bs sp)
  links-written ts us [] ws f img s = s
  links-written ts us (l ∷ ls) ws f img s =
      links-written ts us ls (set_next l.page l.level l.to ws) (every-so (LinkFits ws) again ls f.1)
      (write img l.page (16 + 4 * l.level) (word32 l.to)) (link-written ts us ws l f.0 s)
    where
      again : (m : Link) → LinkFits ws m → LinkFits (set_next l.page l.level l.to ws) m
      again m g = record { there = rw (tall-set m.level l.page l.level l.to ws) g.there; low = g.low; small = g.small }
