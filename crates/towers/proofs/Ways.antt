-- Spans along next links.
use Prim.Native.Nat.{ℕ, zero, suc, ◌*◌, ◌≤◌}
use native.Mathlib.Omega.{arith}
use mathlib.Core.Path.{◌≡◌, refl, ap, ap₂, sym, ◌∙◌, subst}
use mathlib.Core.Bool.{true, false, cond}
use mathlib.Core.List.{List, [], ◌∷◌}
use lib.ListN.{length}
use lib.Dec.{eqb}
use borrow.Author.Tests.{eq-eqb, ne_eqb}
use Rattle.heads.specs.Claims.{Lent, head32}
use Rattle.heads.proofs.Claims.{in_head, head32-is}
use Rattle.walks.specs.Found.{Decides}
use Rattle.walks.proofs.Founds.{decides-true, decides-false}
use Rattle.towers.specs.Climb.{next_span, Way, Linked, Reach}

-- how many spans there are from page p on, f at most, by the links of the heads
unfoldable pub steps : (scr : List ℕ) (f p : ℕ) → ℕ
steps scr zero p = 0
steps scr (suc f) p = cond (eqb p 0) 0 (suc (steps scr f (head32 scr p 12)))

module _ {img scr : List ℕ} (lent : Lent img scr) where
  pub next-is : (p : ℕ) → 1 ≤ p → 1024 * p ≤ length img → head32 scr p 12 ≡ next_span img p
  next-is p lo hi = head32-is lent (in_head lent lo hi (omega arith)) (omega arith)

  steps-way : (f : ℕ) (l : List ℕ) (p : ℕ) → Way img p 0 l → length l ≤ f → steps scr f p ≡ length l
  unfolding steps
  steps-way zero [] p w h = refl
  steps-way zero (q ∷ l) p w h = absurd (omega arith)
  steps-way (suc f) [] p w h = rw (eq-eqb p 0 w)
  steps-way (suc f) (q ∷ l) p (e, lo, hi, w) h = rw (e, ne_eqb q 0 (omega arith), next-is q lo hi) (ap suc (steps-way f l (next_span img q) w (omega arith)))

-- the next links from p on are passed in one way
pub way-unique : (img : List ℕ) (l k : List ℕ) (p : ℕ) → Way img p 0 l → Way img p 0 k → l ≡ k
way-unique img [] [] p v w = refl
way-unique img [] (y ∷ k) p v (d, lo, hi, w) = absurd (omega arith)
way-unique img (x ∷ l) [] p (e, lo, hi, v) w = absurd (omega arith)
way-unique img (x ∷ l) (y ∷ k) p (e, lo, hi, v) (d, lo', hi', w) =
    let s : x ≡ y = sym e ∙ d in
    ap₂ (λ (a : ℕ) (as' : List ℕ). a ∷ as') s (way-unique img l k (next_span img x) v (subst (λ (a : ℕ). Way img (next_span img a) 0 k) (sym s) w))

-- a span: it is on a page of the image, its head has its next link, and the spans after it are fewer
pub record Next (img scr : List ℕ) (p : ℕ) : Type 0 where
  pub low : 1 ≤ p
  pub high : 1024 * p ≤ length img
  pub link : head32 scr p 12 ≡ next_span img p
  pub more : Linked img (next_span img p)
  pub fewer : steps scr (length scr) p ≡ suc (steps scr (length scr) (next_span img p))

module _ {img scr : List ℕ} (lent : Lent img scr) where
  pub next-span : (p : ℕ) → Linked img p → (p ≡ 0 → ⊥) → Next img scr p
  next-span p k z = go k.passed k.way k.few
    where
      go : (l : List ℕ) → Way img p 0 l → 1024 * length l ≤ length img → Next img scr p
      go [] w h = absurd (z w)
      go (q ∷ l) (e, lo, hi, w) h =
          let v : Way img (next_span img p) 0 l = subst (λ (x : ℕ). Way img (next_span img x) 0 l) (sym e) w in
          let f : suc (length l) ≤ length scr = omega (arith, lent.room.size, lent.room.whole) in
          record {
            low = omega arith;
            high = omega arith;
            link = next-is lent p (omega arith) (omega arith);
            more = record { passed = l; way = v; few = omega arith };
            fewer = steps-way lent (length scr) (q ∷ l) p (e, lo, hi, w) f ∙ ap suc (sym (steps-way lent (length scr) l (next_span img p) v (omega arith)));
          }

  -- the spans after one that is reached
  pub reach-linked : (p q : ℕ) → Linked img p → Reach img p q → Linked img (next_span img q)
  reach-linked p q k r = go r.passed p r.way k
    where
      go : (l : List ℕ) (p : ℕ) → Way img p q l → Linked img p → Linked img (next_span img q)
      go [] p w k = (next-span q (subst (Linked img) w k) (λ z. omega (arith, r.low))).more
      go (x ∷ l) p (e, lo, hi, w) k = go l (next_span img x) w (next-span x (subst (Linked img) e k) (λ z. omega arith)).more

-- the loop along the spans, which is at p: what is one of the spans from here on is one from the start on, and back
pub record Reaching (img : List ℕ) (start target p : ℕ) : Type 0 where
  pub linked : Linked img p
  pub to : Reach img p target → Reach img start target
  pub back : Reach img start target → Reach img p target

module _ {img scr : List ℕ} (lent : Lent img scr) (start target p : ℕ) (v : Reaching img start target p) where
  pub reaching-end : p ≡ 0 → Decides (Reach img start target) false
  reaching-end z = decides-false (λ r. let s = v.back r in go s.passed s.way s.low)
    where
      go : (l : List ℕ) → Way img p target l → 1 ≤ target → ⊥
      go [] w lo = omega arith
      go (x ∷ l) (e, lo', hi, w) lo = omega arith

  module _ (z : p ≡ 0 → ⊥) where
    pub reaching-here : p ≡ target → Decides (Reach img start target) true
    reaching-here e =
        let n = next-span lent p v.linked z in
        let l : 1 ≤ target = subst (λ (x : ℕ). 1 ≤ x) e n.low in
        let h : 1024 * target ≤ length img = subst (λ (x : ℕ). 1024 * x ≤ length img) e n.high in
        decides-true (v.to (record { passed = []; way = e; low = l; high = h }))

    pub reaching-next : (p ≡ target → ⊥) → (m : ℕ) → m ≡ head32 scr p 12 → Reaching img start target m
    reaching-next ne m is =
        let n = next-span lent p v.linked z in
        rw (is, n.link) (record {
          linked = n.more;
          to = λ r. v.to (record { passed = p ∷ r.passed; way = (refl, n.low, n.high, r.way); low = r.low; high = r.high });
          back = λ r. let s = v.back r in go s.passed s.way s.low s.high;
        })
      where
        go : (l : List ℕ) → Way img p target l → 1 ≤ target → 1024 * target ≤ length img → Reach img (next_span img p) target
        go [] w lo hi = absurd (ne w)
        go (x ∷ l) (e, lo', hi', w) lo hi =
            subst (λ (y : ℕ). Reach img (next_span img y) target) (sym e) (record { passed = l; way = w; low = lo; high = hi })
