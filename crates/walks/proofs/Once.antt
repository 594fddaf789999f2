-- Pages claimed one after another are claimed once each; where all are claimed, each page is owned exactly once.
use Prim.Native.Nat.{ℕ, suc, ◌+◌, ◌*◌, ◌-◌, ◌≤◌, ◌<◌, zero-le}
use native.Mathlib.Omega.{arith}
use native.Mathlib.Decide.{ℕ_discrete, dec_lt}
use mathlib.Core.Path.{◌≡◌, refl, sym, ◌∙◌, subst}
use mathlib.Core.Logic.{by_cases}
use mathlib.Core.Bool.{true, cond}
use mathlib.Core.List.{List, [], ◌∷◌}
use lib.ListN.{length, get_or}
use lib.Seq.{get_or-set_same, get_or-set_other}
use borrow.Author.Tests.{ne_eqb, le-leb}
use Rattle.blockfile.specs.Order.{Within, within}
use Rattle.blockfile.specs.WellFormed.{count}
use Rattle.blockfile.proofs.Bools.{not_so, within-is, bit-true, bit-low}
use Rattle.blockfile.proofs.Count.{count-here, count-more}
use Rattle.heads.specs.Claims.{claimed, full}
use Rattle.heads.proofs.Claims.{full_at, full-of}
use Rattle.walks.specs.Found.{Open, Fresh, claims}
use Rattle.walks.proofs.Founds.{length-claimed, length-claims}

-- the first byte of the head of page n
abbrev byte_of : (scr : List ℕ) (n : ℕ) → ℕ
byte_of scr n = get_or scr (16 * (n - 1)) 0

claimed-same : (scr : List ℕ) (n : ℕ) → 16 * (n - 1) < length scr → byte_of (claimed scr n) n ≡ 0
unfolding claimed
claimed-same scr n h = get_or-set_same scr (16 * (n - 1)) 0 0 h

claimed-other : (scr : List ℕ) (n m : ℕ) → 1 ≤ n → 1 ≤ m → (n ≡ m → ⊥) → byte_of (claimed scr n) m ≡ byte_of scr m
unfolding claimed
claimed-other scr n m a b d = get_or-set_other scr (16 * (n - 1)) (16 * (m - 1)) 0 0 (omega arith)

count-other : (n m : ℕ) (ns : List ℕ) → (n ≡ m → ⊥) → count n (m ∷ ns) ≡ count n ns
count-other n m ns d = rw (ne_eqb n m d) (omega arith)

-- pages that can be claimed one after another are open, each once
pub record Distinct (scr ns : List ℕ) : Type 0 where
  pub opened : (n : ℕ) → 1 ≤ count n ns → Open scr n
  pub once : (n : ℕ) → count n ns ≤ 1

pub fresh-distinct : (scr ns : List ℕ) → Fresh scr ns → Distinct scr ns
fresh-distinct scr [] f = record { opened = λ n h. absurd (omega arith); once = λ n. zero-le }
fresh-distinct scr (m ∷ ns) f =
    let o : Open scr m = f.0 in
    let d : Distinct (claimed scr m) ns = fresh-distinct (claimed scr m) ns f.1 in
    let gone : count m ns ≡ 0 =
    by_cases (dec_lt 0 (count m ns)) (λ h. absurd ((d.opened m h).free (claimed-same scr m (omega (arith, o.low, o.high))))) (λ h. omega arith) in
    record {
      opened = λ n h. by_cases (ℕ_discrete n m) (λ e. subst (Open scr) (sym e) o)
          (λ e. let p : Open (claimed scr m) n = d.opened n (omega (arith, count-other n m ns e)) in
          record { low = p.low; high = omega (arith, p.high, length-claimed scr m); free = λ z. p.free (claimed-other scr m n o.low p.low (λ q. e (sym q)) ∙ z) });
      once = λ n. by_cases (ℕ_discrete n m) (λ e. omega (arith, subst (λ (x : ℕ). count x (m ∷ ns) ≡ 1 + count m ns) (sym e) (count-here m ns), gone))
          (λ e. omega (arith, count-other n m ns e, d.once n));
    }

pub distinct-fresh : (scr ns : List ℕ) → Distinct scr ns → Fresh scr ns
distinct-fresh scr [] d = tt
distinct-fresh scr (m ∷ ns) d =
    let o : Open scr m = d.opened m (omega (arith, count-here m ns)) in (
      o,
      distinct-fresh (claimed scr m) ns (record {
        opened = λ n h.
            let e : n ≡ m → ⊥ = λ q. omega (arith, d.once m, count-here m ns, subst (λ (x : ℕ). 1 ≤ count x ns) q h) in
            let p : Open scr n = d.opened n (omega (arith, count-other n m ns e)) in
            record { low = p.low; high = omega (arith, p.high, length-claimed scr m); free = λ z. p.free (sym (claimed-other scr m n o.low p.low (λ q. e (sym q))) ∙ z) };
        once = λ n. omega (arith, d.once n, count-more n m ns);
      }),
    )

-- ---- What the claims leave in the scratch

claims-out : (scr ns : List ℕ) (n : ℕ) → Fresh scr ns → 1 ≤ n → count n ns ≡ 0 → byte_of (claims scr ns) n ≡ byte_of scr n
claims-out scr [] n f l h = refl
claims-out scr (m ∷ ns) n f l h =
    let d : m ≡ n → ⊥ = λ e. omega (arith, subst (λ (x : ℕ). count x (m ∷ ns) ≡ 1 + count x ns) e (count-here m ns)) in
    claims-out (claimed scr m) ns n f.1 l (omega (arith, count-more n m ns)) ∙ claimed-other scr m n f.0.low l d

claims-in : (scr ns : List ℕ) (n : ℕ) → Fresh scr ns → 1 ≤ count n ns → byte_of (claims scr ns) n ≡ 0
claims-in scr [] n f h = absurd (omega arith)
claims-in scr (m ∷ ns) n f h =
    by_cases (dec_lt 0 (count n ns)) (λ l. claims-in (claimed scr m) ns n f.1 l)
    (λ l.
    let o : Open scr m = f.0 in
    let e : n ≡ m = by_cases (ℕ_discrete n m) (λ q. q) (λ q. absurd (omega (arith, count-other n m ns q))) in
    claims-out (claimed scr m) ns n f.1 (omega arith) (omega arith)
    ∙ subst (λ (x : ℕ). byte_of (claimed scr m) x ≡ 0) (sym e) (claimed-same scr m (omega (arith, o.low, o.high))))

-- ---- Each of the p pages once, and no other

-- a scratch of p pages, none of them claimed
pub record AllOpen (p : ℕ) (scr : List ℕ) : Type 0 where
  pub long : length scr ≡ 20 * p
  pub free : (j : ℕ) → 20 * j < length scr → get_or scr (16 * j) 0 ≡ 0 → ⊥

module _ (p : ℕ) (scr : List ℕ) (none : AllOpen p scr) (ns : List ℕ) where
  inside : (n : ℕ) → Within 1 p n → ◌≡◌ {A = ℕ} (cond (within 1 p n) 1 0) 1
  inside n h = rw (le-leb 1 n h.0, le-leb n p h.1)

  outside : (n : ℕ) → (Within 1 p n → ⊥) → ◌≡◌ {A = ℕ} (cond (within 1 p n) 1 0) 0
  outside n h = rw (not_so (within 1 p n) (λ t. h (within-is 1 p n t)))

  pub claimed-once : Fresh scr ns → full (claims scr ns) ≡ true → (n : ℕ) → count n ns ≡ cond (within 1 p n) 1 0
  claimed-once f e n =
      let d : Distinct scr ns = fresh-distinct scr ns f in
      by_cases (dec_lt 0 (count n ns))
      (λ l. let o : Open scr n = d.opened n l in omega (arith, d.once n, inside n (o.low, omega (arith, o.high, none.long))))
      (λ l. let z : count n ns ≡ 0 = omega arith in
      z ∙ sym (outside n (λ w. none.free (n - 1) (omega (arith, none.long, w.0, w.1))
      (sym (claims-out scr ns n f w.0 z) ∙ full_at (claims scr ns) e (n - 1) (omega (arith, length-claims scr ns, none.long, w.0, w.1))))))

  pub once-claimed : ((n : ℕ) → count n ns ≡ cond (within 1 p n) 1 0) → Fresh scr ns × (full (claims scr ns) ≡ true)
  once-claimed h = (fresh, full-of (claims scr ns) (λ i l. subst (λ (x : ℕ). get_or (claims scr ns) (16 * x) 0 ≡ 0) (at i) (claims-in scr ns (suc i) fresh (here i l))))
    where
      at : (i : ℕ) → suc i - 1 ≡ i
      at i = omega arith

      here : (i : ℕ) → 20 * i + 20 ≤ length (claims scr ns) → 1 ≤ count (suc i) ns
      here i l = omega (arith, h (suc i), inside (suc i) (omega (arith, length-claims scr ns, none.long)))

      counted : (n : ℕ) → 1 ≤ count n ns → Within 1 p n
      counted n l = within-is 1 p n (bit-true (within 1 p n) (subst (λ (m : ℕ). 1 ≤ m) (h n) l))

      fresh : Fresh scr ns
      fresh =
          distinct-fresh scr ns
          (record {
            opened = λ n l.
                let w : Within 1 p n = counted n l in
                record { low = w.0; high = omega (arith, w.1, none.long); free = none.free (n - 1) (omega (arith, w.0, w.1, none.long)) };
            once = λ n. subst (λ (m : ℕ). m ≤ 1) (sym (h n)) (bit-low (within 1 p n));
          })
