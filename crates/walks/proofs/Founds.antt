-- Claims one after another, pieces found one after another, and when a walk's answer is right.
use Prim.Native.Nat.{ℕ, zero, suc, ◌+◌, ◌*◌, ◌-◌, ◌/◌, ◌≤◌, ◌<◌, zero-le}
use native.Mathlib.Omega.{arith}
use native.Mathlib.Decide.{ℕ_discrete}
use mathlib.Core.Logic.{by_cases}
use mathlib.Core.Path.{◌≡◌, refl, ap, sym, ◌∙◌, subst}
use mathlib.Core.Bool.{Bool, true, false, not, cond, ◌&&◌, true≢false}
use mathlib.Core.List.{List, [], ◌∷◌, ◌++◌}
use lib.ListN.{length, get_or, set, length-set}
use lib.Seq.{get_or-set_same, get_or-set_other}
use lib.Dec.{T, eqb, leb, leb→le}
use borrow.Author.Tests.{eq-eqb, ne_eqb, le-leb}
use Rattle.blockfile.specs.Bytes.{pg, gather}
use Rattle.blockfile.specs.Marks.{marks}
use Rattle.blockfile.specs.WellFormed.{Piece, pages_of, Bears}
use Rattle.blockfile.proofs.Bools.{so, holds, and_both}
use Rattle.blockfile.proofs.Every.{every-left, every-right, every-join}
use Rattle.blockfile.proofs.Owned.{owned_by, owned-append}
use Rattle.pages.specs.Begins.{begins}
use Rattle.heads.specs.Claims.{Lent, claimable, claimed}
use Rattle.heads.proofs.Claims.{lent-claimed}
use Rattle.std.specs.Prelude.{Some, None}
use Rattle.std.proofs.lemmas.Option.{none-some, same_Some}
use Rattle.walks.specs.Found.{Open, Fresh, claims, unclaimed_to, unclaimed, Found, Decides, FindsAt}

-- ---- Claims

pub length-claimed : (scr : List ℕ) (n : ℕ) → length (claimed scr n) ≡ length scr
unfolding claimed
length-claimed scr n = length-set scr (16 * (n - 1)) 0

pub length-claims : (scr ns : List ℕ) → length (claims scr ns) ≡ length scr
length-claims scr [] = refl
length-claims scr (n ∷ ns) = length-claims (claimed scr n) ns ∙ length-claimed scr n

pub claims-append : (scr ns ms : List ℕ) → claims scr (ns ++ ms) ≡ claims (claims scr ns) ms
claims-append scr [] ms = refl
claims-append scr (n ∷ ns) ms = claims-append (claimed scr n) ns ms

pub fresh-join : (scr ns ms : List ℕ) → Fresh scr ns → Fresh (claims scr ns) ms → Fresh scr (ns ++ ms)
fresh-join scr [] ms f g = g
fresh-join scr (n ∷ ns) ms f g = (f.0, fresh-join (claimed scr n) ns ms f.1 g)

pub fresh-left : (scr ns ms : List ℕ) → Fresh scr (ns ++ ms) → Fresh scr ns
fresh-left scr [] ms f = tt
fresh-left scr (n ∷ ns) ms f = (f.0, fresh-left (claimed scr n) ns ms f.1)

pub fresh-right : (scr ns ms : List ℕ) → Fresh scr (ns ++ ms) → Fresh (claims scr ns) ms
fresh-right scr [] ms f = f
fresh-right scr (n ∷ ns) ms f = fresh-right (claimed scr n) ns ms f.1

-- claims keep the heads
pub lent-claims : {img scr : List ℕ} (ns : List ℕ) → Fresh scr ns → Lent img scr → Lent img (claims scr ns)
lent-claims {img = img} {scr = scr} [] f l = l
lent-claims {img = img} {scr = scr} (n ∷ ns) f l = lent-claims {img = img} {scr = claimed scr n} ns f.1 (lent-claimed n f.0.low f.0.high l)

-- a claim leaves one page fewer unclaimed
unclaimed-same : (scr : List ℕ) (i p : ℕ) → p ≤ i → unclaimed_to (set scr (16 * i) 0) p ≡ unclaimed_to scr p
unclaimed-same scr i zero h = refl
unclaimed-same scr i (suc p) h = rw (get_or-set_other scr (16 * i) (16 * p) 0 0 (omega arith), unclaimed-same scr i p (omega arith))

unclaimed-set : (scr : List ℕ) (i p : ℕ) → i < p → 16 * i < length scr → (get_or scr (16 * i) 0 ≡ 0 → ⊥) → unclaimed_to scr p ≡ suc (unclaimed_to (set scr (16 * i) 0) p)
unclaimed-set scr i zero h l e = absurd (omega arith)
unclaimed-set scr i (suc p) h l e =
    by_cases (ℕ_discrete i p)
    (λ q.
    let here : get_or (set scr (16 * i) 0) (16 * p) 0 ≡ 0 = rw (← q) (get_or-set_same scr (16 * i) 0 0 l) in
    let there : get_or scr (16 * p) 0 ≡ 0 → ⊥ = λ z. e (rw q z) in
    rw (ne_eqb (get_or scr (16 * p) 0) 0 there, eq-eqb (get_or (set scr (16 * i) 0) (16 * p) 0) 0 here, unclaimed-same scr i p (omega arith)))
    (λ q.
    let same : get_or (set scr (16 * i) 0) (16 * p) 0 ≡ get_or scr (16 * p) 0 = get_or-set_other scr (16 * i) (16 * p) 0 0 (omega arith) in
    rw same (go (eqb (get_or scr (16 * p) 0) 0) (unclaimed-set scr i p (omega arith) l e)))
  where
    go : (b : Bool) {x y : ℕ} → x ≡ suc y → cond b x (suc x) ≡ suc (cond b y (suc y))
    go true e = e
    go false e = ap suc e

pub unclaimed-claimed : (scr : List ℕ) (n : ℕ) → Open scr n → unclaimed scr ≡ suc (unclaimed (claimed scr n))
unfolding claimed
unclaimed-claimed scr n o =
    unclaimed-set scr (n - 1) (length scr / 20) (omega (arith, o.low, o.high)) (omega (arith, o.low, o.high)) o.free
    ∙ ap (λ (p : ℕ). suc (unclaimed_to (set scr (16 * (n - 1)) 0) (p / 20))) (sym (length-set scr (16 * (n - 1)) 0))

pub unclaimed-claims : (scr ns : List ℕ) → Fresh scr ns → unclaimed scr ≡ length ns + unclaimed (claims scr ns)
unclaimed-claims scr [] f = omega arith
unclaimed-claims scr (n ∷ ns) f = omega (arith, unclaimed-claimed scr n f.0, unclaimed-claims (claimed scr n) ns f.1)

unclaimed-below : (scr : List ℕ) (p : ℕ) → unclaimed_to scr p ≤ p
unclaimed-below scr zero = zero-le
unclaimed-below scr (suc p) = go (eqb (get_or scr (16 * p) 0) 0) (unclaimed-below scr p)
  where
    go : (b : Bool) {x : ℕ} → x ≤ p → cond b x (suc x) ≤ suc p
    go true h = omega arith
    go false h = omega arith

pub unclaimed-most : (scr : List ℕ) → 20 * unclaimed scr ≤ length scr
unclaimed-most scr = let h : unclaimed scr ≤ length scr / 20 = unclaimed-below scr (length scr / 20) in omega (arith, h)

-- ---- A page that can be claimed as a kind is open and begins with the kind's mark

pub claimable-open : (img scr : List ℕ) (n k : ℕ) → claimable img scr n k ≡ true → Open scr n × (begins (get_or marks k []) (pg img n) ≡ true)
unfolding claimable
claimable-open img scr n k e =
    let a : T (leb 1 n && leb (20 * n) (length scr)) × T (not (eqb (get_or scr (16 * (n - 1)) 0) 0) && begins (get_or marks k []) (pg img n))
    = and_both (leb 1 n && leb (20 * n) (length scr)) _ (holds _ e) in
    let b : T (leb 1 n) × T (leb (20 * n) (length scr)) = and_both (leb 1 n) _ a.0 in
    let c : T (not (eqb (get_or scr (16 * (n - 1)) 0) 0)) × T (begins (get_or marks k []) (pg img n)) = and_both (not (eqb (get_or scr (16 * (n - 1)) 0) 0)) _ a.1 in
    (record { low = leb→le 1 n b.0; high = leb→le (20 * n) (length scr) b.1; free = λ z. rw (eq-eqb (get_or scr (16 * (n - 1)) 0) 0 z) at c.0 }, so _ c.1)

pub open-claimable : (img scr : List ℕ) (n k : ℕ) → Open scr n → begins (get_or marks k []) (pg img n) ≡ true → claimable img scr n k ≡ true
unfolding claimable
open-claimable img scr n k o e =
    let a : leb 1 n ≡ true = le-leb 1 n o.low in
    let b : leb (20 * n) (length scr) ≡ true = le-leb (20 * n) (length scr) o.high in
    let c : eqb (get_or scr (16 * (n - 1)) 0) 0 ≡ false = ne_eqb (get_or scr (16 * (n - 1)) 0) 0 o.free in
    rw (a, b, c) e

-- ---- Pieces

pub found_none : (img scr : List ℕ) → Found img scr [] scr
found_none img scr = record { bears = tt; fresh = tt; left = refl }

module _ (img scr : List ℕ) (ps qs : List Piece) where
  pub found-join : (mid out : List ℕ) → Found img scr ps mid → Found img mid qs out → Found img scr (ps ++ qs) out
  found-join mid out f g =
      record {
        bears = every-join (Bears (pg img)) ps qs f.bears g.bears;
        fresh = rw (owned-append ps qs) (fresh-join scr (owned_by ps) (owned_by qs) f.fresh (subst (λ (s : List ℕ). Fresh s (owned_by qs)) f.left g.fresh));
        left = g.left ∙ ap (λ (s : List ℕ). claims s (owned_by qs)) f.left ∙ sym (claims-append scr (owned_by ps) (owned_by qs)) ∙ ap (claims scr) (sym (owned-append ps qs));
      }

  pub found_first : (out : List ℕ) → Found img scr (ps ++ qs) out → Found img scr ps (claims scr (owned_by ps))
  found_first out f =
      record {
        bears = every-left (Bears (pg img)) ps qs f.bears;
        fresh = fresh-left scr (owned_by ps) (owned_by qs) (subst (Fresh scr) (owned-append ps qs) f.fresh);
        left = refl;
      }

  pub found-second : (out : List ℕ) → Found img scr (ps ++ qs) out → Found img (claims scr (owned_by ps)) qs out
  found-second out f =
      record {
        bears = every-right (Bears (pg img)) ps qs f.bears;
        fresh = fresh-right scr (owned_by ps) (owned_by qs) (subst (Fresh scr) (owned-append ps qs) f.fresh);
        left = f.left ∙ ap (claims scr) (owned-append ps qs) ∙ claims-append scr (owned_by ps) (owned_by qs);
      }

pub found-lent : {img scr : List ℕ} {ps : List Piece} {out : List ℕ} → Lent img scr → Found img scr ps out → Lent img out
found-lent {img} {ps = ps} lent f = subst (Lent img) (sym f.left) (lent-claims (gather pages_of ps) f.fresh lent)

-- ---- Answers

pub decides-true : {A : Type 0} → A → Decides A true
decides-true a = record { sound = λ e. a; complete = λ b. refl }

pub decides-false : {A : Type 0} → (A → ⊥) → Decides A false
decides-false f = record { sound = λ e. absurd (true≢false (sym e)); complete = λ a. absurd (f a) }

-- F and G hold of the same answers: a loop's invariant, F from here and G from the start
pub record SameAt {A : Type 0} (F G : A → List ℕ → Type 0) : Type 0 where
  pub to : (a : A) (s : List ℕ) → F a s → G a s
  pub back : (a : A) (s : List ℕ) → G a s → F a s

module _ {A : Type 0} where
  pub same_start : (F : A → List ℕ → Type 0) → SameAt F F
  same_start F = record { to = λ a s x. x; back = λ a s x. x }

  pub same_turn : {E F G : A → List ℕ → Type 0} → SameAt E F → SameAt F G → SameAt E G
  same_turn p q = record { to = λ a s x. q.to a s (p.to a s x); back = λ a s x. p.back a s (q.back a s x) }

pub finds-same : {A R : Type 0} {done : A → R} {F G : A → List ℕ → Type 0} {r : R} {s : List ℕ} → SameAt F G → FindsAt done F r s → FindsAt done G r s
finds-same {s = s} c f = record { sound = λ a e. c.to a s (f.sound a e); complete = λ a t g. f.complete a t (c.back a t g) }

-- of an answer that is an option
module _ {A : Type 0} {F G : A → List ℕ → Type 0} {s : List ℕ} (c : SameAt F G) where
  -- the walk is refused: nothing is to be found from here
  pub finds-none : ((a : A) (t : List ℕ) → F a t → ⊥) → FindsAt Some G None s
  finds-none n = record { sound = λ a e. absurd (none-some a e); complete = λ a t g. absurd (n a t (c.back a t g)) }

  -- the walk is done: a is found from here, and nothing else
  pub finds-done : (a : A) → F a s → ((b : A) (t : List ℕ) → F b t → (a ≡ b) × (s ≡ t)) → FindsAt Some G (Some a) s
  finds-done a f only =
      record {
        sound = λ b q. c.to b s (subst (λ (x : A). F x s) (same_Some a b q) f);
        complete = λ b t g. let o : (a ≡ b) × (s ≡ t) = only b t (c.back b t g) in (ap Some o.0, o.1);
      }
