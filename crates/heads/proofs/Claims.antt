-- Heads copied, links read from them, what a claim answers, and what a full scratch says.
use Prim.Native.Nat.{ℕ, zero, suc, ◌+◌, ◌*◌, ◌-◌, ◌/◌, ◌≤◌, ◌<◌}
use mathlib.Core.Bool.{Bool, true, false, ◌&&◌, not, cond}
use mathlib.Core.List.{List, []}
use mathlib.Core.Logic.{inl, inr, by_cases}
use mathlib.Core.Path.{◌≡◌, refl, ap, sym, ◌∙◌, subst}
use native.Mathlib.Decide.{ℕ_discrete, dec_lt}
use native.Mathlib.Nat.{add-zero, zero-add}
use native.Mathlib.Omega.{arith}
use lib.ListN.{length, take, drop, get_or, set, length-take, length-drop, length-set}
use lib.Seq.{sets, length-sets, get_or-take, get_or-drop, get_or-set_same, get_or-set_other}
use lib.Dec.{T, eqb}
use borrow.Author.Tests.{eq-eqb, ne_eqb, le-leb, lt-leb, lt-ltb, le-ltb, eqb-true, eqb-false}
use Rattle.blockfile.specs.Bytes.{pg, be16, be32}
use Rattle.blockfile.specs.Marks.{marks}
use Rattle.pages.specs.Places.{Number}
use Rattle.laws.specs.Lists.{Agree}
use Rattle.laws.proofs.Lists.{agree-in, agree-off}
use Rattle.laws.proofs.Numbers.{be16-agree, be32-agree}
use Rattle.laws.proofs.Pages.{pg-at, length-pg}
use Rattle.pages.specs.Begins.{begins}
use Rattle.pages.proofs.Begins.{begins-agree, begins-other}
use Rattle.pages.proofs.Marks.{mark-some, mark-most, mark-first}
use Rattle.heads.specs.Claims.{pages_in, head_at, Room, opened, Lent, Headed, HeadCopied, head16, head32, InHead, Claimed, claimable, claimed, full_to, full}

-- room is a matter of length
pub room-long : {img scr out : List ℕ} → length out ≡ length scr → Room img scr → Room img out
room-long e r = record { size = rw e r.size; whole = rw e r.whole; most = rw e r.most }

-- ---- Heads copied

opened_some : (b : ℕ) → opened b ≡ 0 → ⊥
opened_some b e = go (eqb b 0) refl e
  where
    go : (t : Bool) → eqb b 0 ≡ t → cond t 255 b ≡ 0 → ⊥
    go true q z = omega arith
    go false q z = eqb-false b 0 q z

-- n bytes of src from byte a on stand in out from byte b on, and all others are kept
pub record Copied (src : List ℕ) (a : ℕ) (dst : List ℕ) (b n : ℕ) (out : List ℕ) : Type 0 where
  pub long : length out ≡ length dst
  pub done : (i : ℕ) → i < n → get_or out (b + i) 0 ≡ get_or src (a + i) 0
  pub before : (i : ℕ) → i < b → get_or out i 0 ≡ get_or dst i 0
  pub after : (i : ℕ) → b + n ≤ i → get_or out i 0 ≡ get_or dst i 0

pub copied : (src : List ℕ) (a : ℕ) {dst : List ℕ} (b n : ℕ) {out : List ℕ} → out ≡ sets dst b (take n (drop a src)) → a + n ≤ length src → b + n ≤ length dst → Copied src a dst b n out
copied src a {dst} b n is h l =
    let part : List ℕ = take n (drop a src) in
    let long : length part ≡ n = simp (length-take, length-drop) (omega arith) in
    rw is (record {
      long = length-sets dst b part;
      done = λ i q. simp (add-zero, zero-add) at (agree-in n part dst b 0 (omega arith) (omega arith) i q) ∙ get_or-take n (drop a src) i 0 q ∙ get_or-drop a src i 0;
      before = λ i q. simp add-zero at (agree-off 1 part dst b i (inl (omega arith)) 0 (omega arith));
      after = λ i q. simp add-zero at (agree-off 1 part dst b i (inr (omega arith)) 0 (omega arith));
    })

-- ---- Where the bytes of a head stand

pub head_first : (p j : ℕ) {o : ℕ} → o < 16 → head_at p j o ≡ 16 * j + o
unfolding head_at
head_first p j {o} h = rw (lt-ltb o 16 h)

pub head-last : (p j : ℕ) {o : ℕ} → 16 ≤ o → head_at p j o ≡ 16 * p + 4 * j + (o - 16)
unfolding head_at
head-last p j {o} h = rw (le-ltb o 16 h)

pub head-on : (p j o k : ℕ) → o + suc k ≤ 16 + 4 * (o / 16) → head_at p j o + k ≡ head_at p j (o + k)
head-on p j o k h =
    by_cases (dec_lt o 16)
    (λ l. rw (head_first p j l, head_first p j {o = o + k} (omega arith)) (omega arith))
    (λ l. rw (head-last p j {o = o} (omega arith), head-last p j {o = o + k} (omega arith)) (omega arith))

pub head-inside : {scr : List ℕ} {n o w : ℕ} → InHead scr n o w → head_at (pages_in scr) (n - 1) o + w ≤ length scr
head-inside {scr} {n} {o} {w} h =
    by_cases (dec_lt o 16)
    (λ l. rw (head_first (pages_in scr) (n - 1) l) (omega (arith, h.low, h.high, h.fits)))
    (λ l. rw (head-last (pages_in scr) (n - 1) {o = o} (omega arith)) (omega (arith, h.low, h.high, h.fits)))

-- it is not the first byte of a head, but for the first byte of its own
not_first : (scr : List ℕ) (j k o : ℕ) → length scr ≡ 20 * pages_in scr → 20 * j < length scr → (k ≡ j → 1 ≤ o) → (head_at (pages_in scr) k o ≡ 16 * j → ⊥)
not_first scr j k o whole inside own e =
    by_cases (dec_lt o 16)
    (λ l. let f = head_first (pages_in scr) k l in omega (arith, own (omega (arith, f, e)), f, e))
    (λ l. let f = head-last (pages_in scr) k {o = o} (omega arith) in omega (arith, f, e, whole))

-- a head is copied in two parts, by way of a list of its own
pub record InParts (img scr : List ℕ) (j : ℕ) (out : List ℕ) : Type 0 where
  pub own : List ℕ
  pub head : List ℕ
  pub mid : List ℕ
  pub all : Copied img (1024 * j) own 0 20 head
  pub first : Copied head 0 scr (16 * j) 16 mid
  pub last : Copied head 16 mid (16 * pages_in scr + 4 * j) 4 out

module _ {img scr : List ℕ} {j : ℕ} {out : List ℕ} (inside : 20 * j < length scr) (whole : length scr ≡ 20 * pages_in scr) (p : InParts img scr j out) where
  byte_at : (o : ℕ) → o < 20 → get_or out (head_at (pages_in scr) j o) 0 ≡ get_or img (1024 * j + o) 0
  byte_at o h =
      by_cases (dec_lt o 16)
      (λ l. rw (head_first (pages_in scr) j l) (p.last.before (16 * j + o) (omega (arith, whole)) ∙ p.first.done o l ∙ p.all.done o h))
      (λ l. let n : 0 + o ≡ 16 + (o - 16) = omega arith in
      rw (head-last (pages_in scr) j {o = o} (omega arith)) (p.last.done (o - 16) (omega arith) ∙ ap (λ (x : ℕ). get_or p.head x 0) (sym n) ∙ p.all.done o h))

  kept_at : (k o : ℕ) → k < j → o < 20 → get_or out (head_at (pages_in scr) k o) 0 ≡ get_or scr (head_at (pages_in scr) k o) 0
  kept_at k o m h =
      by_cases (dec_lt o 16)
      (λ l. rw (head_first (pages_in scr) k l) (p.last.before (16 * k + o) (omega (arith, whole)) ∙ p.first.before (16 * k + o) (omega arith)))
      (λ l. rw (head-last (pages_in scr) k {o = o} (omega arith))
      (p.last.before (16 * pages_in scr + 4 * k + (o - 16)) (omega arith) ∙ p.first.after (16 * pages_in scr + 4 * k + (o - 16)) (omega (arith, whole))))

  first_byte : get_or out (16 * j) 0 ≡ get_or img (1024 * j) 0
  first_byte = rw (head_first (pages_in scr) j {o = 0} (omega arith), add-zero (16 * j), add-zero (1024 * j)) at (byte_at 0 (omega arith))

  pub copied-open : (get_or out (16 * j) 0 ≡ 0 → ⊥) → HeadCopied img scr j out
  copied-open n =
      record {
        long = p.last.long ∙ p.first.long;
        first = first_byte ∙ sym (rw (ne_eqb (get_or img (1024 * j) 0) 0 (λ z. n (first_byte ∙ z))));
        others = λ i l h. byte_at i h;
        kept = kept_at;
      }

  pub copied-zero : get_or out (16 * j) 0 ≡ 0 → HeadCopied img scr j (set out (16 * j) 255)
  copied-zero z =
      record {
        long = length-set out (16 * j) 255 ∙ p.last.long ∙ p.first.long;
        first = get_or-set_same out (16 * j) 255 0 (omega (arith, p.last.long, p.first.long)) ∙ sym (rw (eq-eqb (get_or img (1024 * j) 0) 0 (sym first_byte ∙ z)));
        others = λ i l h. get_or-set_other out (16 * j) (head_at (pages_in scr) j i) 255 0 (not_first scr j j i whole inside (λ _. l)) ∙ byte_at i h;
        kept = λ k i m h. get_or-set_other out (16 * j) (head_at (pages_in scr) k i) 255 0 (not_first scr j k i whole inside (λ q. absurd (omega arith))) ∙ kept_at k i m h;
      }

-- a loop has copied the heads of the first n pages
pub record Heading (img scr₀ scr : List ℕ) (n : ℕ) : Type 0 where
  pub long : length scr ≡ length scr₀
  pub first : (j : ℕ) → j < n → get_or scr (16 * j) 0 ≡ opened (get_or img (1024 * j) 0)
  pub others : (j i : ℕ) → j < n → 1 ≤ i → i < 20 → get_or scr (head_at (pages_in scr) j i) 0 ≡ get_or img (1024 * j + i) 0

pub heading-none : (img scr : List ℕ) → Heading img scr scr 0
heading-none img scr = record { long = refl; first = λ j h. absurd (omega arith); others = λ j i h. absurd (omega arith) }

module _ {img scr₀ scr : List ℕ} {n : ℕ} (w : Heading img scr₀ scr n) where
  pub heading-more : {out : List ℕ} → HeadCopied img scr n out → Heading img scr₀ out (n + 1)
  heading-more {out} c =
      record {
        long = c.long ∙ w.long;
        first = λ j h. by_cases (ℕ_discrete j n) (λ e. rw e c.first) (λ e. first-kept j (omega arith) ∙ w.first j (omega arith));
        others = λ j i h l m. by_cases (ℕ_discrete j n) (λ e. rw (e, c.long) (c.others i l m)) (λ e. rw c.long (c.kept j i (omega arith) m ∙ w.others j i (omega arith) l m));
      }
    where
      first-kept : (j : ℕ) → j < n → get_or out (16 * j) 0 ≡ get_or scr (16 * j) 0
      first-kept j h = rw (head_first (pages_in scr) j {o = 0} (omega arith), add-zero (16 * j)) at (c.kept j 0 h (omega arith))

  pub heading-room : Room img scr₀ → Room img scr
  heading-room r = room-long w.long r

  pub heading-all : Room img scr₀ → length scr₀ / 20 ≤ n → Headed img scr
  heading-all r h =
      record {
        lent = record { room = heading-room r; first = λ j l u. w.first j (omega (arith, w.long)); others = λ j i l. w.others j i (omega (arith, w.long)) };
        unclaimed = λ j l e. opened_some (get_or img (1024 * j) 0) (sym (w.first j (omega (arith, w.long))) ∙ e);
      }

-- ---- Fields and marks read from heads

pub in_head : {img scr : List ℕ} → Lent img scr → {n : ℕ} → 1 ≤ n → 1024 * n ≤ length img → {o w : ℕ} → o + w ≤ 16 + 4 * (o / 16) → InHead scr n o w
in_head lent low high fits =
    record { small = omega (arith, lent.room.whole, lent.room.most); low = low; high = omega (arith, lent.room.size, lent.room.whole); fits = fits }

module _ {img scr : List ℕ} (lent : Lent img scr) (n : ℕ) (low : 1 ≤ n) (high : 20 * n ≤ length scr) where
  others-at : (i : ℕ) → 1 ≤ i → i < 20 → get_or scr (head_at (pages_in scr) (n - 1) i) 0 ≡ get_or (pg img n) i 0
  others-at i a b = lent.others (n - 1) i (omega arith) a b ∙ sym (pg-at img n i low (omega arith))

  module _ (k : ℕ) (h : k < 7) where
    head-agrees : get_or scr (16 * (n - 1)) 0 ≡ get_or img (1024 * (n - 1)) 0 → begins (get_or marks k []) (drop (16 * (n - 1)) scr) ≡ begins (get_or marks k []) (pg img n)
    head-agrees e =
        begins-agree (get_or marks k []) (drop (16 * (n - 1)) scr) (pg img n)
        (omega (arith, mark-most k h, length-drop (16 * (n - 1)) scr)) (omega (arith, mark-most k h, length-pg img n low (omega (arith, lent.room.size, lent.room.whole))))
        (λ i l. get_or-drop (16 * (n - 1)) scr i 0 ∙ by_cases (ℕ_discrete i 0)
        (λ z. rw (z, add-zero (16 * (n - 1))) (e ∙ sym (pg-at img n 0 low (omega arith) ∙ ap (λ (a : ℕ). get_or img a 0) (add-zero (1024 * (n - 1))))))
        (λ z. rw (head_first (pages_in scr) (n - 1) {o = i} (omega (arith, mark-most k h))) at (others-at i (omega arith) (omega (arith, mark-most k h)))))

    other-first : (b : ℕ) → b ≡ get_or scr (16 * (n - 1)) 0 → (b ≡ get_or (get_or marks k []) 0 0 → ⊥) → begins (get_or marks k []) (drop (16 * (n - 1)) scr) ≡ false
    other-first b e d =
        begins-other (get_or marks k []) (drop (16 * (n - 1)) scr) (omega (arith, mark-some k h))
        (λ q. d (e ∙ sym (get_or-drop (16 * (n - 1)) scr 0 0 ∙ ap (λ (a : ℕ). get_or scr a 0) (add-zero (16 * (n - 1)))) ∙ q))

    other-page : get_or img (1024 * (n - 1)) 0 ≡ 0 → begins (get_or marks k []) (pg img n) ≡ false
    other-page z =
        begins-other (get_or marks k []) (pg img n) (omega (arith, mark-some k h))
        (λ q. omega (arith, (mark-first k h).0, sym q ∙ pg-at img n 0 low (omega arith) ∙ ap (λ (a : ℕ). get_or img a 0) (add-zero (1024 * (n - 1))) ∙ z))

    -- THE HEAD BEGINS WITH A MARK EXACTLY IF THE PAGE DOES AND IS NOT CLAIMED
    pub head-begins : begins (get_or marks k []) (drop (16 * (n - 1)) scr) ≡ not (eqb (get_or scr (16 * (n - 1)) 0) 0) && begins (get_or marks k []) (pg img n)
    head-begins =
        by_cases (ℕ_discrete (get_or scr (16 * (n - 1)) 0) 0)
        (λ z. other-first 0 (sym z) (λ q. omega (arith, (mark-first k h).0)) ∙ sym (rw (eq-eqb (get_or scr (16 * (n - 1)) 0) 0 z)))
        (λ z.
        let f : get_or scr (16 * (n - 1)) 0 ≡ opened (get_or img (1024 * (n - 1)) 0) = lent.first (n - 1) (omega arith) z in
        by_cases (ℕ_discrete (get_or img (1024 * (n - 1)) 0) 0)
        (λ y. let is : get_or scr (16 * (n - 1)) 0 ≡ 255 = f ∙ rw (eq-eqb (get_or img (1024 * (n - 1)) 0) 0 y) in
        other-first 255 (sym is) (λ q. omega (arith, (mark-first k h).1)) ∙ sym (rw (ne_eqb (get_or scr (16 * (n - 1)) 0) 0 z) (other-page y)))
        (λ y. head-agrees (f ∙ rw (ne_eqb (get_or img (1024 * (n - 1)) 0) 0 y)) ∙ sym (rw (ne_eqb (get_or scr (16 * (n - 1)) 0) 0 z))))

module _ {img scr : List ℕ} (lent : Lent img scr) {n o : ℕ} where
  agrees : {w : ℕ} → InHead scr n o w → 1 ≤ o → Agree w scr (head_at (pages_in scr) (n - 1) o) (pg img n) o
  agrees h some k l =
      let f = h.fits in
      ap (λ (x : ℕ). get_or scr x 0) (head-on (pages_in scr) (n - 1) o k (omega arith)) ∙ others-at lent n h.low h.high (o + k) (omega arith) (omega arith)

  pub head32-is : InHead scr n o 4 → 1 ≤ o → head32 scr n o ≡ be32 (pg img n) o
  head32-is h some = be32-agree scr (head_at (pages_in scr) (n - 1) o) (pg img n) o (agrees h some)

  pub head32-read : InHead scr n o 4 → 1 ≤ o → {top r : ℕ} → Number (head32 scr n o) top r → Number (be32 (pg img n) o) top r
  head32-read h some x = record { is = x.is ∙ head32-is h some; below = x.below }

  pub head16-read : InHead scr n o 2 → 1 ≤ o → {top r : ℕ} → Number (head16 scr n o) top r → Number (be16 (pg img n) o) top r
  head16-read h some x = record { is = x.is ∙ be16-agree scr (head_at (pages_in scr) (n - 1) o) (pg img n) o (agrees h some); below = x.below }

-- ---- Claims

module _ (img scr : List ℕ) (n k : ℕ) where
  pub claim-zero : n ≡ 0 → Claimed img scr n k false scr
  unfolding claimable
  claim-zero e = record { answer = rw e; left = refl }

  module _ (low : 1 ≤ n) where
    pub claim-past : length scr < 20 * n → Claimed img scr n k false scr
    unfolding claimable
    claim-past l = record { answer = simp (le-leb 1 n low, lt-leb (20 * n) (length scr) l); left = refl }

    -- it is left to the head
    module _ (high : 20 * n ≤ length scr) (lent : Lent img scr) (kind : k < 7) where
      pub claim-head : (r : Bool) → r ≡ begins (get_or marks k []) (drop (16 * (n - 1)) scr) → Claimed img scr n k r (cond r (claimed scr n) scr)
      unfolding claimable
      claim-head r e = record { answer = e ∙ head-begins lent n low high k kind ∙ sym (simp (le-leb 1 n low, le-leb (20 * n) (length scr) high)); left = refl }

-- a claim changes the first byte of a head
pub lent-claimed : {img scr : List ℕ} (n : ℕ) → 1 ≤ n → 20 * n ≤ length scr → Lent img scr → Lent img (claimed scr n)
unfolding claimed
lent-claimed {img} {scr} n low high lent =
    let long : length (set scr (16 * (n - 1)) 0) ≡ length scr = length-set scr (16 * (n - 1)) 0 in
    record {
      room = room-long long lent.room;
      first = λ j l u. by_cases (ℕ_discrete j (n - 1))
          (λ e. absurd (u (rw e (get_or-set_same scr (16 * (n - 1)) 0 0 (omega arith)))))
          (λ e. let same = get_or-set_other scr (16 * (n - 1)) (16 * j) 0 0 (omega arith) in same ∙ lent.first j (omega (arith, long)) (λ z. u (same ∙ z)));
      others = λ j i l a b. rw long
          (get_or-set_other scr (16 * (n - 1)) (head_at (pages_in scr) j i) 0 0 (not_first scr (n - 1) j i lent.room.whole (omega arith) (λ _. a)) ∙ lent.others j i (omega (arith, long)) a b);
    }

-- ---- A full scratch: both directions

full-below : (s : List ℕ) (p : ℕ) → full_to s p ≡ true → (i : ℕ) → i < p → get_or s (16 * i) 0 ≡ 0
unfolding full_to
full-below s zero f i l = absurd (omega arith)
full-below s (suc p) f i l = go (eqb (get_or s (16 * p) 0) 0) refl f (full-below s p)
  where
    go : (t : Bool) → eqb (get_or s (16 * p) 0) 0 ≡ t → t && full_to s p ≡ true → (full_to s p ≡ true → (i : ℕ) → i < p → get_or s (16 * i) 0 ≡ 0) → get_or s (16 * i) 0 ≡ 0
    go true q e ih = by_cases (ℕ_discrete i p) (λ z. rw z (eqb-true (get_or s (16 * p) 0) 0 q)) (λ z. ih e i (omega arith))
    go false q e ih = absurd (subst T (sym e) tt)

pub full_at : (s : List ℕ) → full s ≡ true → (i : ℕ) → 20 * i + 20 ≤ length s → get_or s (16 * i) 0 ≡ 0
unfolding full
full_at s f i l = full-below s (length s / 20) f i (omega arith)

full-to : (s : List ℕ) (p : ℕ) → ((i : ℕ) → i < p → get_or s (16 * i) 0 ≡ 0) → full_to s p ≡ true
unfolding full_to
full-to s zero h = refl
full-to s (suc p) h = rw (eq-eqb (get_or s (16 * p) 0) 0 (h p (omega arith))) (full-to s p (λ i l. h i (omega arith)))

pub full-of : (s : List ℕ) → ((i : ℕ) → 20 * i + 20 ≤ length s → get_or s (16 * i) 0 ≡ 0) → full s ≡ true
unfolding full
full-of s h = full-to s (length s / 20) (λ i l. h i (omega arith))

-- one page that is not claimed is enough
pub full-not : (s : List ℕ) (i : ℕ) → 20 * i + 20 ≤ length s → (get_or s (16 * i) 0 ≡ 0 → ⊥) → false ≡ full s
full-not s i l n = go (full s) refl
  where
    go : (t : Bool) → full s ≡ t → false ≡ t
    go false e = refl
    go true e = absurd (n (full_at s e i l))
