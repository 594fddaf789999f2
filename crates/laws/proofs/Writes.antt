-- Lists of writes.
use Prim.Native.Nat.{ℕ, ◌+◌, ◌≤◌}
use mathlib.Core.Path.{◌≡◌, refl, ap, sym, ◌∙◌, subst}
use mathlib.Core.Logic.{◌≢◌, ◌⊎◌, inl, inr}
use native.Mathlib.Decide.{ℕ_discrete}
use mathlib.Core.List.{List, [], ◌∷◌, ◌++◌}
use lib.ListN.{length, get_or}
use Rattle.blockfile.specs.Bytes.{pg, write, be16, be32, Write, apply, Every}
use Rattle.laws.specs.Lists.{Apart, Agree}
use Rattle.laws.proofs.Numbers.{be16-agree, be32-agree}
use Rattle.laws.proofs.Pages.{length-write, pg-write-other, agree-write-off}

-- a write lies on its page
abbrev pub Fits : Write → Type 0
Fits w = w.offset + length w.bytes ≤ 1024

-- a write leaves page n, and the v bytes of page n from offset a on
abbrev pub Spares : (n : ℕ) → Write → Type 0
Spares n w = n ≢ w.page

abbrev pub Misses : (n a v : ℕ) → Write → Type 0
Misses n a v w = (n ≢ w.page) ⊎ Apart a v w.offset (length w.bytes)

pub apply-append : (ws vs : List Write) (img : List ℕ) → apply (ws ++ vs) img ≡ apply vs (apply ws img)
apply-append [] vs img = refl
apply-append (w ∷ ws) vs img = apply-append ws vs (write img w.page w.offset w.bytes)

pub length-apply : (ws : List Write) (img : List ℕ) → length (apply ws img) ≡ length img
length-apply [] img = refl
length-apply (w ∷ ws) img = length-apply ws (write img w.page w.offset w.bytes) ∙ length-write img w.page w.offset w.bytes

pub pg-apply-other : (n : ℕ) (ws : List Write) (img : List ℕ) → Every Fits ws → Every (Spares n) ws → pg (apply ws img) n ≡ pg img n
pg-apply-other n [] img f s = refl
pg-apply-other n (w ∷ ws) img f s =
    pg-apply-other n ws (write img w.page w.offset w.bytes) f.1 s.1
    ∙ pg-write-other img w.page n w.offset w.bytes s.0 f.0

-- bytes that no write of the list meets
agree-one : (n a v : ℕ) (w : Write) (img : List ℕ) → 1 ≤ n → Fits w → Misses n a v w
    → Agree v (pg (write img w.page w.offset w.bytes) n) a (pg img n) a
agree-one n a v w img h f (inl e) = λ k q. ap (λ (b : List ℕ). get_or b (a + k) 0) (pg-write-other img w.page n w.offset w.bytes e f)
agree-one n a v w img h f (inr e) = go (ℕ_discrete n w.page)
  where
    go : Dec (n ≡ w.page) → Agree v (pg (write img w.page w.offset w.bytes) n) a (pg img n) a
    go (yes q) =
        subst (λ (m : ℕ). Agree v (pg (write img w.page w.offset w.bytes) m) a (pg img m) a) (sym q)
        (agree-write-off img w.page w.offset w.bytes (subst (λ (m : ℕ). 1 ≤ m) q h) f v a e)
    go (no q) = λ k l. ap (λ (b : List ℕ). get_or b (a + k) 0) (pg-write-other img w.page n w.offset w.bytes q f)

pub agree-apply : (n a v : ℕ) (ws : List Write) (img : List ℕ) → 1 ≤ n → Every Fits ws → Every (Misses n a v) ws
    → Agree v (pg (apply ws img) n) a (pg img n) a
agree-apply n a v [] img h f m k q = refl
agree-apply n a v (w ∷ ws) img h f m k q =
    agree-apply n a v ws (write img w.page w.offset w.bytes) h f.1 m.1 k q ∙ agree-one n a v w img h f.0 m.0 k q

module _ (n a : ℕ) (ws : List Write) (img : List ℕ) (pos : 1 ≤ n) (fits : Every Fits ws) where
  pub be16-apply-off : Every (Misses n a 2) ws → be16 (pg (apply ws img) n) a ≡ be16 (pg img n) a
  be16-apply-off m = be16-agree (pg (apply ws img) n) a (pg img n) a (agree-apply n a 2 ws img pos fits m)

  pub be32-apply-off : Every (Misses n a 4) ws → be32 (pg (apply ws img) n) a ≡ be32 (pg img n) a
  be32-apply-off m = be32-agree (pg (apply ws img) n) a (pg img n) a (agree-apply n a 4 ws img pos fits m)
