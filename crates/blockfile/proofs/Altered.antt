-- An image given by its pages is changed: the rules that it breaks then.
use Prim.Native.Nat.{ℕ, zero, suc, ◌+◌, ◌*◌, ◌≤◌}
use native.Mathlib.Omega.{arith}
use mathlib.Core.Path.{◌≡◌, refl, ap, ◌∙◌}
use mathlib.Core.List.{List, [], ◌∷◌, map, head-eq_of_cons-eq, tail-eq_of_cons-eq}
use mathlib.Core.Bool.{Bool, true, not, ◌&&◌}
use lib.ListN.{length, length-append, length-take, length-drop}
use lib.Dec.{T, leb, leb→le}
use Rattle.blockfile.specs.Bytes.{Write, Every}
use Rattle.blockfile.specs.WellFormed.{Accepted, Rejected}
use Rattle.blockfile.proofs.Bools.{and_both}
use Rattle.blockfile.proofs.Tested.{Rule, all, null}
use Rattle.blockfile.proofs.Samples.{overlay}
use Rattle.blockfile.proofs.Reading.{broken, broken_on, joined, Full, page_in}
use Rattle.blockfile.proofs.Read.{broken-joined, rejects, accepts}

-- page n of these pages with the bytes bs from offset o on
abbrev pub changed : (n o : ℕ) (bs : List ℕ) → List (List ℕ) → List (List ℕ)
changed n o bs [] = []
changed zero o bs (p ∷ ps) = p ∷ ps
changed (suc zero) o bs (p ∷ ps) = overlay o bs p ∷ ps
changed (suc (suc n)) o bs (p ∷ ps) = p ∷ changed (suc n) o bs ps

-- after these changes, the first one first
abbrev pub altered : List Write → List (List ℕ) → List (List ℕ)
altered [] ps = ps
altered (c ∷ cs) ps = altered cs (changed c.page c.offset c.bytes ps)

abbrev pub image_of : (pages : List (List ℕ)) → List Write → List ℕ
image_of pages cs = joined (altered cs pages)

-- changes, and the rules that they break
abbrev pub Row : Type 0
Row = List Write × List Rule

-- what is computed: the rules broken on the pages, and that the changes stay on their pages
abbrev pub broken_by : (pages : List (List ℕ)) → List Write → List Rule
broken_by pages cs = broken_on (page_in (altered cs pages)) (1024 * length pages)

abbrev pub in_range : List Write → Bool
in_range [] = true
in_range (c ∷ cs) = leb (c.offset + length c.bytes) 1024 && in_range cs

overlay-length : (o : ℕ) (bs b : List ℕ) → length b ≡ 1024 → o + length bs ≤ 1024 → length (overlay o bs b) ≡ 1024
overlay-length o bs b e h = simp (length-append, length-take, length-drop) (omega arith)

changed-full : (n o : ℕ) (bs : List ℕ) (ps : List (List ℕ)) → o + length bs ≤ 1024 → Full ps → Full (changed n o bs ps)
changed-full n o bs [] h f = tt
changed-full zero o bs (p ∷ ps) h f = f
changed-full (suc zero) o bs (p ∷ ps) h f = (overlay-length o bs p f.0 h, f.1)
changed-full (suc (suc n)) o bs (p ∷ ps) h f = (f.0, changed-full (suc n) o bs ps h f.1)

changed-length : (n o : ℕ) (bs : List ℕ) (ps : List (List ℕ)) → length (changed n o bs ps) ≡ length ps
changed-length n o bs [] = refl
changed-length zero o bs (p ∷ ps) = refl
changed-length (suc zero) o bs (p ∷ ps) = refl
changed-length (suc (suc n)) o bs (p ∷ ps) = ap suc (changed-length (suc n) o bs ps)

altered-full : (cs : List Write) (ps : List (List ℕ)) → T (in_range cs) → Full ps → Full (altered cs ps)
altered-full [] ps h f = f
altered-full (c ∷ cs) ps h f =
    let k : T (leb (c.offset + length c.bytes) 1024) × T (in_range cs) = and_both (leb (c.offset + length c.bytes) 1024) (in_range cs) h in
    altered-full cs (changed c.page c.offset c.bytes ps) k.1 (changed-full c.page c.offset c.bytes ps (leb→le _ _ k.0) f)

altered-length : (cs : List Write) (ps : List (List ℕ)) → length (altered cs ps) ≡ length ps
altered-length [] ps = refl
altered-length (c ∷ cs) ps = altered-length cs (changed c.page c.offset c.bytes ps) ∙ changed-length c.page c.offset c.bytes ps

abbrev pub proper : Row → Bool
proper r = in_range r.0 && not (null r.1)

abbrev pub Rejections : (pages : List (List ℕ)) → List Row → Type 0
Rejections pages rs = Every (λ (r : Row). Rejected (image_of pages r.0)) rs

module _ (pages : List (List ℕ)) (full : Full pages) where
  broken_by-image : (cs : List Write) → T (in_range cs) → broken (image_of pages cs) ≡ broken_by pages cs
  broken_by-image cs h =
      broken-joined (altered cs pages) (altered-full cs pages h full)
      ∙ ap (λ (n : ℕ). broken_on (page_in (altered cs pages)) (1024 * n)) (altered-length cs pages)

  -- rows that break a rule are rejected
  pub rejections : (rs : List Row) → map (λ (r : Row). broken_by pages r.0) rs ≡ map (λ (r : Row). r.1) rs → T (all proper rs) → Rejections pages rs
  rejections [] e h = tt
  rejections (r ∷ rs) e h =
      let k : T (proper r) × T (all proper rs) = and_both (proper r) (all proper rs) h in
      let p : T (in_range r.0) × T (not (null r.1)) = and_both (in_range r.0) (not (null r.1)) k.0 in
      (go r.1 (broken_by-image r.0 p.0 ∙ head-eq_of_cons-eq e) p.1, rejections rs (tail-eq_of_cons-eq e) k.1)
    where
      go : (xs : List Rule) → broken (image_of pages r.0) ≡ xs → T (not (null xs)) → Rejected (image_of pages r.0)
      go [] e h = absurd h
      go (x ∷ xs) e h = rejects (image_of pages r.0) x xs e

  -- changes that break none are accepted
  pub acceptances : (cs : List (List Write)) → map (broken_by pages) cs ≡ map (λ (c : List Write). []) cs → T (all in_range cs) → Every (λ c. Accepted (image_of pages c)) cs
  acceptances [] e h = tt
  acceptances (c ∷ cs) e h =
      let k : T (in_range c) × T (all in_range cs) = and_both (in_range c) (all in_range cs) h in
      (accepts (image_of pages c) (broken_by-image c k.0 ∙ head-eq_of_cons-eq e), acceptances cs (tail-eq_of_cons-eq e) k.1)
