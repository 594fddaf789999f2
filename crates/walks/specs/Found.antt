-- What a walk finds: pieces that the image bears, each of their pages claimed once, in turn.
use Rattle.std.specs.Prelude.{ℕ, zero, suc, ◌*◌, ◌-◌, ◌≤◌, ◌≡◌, Bool, true, cond, List, [], ◌∷◌, length, get_or, eqb}
use Rattle.blockfile.specs.Bytes.{pg, Every, gather}
use Rattle.blockfile.specs.WellFormed.{Piece, pages_of, Bears}
use Rattle.heads.specs.Claims.{pages_in, claimed}

-- page n is one of the pages, and not claimed
pub record Open (scr : List ℕ) (n : ℕ) : Type 0 where
  pub low : 1 ≤ n
  pub high : 20 * n ≤ length scr
  pub free : get_or scr (16 * (n - 1)) 0 ≡ 0 → ⊥

-- each of the pages can be claimed, one after another; and the scratch then
abbrev pub Fresh : (scr pages : List ℕ) → Type 0
Fresh scr [] = Unit {0}
Fresh scr (n ∷ ns) = Open scr n × Fresh (claimed scr n) ns

abbrev pub claims : (scr pages : List ℕ) → List ℕ
claims scr [] = scr
claims scr (n ∷ ns) = claims (claimed scr n) ns

-- how many of the first p pages, and of all pages, are not claimed
abbrev pub unclaimed_to : (scr : List ℕ) (p : ℕ) → ℕ
unclaimed_to scr zero = 0
unclaimed_to scr (suc p) = cond (eqb (get_or scr (16 * p) 0) 0) (unclaimed_to scr p) (suc (unclaimed_to scr p))

abbrev pub unclaimed : List ℕ → ℕ
unclaimed scr = unclaimed_to scr (pages_in scr)

-- the image bears the pieces, and their pages can be claimed; out is the scratch then
pub record Found (img scr : List ℕ) (ps : List Piece) (out : List ℕ) : Type 0 where
  pub bears : Every (Bears (pg img)) ps
  pub fresh : Fresh scr (gather pages_of ps)
  pub left : out ≡ claims scr (gather pages_of ps)

-- the answer is true exactly where A holds
pub record Decides (A : Type 0) (r : Bool) : Type 0 where
  pub sound : r ≡ true → A
  pub complete : A → r ≡ true

-- the answer r is `done a`, mostly `Some a`, with the scratch s exactly where F a s holds
pub record FindsAt {A R : Type 0} (done : A → R) (F : A → List ℕ → Type 0) (r : R) (s : List ℕ) : Type 0 where
  pub sound : (a : A) → r ≡ done a → F a s
  pub complete : (a : A) (t : List ℕ) → F a t → (r ≡ done a) × (s ≡ t)
