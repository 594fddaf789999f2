-- Levels: those that are all the same, and those of the towers followed.
use Prim.Native.Nat.{ℕ, zero, suc, ◌+◌, ◌*◌, ◌-◌, ◌/◌, ◌%◌, ◌≤◌, ◌<◌}
use native.Mathlib.Nat.{add-zero, add_assoc, div-add-mod', mod-lt}
use native.Mathlib.Omega.{arith}
use mathlib.Core.Bool.{Bool}
use mathlib.Core.Logic.{inr}
use mathlib.Core.Path.{◌≡◌, ap, sym, ◌∙◌}
use mathlib.Core.List.{List}
use lib.ListN.{length, take, drop, get_or, length-take, length-drop}
use lib.Seq.{sets, length-sets, get_or-take, get_or-drop}
use Rattle.std.specs.List.{between}
use Rattle.std.specs.Str.{bytes_eq}
use Rattle.std.proofs.lemmas.Slice.Eq.{bytes_eq-Decides}
use Rattle.std.proofs.lemmas.Grind.{same_number_lists}
use Rattle.std.proofs.lemmas.List.Edits.{get_or-between, length-between}
use Rattle.blockfile.specs.Bytes.{pg, be16, be32, write}
use Rattle.laws.specs.Lists.{Agree}
use Rattle.laws.proofs.Lists.{agree-in, agree-off}
use Rattle.laws.proofs.Numbers.{be32-agree}
use Rattle.laws.proofs.Pages.{be32-pg}
use Rattle.walks.specs.Found.{Decides}
use Rattle.towers.specs.Climb.{level_at, Repeats, AllAre, Followed}

-- the lowest level, as the code reads it
pub lowest-is : (levels : List ℕ) (low : ℕ) → low ≡ be32 (pg levels 1) 16 → level_at levels 0 ≡ low
lowest-is levels low e = sym (e ∙ be32-pg levels 1 16 (omega arith) (omega arith))

-- ---- bytes compared with those four before

pub repeats_are : (levels : List ℕ) (n : ℕ) (r : Bool) → 20 + n ≤ length levels → r ≡ bytes_eq (between 20 (20 + n) levels) (between 16 (16 + n) levels)
    → Decides (Repeats levels n) r
repeats_are levels n r fits is =
    let above : List ℕ = between 20 (20 + n) levels in
    let below : List ℕ = between 16 (16 + n) levels in
    let up : (i : ℕ) → i < n → get_or above i 0 ≡ get_or levels (20 + i) 0 = λ i l. get_or-between levels 20 (20 + n) i 0 (omega arith) in
    let here : (i : ℕ) → i < n → get_or below i 0 ≡ get_or levels (16 + i) 0 = λ i l. get_or-between levels 16 (16 + n) i 0 (omega arith) in
    let long : length above ≡ n = omega (arith, length-between levels 20 (20 + n) (omega arith)) in
    let wide : length below ≡ n = omega (arith, length-between levels 16 (16 + n) (omega arith)) in
    let d = bytes_eq-Decides above below in
    record {
      sound = λ y i l. sym (up i l) ∙ ap (λ (s : List ℕ). get_or s i 0) (d.0 (sym is ∙ y)) ∙ here i l;
      complete = λ f. is ∙ d.1 (same_number_lists above below (omega arith) (λ i l. let m : i < n = omega arith in up i m ∙ f i m ∙ sym (here i m)));
    }

-- ---- all the same: the first, and each byte as that of the level below

digits : (a b c d x y z w : ℕ) → a < 256 → b < 256 → c < 256 → d < 256 → x < 256 → y < 256 → z < 256 → w < 256
    → (a * 256 + b) * 65536 + (c * 256 + d) ≡ (x * 256 + y) * 65536 + (z * 256 + w) → (a ≡ x) × (b ≡ y) × (c ≡ z) × (d ≡ w)
digits a b c d x y z w ha hb hc hd hx hy hz hw e = (omega arith, omega arith, omega arith, omega arith)

module _ (levels : List ℕ) (bytes : (i : ℕ) → get_or levels i 0 < 256) where
  level-up : (n i : ℕ) → Repeats levels n → 4 * i + 4 ≤ n → level_at levels (suc i) ≡ level_at levels i
  level-up n i r l = be32-agree levels (16 + 4 * suc i) levels (16 + 4 * i) same
    where
      same : Agree 4 levels (16 + 4 * suc i) levels (16 + 4 * i)
      same k q =
          let a : 16 + 4 * suc i + k ≡ 20 + (4 * i + k) = omega arith in
          let b : 16 + 4 * i + k ≡ 16 + (4 * i + k) = omega arith in
          rw (a, b) (r (4 * i + k) (omega arith))

  all_of : (n v : ℕ) → level_at levels 0 ≡ v → Repeats levels (4 * n - 4) → AllAre levels n v
  all_of n v e r zero l = e
  all_of n v e r (suc i) l = level-up (4 * n - 4) i r (omega arith) ∙ all_of n v e r i (omega arith)

  -- equal numbers have equal bytes
  module _ (i j : ℕ) (e : be32 levels i ≡ be32 levels j) where
    four : (get_or levels i 0 ≡ get_or levels j 0) × (get_or levels (i + 1) 0 ≡ get_or levels (j + 1) 0) × (get_or levels (i + 2) 0 ≡ get_or levels (j + 2) 0)
        × (get_or levels (i + 2 + 1) 0 ≡ get_or levels (j + 2 + 1) 0)
    unfolding be32 be16
    four = digits _ _ _ _ _ _ _ _ (bytes i) (bytes (i + 1)) (bytes (i + 2)) (bytes (i + 2 + 1)) (bytes j) (bytes (j + 1)) (bytes (j + 2)) (bytes (j + 2 + 1)) e

    bytes_of : Agree 4 levels i levels j
    bytes_of zero q = simp add-zero four.0
    bytes_of (suc zero) q = four.1
    bytes_of (suc (suc zero)) q = four.2
    bytes_of (suc (suc (suc zero))) q = simp add_assoc at four.3
    bytes_of (suc (suc (suc (suc k)))) q = absurd (omega arith)

  repeats-of : (n v : ℕ) → AllAre levels n v → Repeats levels (4 * n - 4)
  repeats-of n v a i l =
      let d : i / 4 * 4 + i % 4 ≡ i = div-add-mod' i 4 in
      let m : i % 4 < 4 = mod-lt i (omega arith) in
      let same : level_at levels (suc (i / 4)) ≡ level_at levels (i / 4) = a (suc (i / 4)) (omega arith) ∙ sym (a (i / 4) (omega arith)) in
      let up : 16 + 4 * suc (i / 4) + i % 4 ≡ 20 + i = omega arith in
      let here : 16 + 4 * (i / 4) + i % 4 ≡ 16 + i = omega arith in
      rw (up, here) at (bytes_of (16 + 4 * suc (i / 4)) (16 + 4 * (i / 4)) same (i % 4) m)

  pub all-repeat : (n v : ℕ) (r : Bool) → level_at levels 0 ≡ v → Decides (Repeats levels (4 * n - 4)) r → Decides (AllAre levels n v) r
  all-repeat n v r e d = record { sound = λ t. all_of n v e (d.sound t); complete = λ a. d.complete (repeats-of n v a) }

-- ---- the entries of a tower copied

-- a part of a list is the list from there on
agree-part : (w m a : ℕ) (l : List ℕ) (i : ℕ) → i + w ≤ m → Agree w (take m (drop a l)) i l (a + i)
agree-part w m a l i h k q = get_or-take m (drop a l) (i + k) 0 (omega arith) ∙ simp add_assoc (get_or-drop a l (i + k) 0)

pub followed : (img : List ℕ) (n h : ℕ) (levels : List ℕ) → 1 ≤ n → 1024 * n ≤ length img → 16 + 4 * h ≤ 1024 → length levels ≡ 1024
    → Followed img n h levels (write levels 1 16 (take (4 * h) (drop (1024 * (n - 1) + 16) img)))
unfolding write
followed img n h levels low high fits wide =
    let at : ℕ = 1024 * (n - 1) + 16 in
    let part : List ℕ = take (4 * h) (drop at img) in
    let long : length part ≡ 4 * h = simp (length-take, length-drop) (omega arith) in
    let place : (i : ℕ) → 1024 * (n - 1) + (16 + 4 * i) ≡ at + 4 * i = λ i. omega arith in
    record {
      long = length-sets levels 16 part;
      below = λ i l. be32-agree (sets levels 16 part) (16 + 4 * i) part (4 * i) (agree-in 4 part levels 16 (4 * i) (omega arith) (omega arith))
          ∙ be32-agree part (4 * i) img (at + 4 * i) (agree-part 4 (4 * h) at img (4 * i) (omega arith))
          ∙ sym (rw (place i) at (be32-pg img n (16 + 4 * i) low (omega arith)));
      above = λ i l. be32-agree (sets levels 16 part) (16 + 4 * i) levels (16 + 4 * i) (agree-off 4 part levels 16 (16 + 4 * i) (inr (omega arith)));
    }
