-- Entries and pages written step by step.
use Prim.Native.Nat.{ℕ, zero, suc, ◌+◌, ◌*◌, ◌-◌, ◌<◌, ◌≤◌}
use native.Mathlib.Omega.{arith}
use native.Mathlib.Nat.{zero-add}
use native.Mathlib.Numerals.{add-one}
use mathlib.Core.Path.{◌≡◌, refl, ap, sym, ◌∙◌}
use mathlib.Core.List.{List, [], ◌∷◌, ◌++◌, map, map-append, append_assoc, append-nil}
use lib.ListN.{length, get_or, take, replicate, length-append}
use lib.Seq.{take-add, drop-cons, length-take-le}
use Rattle.blockfile.specs.Bytes.{Write, on, word16, word32, write, apply, gather, from}
use Rattle.blockfile.specs.Marks.{skip_mark, tower_mark}
use Rattle.blockfile.specs.Encode.{whole_tower, counts, whole_skip_list}
use Rattle.laws.proofs.Numbers.{length-word16, length-word32}
use Rattle.laws.proofs.Pages.{length-write, write-append, write-padded}
use Rattle.laws.proofs.Places.{gather_append}
use Rattle.laws.proofs.Writes.{apply-append}
use Rattle.laws.proofs.Encodes.{length-numbers32}
use Rattle.laws.proofs.TowerLinks.{from-append}
use Rattle.links.specs.Links.{link_writes, levels_below, tower_as}

-- one more level
map_more : {A : Type 0} (f : ℕ → A) (h : ℕ) → map f (from 0 (h + 1)) ≡ map f (from 0 h) ++ f h ∷ []
map_more f h = ap (map f) (from-append 0 h 1) ∙ map-append f (from 0 h) (from (0 + h) 1) ∙ rw zero-add

-- the first levels, taken and read one by one
pub levels-taken : (levels : List ℕ) (h : ℕ) → h ≤ length levels → take h levels ≡ levels_below levels h
levels-taken levels zero b = refl
levels-taken levels (suc h) b =
    ap (λ (n : ℕ). take n levels) (sym (add-one h))
    ∙ take-add h 1 levels ∙ ap (λ (x : List ℕ). take h levels ++ take 1 x) (drop-cons levels h 0 b)
    ∙ ap (λ (x : List ℕ). x ++ get_or levels h 0 ∷ []) (levels-taken levels h (omega arith)) ∙ sym (map_more (λ i. get_or levels i 0) h)
    ∙ ap (levels_below levels) (add-one h)

-- ---- link_levels: i levels are linked

pub record Linking (img₀ before values : List ℕ) (h : ℕ) (img : List ℕ) (i : ℕ) : Type 0 where
  pub most : i ≤ h
  pub is : img ≡ apply (link_writes before values i) img₀
  pub long : length img ≡ length img₀

module _ {img₀ before values : List ℕ} {h : ℕ} {img : List ℕ} {i : ℕ} (l : Linking img₀ before values h img i) where
  pub linking-more : i < h → (out : List ℕ) → out ≡ write img (get_or before i 0) (16 + 4 * i) (word32 (get_or values i 0)) → Linking img₀ before values h out (i + 1)
  linking-more b out e =
      let f : ℕ → Write = λ i. on (get_or before i 0) (16 + 4 * i) (word32 (get_or values i 0)) in
      record {
        most = omega arith;
        is = e ∙ ap (λ (m : List ℕ). apply (f i ∷ []) m) l.is ∙ sym (ap (λ (ws : List Write). apply ws img₀) (map_more f i) ∙ apply-append (map f (from 0 i)) (f i ∷ []) img₀);
        long = ap length e ∙ length-write img (get_or before i 0) (16 + 4 * i) (word32 (get_or values i 0)) ∙ l.long;
      }

-- ---- put_entries: i entries are written

pub record Entering (img₀ : List ℕ) (page : ℕ) (nexts img : List ℕ) (i : ℕ) : Type 0 where
  pub is : img ≡ write img₀ page 16 (gather word32 (take i nexts))
  pub long : length img ≡ length img₀

pub entering-none : (img : List ℕ) (page : ℕ) (nexts : List ℕ) → Entering img page nexts img 0
unfolding write
entering-none img page nexts = record { is = nothing page; long = refl }
  where
    nothing : (n : ℕ) → img ≡ write img n 16 []
    nothing zero = refl
    nothing (suc n) = refl

module _ {img₀ : List ℕ} {page : ℕ} {nexts img : List ℕ} {i : ℕ} (l : Entering img₀ page nexts img i) where
  pub entering-more : i < length nexts → (next : ℕ) → next ≡ get_or nexts i 0 → (out : List ℕ) → out ≡ write img page (16 + 4 * i) (word32 next)
      → Entering img₀ page nexts out (i + 1)
  entering-more b next n out e =
      let done : List ℕ = take i nexts in
      let many : length done ≡ i = length-take-le i nexts (omega arith) in
      let more : take (i + 1) nexts ≡ done ++ next ∷ []
      = take-add i 1 nexts ∙ ap (λ (x : List ℕ). done ++ take 1 x) (drop-cons nexts i 0 b) ∙ ap (λ (x : ℕ). done ++ x ∷ []) (sym n) in
      record {
        is = e ∙ ap (λ (m : List ℕ). write m page (16 + 4 * i) (word32 next)) l.is
            ∙ write-append img₀ page 16 (16 + 4 * i) (gather word32 done) (word32 next) (omega (arith, length-numbers32 done))
            ∙ ap (write img₀ page 16)
            (sym (ap (gather word32) more ∙ gather_append word32 done (next ∷ []) ∙ ap (λ (x : List ℕ). gather word32 done ++ x) (append-nil (word32 next))));
        long = ap length e ∙ length-write img page (16 + 4 * i) (word32 next) ∙ l.long;
      }

-- ---- Whole pages

module _ (img : List ℕ) (page : ℕ) where
  pub tower-page : (max span : ℕ) (nexts : List ℕ) → length nexts ≤ 252
      → write
      (write (write (write (write (write img page 0 tower_mark) page 8 (word16 max)) page 10 (word16 (length nexts))) page 12 (word32 span)) page 16 (gather word32 nexts))
      page (16 + 4 * length nexts) (replicate (1008 - 4 * length nexts) 0)
      ≡ apply (whole_tower (tower_as page max (length nexts) span nexts)) img
  unfolding whole_tower
  tower-page max span nexts few =
      let h : ℕ = length nexts in
      let ns : List ℕ = gather word32 nexts in
      let l8 : length tower_mark ≡ 8 = unfold tower_mark in refl in
      let l10 : length (tower_mark ++ word16 max) ≡ 10 = rw (length-append, l8, length-word16 max) in
      let l12 : length ((tower_mark ++ word16 max) ++ word16 h) ≡ 12 = rw (length-append, l10, length-word16 h) in
      let l16 : length (((tower_mark ++ word16 max) ++ word16 h) ++ word32 span) ≡ 16 = rw (length-append, l12, length-word32 span) in
      let all : length ((((tower_mark ++ word16 max) ++ word16 h) ++ word32 span) ++ ns) ≡ 16 + 4 * h = rw (length-append, l16, length-numbers32 nexts) in
      let b : (((tower_mark ++ word16 max) ++ word16 h) ++ word32 span) ++ ns ≡ tower_mark ++ (word16 max ++ (word16 h ++ (word32 span ++ ns))) = simp append_assoc in
      rw (
        write-append img page 0 8 tower_mark (word16 max) (omega arith),
        write-append img page 0 10 (tower_mark ++ word16 max) (word16 h) (omega arith),
        write-append img page 0 12 ((tower_mark ++ word16 max) ++ word16 h) (word32 span) (omega arith),
        write-append img page 0 16 (((tower_mark ++ word16 max) ++ word16 h) ++ word32 span) ns (omega arith),
        ← b,
      ) (write-padded img page 0 1024 (16 + 4 * h) (1008 - 4 * h) ((((tower_mark ++ word16 max) ++ word16 h) ++ word32 span) ++ ns) (omega arith) (omega arith))

  pub three-counts : (size spans levels : ℕ)
      → write (write (write img page 16 (word32 size)) page 20 (word32 spans)) page 24 (word32 levels) ≡ write img page 16 (word32 size ++ (word32 spans ++ word32 levels))
  three-counts size spans levels =
      let l4 : length (word32 size) ≡ 4 = length-word32 size in
      let l8 : length (word32 size ++ word32 spans) ≡ 8 = rw (length-append, l4, length-word32 spans) in
      rw (
        write-append img page 16 20 (word32 size) (word32 spans) (omega arith),
        write-append img page 16 24 (word32 size ++ word32 spans) (word32 levels) (omega arith),
      ) (simp append_assoc)

  pub skip-page : (first head size spans levels span_size : ℕ)
      → write
      (write
      (write (write (write (write img page 0 skip_mark) page 8 (word32 first)) page 12 (word32 head)) page 16 (word32 size ++ (word32 spans ++ word32 levels)))
      page 28 (word16 span_size))
      page 30 (replicate 994 0)
      ≡ apply (whole_skip_list (record { page = page; first = first; level = head; size = size; spans = spans; levels = levels; span_size = span_size })) img
  unfolding whole_skip_list counts
  skip-page first head size spans levels span_size =
      let cs : List ℕ = word32 size ++ (word32 spans ++ word32 levels) in
      let l8 : length skip_mark ≡ 8 = unfold skip_mark in refl in
      let l12 : length (skip_mark ++ word32 first) ≡ 12 = rw (length-append, l8, length-word32 first) in
      let l16 : length ((skip_mark ++ word32 first) ++ word32 head) ≡ 16 = rw (length-append, l12, length-word32 head) in
      let l28 : length (((skip_mark ++ word32 first) ++ word32 head) ++ cs) ≡ 28 = rw (length-append, l16, length-append, length-word32 size, length-append, length-word32 spans, length-word32 levels) in
      let all : length ((((skip_mark ++ word32 first) ++ word32 head) ++ cs) ++ word16 span_size) ≡ 30 = rw (length-append, l28, length-word16 span_size) in
      let b : (((skip_mark ++ word32 first) ++ word32 head) ++ cs) ++ word16 span_size ≡ skip_mark ++ (word32 first ++ (word32 head ++ (cs ++ word16 span_size))) = simp append_assoc in
      rw (
        write-append img page 0 8 skip_mark (word32 first) (omega arith),
        write-append img page 0 12 (skip_mark ++ word32 first) (word32 head) (omega arith),
        write-append img page 0 16 ((skip_mark ++ word32 first) ++ word32 head) cs (omega arith),
        write-append img page 0 28 (((skip_mark ++ word32 first) ++ word32 head) ++ cs) (word16 span_size) (omega arith),
        ← b,
      ) (write-padded img page 0 1024 30 994 ((((skip_mark ++ word32 first) ++ word32 head) ++ cs) ++ word16 span_size) (omega arith) (omega arith))
