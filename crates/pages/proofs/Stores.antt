-- Bytes stored one after another on a page.
use Prim.Native.Nat.{ℕ, ◌+◌, ◌-◌, ◌/◌, ◌%◌, ◌≤◌}
use native.Mathlib.Omega.{arith}
use native.Mathlib.Decide.{dec_lt}
use mathlib.Core.Logic.{by_cases}
use mathlib.Core.Path.{◌≡◌, refl, ap₂, sym, ◌∙◌}
use mathlib.Core.List.{List, [], ◌∷◌, ◌++◌, append_assoc}
use lib.ListN.{length, take, drop, replicate, length-append, length-take, length-drop}
use lib.Seq.{sets, take_all}
use Rattle.std.specs.Int.{w16, w32, to_be_bytes}
use Rattle.std.proofs.lemmas.List.Edits.{paste_all, sets-eq}
use Rattle.std.proofs.lemmas.Slice.{put_mid-paste}
use borrow.Rule.Slice.PartMut.{put_mid}
use Rattle.blockfile.specs.Bytes.{write, word16, word32, padded}
use Rattle.pages.specs.Places.{Chunk}
use Rattle.laws.proofs.Numbers.{length-word32}
use Rattle.laws.proofs.Pages.{write-append}

-- bytes ys written over a part, which are zs
pub put_mid-sets : (a k : ℕ) (xs : List ℕ) {ys zs : List ℕ} → ys ≡ zs → length zs ≡ k → a + length zs ≤ length xs → put_mid a k xs ys ≡ sets xs a zs
put_mid-sets a k xs {ys} {zs} e n h = put_mid-paste a k xs ys zs (length zs) e n refl ∙ paste_all xs a zs (length zs) refl ∙ sym (append_assoc (take a xs) zs (drop (a + length zs) xs)) ∙ sym (sets-eq zs xs a h)

-- a number as two and as four bytes
pub be-bytes16 : (v : ℕ) → to_be_bytes w16 (v % 65536) ≡ word16 v
unfolding word16
be-bytes16 v =
    let a : v % 65536 / 256 % 256 ≡ v / 256 % 256 = omega arith in
    let b : v % 65536 % 256 ≡ v % 256 = omega arith in
    ap₂ (λ (x y : ℕ). x ∷ y ∷ []) a b

pub be-bytes32 : (v : ℕ) → to_be_bytes w32 (v % 4294967296) ≡ word32 v
unfolding word32
be-bytes32 v =
    let a : v % 4294967296 / 16777216 % 256 ≡ v / 16777216 % 256 = omega arith in
    let b : v % 4294967296 / 65536 % 256 ≡ v / 65536 % 256 = omega arith in
    let c : v % 4294967296 / 256 % 256 ≡ v / 256 % 256 = omega arith in
    let d : v % 4294967296 % 256 ≡ v % 256 = omega arith in
    rw (a, b, c, d)

-- ---- a page of a stream

chunk-is : (src : List ℕ) (f n : ℕ) → Chunk (length src) f n → take n (drop f src) ≡ take 1016 (drop f src)
chunk-is src f n h =
    by_cases (dec_lt n 1016)
    (λ l. let e : f + n ≡ length src = h.all l in
    take_all n (drop f src) (rw length-drop (omega arith)) ∙ sym (take_all 1016 (drop f src) (rw length-drop (omega arith))))
    (λ l. let e : n ≡ 1016 = omega arith in rw e)

pub stream-page : (img : List ℕ) (p : ℕ) (mark : List ℕ) (link : ℕ) (src : List ℕ) (f n : ℕ) → length mark ≡ 4 → Chunk (length src) f n
    → write (write (write (write img p 0 mark) p 4 (word32 link)) p 8 (take (f + n - f) (drop f src))) p (8 + n) (replicate (1016 - n) 0)
    ≡ write img p 0 (mark ++ (word32 link ++ padded 1016 (take 1016 (drop f src))))
stream-page img p mark link src f n four h =
    let e : f + n - f ≡ n = omega arith in
    let c : List ℕ = take n (drop f src) in
    let z : List ℕ = replicate (1016 - n) 0 in
    let lc : length c ≡ n = rw (length-take, length-drop) (omega arith) in
    let lw : length (mark ++ word32 link) ≡ 8 = rw (length-append, four, length-word32 link) in
    let la : length ((mark ++ word32 link) ++ c) ≡ 8 + n = rw (length-append, lw, lc) in
    rw (
      e,
      ← chunk-is src f n h,
      lc,
      write-append img p 0 4 mark (word32 link) (omega arith),
      write-append img p 0 8 (mark ++ word32 link) c (omega arith),
      write-append img p 0 (8 + n) ((mark ++ word32 link) ++ c) z (omega arith),
    ) (simp append_assoc)
