-- Marks: the bytes begin with a mark exactly if the numbers, cut off behind it, are equal.
use Prim.Native.Nat.{ℕ, zero, suc, ◌+◌, ◌*◌, ◌-◌, ◌/◌, ◌^◌, ◌≤◌, ◌<◌}
use mathlib.Core.Bool.{Bool, true, false, ◌&&◌}
use mathlib.Core.List.{List, [], ◌∷◌}
use mathlib.Core.Path.{◌≡◌, refl, ap, sym, ◌∙◌}
use native.Mathlib.Nat.{eq_of_mul-eq-mul_right, le_of_suc-le-suc, not-suc-le-zero}
use lib.ListN.{length, take, drop, get_or, length-drop}
use lib.Seq.{length-take-le, take_all}
use native.Mathlib.Omega.{arith}
use borrow.Author.Tests.{eqb-true, eqb-false}
use lib.Pow.{pow_pos}
use lib.Dec.{T, eqb, leb, leb→le, lit<}
use Rattle.blockfile.specs.Bytes.{be64, Every}
use Rattle.blockfile.specs.Marks.{marks, super_mark, skip_mark, tower_mark, span_mark, cont_mark, block_mark, free_mark}
use Rattle.blockfile.proofs.Bools.{and_both}
use Rattle.pages.specs.Begins.{begins, lead}
use Rattle.pages.specs.Kinds.{kind_at, IsMark}
use Rattle.pages.specs.declared.mark.Kind.{Kind}
use Rattle.pages.specs.declared.mark.Kind.TheVariants.{Superblock, SkipList, Tower, Span, Continuation, Block, Free}
use Rattle.std.specs.Int.{w64, to_be_bytes}
use Rattle.pages.proofs.Begins.{begins-take, take_begins}
use Rattle.pages.proofs.Words.{Byte, bytes-all, bytes_take, bytes_drop, lead-cut, lead-same, be64-lead}

-- ---- the marks, by one computed test over all kinds

-- the test passes at each number below n
abbrev every : (ℕ → Bool) → ℕ → Bool
every f zero = true
every f (suc n) = f 0 && every (λ k. f (suc k)) n

at : (f : ℕ → Bool) (n : ℕ) → T (every f n) → (k : ℕ) → k < n → T (f k)
at f zero t k h = absurd (not-suc-le-zero h)
at f (suc n) t zero h = (and_both (f 0) (every (λ k. f (suc k)) n) t).0
at f (suc n) t (suc k) h = at (λ k. f (suc k)) n (and_both (f 0) (every (λ k. f (suc k)) n) t).1 k (le_of_suc-le-suc h)

size_ok : ℕ → Bool
size_ok k = leb 4 (length (get_or marks k [])) && leb (length (get_or marks k [])) 8

first_ok : ℕ → Bool
first_ok k = leb 1 (get_or (get_or marks k []) 0 0) && leb (get_or (get_or marks k []) 0 0) 254

module _ (k : ℕ) (h : k < 7) where
  size : T (leb 4 (length (get_or marks k [])) && leb (length (get_or marks k [])) 8)
  unfolding size_ok super_mark skip_mark tower_mark span_mark cont_mark block_mark free_mark
  size = at size_ok 7 tt k h

  pub mark-some : 4 ≤ length (get_or marks k [])
  mark-some = leb→le _ _ (and_both (leb 4 (length (get_or marks k []))) (leb (length (get_or marks k [])) 8) size).0

  pub mark-most : length (get_or marks k []) ≤ 8
  mark-most = leb→le _ _ (and_both (leb 4 (length (get_or marks k []))) (leb (length (get_or marks k [])) 8) size).1

  -- no mark begins with 0 or with 255
  pub mark-first : (1 ≤ get_or (get_or marks k []) 0 0) × (get_or (get_or marks k []) 0 0 ≤ 254)
  unfolding first_ok super_mark skip_mark tower_mark span_mark cont_mark block_mark free_mark
  mark-first =
      let t = and_both (leb 1 (get_or (get_or marks k []) 0 0)) (leb (get_or (get_or marks k []) 0 0) 254) (at first_ok 7 tt k h) in
      (leb→le _ _ t.0, leb→le _ _ t.1)

-- ---- a mark compared as a number

abbrev bytes_ok : List ℕ → Bool
bytes_ok [] = true
bytes_ok (x ∷ b) = leb (suc x) 256 && bytes_ok b

bytes_of : (b : List ℕ) → T (bytes_ok b) → Every Byte b
bytes_of [] t = tt
bytes_of (x ∷ b) t = let r = and_both (leb (suc x) 256) (bytes_ok b) t in (leb→le _ _ r.0, bytes_of b r.1)

module _ (k : ℕ) (h : k < 7) where
  mark-bytes : Every Byte (get_or marks k [])
  unfolding super_mark skip_mark tower_mark span_mark cont_mark block_mark free_mark
  mark-bytes = bytes_of (get_or marks k []) (at (λ k. bytes_ok (get_or marks k [])) 7 tt k h)

-- a number of eight bytes, cut off behind the mark of the kind
abbrev pub cut_off : (k x : ℕ) → ℕ
cut_off k x = x / 2 ^ (64 - 8 * length (get_or marks k []))

module _ (k : ℕ) (h : k < 7) where
  -- and filled up with zeros again it is the number of as many bytes
  cut-is : (s : List ℕ) → Every Byte s → cut_off k (lead 8 s) * 2 ^ (64 - 8 * length (get_or marks k [])) ≡ lead 8 (take (length (get_or marks k [])) s)
  cut-is s low =
      let n : ℕ = length (get_or marks k []) in
      let eight : n + (8 - n) ≡ 8 = omega (arith, mark-most k h) in
      let bits : 8 * (8 - n) ≡ 64 - 8 * n = omega arith in
      sym (rw (eight, bits) at (lead-cut n (8 - n) s low))

  cut-mark : cut_off k (lead 8 (get_or marks k [])) * 2 ^ (64 - 8 * length (get_or marks k [])) ≡ lead 8 (get_or marks k [])
  cut-mark = cut-is (get_or marks k []) (mark-bytes k h) ∙ ap (lead 8) (take_all (length (get_or marks k [])) (get_or marks k []) (omega arith))

module _ (b : List ℕ) (o k : ℕ) (long : o + 8 ≤ length b) (h : k < 7) (known : (i : ℕ) → get_or b i 0 < 256) (x : ℕ) (here : x ≡ be64 b o) where
  low : Every Byte (drop o b)
  low = bytes_drop o b (bytes-all b known)

  cut-here : cut_off k x * 2 ^ (64 - 8 * length (get_or marks k [])) ≡ lead 8 (take (length (get_or marks k [])) (drop o b))
  cut-here = rw (here, be64-lead b o) (cut-is k h (drop o b) low)

  -- THE BYTES BEGIN WITH THE MARK EXACTLY IF THE NUMBERS, CUT OFF BEHIND IT, ARE EQUAL
  bears-so : cut_off k x ≡ cut_off k (lead 8 (get_or marks k [])) → true ≡ begins (get_or marks k []) (drop o b)
  bears-so e =
      let m : List ℕ = get_or marks k [] in
      let room : length m ≤ length (drop o b) = rw length-drop (omega (arith, long, mark-most k h)) in
      let long_as : length (take (length m) (drop o b)) ≡ length m = length-take-le (length m) (drop o b) room in
      sym (take_begins m (drop o b)
      (lead-same 8 (take (length m) (drop o b)) m (bytes_take (length m) (drop o b) low) (mark-bytes k h) long_as (omega (arith, long_as, mark-most k h))
      (sym cut-here ∙ ap (λ (y : ℕ). y * 2 ^ (64 - 8 * length (get_or marks k []))) e ∙ cut-mark k h)))

  bears-not : (cut_off k x ≡ cut_off k (lead 8 (get_or marks k [])) → ⊥) → false ≡ begins (get_or marks k []) (drop o b)
  bears-not n = go (begins (get_or marks k []) (drop o b)) refl
    where
      go : (t : Bool) → begins (get_or marks k []) (drop o b) ≡ t → false ≡ t
      go false e = refl
      go true e =
          absurd (n (eq_of_mul-eq-mul_right _ (pow_pos (64 - 8 * length (get_or marks k []))) _ _
          (cut-here ∙ ap (lead 8) (begins-take (get_or marks k []) (drop o b) e) ∙ sym (cut-mark k h))))

  bears-same : eqb (cut_off k x) (cut_off k (lead 8 (get_or marks k []))) ≡ begins (get_or marks k []) (drop o b)
  bears-same = go (eqb (cut_off k x) (cut_off k (lead 8 (get_or marks k [])))) refl
    where
      go : (t : Bool) → eqb (cut_off k x) (cut_off k (lead 8 (get_or marks k []))) ≡ t → t ≡ begins (get_or marks k []) (drop o b)
      go true e = bears-so (eqb-true _ _ e)
      go false e = bears-not (eqb-false _ _ e)

-- ---- a kind, and its mark as a number

pub kind-known : (k : Kind) → kind_at k < 7
kind-known Superblock = lit< tt
kind-known SkipList = lit< tt
kind-known Tower = lit< tt
kind-known Span = lit< tt
kind-known Continuation = lit< tt
kind-known Block = lit< tt
kind-known Free = lit< tt

-- the table of the code
abbrev pub table : List (ℕ × ℕ)
table =
    (0x3141de4932500000, 6) ∷ (0x536b69704c697374, 8) ∷ (0x42534c6576656c73, 8) ∷ (0x5370616e00000000, 4) ∷ (0x434f4e5400000000, 4) ∷ (0x2366724c69737423, 8)
    ∷ (0x7e2146524545217e, 8) ∷ []

-- THE CODE'S TABLE IS THE TEXT'S
pub row-mark : (k : Kind) (n : ℕ) → n ≡ kind_at k → IsMark k (get_or table n (0, 0)).0 (get_or table n (0, 0)).1
unfolding lead super_mark skip_mark tower_mark span_mark cont_mark block_mark free_mark
row-mark Superblock n e = rw e (record { number = refl; long = refl })
row-mark SkipList n e = rw e (record { number = refl; long = refl })
row-mark Tower n e = rw e (record { number = refl; long = refl })
row-mark Span n e = rw e (record { number = refl; long = refl })
row-mark Continuation n e = rw e (record { number = refl; long = refl })
row-mark Block n e = rw e (record { number = refl; long = refl })
row-mark Free n e = rw e (record { number = refl; long = refl })

-- the number's first bytes are the mark
pub mark-first-bytes : (k : Kind) → take (length (get_or marks (kind_at k) [])) (to_be_bytes w64 (lead 8 (get_or marks (kind_at k) []))) ≡ get_or marks (kind_at k) []
unfolding lead super_mark skip_mark tower_mark span_mark cont_mark block_mark free_mark
mark-first-bytes Superblock = refl
mark-first-bytes SkipList = refl
mark-first-bytes Tower = refl
mark-first-bytes Span = refl
mark-first-bytes Continuation = refl
mark-first-bytes Block = refl
mark-first-bytes Free = refl

module _ {k : Kind} {x n : ℕ} (m : IsMark k x n) where
  pub is-some : 4 ≤ n
  is-some = omega (arith, m.long, mark-some (kind_at k) (kind-known k))

  pub is-most : n ≤ 8
  is-most = omega (arith, m.long, mark-most (kind_at k) (kind-known k))

  pub is-bytes : take n (to_be_bytes w64 x) ≡ get_or marks (kind_at k) []
  is-bytes = rw (m.number, m.long) (mark-first-bytes k)

  pub bears-is : (b : List ℕ) (o : ℕ) → o + 8 ≤ length b → ((i : ℕ) → get_or b i 0 < 256) → (y : ℕ) → y ≡ be64 b o
      → eqb (y / 2 ^ (64 - 8 * n)) (x / 2 ^ (64 - 8 * n)) ≡ begins (get_or marks (kind_at k) []) (drop o b)
  bears-is b o long known y here = rw (m.number, m.long) (bears-same b o (kind_at k) long (kind-known k) known y here)
