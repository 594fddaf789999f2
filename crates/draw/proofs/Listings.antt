-- Numbers stored one after another in a list.
use Prim.Native.Nat.{ℕ, ◌+◌, ◌*◌, ◌<◌, ◌≤◌}
use native.Mathlib.Omega.{arith}
use mathlib.Core.Path.{◌≡◌, ap, sym, ◌∙◌, subst}
use mathlib.Core.Logic.{◌⊎◌, inl, inr}
use mathlib.Core.List.{List, [], ◌∷◌, ◌++◌, append_assoc, append-nil}
use lib.ListN.{length, take, drop, length-take}
use lib.Seq.{sets, sets-eq}
use Rattle.blockfile.specs.Bytes.{word32, Every, gather}
use Rattle.blockfile.specs.Fields.{Numbers}
use Rattle.laws.specs.Lists.{Apart}
use Rattle.laws.proofs.Lists.{sets-append, agree-off}
use Rattle.laws.proofs.Numbers.{be32-agree}
use Rattle.laws.proofs.Places.{gather_append}
use Rattle.laws.proofs.FreeRead.{numbers-at}
use Rattle.laws.proofs.Written.{numbers-from}
use Rattle.laws.proofs.Encodes.{numbers-mid, length-numbers32}
use Rattle.draw.specs.Hands.{stored}

module _ (numbers : List ℕ) (i : ℕ) where
  -- more numbers after those that are stored
  pub stored-append : (xs ys : List ℕ) → stored numbers i (xs ++ ys) ≡ stored (stored numbers i xs) (i + length xs) ys
  stored-append xs ys =
      let o : 4 * i + length (gather word32 xs) ≡ 4 * (i + length xs) = omega (arith, length-numbers32 xs) in
      ap (sets numbers (4 * i)) (gather_append word32 xs ys) ∙ sets-append (gather word32 xs) (gather word32 ys) numbers (4 * i)
      ∙ ap (λ (k : ℕ). sets (stored numbers i xs) k (gather word32 ys)) o

  -- one number
  pub stored_one : (v : ℕ) → sets numbers (4 * i) (word32 v) ≡ stored numbers i (v ∷ [])
  stored_one v = ap (sets numbers (4 * i)) (sym (append-nil (word32 v)))

  -- they stand there
  pub stored-stand : (ns : List ℕ) → 4 * (i + length ns) ≤ length numbers → Every (λ n. n < 4294967296) ns → Numbers (stored numbers i ns) (4 * i) ns
  stored-stand ns l h =
      let w : List ℕ = gather word32 ns in
      let front : List ℕ = take (4 * i) numbers in
      let back : List ℕ = drop (4 * i + length w) numbers in
      let e : stored numbers i ns ≡ front ++ (w ++ back) = sets-eq w numbers (4 * i) (omega (arith, length-numbers32 ns)) ∙ append_assoc front w back in
      subst (λ (b : List ℕ). Numbers b (4 * i) ns) (sym e) (numbers-mid ns front back (4 * i) (rw length-take (omega arith)) h)

  -- and other numbers of the list stay
  pub stored-apart : (ns : List ℕ) (j : ℕ) (ms : List ℕ) → (j + length ms ≤ i) ⊎ (i + length ns ≤ j) → Numbers numbers (4 * j) ms → Numbers (stored numbers i ns) (4 * j) ms
  stored-apart ns j ms r h =
      numbers-from (stored numbers i ns) (4 * j) ms
      (λ k l. be32-agree (stored numbers i ns) (4 * j + 4 * k) numbers (4 * j + 4 * k) (agree-off 4 (gather word32 ns) numbers (4 * i) (4 * j + 4 * k) (off k l r))
      ∙ numbers-at numbers (4 * j) ms k h l)
    where
      off : (k : ℕ) → k < length ms → (j + length ms ≤ i) ⊎ (i + length ns ≤ j) → Apart (4 * j + 4 * k) 4 (4 * i) (length (gather word32 ns))
      off k l (inl q) = inl (omega arith)
      off k l (inr q) = inr (omega (arith, length-numbers32 ns))
