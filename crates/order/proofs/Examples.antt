-- Strings compared eight bytes at a time, computed: a word decides, a byte left over, a byte of a word before the next, a length. And the
-- numbers that four bytes stand for.
use Prim.Native.Nat.{ℕ}
use mathlib.Core.Path.{◌≡◌, refl}
use mathlib.Core.Bool.{Bool, true, false}
use mathlib.Core.List.{List, [], ◌∷◌, ◌++◌}
use Rattle.blockfile.specs.Bytes.{be64, be32, be16}
use lib.IntN.{pos, negsuc}
use Rattle.order.specs.Words.{words_below, words_same, words}
use Rattle.order.specs.Sorts.{number_of}

abbrev below : (k l : List ℕ) → Bool
below k l = words_below (words k l) k l

abbrev equal : (k l : List ℕ) → Bool
equal k l = words_same (words k l) k l

abbrev word : (b : ℕ) → List ℕ
word b = 1 ∷ 2 ∷ 3 ∷ 4 ∷ 5 ∷ 6 ∷ b ∷ 0xff ∷ []

-- by the number of the first word, of which the most significant byte comes first
first_word : (below (word 7 ++ 9 ∷ []) (word 8 ++ 1 ∷ []) ≡ true) × (below (word 8 ++ 1 ∷ []) (word 7 ++ 9 ∷ []) ≡ false)
unfolding be64 be32 be16
first_word = (refl, refl)

-- by a byte left over, behind the same word
left_over : (words (word 7 ++ 0x7f ∷ 2 ∷ []) (word 7 ++ 0x80 ∷ 1 ∷ []) ≡ 1) × (below (word 7 ++ 0x7f ∷ 2 ∷ []) (word 7 ++ 0x80 ∷ 1 ∷ []) ≡ true)
unfolding be64 be32 be16
left_over = (refl, refl)

-- a proper prefix comes first, by fewer bytes than a word and by a word and more; it is not the same
prefixes : (below (word 7) (word 7 ++ 0 ∷ []) ≡ true) × (below (word 7) (word 7 ++ (word 7 ++ 0 ∷ [])) ≡ true) × (equal (word 7) (word 7 ++ 0 ∷ []) ≡ false)
unfolding be64 be32 be16
prefixes = (refl, refl, refl)

itself : (below (word 7 ++ 1 ∷ []) (word 7 ++ 1 ∷ []) ≡ false) × (equal (word 7 ++ 1 ∷ []) (word 7 ++ 1 ∷ []) ≡ true)
unfolding be64 be32 be16
itself = (refl, refl)

-- -2147483648, -1, 0 and 2147483647
numbers : (number_of (0x80 ∷ 0 ∷ 0 ∷ 0 ∷ []) ≡ negsuc 2147483647) × (number_of (0xff ∷ 0xff ∷ 0xff ∷ 0xff ∷ []) ≡ negsuc 0)
    × (number_of (0 ∷ 0 ∷ 0 ∷ 0 ∷ []) ≡ pos 0) × (number_of (0x7f ∷ 0xff ∷ 0xff ∷ 0xff ∷ []) ≡ pos 2147483647)
unfolding be32 be16
numbers = (refl, refl, refl, refl)
