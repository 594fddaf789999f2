-- Request T-04: byte strings compared eight bytes at a time, and the claim that this is their order byte by byte.
use Rattle.std.specs.Prelude.{ℕ, zero, suc, ◌/◌, ◌<◌, ◌≡◌, Bool, cond, ◌&&◌, ◌||◌, List, length, drop, ltb, eqb}
use Rattle.blockfile.specs.Bytes.{be64, Every}
use Rattle.blockfile.specs.Order.{bytes_below, same}

-- whether k is below l: n words of eight bytes one after another, each as a big-endian number, then what is left over byte by byte
abbrev pub words_below : (n : ℕ) (k l : List ℕ) → Bool
words_below zero k l = bytes_below k l
words_below (suc n) k l = ltb (be64 k 0) (be64 l 0) || (eqb (be64 k 0) (be64 l 0) && words_below n (drop 8 k) (drop 8 l))

-- whether they are the same, in the same way
abbrev pub words_same : (n : ℕ) (k l : List ℕ) → Bool
words_same zero k l = same k l
words_same (suc n) k l = eqb (be64 k 0) (be64 l 0) && words_same n (drop 8 k) (drop 8 l)

-- the length of the shorter
abbrev pub shorter : (k l : List ℕ) → ℕ
shorter k l = cond (ltb (length k) (length l)) (length k) (length l)

-- all words that both have: of the shorter one to seven bytes are left over, or none
abbrev pub words : (k l : List ℕ) → ℕ
words k l = shorter k l / 8

-- for any two byte strings, a proper prefix of the other included, the order is that of byte by byte
unfoldable pub WordsAsBytes : Type 0
WordsAsBytes =
    (k l : List ℕ) → Every (λ b. b < 256) k → Every (λ b. b < 256) l
    → (words_below (words k l) k l ≡ bytes_below k l) × (words_same (words k l) k l ≡ same k l)
