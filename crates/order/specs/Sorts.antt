-- Request T-05: how the keys of a table sort, and the claim that offset tables sort as numbers.
use Rattle.std.specs.Prelude.{ℕ, ◌+◌, ◌-◌, ◌%◌, ◌≤◌, ◌<◌, ◌≡◌, cond, List, length, ltb, ℤ}
use Rattle.std.specs.Int.Signed.{lt_z}
use Rattle.std.specs.Int.{w32}
use Rattle.std.proofs.Common.{to_z}
use Rattle.blockfile.specs.Bytes.{be32, Every}
use Rattle.blockfile.specs.Order.{within, sign, numbers_below, same, KeyRule, bytes_rule, numbers_rule, is_offsets}
use Rattle.pages.specs.Begins.{lead}
use Rattle.std.specs.declared.cmp.Ordering.{Ordering}
use Rattle.std.specs.declared.cmp.Ordering.TheVariants.{Less, Equal, Greater}
use Rattle.order.specs.declared.sort.Sort.{Sort}
use Rattle.order.specs.declared.sort.Sort.TheVariants.{Bytes, Numbers}
use Rattle.order.specs.declared.sort.Lengths.{Lengths}

-- ---- The claim

-- the number that four bytes stand for: two's complement, as the language reads the 32 bits of an i32
abbrev pub number_of : List ℕ → ℤ
number_of k = to_z w32 (be32 k 0)

-- the text's order of two keys of an offset table is that of their numbers
unfoldable pub SortAsNumbers : Type 0
SortAsNumbers =
    (k l : List ℕ) → length k ≡ 4 → length l ≡ 4 → Every (λ b. b < 256) k → Every (λ b. b < 256) l → numbers_below k l ≡ lt_z (number_of k) (number_of l)

-- ---- The order of a table

-- how the keys of the table of this name sort
abbrev pub table_sort : (name : List ℕ) → Sort
table_sort name = cond (is_offsets name) Numbers Bytes

-- the keys of a table that sort so
abbrev pub rule_as : Sort → KeyRule
rule_as Bytes = bytes_rule
rule_as Numbers = numbers_rule

-- the order of two keys as an answer
unfoldable pub order_as : Sort → (k l : List ℕ) → Ordering
order_as s k l = cond (same k l) Equal (cond ((rule_as s).below k l) Less Greater)

-- the sign that is compared before the bytes; by bytes all keys have the same
abbrev pub sign_as : Sort → List ℕ → ℕ
sign_as Bytes k = 0
sign_as Numbers k = sign k

-- a key may stand in the table exactly if its length is within these
pub record LengthsAre (s : Sort) (r : Lengths) : Type 0 where
  pub some : 1 ≤ r.least
  pub is : (k : List ℕ) → (rule_as s).allowed k ≡ within r.least r.most (length k)

-- ---- Keys as unsigned numbers

-- what is added to the first eight bytes
abbrev pub turn : Sort → ℕ
turn Bytes = 0
turn Numbers = 9223372036854775808

-- the first eight bytes as a number, for keys that sort as numbers with the other sign: where it is lower the key is below
unfoldable pub rank : Sort → List ℕ → ℕ
rank s k = (lead 8 k + turn s) % 18446744073709551616

-- 32 bits with the other sign
unfoldable pub turned : ℕ → ℕ
turned n = cond (ltb n 2147483648) (n + 2147483648) (n - 2147483648)
