-- The ledger tried on short lists of calls.
use Prim.Native.Nat.{ℕ}
use mathlib.Core.Path.{◌≡◌, refl}
use mathlib.Core.Bool.{true, false}
use mathlib.Core.List.{List, [], ◌∷◌, map}
use Rattle.blockfile.specs.Order.{name_rule, key_rule}
use Rattle.blockfile.specs.Refusals.{Op, check, get, put, remove, next, create, Reply, plain, Ledger, refused}
use Rattle.blockfile.specs.Ledger.{Fed, Said, step}
use Rattle.blockfile.proofs.Samples.{least, minus_one, nought, greatest, lens}

-- an image of 8 pages with no table
abbrev start : Ledger
start = record { pages = 8; tables = [] }

-- a call that is not refused with 2, 9 or 10
abbrev plainly : Op → Fed
plainly op = record { op = op; scratch_length = 8192; room = 16; ten = false }

-- a call that was answered 10
abbrev lacking : Op → Fed
lacking op = record { op = op; scratch_length = 8192; room = 16; ten = true }

-- the ledger after these calls; F is 4 throughout
abbrev after : Ledger → List Fed → Ledger
after l [] = l
after l (c ∷ cs) = after (step l 4 c).ledger cs

abbrev a : List ℕ
a = 0x61 ∷ []

abbrev b : List ℕ
b = 0x62 ∷ []

-- "lens" made, 1 put under a, and then these calls
abbrev then : List Fed → List Fed
then cs = plainly (create lens) ∷ plainly (put lens a (1 ∷ [])) ∷ cs

-- "#a", an offset table, and "a#", which is none
abbrev offsets : List ℕ
offsets = 0x23 ∷ 0x61 ∷ []

abbrev others : List ℕ
others = 0x61 ∷ 0x23 ∷ []

-- a table of this name made, four keys put in the order of their bytes, and then these calls
abbrev numbered : (name : List ℕ) → List Fed → List Fed
numbered n cs =
    plainly (create n) ∷ plainly (put n nought (1 ∷ [])) ∷ plainly (put n greatest []) ∷ plainly (put n least []) ∷ plainly (put n minus_one []) ∷ cs

-- calls, the call that is asked then, its numbers and its bytes
abbrev Row : Type 0
Row = List Fed × Fed × Reply × List ℕ

abbrev said : Row → Reply × List ℕ
said r = let s : Said = step (after start r.0) 4 r.1 in (s.reply, s.bytes)

abbrev rows : List Row
rows =
    -- a record is there until it is removed, also after others are put
    (then [], plainly (get lens a), plain 0 1, 1 ∷ [])
    ∷ (then (plainly (put lens b (2 ∷ 3 ∷ [])) ∷ []), plainly (get lens a), plain 0 1, 1 ∷ [])
    ∷ (then (plainly (put lens b (2 ∷ 3 ∷ [])) ∷ []), plainly (get lens b), plain 0 2, 2 ∷ 3 ∷ [])
    ∷ (then (plainly (put lens a (4 ∷ [])) ∷ []), plainly (get lens a), plain 0 1, 4 ∷ [])
    ∷ (then (plainly (remove lens a) ∷ []), plainly (get lens a), plain 8 0, [])
    ∷ (then (plainly (put lens b []) ∷ plainly (remove lens a) ∷ []), plainly (get lens b), plain 0 0, [])
    -- keys come in their order
    ∷ (then (plainly (put lens b []) ∷ []), plainly (next lens []), plain 0 1, a)
    ∷ (then (plainly (put lens b []) ∷ []), plainly (next lens a), plain 0 1, b)
    ∷ (then (plainly (put lens b []) ∷ plainly (remove lens b) ∷ []), plainly (next lens a), plain 8 0, [])
    -- check counts P, tables and keys, and has F from the image
    ∷ (then (plainly (put lens b []) ∷ []), plainly check, record { number = 0; len = 0; pages = 8; tables = 1; keys = 2; free = 4 }, [])
    -- a refused call changes nothing
    ∷ (then (lacking (put lens b []) ∷ []), plainly (get lens b), plain 8 0, [])
    ∷ (then (lacking (put lens b []) ∷ []), plainly (get lens a), plain 0 1, 1 ∷ [])
    ∷ (then [], lacking (put lens b []), plain 10 0, [])
    ∷ (then [], plainly (create lens), plain 7 0, [])
    ∷ ([], plainly (put lens a []), plain 6 0, [])
    -- an offset table goes by the numbers, from the least up
    ∷ (numbered offsets [], plainly (next offsets []), plain 0 4, least)
    ∷ (numbered offsets [], plainly (next offsets least), plain 0 4, minus_one)
    ∷ (numbered offsets [], plainly (next offsets minus_one), plain 0 4, nought)
    ∷ (numbered offsets [], plainly (next offsets nought), plain 0 4, greatest)
    ∷ (numbered offsets [], plainly (next offsets greatest), plain 8 0, [])
    ∷ (numbered offsets (plainly (remove offsets least) ∷ []), plainly (next offsets []), plain 0 4, minus_one)
    ∷ (numbered offsets [], plainly (get offsets nought), plain 0 1, 1 ∷ [])
    -- another table by bytes
    ∷ (numbered others [], plainly (next others []), plain 0 4, nought)
    ∷ (numbered others [], plainly (next others minus_one), plain 8 0, [])
    -- a key of another length, whether the table is there or not, whatever else is wrong
    ∷ (numbered offsets [], plainly (get offsets a), plain 4 0, [])
    ∷ (numbered offsets [], plainly (next offsets (0 ∷ nought)), plain 4 0, [])
    ∷ (numbered offsets [], plainly (remove offsets (0 ∷ 0 ∷ 0 ∷ [])), plain 4 0, [])
    ∷ ([], plainly (put (0x23 ∷ []) (0 ∷ 0 ∷ 0 ∷ []) []), plain 4 0, [])
    ∷ ([], plainly (get offsets []), plain 4 0, [])
    ∷ ([], plainly (next offsets []), plain 6 0, [])
    ∷ ([], plainly (get offsets nought), plain 6 0, [])
    ∷ (numbered others [], plainly (get others a), plain 8 0, [])
    ∷ []

answers : map said rows ≡ map (λ (r : Row). (r.2, r.3)) rows
unfolding step refused name_rule key_rule
answers = refl
