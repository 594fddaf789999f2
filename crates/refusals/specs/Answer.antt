-- What handing over the answer promises.
use Rattle.std.specs.Prelude.{ℕ, ◌≡◌, List, [], ◌∷◌, Bool, not, length, Result, Ok, Err}
use Rattle.std.proofs.Math.Option.{Option, none, some, get_or}
use Rattle.blockfile.specs.declared.Refusal.{Refusal}
use Rattle.blockfile.specs.declared.Refusal.TheVariants.{NoKey}
use Rattle.blockfile.specs.Order.{there}
use Rattle.blockfile.specs.Refusals.{short, lowest}
use Rattle.blockfile.specs.Calls.{answered}

-- rows 8 and 9 of the refusal table, for what is sought and the answer buffer's length
abbrev pub answer_rows : Option (List ℕ) → (room : ℕ) → List (Bool × Refusal)
answer_rows o room = (not (there o), NoKey) ∷ short o room ∷ []

-- refused by these rows, and the buffer stays; or none of them holds, and the bytes sought stand at its start
abbrev pub Hands : (o : Option (List ℕ)) (old : List ℕ) → Result ℕ Refusal → (new : List ℕ) → Type 0
Hands o old (Err f) new = (lowest (answer_rows o (length old)) ≡ some f) × (new ≡ old)
Hands o old (Ok n) new =
    (lowest (answer_rows o (length old)) ≡ none) × (n ≡ length (get_or o [])) × (new ≡ answered (get_or o []) old)
