-- What the calls that write ask for on an accepted image, and what they leave of it.
use Rattle.std.specs.Prelude.{ℕ, ◌≤◌, ◌≡◌, List, [], ◌∷◌, length, Option, Some, None, Result, Ok, Err}
use Rattle.blockfile.specs.declared.Refusal.{Refusal}
use Rattle.blockfile.specs.Bytes.{Write, apply}
use Rattle.blockfile.specs.Layout.{Layout, free_count}
use Rattle.blockfile.specs.WellFormed.{WellFormed}
use Rattle.blockfile.specs.Plan.{kept_on}
use Rattle.blockfile.specs.Refusals.{Op}
use Rattle.blockfile.specs.Answers.{outcome_on}
use Rattle.blockfile.specs.Calls.{wrote_reply}
use Rattle.pages.specs.Places.{Inside}

-- the image is well-formed and has this number of free pages; the scratch is as long as it
pub record Lending (img scratch : List ℕ) (free : ℕ) : Type 0 where
  pub layout : Layout
  pub well : WellFormed img layout
  pub pages : free_count layout.free ≡ free
  pub long : length scratch ≡ length img

-- the answer is that of the call's outcome on the image's layout, and the image after has the outcome's writes
pub record Changed (op : Op) (img : List ℕ) (r : Result (Unit {0}) Refusal) (out : List ℕ) : Type 0 where
  pub layout : Layout
  pub well : WellFormed img layout
  pub writes : List Write
  pub outcome : outcome_on layout op 0 ≡ record { reply = wrote_reply r; bytes = []; writes = writes }
  pub image : out ≡ apply writes img

-- ---- How a call ends whose change was tried

-- page 1 is there, and no more pages are left than an image has
pub record Settleable (img : List ℕ) (a : Option ℕ) : Type 0 where
  pub inside : Inside img 1 28 4
  pub few : (n : ℕ) → a ≡ Some n → n ≤ 4096

-- where nothing was changed the call is refused; else it is done, and the count of the pages that are left is kept
abbrev pub Settled : (img : List ℕ) → Option ℕ → Refusal → Result (Unit {0}) Refusal → (out : List ℕ) → Type 0
Settled img None f r out = (r ≡ Err f) × (out ≡ img)
Settled img (Some n) f r out = (r ≡ Ok tt) × (out ≡ apply (kept_on n ∷ []) img)
