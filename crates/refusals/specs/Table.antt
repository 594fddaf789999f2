-- What finding the table of a call promises.
use Rattle.std.specs.Prelude.{ℕ, ◌≤◌, ◌≡◌, List, [], ◌∷◌, ◌++◌, Bool, true, not, ◌||◌, length, Result, Ok, Err}
use Rattle.std.proofs.Math.Option.{none, some}
use Rattle.blockfile.specs.declared.Refusal.{Refusal}
use Rattle.blockfile.specs.declared.Refusal.TheVariants.{NameOrKey, ValueLength, NoTable}
use Rattle.blockfile.specs.Layout.{Table, Layout}
use Rattle.blockfile.specs.Order.{find}
use Rattle.blockfile.specs.WellFormed.{WellFormed}
use Rattle.blockfile.specs.Refusals.{Op, Ledger, ledger_of, bad_name, no_table, rows, lowest}
use Rattle.blockfile.specs.Answers.{refuse}
use Rattle.blockfile.specs.Calls.{length_ok, cleared, Called}

-- rows 4 to 6 of the refusal table, for a call whose key is allowed or not, and whose value is short enough or not
abbrev pub table_rows : Ledger → (name : List ℕ) → (legal short : Bool) → List (Bool × Refusal)
table_rows l n legal short = (bad_name n || not legal, NameOrKey) ∷ (not short, ValueLength) ∷ (no_table l n, NoTable) ∷ []

-- a call whose rows begin so; one with no value has no row 5, and `short` is true
pub record OnTable (op : Op) (name : List ℕ) (legal short : Bool) : Type 0 where
  pub more : Ledger → ℕ → List (Bool × Refusal)
  pub are : (l : Ledger) (room : ℕ) → lowest (rows l op room) ≡ lowest (table_rows l name legal short ++ more l room)

-- the layout has the table with this skip-list page under the name
pub record TableIn (L : Layout) (name : List ℕ) (page : ℕ) : Type 0 where
  pub table : Table
  pub found : find name L.tables ≡ some table
  pub root : table.root ≡ page

-- refused by these rows, or none of them holds and the table is found
abbrev pub NamedIn : Layout → (name : List ℕ) → (legal short : Bool) → Result ℕ Refusal → Type 0
NamedIn L name legal short (Err f) = lowest (table_rows (ledger_of L) name legal short) ≡ some f
NamedIn L name legal short (Ok page) = (lowest (table_rows (ledger_of L) name legal short) ≡ none) × TableIn L name page

pub record NamedTable (img name : List ℕ) (legal short : Bool) (r : Result ℕ Refusal) : Type 0 where
  pub is : (L : Layout) → WellFormed img L → NamedIn L name legal short r

-- the image is well-formed and has the table; the scratch is cleared
pub record Entering (img scratch name : List ℕ) (legal : Bool) (page : ℕ) (out : List ℕ) : Type 0 where
  pub sized : length_ok (length img) ≡ true
  pub enough : length img ≤ length scratch
  pub layout : Layout
  pub well : WellFormed img layout
  pub passed : lowest (table_rows (ledger_of layout) name legal true) ≡ none
  pub there : TableIn layout name page
  pub clear : out ≡ cleared (length img) scratch

-- a refusal is the outcome of every call on a table with no value; else the call goes on
abbrev pub Enters : (img scratch name : List ℕ) (legal : Bool) → Result ℕ Refusal → (out : List ℕ) → Type 0
Enters img scratch name legal (Err f) out = (op : Op) → OnTable op name legal true → (room : ℕ) → Called op img scratch room (refuse f) out
Enters img scratch name legal (Ok page) out = Entering img scratch name legal page out
