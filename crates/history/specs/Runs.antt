-- Claims on lists of calls: demand 3 of the functions, that each list of calls has one run, and what no call of a run answers.
use Rattle.std.specs.Prelude.{ℕ, ◌≤◌, ◌≡◌, ◌≢◌, List, [], ◌∷◌, map, length}
use Rattle.std.proofs.Math.Option.{some}
use Rattle.blockfile.specs.Layout.{Layout}
use Rattle.blockfile.specs.Order.{find}
use Rattle.blockfile.specs.WellFormed.{WellFormed}
use Rattle.blockfile.specs.Refusals.{Op, put, remove, ledger_of, map_of}
use Rattle.blockfile.specs.History.{Event, Run, Remembered}
use Rattle.history.specs.Functions.{Calls}

-- Demand 3, of the library: whatever functions are called one after another, from a well-formed image on, refused calls
-- included, every answer is the ledger's (a done check's F that of its image), 10 comes exactly when it is due, each image is the
-- one that the byte rules give, and the last one is well-formed, each of its pages owned once, with the ledger's tables.
-- The text's `Demand3` is the same of all that keeps the six promises, with or without a function that makes them
unfoldable pub History : Type 0
History = (img : List ℕ) (L : Layout) (es : List Event) → WellFormed img L → Calls img es → Remembered (ledger_of L) img es

-- the functions' contracts are the promises that a run is made of
unfoldable pub ContractsRun : Type 0
ContractsRun = (img : List ℕ) (es : List Event) → Calls img es → Run img es

-- ---- Each list of calls has a run, and one only: `Demand3` is not about nothing, and a run is settled by its calls

-- what a call brings
pub record Call : Type 0 where
  pub op : Op
  pub scratch : List ℕ
  pub buffer : List ℕ

abbrev pub call_of : Event → Call
call_of e = record { op = e.op; scratch = e.scratch; buffer = e.buffer }

-- a run of these calls
pub record RunOf (img : List ℕ) (cs : List Call) : Type 0 where
  pub events : List Event
  pub run : Run img events
  pub calls : map call_of events ≡ cs

-- from any image, well-formed or not
unfoldable pub SomeRun : Type 0
SomeRun = (img : List ℕ) (cs : List Call) → RunOf img cs

unfoldable pub OneRun : Type 0
OneRun = (img : List ℕ) (es fs : List Event) → Run img es → Run img fs → map call_of es ≡ map call_of fs → es ≡ fs

-- ---- What no call of a run answers

-- P holds of each call and the image that it got
abbrev pub Throughout : (P : List ℕ → Event → Type 0) → List ℕ → List Event → Type 0
Throughout P img [] = Unit {0}
Throughout P img (e ∷ es) = P img e × Throughout P e.image es

abbrev pub InEachRun : (List ℕ → Event → Type 0) → Type 0
InEachRun P = (img : List ℕ) (L : Layout) (es : List Event) → WellFormed img L → Run img es → Throughout P img es

-- 1 and 3 never come
abbrev pub NotOneOrThree : List ℕ → Event → Type 0
NotOneOrThree img e = (e.reply.number ≢ 1) × (e.reply.number ≢ 3)

unfoldable pub NeverOneOrThree : Type 0
NeverOneOrThree = InEachRun NotOneOrThree

-- a record no longer than the one under its key is never refused for room
abbrev pub NotForRoom : List ℕ → Event → Type 0
NotForRoom img e =
    (L : Layout) → WellFormed img L → (n k v old : List ℕ) → e.op ≡ put n k v → find k (map_of (ledger_of L) n) ≡ some old → length v ≤ length old
    → e.reply.number ≢ 10

unfoldable pub NeverForRoom : Type 0
NeverForRoom = InEachRun NotForRoom

-- nor is a remove (request T-07)
abbrev pub RemoveNotTen : List ℕ → Event → Type 0
RemoveNotTen img e = (n k : List ℕ) → e.op ≡ remove n k → e.reply.number ≢ 10

unfoldable pub RemoveNeverTen : Type 0
RemoveNeverTen = InEachRun RemoveNotTen
