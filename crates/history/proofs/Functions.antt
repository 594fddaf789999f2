-- What the functions' contracts promise is a run; so demand 3 holds of the library.
use Prim.Native.Nat.{ℕ}
use mathlib.Core.Path.{◌≡◌, sym, subst₂}
use mathlib.Core.List.{List, [], ◌∷◌}
use Rattle.blockfile.specs.Calls.{Keeps}
use Rattle.blockfile.specs.History.{Event, Demand3}
use Rattle.laws.proofs.Preserves.{demand-three}
use Rattle.history.specs.Functions.{Made, checked, got, stepped, written, removed, created, NothingAsked}
use Rattle.history.specs.Runs.{History, ContractsRun}

-- no function has a precondition
pub nothing-asked : NothingAsked
nothing-asked = record { check = λ κs a. tt; get = λ κs a. tt; next = λ κs a. tt; put = λ κs a. tt; remove = λ κs a. tt; create = λ κs a. tt }

-- one call of a run
abbrev Step : List ℕ → Event → Type 0
Step img e = Keeps e.op img e.scratch e.buffer e.reply e.image e.scratch_after e.buffer_after

step-as : (img img' : List ℕ) (e e' : Event) → img ≡ img' → e ≡ e' → Step img' e' → Step img e
step-as img img' e e' i q k = subst₂ Step (sym i) (sym q) k

-- a function that was called kept its promise
made-step : (img : List ℕ) (e : Event) → Made img e → Step img e
made-step img e (checked c i q) = step-as img _ e _ i q c.ensures
made-step img e (got c i q) = step-as img _ e _ i q c.ensures
made-step img e (stepped c i q) = step-as img _ e _ i q c.ensures
made-step img e (written c i q) = step-as img _ e _ i q c.ensures
made-step img e (removed c i q) = step-as img _ e _ i q c.ensures
made-step img e (created c i q) = step-as img _ e _ i q c.ensures

pub contracts-run : ContractsRun
unfolding ContractsRun
contracts-run img [] h = tt
contracts-run img (e ∷ es) h = (made-step img e h.0, contracts-run e.image es h.1)

-- demand 3, of the promises
pub demand : Demand3
demand = demand-three

-- and of the functions
pub history : History
unfolding History Demand3 ContractsRun
history img L es w h = demand img L es w (contracts-run img es h)
