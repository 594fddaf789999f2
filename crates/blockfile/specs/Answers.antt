-- The outcome of each call on an accepted image.
use Rattle.std.specs.Prelude.{ℕ, List, [], Bool, false, cond, ◌&&◌}
use Rattle.std.proofs.Math.Option.{Option, none, some, map}
use Rattle.blockfile.specs.declared.Refusal.{Refusal}
use Rattle.blockfile.specs.declared.Refusal.TheVariants.{NoRoom}
use Rattle.blockfile.specs.Bytes.{Write}
use Rattle.blockfile.specs.Layout.{Table, Layout, free_count}
use Rattle.blockfile.specs.Order.{find}
use Rattle.blockfile.specs.Plan.{Plan, lacks, writes_of}
use Rattle.blockfile.specs.Put.{put_plan}
use Rattle.blockfile.specs.Remove.{remove_plan}
use Rattle.blockfile.specs.Create.{create_plan}
use Rattle.blockfile.specs.Refusals.{Op, check, get, put, remove, next, create, Reply, refusal, ledger_of, refused, may_lack, handed, done_reply}

-- the numbers of the result, the bytes handed out, and what is written on the image
pub record Outcome : Type 0 where
  pub reply : Reply
  pub bytes : List ℕ
  pub writes : List Write

-- image and answer buffer stay
abbrev pub refuse : Refusal → Outcome
refuse f = record { reply = refusal f; bytes = []; writes = [] }

-- what is done on the table of this name, if there is one
unfoldable pub on_table : Layout → (name : List ℕ) → (Table → Plan) → Option Plan
on_table L name f = map f (find name L.tables)

-- what put, remove and create do
abbrev pub plan_of : Layout → Op → Option Plan
plan_of L check = none
plan_of L (get n k) = none
plan_of L (put n k v) = on_table L n (λ t. put_plan L n t k v)
plan_of L (remove n k) = on_table L n (λ t. remove_plan L n t k)
plan_of L (next n k) = none
plan_of L (create n) = some (create_plan L n)

-- what is done, if anything, wants more pages than there are
abbrev pub lacking : Layout → Option Plan → Bool
lacking L none = false
lacking L (some p) = lacks L p

-- row 10 of the refusal table
abbrev pub no_room : Layout → Op → Bool
no_room L op = may_lack op && lacking L (plan_of L op)

abbrev pub planned : Layout → Option Plan → List Write
planned L none = []
planned L (some p) = writes_of L p

abbrev pub outcome_if : Layout → Op → Option Refusal → Outcome
outcome_if L op (some f) = refuse f
outcome_if L op none =
    cond (no_room L op) (refuse NoRoom)
    (record { reply = done_reply (ledger_of L) (free_count L.free) op; bytes = handed (ledger_of L) op; writes = planned L (plan_of L op) })

-- the lowest row that holds, else what is done; room is the answer buffer's length
unfoldable pub outcome_on : Layout → Op → (room : ℕ) → Outcome
outcome_on L op room = outcome_if L op (refused (ledger_of L) op room)
