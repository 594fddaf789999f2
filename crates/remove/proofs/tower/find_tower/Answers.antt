-- `remove::tower::find_tower` meets its contract.
use Prim.Native.Nat.{ℕ}
use native.Mathlib.Omega.{arith}
use lib.ListN.{length-replicate}
use Rattle.remove.proofs.Owning.{own-inside, own-low, tower-none, tower-some}
use Rattle.remove.proofs.tower.find_tower.Goals as goal

pub returns-in_default : goal.returns-in_default
returns-in_default c = record { is = λ root t k a. tower-none t k a c.tower_of.ensures c.in_default.is }

pub get-height-requires : goal.get-height-requires
get-height-requires c =
    let p = c.requires in
    own-inside p.reading p.place p.is c.tower_of.ensures _ c.in-Some.is _ _ (omega arith)

pub get_entries-after-requires : goal.get_entries-after-requires
get_entries-after-requires c =
    let p = c.requires in (
      own-inside p.reading p.place p.is c.tower_of.ensures _ c.in-Some.is _ _ (omega arith),
      own-low p.reading p.place p.is c.tower_of.ensures _ c.in-Some.is c.get-height.ensures.is,
    )

pub returns : goal.returns
returns c =
    record { is = λ root t k a. tower-some t k a c.tower_of.ensures _ c.in-Some.is c.get-height.ensures.is (length-replicate {A = ℕ} 252 0) c.get_entries-after.ensures }
