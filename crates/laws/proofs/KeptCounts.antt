-- The count of free pages that the superblock keeps: written last, it is true, and nothing else changes.
use Prim.Native.Nat.{ℕ, ◌+◌}
use native.Mathlib.Omega.{arith}
use mathlib.Core.Path.{◌≡◌, refl}
use mathlib.Core.List.{List, [], ◌++◌}
use lib.Dec.{lit≤}
use Rattle.blockfile.specs.Bytes.{pg, be32, word32, write}
use Rattle.blockfile.specs.Layout.{free_count}
use Rattle.blockfile.specs.WellFormed.{superblock, free_pieces, first_block}
use Rattle.laws.proofs.Numbers.{length-word32}
use Rattle.laws.proofs.Written.{super-kept}
use Rattle.laws.proofs.Pages.{be32-write-same}
use Rattle.laws.proofs.State.{Held, Shows}
use Rattle.laws.proofs.Steps.{edit}
use Rattle.laws.proofs.Opens.{thing_pieces, to-pieces, from_pieces}
use Rattle.laws.proofs.Inside.{free-few}

module _ {p z : ℕ} {img : List ℕ} {h : Held} (s : Shows p z img h) where
  abbrev pub counted : List ℕ
  counted = write img 1 28 (word32 (free_count h.free + 1))

  pub counted-shows : Shows p z counted h
  counted-shows =
      from_pieces p z h.skips h.spans h.towers h.free h.spare counted
      (edit [] (thing_pieces h.skips h.spans h.towers ++ free_pieces h.free) (superblock p (first_block h.free) z) (superblock p (first_block h.free) z) 1 28 []
      (word32 (free_count h.free + 1)) (omega (arith, length-word32 (free_count h.free + 1))) refl refl
      (λ pos there k b. super-kept img 1 pos there (free_count h.free + 1) b)
      (to-pieces p z h.skips h.spans h.towers h.free h.spare img s))

  pub counted-true : be32 (pg counted 1) 28 ≡ free_count h.free + 1
  counted-true = be32-write-same img 1 28 (free_count h.free + 1) (lit≤ tt) (omega (arith, s.size, s.pages.0)) (lit≤ tt) (omega (arith, free-few s))
