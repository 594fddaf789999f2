-- The promise of the public calls, for all inputs.
use Rattle.std.specs.Prelude.{ℕ, ◌/◌, ◌%◌, ◌≤◌, ◌<◌, ◌≡◌, List, ◌++◌, Bool, true, false, ◌&&◌, length, drop, replicate, eqb, Result, Ok, Err}
use Rattle.blockfile.specs.declared.Refusal.{Refusal}
use Rattle.blockfile.specs.declared.Refusal.TheVariants.{ImageLength, ScratchLength, NotWellFormed}
use Rattle.blockfile.specs.declared.Counts.{Counts}
use Rattle.blockfile.specs.Bytes.{apply}
use Rattle.blockfile.specs.Layout.{Layout}
use Rattle.blockfile.specs.Order.{within}
use Rattle.blockfile.specs.WellFormed.{WellFormed, Rejected}
use Rattle.blockfile.specs.Refusals.{Op, Reply, plain, refusal}
use Rattle.blockfile.specs.Answers.{Outcome, refuse, outcome_on}

-- document 01's numbers for each answer of the code
abbrev pub checked_reply : Result Counts Refusal → Reply
checked_reply (Ok c) = record { number = 0; len = 0; pages = c.pages; tables = c.tables; keys = c.keys; free = c.free }
checked_reply (Err f) = refusal f

abbrev pub got_reply : Result ℕ Refusal → Reply
got_reply (Ok n) = plain 0 n
got_reply (Err f) = refusal f

abbrev pub wrote_reply : Result (Unit {0}) Refusal → Reply
wrote_reply (Ok done) = plain 0 0
wrote_reply (Err f) = refusal f

-- image length as above: 1024·P bytes, 4 ≤ P ≤ 4096
unfoldable pub length_ok : ℕ → Bool
length_ok n = within 4 4096 (n / 1024) && eqb (n % 1024) 0

-- the scratch's first 1024·P bytes zero, its other bytes as they were
abbrev pub cleared : ℕ → List ℕ → List ℕ
cleared n scratch = replicate n 0 ++ drop n scratch

-- the bytes handed out stand at the start of the answer buffer, and no more is written
abbrev pub answered : List ℕ → List ℕ → List ℕ
answered bytes buffer = bytes ++ drop (length bytes) buffer

-- rows 1 to 3 of the refusal table, and for an accepted image the outcome on its layout; with the scratch after the call
pub data Called (op : Op) (img scratch : List ℕ) (room : ℕ) (o : Outcome) (scratch' : List ℕ) : Type 0 where
  bad_length : length_ok (length img) ≡ false → o ≡ refuse ImageLength → scratch' ≡ scratch → Called op img scratch room o scratch'
  short_scratch : length_ok (length img) ≡ true → length scratch < length img
      → o ≡ refuse ScratchLength → scratch' ≡ scratch → Called op img scratch room o scratch'
  malformed : length_ok (length img) ≡ true → length img ≤ length scratch → Rejected img
      → o ≡ refuse NotWellFormed → scratch' ≡ cleared (length img) scratch → Called op img scratch room o scratch'
  accepted : length_ok (length img) ≡ true → length img ≤ length scratch → (L : Layout) → WellFormed img L
      → o ≡ outcome_on L op room → scratch' ≡ cleared (length img) scratch → Called op img scratch room o scratch'

-- a call's promise: the numbers of its result and every byte of image, scratch and answer buffer after it. Nothing is left open:
-- an image has at most one layout, so the promise determines them (crate laws, Claims: `OneLayout`, `Determined`)
pub record Keeps (op : Op) (img scratch buffer : List ℕ) (reply : Reply) (img' scratch' buffer' : List ℕ) : Type 0 where
  pub outcome : Outcome
  pub called : Called op img scratch (length buffer) outcome scratch'
  pub result : reply ≡ outcome.reply
  pub image : img' ≡ apply outcome.writes img
  pub answer : buffer' ≡ answered outcome.bytes buffer
