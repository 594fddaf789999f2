-- What opening an image promises to the calls.
use Rattle.std.specs.Prelude.{ℕ, ◌≤◌, ◌≡◌, List, true, length, drop, Result, Ok, Err}
use Rattle.blockfile.specs.declared.Counts.{Counts}
use Rattle.blockfile.specs.declared.Refusal.{Refusal}
use Rattle.blockfile.specs.Layout.{Layout}
use Rattle.blockfile.specs.WellFormed.{WellFormed}
use Rattle.blockfile.specs.Refusals.{Op}
use Rattle.blockfile.specs.Answers.{refuse}
use Rattle.blockfile.specs.Calls.{length_ok, Called}
use Rattle.verify.specs.Image.{counts_of}

-- the image is well-formed and has these counts; the scratch is that long, and past the image's length it is as it was
pub record Opening (img scratch : List ℕ) (c : Counts) (out : List ℕ) : Type 0 where
  pub sized : length_ok (length img) ≡ true
  pub enough : length img ≤ length scratch
  pub layout : Layout
  pub well : WellFormed img layout
  pub counts : c ≡ counts_of layout
  pub long : length out ≡ length scratch
  pub past : drop (length img) out ≡ drop (length img) scratch

-- a refusal is the outcome of every call; else the call goes on
abbrev pub Opens : (img scratch : List ℕ) → Result Counts Refusal → (out : List ℕ) → Type 0
Opens img scratch (Err f) out = (op : Op) (room : ℕ) → Called op img scratch room (refuse f) out
Opens img scratch (Ok c) out = Opening img scratch c out
