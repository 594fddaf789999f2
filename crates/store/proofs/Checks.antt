-- Check: its counts are those of the image's tables as maps.
use Prim.Native.Nat.{ℕ, ◌+◌}
use mathlib.Core.Path.{◌≡◌, refl, sym, ap, ap₂, ◌∙◌}
use mathlib.Core.List.{List, [], ◌∷◌, map}
use lib.ListN.{length, length-map}
use Rattle.std.specs.Prelude.{Result, Ok}
use Rattle.blockfile.specs.declared.Counts.{Counts}
use Rattle.blockfile.specs.declared.Refusal.{Refusal}
use Rattle.blockfile.specs.Layout.{Keyed, Entry, Table, Layout, entries_of}
use Rattle.blockfile.specs.Refusals.{check, ledger_of, keys_in, refused}
use Rattle.blockfile.specs.Answers.{outcome_on}
use Rattle.blockfile.specs.Calls.{cleared, checked_reply, accepted, Keeps}
use Rattle.verify.specs.Tables.{keys_of}
use Rattle.verify.specs.Image.{counts_of}
use Rattle.laws.proofs.Determined.{determined}
use Rattle.refusals.specs.Open.{Opening}
use Rattle.refusals.proofs.Opens.{ends}

abbrev mapped : Keyed Table → Keyed (List Entry)
mapped n = record { key = n.key; value = entries_of n.value }

keys : (ts : List (Keyed Table)) → keys_of ts ≡ keys_in (map mapped ts)
keys [] = refl
keys (t ∷ ts) = ap (λ (k : ℕ). length (entries_of t.value) + k) (keys ts)

counted : (L : Layout) (room : ℕ) → checked_reply (Ok (counts_of L)) ≡ (outcome_on L check room).reply
unfolding outcome_on refused ledger_of
counted L room =
    ap₂ (λ (t k : ℕ). record { number = 0; len = 0; pages = L.pages; tables = t; keys = k; free = (counts_of L).free })
    (sym (length-map L.tables mapped)) (keys L.tables)

module _ (img s : List ℕ) where
  pub check_done : (c : Counts) (mid out : List ℕ) → Opening img s c mid → out ≡ cleared (length img) mid
      → Keeps check img s [] (checked_reply (Ok c)) img out []
  unfolding outcome_on refused
  check_done c mid out o clear =
      record {
        outcome = outcome_on o.layout check 0;
        called = accepted o.sized o.enough o.layout o.well refl (ends (length img) s mid out o.past clear);
        result = ap (λ (x : Counts). checked_reply (Ok x)) o.counts ∙ counted o.layout 0;
        image = refl;
        answer = refl;
      }

  -- the promise determines the numbers of the answer and every byte of the scratch
  pub check-determined : (r q : Result Counts Refusal) (t u : List ℕ)
      → Keeps check img s [] (checked_reply r) img t [] → Keeps check img s [] (checked_reply q) img u []
      → (checked_reply r ≡ checked_reply q) × (t ≡ u)
  check-determined r q t u k h =
      let d = determined check img s [] (checked_reply r) (checked_reply q) img img t u [] [] k h in
      (d.0, d.2)
