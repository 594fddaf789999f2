-- A new table written whole, on what is held.
use Prim.Native.Nat.{ℕ, suc, ◌+◌}
use native.Mathlib.Omega.{arith}
use mathlib.Core.Path.{◌≡◌, ap, ◌∙◌}
use mathlib.Core.List.{List, [], ◌∷◌, ◌++◌}
use lib.ListN.{length, get_or, drop, drop_of_length-le}
use lib.Seq.{drop-cons}
use lib.Dec.{lit<}
use Rattle.blockfile.specs.Layout.{Table, Block}
use Rattle.blockfile.specs.Order.{KeyRule, Within}
use Rattle.blockfile.specs.WellFormed.{spans_in, towers_in, skip_list_of}
use Rattle.blockfile.specs.Encode.{whole_skip_list}
use Rattle.blockfile.specs.Create.{empty_table, whole_table}
use Rattle.laws.proofs.Opens.{held}
use Rattle.laws.proofs.Encodes.{whole-skip-list}
use Rattle.laws.proofs.TableCreate.{new_ok}
use Rattle.laws.proofs.Spots.{Around, among}
use Rattle.laws.proofs.Inside.{spare-small}
use Rattle.laws.proofs.Turns.{Turns, and_then, whole-spans, whole-towers}
use Rattle.laws.proofs.Fitting.{Short, SmallPages, spans_fit, towers-fit}

-- the three pages behind the first w
pub three : (ps : List ℕ) (w : ℕ) → length ps ≡ w + 3 → drop w ps ≡ get_or ps w 0 ∷ get_or ps (w + 1) 0 ∷ get_or ps (w + 2) 0 ∷ []
three ps w e =
    let a : w + 1 ≡ suc w = omega arith in
    let b : w + 2 ≡ suc (suc w) = omega arith in
    rw (a, b)
    (drop-cons ps w 0 (omega arith)
    ∙ ap (λ (l : List ℕ). get_or ps w 0 ∷ l) (drop-cons ps (suc w) 0 (omega arith))
    ∙ ap (λ (l : List ℕ). get_or ps w 0 ∷ get_or ps (suc w) 0 ∷ l)
    (drop-cons ps (suc (suc w)) 0 (omega arith) ∙ ap (λ (l : List ℕ). get_or ps (suc (suc w)) 0 ∷ l) (drop_of_length-le ps {i = suc (suc (suc w))} (omega arith))))

-- The new table is written to three pages in hand
pub new-turn : {c z : ℕ} (r : KeyRule) → Short r → (o : Around) (bs : List Block) (m a b h : ℕ) → Within 2 128 m
    → Turns c z (whole_table (empty_table m a b h))
    (held (o.skips_before ++ o.skips_after) (o.spans_before ++ o.spans_after) (o.towers_first ++ o.towers_last) bs (a ∷ b ∷ h ∷ []))
    (among o (empty_table m a b h) bs [])
unfolding whole_table
new-turn {c} {z} r short o bs m a b h l =
    record {
      turn = λ img s.
          (all (record { spans = ((spare-small s).1.0, tt); towers = ((spare-small s).1.1.0, tt) })).turn img s;
    }
  where
    n : Table
    n = empty_table m a b h

    all : SmallPages n
        → Turns c z (whole_table n) (held (o.skips_before ++ o.skips_after) (o.spans_before ++ o.spans_after) (o.towers_first ++ o.towers_last) bs (a ∷ b ∷ h ∷ [])) (among o n bs [])
    all sm =
        and_then {ws = whole_skip_list (skip_list_of n)}
        (record {
          turn = λ img s.
              whole-skip-list o.skips_before o.skips_after (skip_list_of n)
              (record { first_small = sm.spans.0; level_small = sm.towers.0; size_small = lit< tt; spans_small = lit< tt; levels_small = lit< tt; span_size_small = omega arith }) s;
        })
        (and_then (whole-spans o.spans_before o.spans_after (spans_in n) (h ∷ []) (spans_fit r short n (new_ok r m a b h l) sm))
        (whole-towers o.towers_first o.towers_last (towers_in n) [] (towers-fit r short n (new_ok r m a b h l) sm)))
