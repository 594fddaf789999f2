-- The pages of a new table, and what is written on them.
use Prim.Native.Nat.{ℕ, ◌≤◌}
use native.Mathlib.Omega.{arith}
use mathlib.Core.Path.{◌≡◌, refl, ap, sym, ◌∙◌}
use mathlib.Core.List.{List, [], ◌++◌, append-nil}
use lib.ListN.{length, take, drop, replicate}
use lib.Seq.{sets}
use Rattle.blockfile.specs.Bytes.{Write, word16, word32, write, apply, gather, padded}
use Rattle.blockfile.specs.Marks.{span_mark}
use Rattle.blockfile.specs.WellFormed.{skip_list_of, spans_in, towers_in}
use Rattle.blockfile.specs.Encode.{whole_span, whole_tower, whole_skip_list}
use Rattle.blockfile.specs.Create.{empty_table, whole_table}
use Rattle.laws.proofs.Writes.{apply-append}
use Rattle.pages.specs.Places.{Inside}
use Rattle.pages.specs.Taking.{TakenAfter}
use Rattle.links.specs.Links.{tower_as, skip_list_as}
use Rattle.links.proofs.Relinked.{new-head}
use Rattle.edit.specs.Staged.{header}
use Rattle.create.specs.declared.table.NewTable.{NewTable}
use Rattle.create.specs.Tables.{TableFor, TableReady, empty_span}

-- a page that was free, in an image as long
taken-inside : {img : List ℕ} {j n : ℕ} → TakenAfter img j n → (out : List ℕ) → length out ≡ length img → length img ≤ 4194304 → Inside out n 0 1024
taken-inside t out e small = record { small = omega arith; low = omega (arith, t.low); high = omega (arith, t.high); fits = omega arith }

pub table-ready : {img : List ℕ} {j : ℕ} {x : NewTable} → TableFor img j x → (out : List ℕ) → length out ≡ length img → length img ≤ 4194304 → TableReady out x
table-ready t out e small =
    record { root = taken-inside t.root out e small; span = taken-inside t.span out e small; head = taken-inside t.head out e small; few = t.few }

-- ---- Written

-- the stream of a span without entries is its header
pub empty-written : (img : List ℕ) (page most : ℕ)
    → write img page 0 (span_mark ++ (word32 0 ++ padded 1016 (take 1016 (drop 0 (sets (replicate 12 0) 0 (header 0 0 most 0))))))
    ≡ apply (whole_span (empty_span page most)) img
unfolding whole_span word16 word32
empty-written img page most = refl

pub table-written : (img : List ℕ) (x : NewTable) (a b out : List ℕ) → a ≡ apply (whole_skip_list (skip_list_as (record { page = x.root; first = x.span; head = x.head; counts = record { size = 0; spans = 1; levels = 1 }; span_size = x.most }))) img
    → b ≡ apply (whole_span (empty_span x.span x.most)) a → out ≡ apply (whole_tower (tower_as x.head 12 0 x.span [])) b
    → out ≡ apply (whole_table (empty_table x.most x.root x.span x.head)) img
unfolding whole_table
table-written img x a b out e f g =
    g
    ∙ ap (λ (ws : List Write). apply ws b) (sym (new-head x.most x.root x.span x.head))
    ∙ ap (apply tower)
    (f ∙ ap (λ (ws : List Write). apply ws a) (sym (append-nil (whole_span (empty_span x.span x.most)))) ∙ ap (apply span) e)
    ∙ sym (apply-append skip (span ++ tower) img ∙ apply-append span tower (apply skip img))
  where
    skip : List Write
    skip = whole_skip_list (skip_list_of (empty_table x.most x.root x.span x.head))

    span : List Write
    span = gather whole_span (spans_in (empty_table x.most x.root x.span x.head))

    tower : List Write
    tower = gather whole_tower (towers_in (empty_table x.most x.root x.span x.head))
