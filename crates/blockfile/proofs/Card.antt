-- Document 01's 8-page image, and create "lens" on it.
use Prim.Native.Nat.{ℕ, zero, suc, ◌+◌, ◌*◌, ◌-◌}
use native.Mathlib.Omega.{arith}
use mathlib.Core.Path.{◌≡◌, refl, ap, sym, ◌∙◌, subst}
use mathlib.Core.List.{List, [], ◌∷◌, ◌++◌}
use mathlib.Core.Bool.{Bool, true, ◌&&◌}
use lib.ListN.{length}
use lib.Dec.{T, leb, leb→le}
use lib.Seq.{sets, sets-eq, length-sets}
use Rattle.blockfile.specs.Bytes.{pg, be16, be32, be64, word16, word32, write, Write, on, apply}
use Rattle.blockfile.specs.Marks.{super_mark, skip_mark, tower_mark, span_mark, cont_mark, block_mark, free_mark}
use Rattle.blockfile.specs.Layout.{Layout, lens_start, entry_end, reached, free_count}
use Rattle.blockfile.specs.Order.{name_rule, key_rule}
use Rattle.blockfile.specs.WellFormed.{WellFormed}
use Rattle.blockfile.specs.Free.{draw}
use Rattle.blockfile.specs.Encode.{whole_span, whole_tower, whole_skip_list, counts}
use Rattle.blockfile.specs.Plan.{layout_after, changes_of, writes_of, lacks}
use Rattle.blockfile.specs.Put.{parts, target, span_at, wanted_by, share, table_after, relink, rewriting, rewrite}
use Rattle.blockfile.specs.Create.{create_plan, whole_table}
use Rattle.blockfile.specs.Refusals.{check, create, plain, ledger_of, refused}
use Rattle.blockfile.specs.Answers.{outcome_on}
use Rattle.blockfile.proofs.Bools.{and_both}
use Rattle.blockfile.proofs.Tested.{tested}
use Rattle.blockfile.proofs.Samples.{overlay, page, super_page, skip_page, tower_page, span_page, block_page, free_page, entry_bytes, span_of, tower_of, table_of, block_of, lens}

-- ---- An empty metaindex on pages 2 to 4, and page 5 a free-list block listing 6, 7, 8

abbrev image : List ℕ
image =
    super_page 8 5 0 32
    ++ skip_page 3 4 0 1 1 32
    ++ span_page 0 0 0 32 0 []
    ++ tower_page 12 0 3 []
    ++ block_page 0 (6 ∷ 7 ∷ 8 ∷ [])
    ++ free_page
    ++ free_page
    ++ free_page

abbrev layout : Layout
layout =
    record {
      pages = 8;
      span_size = 32;
      meta = table_of 2 32 (span_of 3 [] []) (tower_of 4 12 0) [];
      tables = [];
      free = block_of 5 (6 ∷ 7 ∷ 8 ∷ []) ∷ [];
    }

well : WellFormed image layout
unfolding super_mark skip_mark tower_mark span_mark cont_mark block_mark free_mark word32 word16 pg be32 be16 be64 reached
well = tested image layout tt

-- ---- Create "lens": skip list 8, span 7, tower 6

abbrev layout_with_lens : Layout
layout_with_lens =
    record {
      pages = 8;
      span_size = 32;
      meta = table_of 2 32 (span_of 3 [] (record { key = lens; value = word32 8 } ∷ [])) (tower_of 4 12 0) [];
      tables = record { key = lens; value = table_of 8 32 (span_of 7 [] []) (tower_of 6 12 0) [] } ∷ [];
      free = block_of 5 [] ∷ [];
    }

created : layout_after layout (create_plan layout lens) ≡ layout_with_lens
unfolding layout_after create_plan target span_at parts wanted_by share reached lens_start entry_end draw rewrite table_after name_rule word32
created = refl

-- what is written: three pages taken, the metaindex's span and counts, the new table's three pages
abbrev lens_writes : List Write
lens_writes =
    on 5 12 (word32 2)
    ∷ on 5 12 (word32 1)
    ∷ on 5 12 (word32 0)
    ∷ on 3 0 (span_page 0 0 0 32 1 (entry_bytes lens (word32 8)))
    ∷ on 2 16 (word32 1 ++ word32 1 ++ word32 1)
    ∷ on 8 0 (skip_page 7 6 0 1 1 32)
    ∷ on 7 0 (span_page 0 0 0 32 0 [])
    ∷ on 6 0 (tower_page 12 0 7 [])
    ∷ on 1 28 (word32 2)
    ∷ []

written : writes_of layout (create_plan layout lens) ≡ lens_writes
unfolding writes_of changes_of free_count create_plan target span_at parts wanted_by share reached lens_start entry_end draw rewrite table_after rewriting relink whole_table name_rule whole_span whole_tower whole_skip_list counts word32 word16 skip_mark tower_mark span_mark cont_mark
written = refl

-- writes in range, by parts of the image
abbrev start : Write → ℕ
start w = 1024 * (w.page - 1) + w.offset

abbrev in_range : ℕ → Write → Bool
in_range n w = leb 1 w.page && leb (start w + length w.bytes) n

abbrev fits : ℕ → List Write → Bool
fits n [] = true
fits n (w ∷ ws) = in_range n w && fits n ws

abbrev quick : List Write → List ℕ → List ℕ
quick [] img = img
quick (w ∷ ws) img = quick ws (overlay (start w) w.bytes img)

overlaid : (p o : ℕ) (bs img : List ℕ) → T (leb 1 p && leb (1024 * (p - 1) + o + length bs) (length img))
    → write img p o bs ≡ overlay (1024 * (p - 1) + o) bs img
unfolding write
overlaid zero o bs img h = absurd h
overlaid (suc k) o bs img h = go (suc k - 1) (omega arith) (and_both (leb 1 (suc k)) _ h).1
  where
    go : (j : ℕ) → j ≡ k → T (leb (1024 * j + o + length bs) (length img)) → sets img (1024 * k + o) bs ≡ overlay (1024 * j + o) bs img
    go j e x = subst (λ (i : ℕ). sets img (1024 * i + o) bs ≡ overlay (1024 * j + o) bs img) e (sets-eq bs img (1024 * j + o) (leb→le _ _ x))

long : (p o : ℕ) (bs img : List ℕ) → length (write img p o bs) ≡ length img
unfolding write
long zero o bs img = refl
long (suc k) o bs img = length-sets img (1024 * k + o) bs

quickly : (ws : List Write) (img : List ℕ) → T (fits (length img) ws) → apply ws img ≡ quick ws img
quickly [] img h = refl
quickly (w ∷ ws) img h =
    let e : write img w.page w.offset w.bytes ≡ overlay (start w) w.bytes img
    = overlaid w.page w.offset w.bytes img (and_both (in_range (length img) w) _ h).0 in
    ap (apply ws) e
    ∙ quickly ws (overlay (start w) w.bytes img)
    (subst (λ (n : ℕ). T (fits n ws)) (sym (ap length (sym e) ∙ long w.page w.offset w.bytes img)) (and_both (in_range (length img) w) _ h).1)

-- all 8,192 bytes after it
abbrev image_with_lens : List ℕ
image_with_lens =
    overlay 28 (word32 2) (super_page 8 5 0 32)
    ++ skip_page 3 4 1 1 1 32
    ++ span_page 0 0 0 32 1 (entry_bytes lens (word32 8))
    ++ tower_page 12 0 3 []
    ++ page (block_mark ++ word32 0 ++ word32 0 ++ word32 6 ++ word32 7 ++ word32 8)
    ++ tower_page 12 0 7 []
    ++ span_page 0 0 0 32 0 []
    ++ skip_page 7 6 0 1 1 32

bytes : apply (writes_of layout (create_plan layout lens)) image ≡ image_with_lens
unfolding super_mark skip_mark tower_mark span_mark block_mark free_mark word32 word16
bytes = ap (λ (ws : List Write). apply ws image) written ∙ quickly lens_writes image tt ∙ refl

well_with_lens : WellFormed image_with_lens layout_with_lens
unfolding super_mark skip_mark tower_mark span_mark cont_mark block_mark free_mark word32 word16 pg be32 be16 be64 free_count reached lens_start entry_end name_rule key_rule
well_with_lens = tested image_with_lens layout_with_lens tt

-- ---- What the calls answer: pages 8 tables 0 keys 0 free 4, then done, then pages 8 tables 1 keys 0 free 1

checks : (outcome_on layout check 0).reply ≡ record { number = 0; len = 0; pages = 8; tables = 0; keys = 0; free = 4 }
unfolding outcome_on ledger_of refused free_count
checks = refl

creates : outcome_on layout (create lens) 0 ≡ record { reply = plain 0 0; bytes = []; writes = writes_of layout (create_plan layout lens) }
unfolding outcome_on ledger_of refused free_count lacks create_plan target span_at parts wanted_by reached lens_start entry_end name_rule word32
creates = refl

checks_with_lens : (outcome_on layout_with_lens check 0).reply ≡ record { number = 0; len = 0; pages = 8; tables = 1; keys = 0; free = 1 }
unfolding outcome_on ledger_of refused free_count
checks_with_lens = refl
