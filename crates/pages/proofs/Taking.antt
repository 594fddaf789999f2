-- What the code of taking and giving back reads and writes is what the text says, for every free list that the bytes show.
use Prim.Native.Nat.{ℕ, ◌+◌, ◌*◌, ◌-◌, ◌≤◌, ◌<◌}
use native.Mathlib.Omega.{arith}
use mathlib.Core.List.{List, [], ◌∷◌, ◌++◌}
use mathlib.Core.Path.{◌≡◌, refl, ap, sym, ◌∙◌}
use Rattle.blockfile.specs.Bytes.{pg, be32, word32, write, apply, Write, on}
use Rattle.blockfile.specs.Marks.{block_mark}
use Rattle.blockfile.specs.Layout.{Block}
use Rattle.blockfile.specs.WellFormed.{first_block}
use Rattle.blockfile.specs.Free.{take_page}
use Rattle.laws.specs.FreeList.{FreeList}
use Rattle.laws.proofs.Numbers.{length-word32}
use Rattle.laws.proofs.Pages.{write-append}
use Rattle.laws.proofs.FreeRead.{Ranged, first-in, first_some, count-few, Takes, take-block, take-listed, taken_in, list_writes, block_writes, give-listed, give-full, give-empty}
use Rattle.pages.specs.Places.{Inside}
use Rattle.pages.specs.Taking.{Takeable, Took, Gave}

pub take-first : {img : List ℕ} → Takeable img → 1 ≤ be32 (pg img 1) 16
take-first t = omega (arith, first_some t.free t.shown t.some, t.shown.first)

module _ {img : List ℕ} (bs : List Block) (h : FreeList img bs) (f : ℕ) (first : f ≡ be32 (pg img 1) 16) (some : 1 ≤ f) where
  is-first : f ≡ first_block bs
  is-first = first ∙ h.first

  pub first-inside : (o w : ℕ) → o + w ≤ 1024 → Inside img f o w
  first-inside o w l =
      let r : Ranged img (first_block bs) = first-in bs h (omega (arith, is-first)) in
      record { small = omega (arith, h.size, h.range); low = some; high = omega (arith, is-first, r.high); fits = l }

  pub count_most : (c : ℕ) → c ≡ be32 (pg img f) 12 → c ≤ 252
  count_most c e = count-few (pg img) f c some e bs is-first h.bears h.few

-- one write, of the page taken
took : {img : List ℕ} (r : ℕ) (w : Write) (out : List ℕ) → Takeable img → ((bs : List Block) → FreeList img bs → Takes (take_page bs) r w)
    → out ≡ apply (w ∷ []) img → Took img r out
took {img} r w out t k e =
    let i : Ranged img r = taken_in t.free t.shown r (k t.free t.shown).page in
    record {
      low = i.low;
      high = i.high;
      page = λ bs h. sym (k bs h).page;
      image = λ bs h. e ∙ ap (λ (ws : List Write). apply ws img) (sym (k bs h).write);
    }

module _ {img : List ℕ} (t : Takeable img) (f c : ℕ) (first : f ≡ be32 (pg img 1) 16) (count : c ≡ be32 (pg img f) 12) (out : List ℕ) where
  some : 1 ≤ f
  some = omega (arith, take-first t)

  pub took-block : (n : ℕ) → c ≡ 0 → n ≡ be32 (pg img f) 8 → out ≡ write img 1 16 (word32 n) → Took img f out
  took-block n z e o =
      took f (on 1 16 (word32 (be32 (pg img f) 8))) out t (λ bs h. take-block (pg img) f c some count bs (first ∙ h.first) h.bears z)
      (o ∙ ap (λ (v : ℕ). write img 1 16 (word32 v)) e)

  pub took-listed : (r : ℕ) → 1 ≤ c → r ≡ be32 (pg img f) (12 + 4 * c) → out ≡ write img f 12 (word32 (c - 1)) → Took img r out
  took-listed r z e o =
      took r (on f 12 (word32 (c - 1))) out t
      (λ bs h. rw e (take-listed (pg img) f c some count bs (first ∙ h.first) h.bears z)) o

module _ {img : List ℕ} (x f : ℕ) (first : f ≡ be32 (pg img 1) 16) (out : List ℕ) where
  pub gave-empty : f ≡ 0 → out ≡ apply (block_writes x f) img → Gave img x out
  gave-empty z o bs h = o ∙ rw z (ap (λ (ws : List Write). apply ws img) (sym (give-empty x bs h (sym h.first ∙ sym first ∙ z))))

  module _ (c : ℕ) (count : c ≡ be32 (pg img f) 12) (some : 1 ≤ f) where
    pub gave-listed : c < 252 → out ≡ apply (list_writes x f c) img → Gave img x out
    gave-listed l o bs h = o ∙ ap (λ (ws : List Write). apply ws img) (sym (give-listed (pg img) f c some count x bs (first ∙ h.first) h.bears l))

    pub gave-full : 252 ≤ c → out ≡ apply (block_writes x f) img → Gave img x out
    gave-full l o bs h = o ∙ ap (λ (ws : List Write). apply ws img) (sym (give-full (pg img) f c some count x bs (first ∙ h.first) h.bears l))

-- the mark and the two numbers of a new block are one write
pub block-write : (img : List ℕ) (x f : ℕ)
    → write (write (write (write img x 0 block_mark) x 8 (word32 f)) x 12 (word32 0)) 1 16 (word32 x) ≡ apply (block_writes x f) img
unfolding block_mark
block-write img x f =
    rw (write-append (write img x 0 block_mark) x 8 12 (word32 f) (word32 0) (omega (arith, length-word32 f)), write-append img x 0 8 block_mark (word32 f ++ word32 0) refl)
