-- Pages taken from the free list, one after another.
use Prim.Native.Nat.{ℕ, suc, ◌+◌, ◌*◌, ◌-◌, ◌<◌, ◌≤◌}
use native.Mathlib.Omega.{arith}
use mathlib.Core.Path.{◌≡◌, refl, ap, sym, ◌∙◌}
use mathlib.Core.List.{List, [], ◌∷◌, ◌++◌}
use lib.ListN.{length}
use lib.Seq.{sets, length-sets}
use Rattle.blockfile.specs.Bytes.{word32, apply}
use Rattle.blockfile.specs.Layout.{Block, free_count}
use Rattle.blockfile.specs.WellFormed.{Piece}
use Rattle.blockfile.specs.Free.{Drawn, take_page, take_many}
use Rattle.laws.proofs.Writes.{apply-append, length-apply}
use Rattle.laws.proofs.Steps.{Holds}
use Rattle.laws.proofs.Opens.{all_pieces}
use Rattle.laws.proofs.Draws.{Few, Draws, take-one, few-taken, left-taken}
use Rattle.pages.specs.Taking.{Takeable, Took}
use Rattle.draw.specs.Hands.{InHand, Stocked, stored}
use Rattle.draw.proofs.Hands.{shown}
use Rattle.draw.proofs.Listings.{stored-append, stored_one}

-- ---- One page taken

-- n pages are left to be taken, and their numbers to be stored from index i on, which makes image and list up to the goals
pub record Left (goal goals img numbers : List ℕ) (i n : ℕ) : Type 0 where
  pub stock : Stocked img n
  pub same : apply (take_many n stock.hand.free).writes img ≡ goal
  pub listed : stored numbers i (take_many n stock.hand.free).pages ≡ goals

pub takeable : {img : List ℕ} (n : ℕ) → 1 ≤ n → Stocked img n → Takeable img
takeable n l s = record { free = s.hand.free; shown = shown s.hand; some = omega (arith, s.enough) }

-- the free list is not empty: what holds after a page was taken
taken : (p z : ℕ) (things : List Piece) (img sp : List ℕ) (bs : List Block) → Few bs → 1 ≤ free_count bs → Holds p img (all_pieces p z things bs) sp
    → Draws p z img things (take_page bs) ((take_page bs).pages ++ sp)
unfolding free_count
taken p z things img sp [] f l h = absurd (omega arith)
taken p z things img sp (b ∷ bs) f l h = take-one p z things img sp b bs f h

module _ {img : List ℕ} (n : ℕ) (s : Stocked img (suc n)) where
  some : 1 ≤ free_count s.hand.free
  some = omega (arith, s.enough)

  take_next : Stocked (apply (take_page s.hand.free).writes img) n
  take_next =
      let h : InHand img [] = s.hand in
      record {
        hand = record {
          pages = h.pages;
          span_size = h.span_size;
          things = h.things;
          free = (take_page h.free).free;
          spare = (take_page h.free).pages ++ h.spare;
          holds = taken h.pages h.span_size h.things img h.spare h.free h.few some h.holds;
          few = few-taken 1 h.free h.few;
        };
        enough = omega (arith, left-taken 1 h.free some, s.enough);
      }

  take-turn : (goal goals numbers : List ℕ) (i r : ℕ) → r ∷ [] ≡ (take_page s.hand.free).pages
      → apply (take_many (suc n) s.hand.free).writes img ≡ goal → stored numbers i (take_many (suc n) s.hand.free).pages ≡ goals
      → Left goal goals (apply (take_page s.hand.free).writes img) (sets numbers (4 * i) (word32 r)) (i + 1) n
  unfolding take_next
  take-turn goal goals numbers i r e g gs =
      let d : Drawn = take_page s.hand.free in
      let more : Drawn = take_many n d.free in
      record {
        stock = take_next;
        same = sym (apply-append d.writes more.writes img) ∙ g;
        listed = ap (λ (l : List ℕ). stored l (i + 1) more.pages) (stored_one numbers i r) ∙ sym (stored-append numbers i (r ∷ []) more.pages)
            ∙ ap (λ (l : List ℕ). stored numbers i (l ++ more.pages)) e ∙ gs;
      }

-- ---- The loop

pub record Taking (img₀ : List ℕ) (count : ℕ) (numbers₀ : List ℕ) (at : ℕ) (img numbers : List ℕ) (i : ℕ) : Type 0 where
  pub size : length img ≡ length img₀
  pub long : length numbers ≡ length numbers₀
  pub left : (s : Stocked img₀ count)
      → Left (apply (take_many count s.hand.free).writes img₀) (stored numbers₀ at (take_many count s.hand.free).pages) img numbers (at + i) (count - i)

module _ (img₀ : List ℕ) (count : ℕ) (numbers₀ : List ℕ) (at : ℕ) where
  pub taking-start : Taking img₀ count numbers₀ at img₀ numbers₀ 0
  taking-start =
      let o : at + 0 ≡ at = omega arith in
      let n : count - 0 ≡ count = omega arith in
      record { size = refl; long = refl; left = λ s. rw (o, n) (record { stock = s; same = refl; listed = refl }) }

  module _ (img numbers : List ℕ) (i : ℕ) (v : Taking img₀ count numbers₀ at img numbers i) where
    pub taking-next : Stocked img₀ count → i < count → (r : ℕ) (img' : List ℕ) → Took img r img' → (numbers' : List ℕ) → numbers' ≡ sets numbers (4 * (at + i)) (word32 r)
        → Taking img₀ count numbers₀ at img' numbers' (i + 1)
    taking-next s₀ l r img' t numbers' e =
        record {
          size = ap length (t.image (v.left s₀).stock.hand.free (shown (v.left s₀).stock.hand)) ∙ length-apply (take_page (v.left s₀).stock.hand.free).writes img ∙ v.size;
          long = ap length e ∙ length-sets numbers (4 * (at + i)) (word32 r) ∙ v.long;
          left = λ s. turn (v.left s);
        }
      where
        turn : {goal goals : List ℕ} → Left goal goals img numbers (at + i) (count - i) → Left goal goals img' numbers' (at + (i + 1)) (count - (i + 1))
        turn {goal} {goals} k =
            let q : count - i ≡ suc (count - (i + 1)) = omega arith in
            let o : at + (i + 1) ≡ at + i + 1 = omega arith in
            let k' : Left goal goals img numbers (at + i) (suc (count - (i + 1))) = rw q at k in
            let h : InHand img [] = k'.stock.hand in
            rw (o, e, t.image h.free (shown h))
            (take-turn (count - (i + 1)) k'.stock goal goals numbers (at + i) r (t.page h.free (shown h)) k'.same k'.listed)
