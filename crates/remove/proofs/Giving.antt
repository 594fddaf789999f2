-- The ways through `give_gone`: pages in hand are given back, one after another.
use Prim.Native.Nat.{ℕ, ◌+◌, ◌*◌, ◌≤◌}
use native.Mathlib.Omega.{arith}
use mathlib.Core.Path.{◌≡◌, refl, ap, sym, ◌∙◌, subst}
use mathlib.Core.List.{List, [], ◌∷◌, ◌++◌, append_assoc, append-nil}
use lib.ListN.{length}
use Rattle.std.specs.Prelude.{Option, Some, None, option_to_list}
use Rattle.blockfile.specs.Bytes.{Write, apply}
use Rattle.blockfile.specs.Layout.{Block}
use Rattle.blockfile.specs.Free.{give_page, give_many}
use Rattle.blockfile.proofs.Every.{every-right}
use Rattle.laws.specs.FreeList.{FreeList}
use Rattle.laws.proofs.Writes.{apply-append, length-apply}
use Rattle.laws.proofs.Steps.{Holds}
use Rattle.laws.proofs.Opens.{all_pieces}
use Rattle.laws.proofs.Draws.{give-many, few-given}
use Rattle.pages.specs.Taking.{Giveable, Gave}
use Rattle.entries.specs.Places.{IsPage}
use Rattle.draw.specs.Hands.{InHand, Chained, GaveChain}
use Rattle.draw.specs.Writing.{PageOf}
use Rattle.draw.proofs.Hands.{shown, hand-pages, hand-few}
use Rattle.remove.specs.Gone.{SpanInHand, GaveGone}

-- pages given back in two steps
pub give-append : (xs ys : List ℕ) (bs : List Block) → (give_many (xs ++ ys) bs).writes ≡ (give_many xs bs).writes ++ (give_many ys (give_many xs bs).free).writes
give-append [] ys bs = refl
give-append (x ∷ xs) ys bs =
    ap (λ (l : List Write). (give_page x bs).writes ++ l) (give-append xs ys (give_page x bs).free)
    ∙ sym (append_assoc (give_page x bs).writes (give_many xs (give_page x bs).free).writes (give_many ys (give_many (x ∷ xs) bs).free).writes)

-- one more page
give-more : (img : List ℕ) (xs : List ℕ) (y : ℕ) (bs : List Block) {mid out : List ℕ} → mid ≡ apply (give_many xs bs).writes img
    → out ≡ apply (give_page y (give_many xs bs).free).writes mid → out ≡ apply (give_many (xs ++ (y ∷ [])) bs).writes img
give-more img xs y bs {mid} {out} e f =
    f ∙ ap (apply (give_page y (give_many xs bs).free).writes) e ∙ sym (apply-append (give_many xs bs).writes (give_page y (give_many xs bs).free).writes img)
    ∙ ap (λ (l : List Write). apply ((give_many xs bs).writes ++ l) img) (sym (append-nil (give_page y (give_many xs bs).free).writes))
    ∙ ap (λ (l : List Write). apply l img) (sym (give-append xs (y ∷ []) bs))

-- once all pages in hand are given back, the image shows the free list with them
all-given : {img : List ℕ} (xs : List ℕ) (h : InHand img xs) → FreeList (apply (give_many xs h.free).writes img) (give_many xs h.free).free
all-given {img} xs h = shown {old = []} (record {
  pages = h.pages;
  span_size = h.span_size;
  things = h.things;
  free = (give_many xs h.free).free;
  spare = h.spare;
  holds = give-many h.pages h.span_size h.things xs img h.spare h.free h.holds;
  few = few-given xs h.free h.few;
})

module _ {img : List ℕ} {start page : ℕ} (h : SpanInHand img start page) where
  abbrev bs : List Block
  bs = h.hand.free

  -- the continuation pages are in hand
  pub chained : Chained img start
  chained =
      record {
        old = h.conts;
        hand = record {
          pages = h.hand.pages;
          span_size = h.hand.span_size;
          things = h.hand.things;
          free = bs;
          spare = page ∷ h.hand.spare;
          holds = subst (Holds h.hand.pages img (all_pieces h.hand.pages h.hand.span_size h.hand.things bs)) (append_assoc h.conts (page ∷ []) h.hand.spare) h.hand.holds;
          few = h.hand.few;
        };
        first = h.first;
        linked = h.linked;
      }

  module _ {n : ℕ} {out1 : List ℕ} (g : GaveChain img start n out1) where
    conts-many : n ≡ length h.conts
    unfolding chained
    conts-many = g.given chained

    pub conts-few : n ≤ 4096
    unfolding chained
    conts-few = omega (arith, conts-many, hand-few chained.hand, h.hand.holds.pages)

    conts-given : out1 ≡ apply (give_many h.conts bs).writes img
    unfolding chained
    conts-given = g.image chained

    same_size : length out1 ≡ length img
    same_size = ap length conts-given ∙ length-apply (give_many h.conts bs).writes img

    shown-first : FreeList out1 (give_many h.conts bs).free
    unfolding chained
    shown-first = subst (λ (i : List ℕ). FreeList i (give_many h.conts bs).free) (sym conts-given) (all-given h.conts chained.hand)

    pub page-giveable : Giveable out1 page
    page-giveable =
        let p : PageOf (length img) page = (every-right (PageOf (length img)) h.conts (page ∷ []) (hand-pages h.hand)).0 in
        record { free = (give_many h.conts bs).free; shown = shown-first; low = p.0; high = subst (λ (n : ℕ). 1024 * page ≤ n) (sym same_size) p.1 }

    module _ {out2 : List ℕ} (f : Gave out1 page out2) where
      span-given : out2 ≡ apply (give_many (h.conts ++ (page ∷ [])) bs).writes img
      span-given = give-more img h.conts page bs conts-given (f (give_many h.conts bs).free shown-first)

      shown-second : FreeList out2 (give_many (h.conts ++ (page ∷ [])) bs).free
      shown-second = subst (λ (i : List ℕ). FreeList i (give_many (h.conts ++ (page ∷ [])) bs).free) (sym span-given) (all-given (h.conts ++ (page ∷ [])) h.hand)

      pub tower-giveable : {tower : ℕ} → IsPage img tower → Giveable out2 tower
      tower-giveable {tower} p =
          record {
            free = (give_many (h.conts ++ (page ∷ [])) bs).free;
            shown = shown-second;
            low = p.low;
            high = subst (λ (n : ℕ). 1024 * tower ≤ n) (sym (ap length span-given ∙ length-apply (give_many (h.conts ++ (page ∷ [])) bs).writes img)) p.high;
          }

      flat-given : {tower : Option ℕ} → tower ≡ None → out2 ≡ apply (give_many (h.conts ++ (page ∷ option_to_list tower)) bs).writes img
      flat-given z = span-given ∙ ap (λ (o : Option ℕ). apply (give_many (h.conts ++ (page ∷ option_to_list o)) bs).writes img) (sym z)

      tall-given : {tower : Option ℕ} (n : ℕ) → tower ≡ Some n → {out3 : List ℕ} → Gave out2 n out3
          → out3 ≡ apply (give_many (h.conts ++ (page ∷ option_to_list tower)) bs).writes img
      tall-given n z k =
          give-more img (h.conts ++ (page ∷ [])) n bs span-given (k (give_many (h.conts ++ (page ∷ [])) bs).free shown-second)
          ∙ ap (λ (l : List ℕ). apply (give_many l bs).writes img) (append_assoc h.conts (page ∷ []) (n ∷ []))
          ∙ ap (λ (o : Option ℕ). apply (give_many (h.conts ++ (page ∷ option_to_list o)) bs).writes img) (sym z)

pub gave-flat : {img : List ℕ} {start page : ℕ} {tower : Option ℕ} {n : ℕ} {out1 out2 : List ℕ} → GaveChain img start n out1 → Gave out1 page out2 → tower ≡ None
    → GaveGone img start page tower (n + 1) out2
gave-flat {tower = tower} g f z =
    record { image = λ h. flat-given h g f z; given = λ h. let one : length (option_to_list tower) ≡ 0 = ap (λ (o : Option ℕ). length (option_to_list o)) z in omega (arith, conts-many h g) }

pub gave-tall : {img : List ℕ} {start page : ℕ} {tower : Option ℕ} {n : ℕ} {out1 out2 out3 : List ℕ} → GaveChain img start n out1 → Gave out1 page out2 → (m : ℕ) → tower ≡ Some m
    → Gave out2 m out3 → GaveGone img start page tower (n + 2) out3
gave-tall {tower = tower} g f m z k =
    record { image = λ h. tall-given h g f m z k; given = λ h. let one : length (option_to_list tower) ≡ 1 = ap (λ (o : Option ℕ). length (option_to_list o)) z in omega (arith, conts-many h g) }
