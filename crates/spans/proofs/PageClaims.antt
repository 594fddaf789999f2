-- The ways through `claim_conts` and `claim_span`.
use Prim.Native.Nat.{ℕ, ◌+◌, ◌≤◌, ◌<◌}
use native.Mathlib.Omega.{arith}
use native.Mathlib.Numerals.{add-one}
use mathlib.Core.Path.{◌≡◌, refl, ap, sym, ◌∙◌, subst}
use mathlib.Core.Bool.{Bool, true, false, true≢false}
use mathlib.Core.List.{List, [], ◌∷◌, map}
use lib.ListN.{length, take, get_or}
use Rattle.blockfile.specs.Bytes.{pg, be32, Every, first_of}
use Rattle.blockfile.specs.Marks.{span_mark, cont_mark, marks}
use Rattle.blockfile.specs.Fields.{AreConts}
use Rattle.pages.specs.Begins.{begins}
use Rattle.heads.specs.Claims.{Room, Lent, Claimed, claimed}
use Rattle.pages.proofs.Begins.{begins-take, take_begins}
use Rattle.heads.proofs.Claims.{room-long}
use Rattle.walks.specs.Found.{Open, Fresh, claims, unclaimed, FindsAt}
use Rattle.walks.proofs.Founds.{length-claimed, unclaimed-most, open-claimable, SameAt, same_start, same_turn, finds-none, finds-done}
use Rattle.walks.proofs.Pieces.{claim-left, claim-open, claim-begins, claim-length, claim-falls, claim-lent}
use Rattle.entries.specs.Places.{IsPage}
use Rattle.std.proofs.Common.{Option, Some, None}
use Rattle.std.proofs.lemmas.Option.{none-some, same_Some}
use Rattle.spans.specs.Charts.{along, Charted, Noted}
use Rattle.spans.specs.Parts.{ContsFound, PagesFound, ContsClaimed, PagesClaimed}
use Rattle.spans.proofs.Charts.{charted-next}

-- ---- a claim

claim-not : {img scr : List ℕ} {n k : ℕ} {r : Bool} {out : List ℕ} → Claimed img scr n k r out → r ≡ false → Open scr n → begins (get_or marks k []) (pg img n) ≡ true → ⊥
claim-not {img} {scr} {n} {k} c e o b = true≢false (sym (open-claimable img scr n k o b) ∙ sym c.answer ∙ e)

-- the marks of four bytes
span_begins : (b : List ℕ) → begins (get_or marks 3 []) b ≡ true → take 4 b ≡ span_mark
unfolding span_mark
span_begins b e = begins-take (get_or marks 3 []) b e

begins-span : (b : List ℕ) → take 4 b ≡ span_mark → begins (get_or marks 3 []) b ≡ true
unfolding span_mark
begins-span b e = take_begins (get_or marks 3 []) b e

cont-begins : (b : List ℕ) → begins (get_or marks 4 []) b ≡ true → take 4 b ≡ cont_mark
unfolding cont_mark
cont-begins b e = begins-take (get_or marks 4 []) b e

begins-cont : (b : List ℕ) → take 4 b ≡ cont_mark → begins (get_or marks 4 []) b ≡ true
unfolding cont_mark
begins-cont b e = take_begins (get_or marks 4 []) b e

-- ---- continuation pages

module _ (img scr : List ℕ) (p n : ℕ) where
  conts-end : p ≡ 0 → ContsFound img scr p n n scr
  conts-end e = record { conts = []; first = e; are = tt; fresh = tt; long = omega arith; left = refl }

  conts-only : p ≡ 0 → (m : ℕ) (t : List ℕ) → ContsFound img scr p n m t → (n ≡ m) × (scr ≡ t)
  conts-only e m t x = go x.conts x.first x.fresh x.long x.left
    where
      go : (l : List ℕ) → p ≡ first_of l → Fresh scr l → m ≡ n + length l → t ≡ claims scr l → (n ≡ m) × (scr ≡ t)
      go [] f h a b = (omega arith, sym b)
      go (q ∷ l) f h a b = absurd (omega (arith, h.0.low))

  module _ (z : p ≡ 0 → ⊥) {r : Bool} {out : List ℕ} (c : Claimed img scr p 4 r out) where
    conts-no : r ≡ false → (m : ℕ) (t : List ℕ) → ContsFound img scr p n m t → ⊥
    conts-no e m t x = go x.conts x.first x.are x.fresh
      where
        go : (l : List ℕ) → p ≡ first_of l → AreConts l (map (pg img) l) → Fresh scr l → ⊥
        go [] f a h = z f
        go (q ∷ l) f a h = claim-not c e (subst (Open scr) (sym f) h.0) (begins-cont (pg img p) (subst (λ (x : ℕ). take 4 (pg img x) ≡ cont_mark) (sym f) a.0))

    conts-more : r ≡ true → SameAt (ContsFound img out (be32 (pg img p) 4) (n + 1)) (ContsFound img scr p n)
    conts-more e =
        subst (λ (s : List ℕ). SameAt (ContsFound img s (be32 (pg img p) 4) (n + 1)) (ContsFound img scr p n)) (sym (claim-left c e)) (record {
          to = λ m t x. record {
            conts = p ∷ x.conts;
            first = refl;
            are = (cont-begins (pg img p) (claim-begins c e), x.first, x.are);
            fresh = (claim-open c e, x.fresh);
            long = omega (arith, x.long);
            left = x.left;
          };
          back = λ m t x. go m t x.conts x.first x.are x.fresh x.long x.left;
        })
      where
        go : (m : ℕ) (t l : List ℕ) → p ≡ first_of l → AreConts l (map (pg img) l) → Fresh scr l → m ≡ n + length l → t ≡ claims scr l
            → ContsFound img (claimed scr p) (be32 (pg img p) 4) (n + 1) m t
        go m t [] f a h i j = absurd (z f)
        go m t (q ∷ l) f a h i j =
            subst (λ (x : ℕ). ContsFound img (claimed scr x) (be32 (pg img x) 4) (n + 1) m t) (sym f)
            (record { conts = l; first = a.1; are = a.2; fresh = h.1; long = omega arith; left = j })

-- a loop has claimed n pages from `start` on, and is at page p
pub record Claiming (img scr₀ : List ℕ) (start : ℕ) (scr : List ℕ) (p n : ℕ) : Type 0 where
  pub kept : length scr ≡ length scr₀
  pub few : n + unclaimed scr ≡ unclaimed scr₀
  pub lent : Lent img scr
  pub same : SameAt (ContsFound img scr p n) (ContsFound img scr₀ start 0)

pub claiming-start : (img scr : List ℕ) (start : ℕ) → Lent img scr → Claiming img scr start scr start 0
claiming-start img scr start lent = record { kept = refl; few = omega arith; lent = lent; same = same_start (ContsFound img scr start 0) }

module _ {img scr₀ : List ℕ} {start : ℕ} {scr : List ℕ} {p n : ℕ} (w : Claiming img scr₀ start scr p n) where
  pub claiming-end : p ≡ 0 → FindsAt Some (ContsFound img scr₀ start 0) (Some n) scr
  claiming-end e = finds-done w.same n (conts-end img scr p n e) (conts-only img scr p n e)

  module _ (z : p ≡ 0 → ⊥) {r : Bool} {out : List ℕ} (c : Claimed img scr p 4 r out) where
    pub claiming-no : r ≡ false → FindsAt Some (ContsFound img scr₀ start 0) None out
    claiming-no e = finds-none w.same (conts-no img scr p n z c e)

    pub claiming-next : r ≡ true → (next : ℕ) → next ≡ be32 (pg img p) 4 → Claiming img scr₀ start out next (n + 1)
    claiming-next e next is =
        record {
          kept = claim-length c e ∙ w.kept;
          few = omega (arith, claim-falls c e, w.few);
          lent = claim-lent c e w.lent;
          same = rw is (same_turn (conts-more img scr p n z c e) w.same);
        }

-- the loop, with what it has noted in the chart
pub record Noting (img scr₀ : List ℕ) (start : ℕ) (scr chart : List ℕ) (p n : ℕ) : Type 0 where
  pub claiming : Claiming img scr₀ start scr p n
  pub charted : Charted img start n chart
  pub on : p ≡ along img start n

module _ {img scr₀ : List ℕ} {start : ℕ} {scr chart : List ℕ} {p n : ℕ} (w : Noting img scr₀ start scr chart p n) where
  pub noting-end : p ≡ 0 → ContsClaimed img scr₀ start (Some n) scr chart
  noting-end e = record { found = claiming-end w.claiming e; charted = λ m q. let i : n ≡ m = same_Some n m q in subst (λ (k : ℕ). Charted img start k chart) i w.charted }

  module _ (z : p ≡ 0 → ⊥) {r : Bool} {out : List ℕ} (c : Claimed img scr p 4 r out) where
    pub noting-no : r ≡ false → ContsClaimed img scr₀ start None out chart
    noting-no e = record { found = claiming-no w.claiming z c e; charted = λ m q. absurd (none-some m q) }

    module _ (e : r ≡ true) where
      -- what noting the page asks
      pub noting-few : (n < 4096) × (p ≤ 4096)
      noting-few = let room = w.claiming.lent.room in (
        omega (arith, room.whole, room.most, w.claiming.kept, unclaimed-most scr₀, w.claiming.few, claim-falls c e),
        omega (arith, room.whole, room.most, (claim-open c e).high),
      )

      pub noting-next : {new : List ℕ} → Noted chart n p new → (next : ℕ) → next ≡ be32 (pg img p) 4 → Noting img scr₀ start out new next (n + 1)
      noting-next m next is =
          record {
            claiming = claiming-next w.claiming z c e next is;
            charted = charted-next w.charted w.on m;
            on = is ∙ ap (λ (q : ℕ). be32 (pg img q) 4) w.on ∙ ap (along img start) (sym (add-one n));
          }

-- ---- the pages of a span

module _ {img scr : List ℕ} {p : ℕ} {r : Bool} {mid : List ℕ} (c : Claimed img scr p 3 r mid) where
  pages-none : r ≡ false → FindsAt Some (PagesFound img scr p) None mid
  pages-none e =
      finds-none (same_start (PagesFound img scr p))
      (λ m t x. claim-not c e x.fresh.0 (begins-span (pg img p) x.marked))

  pub pages-no : {chart : List ℕ} → r ≡ false → PagesClaimed img scr p None mid chart
  pages-no e = record { found = pages-none e; charted = λ m q. absurd (none-some m q) }

  pages-all : r ≡ true → (first : ℕ) → first ≡ be32 (pg img p) 4 → {a : Option ℕ} {out : List ℕ} → FindsAt Some (ContsFound img mid first 0) a out → FindsAt Some (PagesFound img scr p) a out
  pages-all e first is {a} {out} f =
      let left : mid ≡ claimed scr p = claim-left c e in
      record {
        sound = λ m q.
            let x : ContsFound img mid first 0 m out = f.sound m q in
            record {
              conts = x.conts;
              marked = span_begins (pg img p) (claim-begins c e);
              linked = sym is ∙ x.first;
              are = x.are;
              fresh = (claim-open c e, subst (λ (s : List ℕ). Fresh s x.conts) left x.fresh);
              long = omega (arith, x.long);
              left = x.left ∙ ap (λ (s : List ℕ). claims s x.conts) left;
            };
        complete = λ m t x. f.complete m t (record {
          conts = x.conts;
          first = is ∙ x.linked;
          are = x.are;
          fresh = subst (λ (s : List ℕ). Fresh s x.conts) (sym left) x.fresh.1;
          long = omega (arith, x.long);
          left = x.left ∙ ap (λ (s : List ℕ). claims s x.conts) (sym left);
        });
      }

  pub pages-then : r ≡ true → (first : ℕ) → first ≡ be32 (pg img p) 4 → {a : Option ℕ} {out chart : List ℕ} → ContsClaimed img mid first a out chart → PagesClaimed img scr p a out chart
  pages-then e first is {chart = chart} f =
      record { found = pages-all e first is f.found; charted = λ m q. subst (λ (n : ℕ). Charted img n m chart) is (f.charted m q) }

-- ---- claimed pages are pages of the image

pub inside-fresh : (img scr ns : List ℕ) → Room img scr → Fresh scr ns → Every (IsPage img) ns
inside-fresh img scr [] room f = tt
inside-fresh img scr (n ∷ ns) room f =
    (record { low = f.0.low; high = omega (arith, f.0.high, room.size, room.whole) }, inside-fresh img (claimed scr n) ns (room-long (length-claimed scr n) room) f.1)
