-- A claim of one page: the piece that owns it, and what can be read then.
use Prim.Native.Nat.{ℕ, suc, ◌+◌, ◌*◌, ◌/◌, ◌≤◌}
use native.Mathlib.Omega.{arith}
use mathlib.Core.Path.{◌≡◌, ap, sym, ◌∙◌, subst}
use mathlib.Core.Bool.{Bool, true, false}
use mathlib.Core.List.{List, [], ◌∷◌, ◌++◌}
use lib.ListN.{length, get_or}
use Rattle.blockfile.specs.Bytes.{pg, be16, be32, gather}
use Rattle.blockfile.specs.Marks.{marks}
use Rattle.blockfile.specs.WellFormed.{Piece, pages_of, Bears}
use Rattle.pages.specs.Places.{Inside, Number}
use Rattle.pages.specs.Begins.{begins}
use Rattle.heads.specs.Claims.{Lent, InHead, Claimed, claimable, claimed, head16, head32}
use Rattle.heads.proofs.Claims.{lent-claimed, in_head, head16-read, head32-read}
use Rattle.walks.specs.Found.{Open, Fresh, claims, unclaimed, Found}
use Rattle.walks.proofs.Founds.{length-claimed, unclaimed-claimed, claimable-open, open-claimable}

-- the piece x owns page n alone, as kind k
pub record Single (img : List ℕ) (x : Piece) (n k : ℕ) : Type 0 where
  pub page : pages_of x ≡ n ∷ []
  pub mark : Bears (pg img) x → begins (get_or marks k []) (pg img n) ≡ true

module _ (img scr : List ℕ) (x : Piece) (n k : ℕ) (o : Single img x n k) (ps : List Piece) (out : List ℕ) where
  fresh-cons : Fresh scr (pages_of x ++ gather pages_of ps) → Open scr n × Fresh (claimed scr n) (gather pages_of ps)
  fresh-cons f = subst (λ (ns : List ℕ). Fresh scr (ns ++ gather pages_of ps)) o.page f

  pub found-claimable : Found img scr (x ∷ ps) out → claimable img scr n k ≡ true
  found-claimable f = open-claimable img scr n k (fresh-cons f.fresh).0 (o.mark f.bears.0)

  pub found-rest : Found img scr (x ∷ ps) out → Found img (claimed scr n) ps out
  found-rest f =
      record {
        bears = f.bears.1;
        fresh = (fresh-cons f.fresh).1;
        left = f.left ∙ ap (λ (ns : List ℕ). claims scr (ns ++ gather pages_of ps)) o.page;
      }

  pub found-cons : claimable img scr n k ≡ true → Bears (pg img) x → Found img (claimed scr n) ps out → Found img scr (x ∷ ps) out
  found-cons e b f =
      record {
        bears = (b, f.bears);
        fresh = subst (λ (ns : List ℕ). Fresh scr (ns ++ gather pages_of ps)) (sym o.page) ((claimable-open img scr n k e).0, f.fresh);
        left = f.left ∙ sym (ap (λ (ns : List ℕ). claims scr (ns ++ gather pages_of ps)) o.page);
      }

-- the two answers of a claim
module _ (img scr : List ℕ) (n k : ℕ) (r : Bool) (out : List ℕ) (c : Claimed img scr n k r out) where
  pub claim-done : r ≡ true → (claimable img scr n k ≡ true) × (out ≡ claimed scr n)
  claim-done e = (sym c.answer ∙ e, c.left ∙ rw e)

  pub claim-not : r ≡ false → claimable img scr n k ≡ false
  claim-not e = sym c.answer ∙ e

-- what a claim that is granted tells
module _ {img scr : List ℕ} {n k : ℕ} {r : Bool} {out : List ℕ} (c : Claimed img scr n k r out) (e : r ≡ true) where
  pub claim-left : out ≡ claimed scr n
  claim-left = (claim-done img scr n k r out c e).1

  pub claim-open : Open scr n
  claim-open = (claimable-open img scr n k (claim-done img scr n k r out c e).0).0

  pub claim-begins : begins (get_or marks k []) (pg img n) ≡ true
  claim-begins = (claimable-open img scr n k (claim-done img scr n k r out c e).0).1

  pub claim-length : length out ≡ length scr
  claim-length = ap length claim-left ∙ length-claimed scr n

  pub claim-falls : unclaimed scr ≡ suc (unclaimed out)
  claim-falls = unclaimed-claimed scr n claim-open ∙ ap (λ (s : List ℕ). suc (unclaimed s)) (sym claim-left)

  module _ (lent : Lent img scr) where
    pub claim-lent : Lent img out
    claim-lent = subst (Lent img) (sym claim-left) (lent-claimed n claim-open.low claim-open.high lent)

    -- the page can be read, and what its head has of it from there
    pub claim-inside : {o w : ℕ} → o + w ≤ 1024 → Inside img n o w
    claim-inside fits =
        let room = lent.room in
        record { small = omega (arith, room.size, room.most); low = claim-open.low; high = omega (arith, room.size, room.whole, claim-open.high); fits = fits }

    pub claim-in-head : {o w : ℕ} → o + w ≤ 16 + 4 * (o / 16) → InHead out n o w
    claim-in-head fits = in_head claim-lent claim-open.low (claim-inside {o = 0} {w = 0} (omega arith)).high fits

    module _ {o : ℕ} (some : 1 ≤ o) {top v : ℕ} where
      pub claim-head16 : o + 2 ≤ 16 + 4 * (o / 16) → Number (head16 out n o) top v → Number (be16 (pg img n) o) top v
      claim-head16 fits x = head16-read claim-lent (claim-in-head fits) some x

      pub claim-head32 : o + 4 ≤ 16 + 4 * (o / 16) → Number (head32 out n o) top v → Number (be32 (pg img n) o) top v
      claim-head32 fits x = head32-read claim-lent (claim-in-head fits) some x
