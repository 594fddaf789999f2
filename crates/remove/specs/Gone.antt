-- The pages of a span that goes, given back.
use Rattle.std.specs.Prelude.{ℕ, ◌+◌, ◌≡◌, List, [], ◌∷◌, ◌++◌, map, length, Option, Some, option_to_list}
use Rattle.blockfile.specs.Bytes.{pg, apply, first_of}
use Rattle.blockfile.specs.Fields.{AreConts}
use Rattle.blockfile.specs.Free.{give_many}
use Rattle.entries.specs.Places.{IsPage}
use Rattle.draw.specs.Hands.{InHand}

-- the continuation pages from `start` on are in hand, and the span's page
pub record SpanInHand (img : List ℕ) (start page : ℕ) : Type 0 where
  pub conts : List ℕ
  pub hand : InHand img (conts ++ (page ∷ []))
  pub first : start ≡ first_of conts
  pub linked : AreConts conts (map (pg img) conts)

pub record GoneReady (img : List ℕ) (start page : ℕ) (tower : Option ℕ) : Type 0 where
  pub span : SpanInHand img start page
  pub tall : (n : ℕ) → tower ≡ Some n → IsPage img n

-- all of them, n pages, were given back
pub record GaveGone (img : List ℕ) (start page : ℕ) (tower : Option ℕ) (n : ℕ) (out : List ℕ) : Type 0 where
  pub image : (h : SpanInHand img start page) → out ≡ apply (give_many (h.conts ++ (page ∷ option_to_list tower)) h.hand.free).writes img
  pub given : (h : SpanInHand img start page) → n ≡ length h.conts + 1 + length (option_to_list tower)
