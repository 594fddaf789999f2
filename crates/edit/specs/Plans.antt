-- A span rewritten, as the buffer and the plan of the code have it.
use Rattle.std.specs.Prelude.{ℕ, ◌+◌, ◌*◌, ◌≤◌, ◌<◌, ◌≡◌, List, ◌∷◌, length}
use Rattle.std.proofs.lemmas.List.Edits.{sets}
use Rattle.blockfile.specs.Bytes.{apply, Every}
use Rattle.blockfile.specs.Layout.{entries_from, entries_end, reached}
use Rattle.blockfile.specs.Fields.{Numbers}
use Rattle.entries.specs.Places.{IsPage}
use Rattle.draw.specs.Writing.{PageOf}
use Rattle.edit.specs.declared.plan.Plan.{Plan}
use Rattle.edit.specs.Cuts.{Cut, stayed, moved, span_writes}
use Rattle.edit.specs.Staged.{header, Staged}

-- ---- The span

-- the plan and the buffer have what the cut says of the span itself
pub record StayOf (img buffer : List ℕ) (x : Plan) (c : Cut) : Type 0 where
  pub prev : x.links.prev ≡ c.prev
  pub most : x.list.most ≡ c.most
  pub conts : x.wants.conts ≡ length c.conts
  pub reach : 1 + length c.conts ≡ reached c.stay
  pub listed : Numbers buffer 0 (c.page ∷ c.conts)
  pub each : Every (PageOf (length img)) (c.page ∷ c.conts)
  pub base : 1 + length c.conts ≤ x.base
  pub staged : Staged buffer (4 * x.base) c.stay
  pub end : x.shape.stay ≡ entries_end entries_from c.stay
  pub half : x.shape.half ≡ length c.stay

pub record StayReady (img buffer : List ℕ) (x : Plan) : Type 0 where
  pub small : length img ≤ 4194304
  pub most : x.list.most < 65536
  pub few : x.shape.half < 65536
  pub cut : Cut
  pub is : StayOf img buffer x cut

-- the span was written, with the span on page n behind it, and its header stored
pub record WroteStay (img buffer : List ℕ) (x : Plan) (n : ℕ) (out after : List ℕ) : Type 0 where
  pub image : (c : Cut) → StayOf img buffer x c → out ≡ apply (stayed c n) img
  pub kept : after ≡ sets buffer (4 * x.base) (header x.links.prev n x.list.most x.shape.half)

-- ---- The new span

-- they have what the cut says of the new span, which has the pages q and qs
pub record MovedOf (img buffer : List ℕ) (x : Plan) (c : Cut) (q : ℕ) (qs : List ℕ) : Type 0 where
  pub page : x.page ≡ c.page
  pub next : x.links.next ≡ c.next
  pub most : x.list.most ≡ c.most
  pub conts : x.wants.conts ≡ length c.conts
  pub span : x.wants.span ≡ 1 + length qs
  pub reach : 1 + length qs ≡ reached c.move
  pub listed : Numbers buffer (4 * (1 + length c.conts)) (q ∷ qs)
  pub each : Every (PageOf (length img)) (q ∷ qs)
  pub base : 1 + length c.conts + (1 + length qs) ≤ x.base
  pub staged : Staged buffer (4 * (x.base + 254 * (1 + length c.conts))) c.move
  pub end : x.shape.moved ≡ entries_end entries_from c.move
  pub half : x.shape.half + length c.move ≡ x.shape.entries

pub record MovedReady (img buffer : List ℕ) (x : Plan) : Type 0 where
  pub small : length img ≤ 4194304
  pub most : x.list.most < 65536
  pub few : x.shape.entries < 65536
  pub cut : Cut
  pub page : ℕ
  pub conts : List ℕ
  pub is : MovedOf img buffer x cut page conts

pub record WroteMoved (img buffer : List ℕ) (x : Plan) (out : List ℕ) : Type 0 where
  pub image : (c : Cut) (q : ℕ) (qs : List ℕ) → MovedOf img buffer x c q qs → out ≡ apply (moved c q qs) img

-- ---- Both

-- the span, and the new one with the pages q and qs; the span that follows, if there is one, is on a page of the image
pub record SplitOf (img buffer : List ℕ) (x : Plan) (c : Cut) (q : ℕ) (qs : List ℕ) : Type 0 where
  pub stay : StayOf img buffer x c
  pub moved : MovedOf img buffer x c q qs
  pub follows : 1 ≤ c.next → IsPage img c.next

pub record SplitReady (img buffer : List ℕ) (x : Plan) : Type 0 where
  pub small : length img ≤ 4194304
  pub most : x.list.most < 65536
  pub few : x.shape.entries < 65536
  pub cut : Cut
  pub page : ℕ
  pub conts : List ℕ
  pub is : SplitOf img buffer x cut page conts

pub record WroteSplit (img buffer : List ℕ) (x : Plan) (out : List ℕ) : Type 0 where
  pub image : (c : Cut) (q : ℕ) (qs : List ℕ) → SplitOf img buffer x c q qs → out ≡ apply (span_writes c (q ∷ qs)) img

-- the span, and the new one, which has these pages, none without a split
pub record SpansOf (img buffer : List ℕ) (x : Plan) (c : Cut) (pages : List ℕ) : Type 0 where
  pub stay : StayOf img buffer x c
  pub next : x.links.next ≡ c.next
  pub span : x.wants.span ≡ length pages
  pub split : (q : ℕ) (qs : List ℕ) → pages ≡ q ∷ qs → SplitOf img buffer x c q qs

pub record SpansReady (img buffer : List ℕ) (x : Plan) : Type 0 where
  pub small : length img ≤ 4194304
  pub most : x.list.most < 65536
  pub few : x.shape.entries < 65536
  pub half : x.shape.half ≤ x.shape.entries
  pub cut : Cut
  pub pages : List ℕ
  pub is : SpansOf img buffer x cut pages

pub record WroteSpans (img buffer : List ℕ) (x : Plan) (out : List ℕ) : Type 0 where
  pub image : (c : Cut) (ps : List ℕ) → SpansOf img buffer x c ps → out ≡ apply (span_writes c ps) img
