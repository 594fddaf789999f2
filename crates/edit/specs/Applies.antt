-- A plan carried out.
use Rattle.std.specs.Prelude.{ℕ, ◌+◌, ◌*◌, ◌-◌, ◌≤◌, ◌<◌, ◌≡◌, List, [], ◌∷◌, ◌++◌, length}
use Rattle.std.proofs.lemmas.List.Edits.{sets}
use Rattle.blockfile.specs.Bytes.{be32, word32, apply, gather}
use Rattle.entries.specs.Places.{IsPage}
use Rattle.links.specs.Links.{Linkable}
use Rattle.draw.specs.Hands.{Drawable, drawn}
use Rattle.edit.specs.declared.plan.Plan.{Plan}
use Rattle.edit.specs.Cuts.{Cut, span_writes, Rise, tower_writes}
use Rattle.edit.specs.Plans.{SpansOf, SpansReady}
use Rattle.edit.specs.Counts.{counts_of, CountsReady}

-- ---- Pages drawn

-- the pages that the plan wants for the spans and the tower
abbrev pub wanted_of : Plan → ℕ
wanted_of x = x.wants.conts + x.wants.span + x.wants.tower

-- with the further ones
abbrev pub total_of : Plan → ℕ
total_of x = wanted_of x + x.more

pub record DrawReady (img buffer : List ℕ) (x : Plan) : Type 0 where
  pub drawable : Drawable img x.links.first (total_of x)
  pub room : 4 * (1 + total_of x) ≤ length buffer
  pub conts : x.wants.conts < 4294967296
  pub span : x.wants.span < 4294967296
  pub tower : x.wants.tower < 4294967296
  pub more : x.more < 4294967296

-- they were drawn, the list is the span's page and these, and n pages of the span were left over
pub record DrewPlan (img buffer : List ℕ) (x : Plan) (n : ℕ) (out after : List ℕ) : Type 0 where
  pub image : (d : Drawable img x.links.first (total_of x)) → out ≡ apply (drawn d).writes img
  pub list : (d : Drawable img x.links.first (total_of x)) → after ≡ sets (sets buffer 0 (word32 x.page)) 4 (gather word32 (drawn d).pages)
  pub given : (d : Drawable img x.links.first (total_of x)) → n ≡ length d.chain.old - total_of x

-- ---- Written without a tower

pub record FlatReady (img buffer : List ℕ) (x : Plan) : Type 0 where
  pub spans : SpansReady img buffer x
  pub counts : CountsReady img x

pub record WroteFlat (img buffer : List ℕ) (x : Plan) (out : List ℕ) : Type 0 where
  pub image : (c : Cut) (ps : List ℕ) → SpansOf img buffer x c ps → out ≡ apply (span_writes c ps ++ (counts_of x ∷ [])) img

-- ---- Written with a tower

-- the new tower's page is n
pub record TowerOn (img buffer : List ℕ) (x : Plan) (n : ℕ) : Type 0 where
  pub listed : be32 buffer (4 * (1 + x.wants.conts + x.wants.span)) ≡ n
  pub page : IsPage img n

pub record TallReady (img buffer : List ℕ) (x : Plan) (before : List ℕ) : Type 0 where
  pub spans : SpansReady img buffer x
  pub counts : CountsReady img x
  pub room : 4 * (2 + x.wants.conts + x.wants.span) ≤ length buffer
  pub small : length buffer ≤ 4194304
  pub number : ℕ
  pub tower : TowerOn img buffer x number
  pub head : IsPage img x.list.head
  pub links : Linkable img before x.shape.height

-- the new tower, standing on the span on page q
abbrev pub rise_for : Plan → (q : ℕ) (before after : List ℕ) → Rise
rise_for x q before after =
    record { head = x.list.head; top = x.list.top; max = x.list.max; height = x.shape.height; span = q; before = before; after = after }

pub record WroteTall (img buffer : List ℕ) (x : Plan) (before after : List ℕ) (out : List ℕ) : Type 0 where
  pub image : (c : Cut) (q : ℕ) (qs : List ℕ) (n : ℕ) → SpansOf img buffer x c (q ∷ qs) → TowerOn img buffer x n
      → out ≡ apply (span_writes c (q ∷ qs) ++ (tower_writes (rise_for x q before after) (n ∷ []) ++ (counts_of x ∷ []))) img
