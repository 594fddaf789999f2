-- Demand 3: over any list of calls, the answers and the tables are those of the ledger.
use Rattle.std.specs.Prelude.{ℕ, ◌*◌, ◌≡◌, List, [], ◌∷◌, Bool, not, cond, ◌&&◌, length, eqb, leb}
use Rattle.blockfile.specs.Bytes.{apply}
use Rattle.blockfile.specs.Layout.{Layout, free_count}
use Rattle.blockfile.specs.Order.{there}
use Rattle.blockfile.specs.WellFormed.{WellFormed}
use Rattle.blockfile.specs.Refusals.{Op, Reply, Ledger, ledger_of, refused, may_lack}
use Rattle.blockfile.specs.Answers.{outcome_on, no_room}
use Rattle.blockfile.specs.Calls.{answered, cleared, Keeps}
use Rattle.blockfile.specs.Ledger.{Fed, Said, step}

-- a call that was made: what it brought, and what it answered and left
pub record Event : Type 0 where
  pub op : Op
  pub scratch : List ℕ
  pub buffer : List ℕ
  pub reply : Reply
  pub image : List ℕ
  pub scratch_after : List ℕ
  pub buffer_after : List ℕ

-- calls one after another, each on the image that the one before left, each as its promise says
abbrev pub Run : List ℕ → List Event → Type 0
Run img [] = Unit {0}
Run img (e ∷ es) = Keeps e.op img e.scratch e.buffer e.reply e.image e.scratch_after e.buffer_after × Run e.image es

-- what the ledger is fed: for put and create, too, whether the answer was 10
abbrev pub fed : Event → Fed
fed e =
    record { op = e.op; scratch_length = length e.scratch; room = length e.buffer; ten = may_lack e.op && eqb e.reply.number 10 }

-- the image has a layout with the ledger's P and tables
pub record Holds (l : Ledger) (img : List ℕ) : Type 0 where
  pub layout : Layout
  pub well : WellFormed img layout
  pub ledger : ledger_of layout ≡ l

-- the scratch is long enough: the call is not refused with 2
abbrev pub enough : Layout → (scratch_length : ℕ) → Bool
enough L n = leb (1024 * L.pages) n

-- 10 is due: no lower row holds, and the pages that a put or a create wants exceed the old continuation pages plus F
abbrev pub ten_due : Layout → Fed → Bool
ten_due L c = enough L c.scratch_length && (not (there (refused (ledger_of L) c.op c.room)) && no_room L c.op)

-- what the ledger says to the call, with F that of the image's layout
abbrev pub said_to : Ledger → Layout → Event → Said
said_to l L e = step l (free_count L.free) (fed e)

-- one call on an image with the ledger's tables: its numbers and bytes are the ledger's, 10 comes exactly when it is due, the
-- image after it is the one that the byte rules give, and the scratch is cleared
pub record Followed (l : Ledger) (img : List ℕ) (e : Event) : Type 0 where
  pub holds : Holds l img
  pub reply : e.reply ≡ (said_to l holds.layout e).reply
  pub answer : e.buffer_after ≡ answered (said_to l holds.layout e).bytes e.buffer
  pub ten : eqb e.reply.number 10 ≡ ten_due holds.layout (fed e)
  pub image : e.image ≡ cond (enough holds.layout (length e.scratch)) (apply (outcome_on holds.layout e.op (length e.buffer)).writes img) img
  pub scratch : e.scratch_after ≡ cond (enough holds.layout (length e.scratch)) (cleared (length img) e.scratch) e.scratch

-- every call on the way so, and the last image holds the ledger's tables
abbrev pub Remembered : Ledger → (img : List ℕ) → List Event → Type 0
Remembered l img [] = Holds l img
Remembered l img (e ∷ es) = (f : Followed l img e) × Remembered (said_to l f.holds.layout e).ledger e.image es

-- demand 3. A run is what the contracts of the six calls give, none of which asks anything of its caller
unfoldable pub Demand3 : Type 0
Demand3 = (img : List ℕ) (L : Layout) (es : List Event) → WellFormed img L → Run img es → Remembered (ledger_of L) img es
