-- Calls of the library's functions, each as its own contract has it, one after another.
use Rattle.std.specs.Prelude.{ℕ, ◌≡◌, List, [], ◌∷◌}
use contract.Lifetimes.{Lfts}
use denote.Triple.Clauses.{AtExit}
use borrow.Fn.Kinds.{ParamKind, ResultKind, Dens, res_t, In, Out, ended_of}
use Rattle.blockfile.specs.Refusals.{Op, check, get, put, remove, next, create, Reply}
use Rattle.blockfile.specs.Calls.{checked_reply, got_reply, wrote_reply}
use Rattle.blockfile.specs.History.{Event}
use Rattle.store.proofs.check.Kinds as check-kinds
use Rattle.store.proofs.check.Reads as check-reads
use Rattle.store.proofs.get.Kinds as get-kinds
use Rattle.store.proofs.get.Reads as get-reads
use Rattle.store.proofs.next.Kinds as next-kinds
use Rattle.store.proofs.next.Reads as next-reads
use Rattle.store.proofs.put.Kinds as put-kinds
use Rattle.store.proofs.put.Reads as put-reads
use Rattle.store.proofs.remove.Kinds as remove-kinds
use Rattle.store.proofs.remove.Reads as remove-reads
use Rattle.store.proofs.create.Kinds as create-kinds
use Rattle.store.proofs.create.Reads as create-reads

-- a call of a function: its arguments in the order of its signature, its result, the arguments at the end, and what its contract
-- tells a caller of them. Ensures is made from the clauses in store's source, so a changed contract is a changed claim here
pub record CallOf {n : ℕ} (params : List (ParamKind n)) (answer : ResultKind n) (Ensures : Out n params answer) : Type 0 where
  pub lifetimes : Lfts n
  pub args : Dens lifetimes params
  pub result : (res_t answer lifetimes).Denot
  pub last : AtExit (ended_of n params answer) lifetimes
  pub ensures : Ensures lifetimes args result last

-- what a call brought, and what it answered and left
abbrev pub event : Op → (scratch buffer : List ℕ) → Reply → (image scratch' buffer' : List ℕ) → Event
event op s b r img s' b' = record { op = op; scratch = s; buffer = b; reply = r; image = img; scratch_after = s'; buffer_after = b' }

-- one of the six functions was called on this image, with this event. Of the arguments the image is .0, the scratch .1.0, the name
-- .1.1.0, the key .1.1.1.0, and put's value or the answer buffer .1.1.1.1.0
pub data Made (img : List ℕ) (e : Event) : Type 0 where
  checked : (c : CallOf check-kinds.ps check-kinds.r check-reads.Learnt) → img ≡ c.args.0.now
      → e ≡ event check c.args.1.0.now [] (checked_reply c.result) c.args.0.now c.last.1.0.now [] → Made img e
  got : (c : CallOf get-kinds.ps get-kinds.r get-reads.Learnt) → img ≡ c.args.0.now
      → e ≡ event (get c.args.1.1.0.now c.args.1.1.1.0.now) c.args.1.0.now c.args.1.1.1.1.0.now (got_reply c.result) c.args.0.now c.last.1.0.now c.last.1.1.1.1.0.now
      → Made img e
  stepped : (c : CallOf next-kinds.ps next-kinds.r next-reads.Learnt) → img ≡ c.args.0.now
      → e ≡ event (next c.args.1.1.0.now c.args.1.1.1.0.now) c.args.1.0.now c.args.1.1.1.1.0.now (got_reply c.result) c.args.0.now c.last.1.0.now c.last.1.1.1.1.0.now
      → Made img e
  written : (c : CallOf put-kinds.ps put-kinds.r put-reads.Learnt) → img ≡ c.args.0.now
      → e ≡ event (put c.args.1.1.0.now c.args.1.1.1.0.now c.args.1.1.1.1.0.now) c.args.1.0.now [] (wrote_reply c.result) c.last.0.now c.last.1.0.now []
      → Made img e
  removed : (c : CallOf remove-kinds.ps remove-kinds.r remove-reads.Learnt) → img ≡ c.args.0.now
      → e ≡ event (remove c.args.1.1.0.now c.args.1.1.1.0.now) c.args.1.0.now [] (wrote_reply c.result) c.last.0.now c.last.1.0.now []
      → Made img e
  created : (c : CallOf create-kinds.ps create-kinds.r create-reads.Learnt) → img ≡ c.args.0.now
      → e ≡ event (create c.args.1.1.0.now) c.args.1.0.now [] (wrote_reply c.result) c.last.0.now c.last.1.0.now []
      → Made img e

-- calls of the functions one after another, each on the image that the one before left
abbrev pub Calls : List ℕ → List Event → Type 0
Calls img [] = Unit {0}
Calls img (e ∷ es) = Made img e × Calls e.image es

-- a function asks nothing of its caller
abbrev pub AsksNothing : {n : ℕ} (params : List (ParamKind n)) → In n params → Type 0
AsksNothing {n} params Asks = (κs : Lfts n) (args : Dens κs params) → Asks κs args

-- none of them does
pub record NothingAsked : Type 0 where
  pub check : AsksNothing check-kinds.ps check-reads.Asked
  pub get : AsksNothing get-kinds.ps get-reads.Asked
  pub next : AsksNothing next-kinds.ps next-reads.Asked
  pub put : AsksNothing put-kinds.ps put-reads.Asked
  pub remove : AsksNothing remove-kinds.ps remove-reads.Asked
  pub create : AsksNothing create-kinds.ps create-reads.Asked
