-- Demand 3 follows from one fact on single images: what a done call writes leaves a well-formed image with the ledger's tables.
use Prim.Native.Nat.{ℕ, ◌*◌, ◌/◌, ◌%◌, ◌<◌, ◌≤◌}
use native.Mathlib.Omega.{arith}
use mathlib.Core.Path.{◌≡◌, refl, ap, sym, ◌∙◌, subst}
use mathlib.Core.List.{List, [], ◌∷◌}
use mathlib.Core.Option.{Option, none, some}
use mathlib.Core.Bool.{Bool, true, false, not, cond, ◌&&◌, and-true, and-false}
use lib.ListN.{length}
use lib.Dec.{T, eqb, leb, ltb}
use borrow.Author.Tests.{lt-ltb, le-ltb, le-leb, lt-leb, eq-eqb}
use Rattle.blockfile.specs.declared.Refusal.{Refusal}
use Rattle.blockfile.specs.declared.Refusal.TheVariants.{ScratchLength, NoRoom}
use Rattle.blockfile.specs.Bytes.{apply, Every}
use Rattle.blockfile.specs.Layout.{Layout, free_count}
use Rattle.blockfile.specs.Order.{Within, there}
use Rattle.blockfile.specs.WellFormed.{WellFormed}
use Rattle.blockfile.specs.Refusals.{Op, check, get, put, remove, next, create, Reply, refusal, Ledger, ledger_of, rows, lowest, refused, may_lack, handed, done_reply}
use Rattle.blockfile.specs.Answers.{Outcome, refuse, outcome_if, outcome_on, plan_of, lacking, no_room, planned}
use Rattle.blockfile.specs.Calls.{length_ok, cleared, answered, Called, bad_length, short_scratch, malformed, accepted, Keeps}
use Rattle.blockfile.specs.Ledger.{Fed, step_on, step, tables_after}
use Rattle.blockfile.specs.History.{Event, Holds, ten_due, enough, said_to, Followed, Remembered, Demand3}
use Rattle.blockfile.proofs.Bools.{so, holds, and_both}
use Rattle.laws.proofs.Unique.{unique}

-- the fact that demand 3 rests on
abbrev pub Preserved : Type 0
Preserved =
    (img : List ℕ) (L : Layout) (op : Op) (room : ℕ) → WellFormed img L → refused (ledger_of L) op room ≡ none → no_room L op ≡ false
    → Holds (record { pages = L.pages; tables = tables_after (ledger_of L) op }) (apply (planned L (plan_of L op)) img)

-- ---- 10 is fed to the ledger exactly where the call answers it

-- no row of 4 to 9 gives 10
abbrev NotTen : Option Refusal → Type 0
NotTen none = Unit {0}
NotTen (some f) = eqb (refusal f).number 10 ≡ false

lowest-not-ten : (xs : List (Bool × Refusal)) → Every (λ (x : Bool × Refusal). NotTen (some x.1)) xs → NotTen (lowest xs)
lowest-not-ten [] h = tt
lowest-not-ten (x ∷ xs) h = go x.0 (lowest-not-ten xs h.1)
  where
    go : (b : Bool) → NotTen (lowest xs) → NotTen (cond b (some x.1) (lowest xs))
    go true k = h.0
    go false k = k

rows-not-ten : (l : Ledger) (op : Op) (room : ℕ) → Every (λ (x : Bool × Refusal). NotTen (some x.1)) (rows l op room)
rows-not-ten l check room = tt
rows-not-ten l (get n k) room = (refl, (refl, (refl, (refl, tt))))
rows-not-ten l (put n k v) room = (refl, (refl, (refl, tt)))
rows-not-ten l (remove n k) room = (refl, (refl, (refl, tt)))
rows-not-ten l (next n k) room = (refl, (refl, (refl, (refl, tt))))
rows-not-ten l (create n) room = (refl, (refl, tt))

refused-not-ten : (l : Ledger) (op : Op) (room : ℕ) → NotTen (refused l op room)
unfolding refused
refused-not-ten l op room = lowest-not-ten (rows l op room) (rows-not-ten l op room)

-- the number of a done reply is 0
done-zero : (l : Ledger) (F : ℕ) (op : Op) → (done_reply l F op).number ≡ 0
done-zero l F check = refl
done-zero l F (get n k) = refl
done-zero l F (put n k v) = refl
done-zero l F (remove n k) = refl
done-zero l F (next n k) = refl
done-zero l F (create n) = refl

-- ---- An outcome on the layout is the ledger's step

abbrev fed_by : Op → (scratch room : ℕ) → Reply → Fed
fed_by op s room r = record { op = op; scratch_length = s; room = room; ten = may_lack op && eqb r.number 10 }

-- what one call has to show, the rows' answer being q
record Agrees (L : Layout) (op : Op) (s room : ℕ) (q : Option Refusal) (o : Outcome) : Type 0 where
  reply : o.reply ≡ (step_on (ledger_of L) (free_count L.free) (fed_by op s room o.reply) q).reply
  bytes : o.bytes ≡ (step_on (ledger_of L) (free_count L.free) (fed_by op s room o.reply) q).bytes
  ten : eqb o.reply.number 10 ≡ (not (there q) && no_room L op)
  holds : (img : List ℕ) → WellFormed img L → Holds (step_on (ledger_of L) (free_count L.free) (fed_by op s room o.reply) q).ledger (apply o.writes img)

-- one call on a well-formed image, as the ledger has it
record One (img : List ℕ) (L : Layout) (op : Op) (s room : ℕ) (o : Outcome) : Type 0 where
  reply : o.reply ≡ (step (ledger_of L) (free_count L.free) (fed_by op s room o.reply)).reply
  bytes : o.bytes ≡ (step (ledger_of L) (free_count L.free) (fed_by op s room o.reply)).bytes
  ten : eqb o.reply.number 10 ≡ ten_due L (fed_by op s room o.reply)
  holds : Holds (step (ledger_of L) (free_count L.free) (fed_by op s room o.reply)).ledger (apply o.writes img)
  image : apply o.writes img ≡ cond (leb (1024 * L.pages) s) (apply (outcome_on L op room).writes img) img

unchanged : (L : Layout) (img : List ℕ) → WellFormed img L → Holds (ledger_of L) img
unchanged L img w = record { layout = L; well = w; ledger = refl }

module _ (img : List ℕ) (L : Layout) (w : WellFormed img L) where
  small : (s : ℕ) → s < length img → (ltb s (1024 * L.pages) ≡ true) × (leb (1024 * L.pages) s ≡ false)
  small s x =
      let e : length img ≡ 1024 * L.pages = w.size in
      (lt-ltb s (1024 * L.pages) (omega arith), lt-leb (1024 * L.pages) s (omega arith))

  large : (s : ℕ) → length img ≤ s → (ltb s (1024 * L.pages) ≡ false) × (leb (1024 * L.pages) s ≡ true)
  large s x =
      let e : length img ≡ 1024 * L.pages = w.size in
      (le-ltb s (1024 * L.pages) (omega arith), le-leb (1024 * L.pages) s (omega arith))

  right-length : length_ok (length img) ≡ true
  unfolding length_ok
  right-length =
      let e : length img ≡ 1024 * L.pages = w.size in
      let p : Within 4 4096 L.pages = w.pages in
      let a : leb 4 (length img / 1024) ≡ true = le-leb 4 (length img / 1024) (omega arith) in
      let b : leb (length img / 1024) 4096 ≡ true = le-leb (length img / 1024) 4096 (omega arith) in
      let z : eqb (length img % 1024) 0 ≡ true = eq-eqb (length img % 1024) 0 (omega arith) in
      rw (a, b, z)

-- ---- The claim

module _ (after : Preserved) where
  agrees : (L : Layout) (op : Op) (s room : ℕ) (q : Option Refusal) → refused (ledger_of L) op room ≡ q → NotTen q → Agrees L op s room q (outcome_if L op q)
  unfolding ledger_of unchanged
  agrees L op s room (some f) e h = record { reply = refl; bytes = refl; ten = h; holds = λ img w. unchanged L img w }
  agrees L op s room none e h = go (no_room L op) refl
    where
      go : (b : Bool) → no_room L op ≡ b
          → Agrees L op s room none
          (cond b (refuse NoRoom) (record { reply = done_reply (ledger_of L) (free_count L.free) op; bytes = handed (ledger_of L) op; writes = planned L (plan_of L op) }))
      go true k =
          let f : (may_lack op && true) ≡ true = and-true (may_lack op) ∙ so (may_lack op) (and_both (may_lack op) (lacking L (plan_of L op)) (holds (no_room L op) k)).0 in
          record { reply = rw f; bytes = rw f; ten = sym k; holds = λ img w. rw f (unchanged L img w) }
      go false k =
          let z : eqb (done_reply (ledger_of L) (free_count L.free) op).number 10 ≡ false = ap (λ (n : ℕ). eqb n 10) (done-zero (ledger_of L) (free_count L.free) op) in
          let d : (may_lack op && eqb (done_reply (ledger_of L) (free_count L.free) op).number 10) ≡ false = ap (λ (b : Bool). may_lack op && b) z ∙ and-false (may_lack op) in
          record { reply = rw d; bytes = rw d; ten = z ∙ sym k; holds = λ img w. rw d (after img L op room w e k) }

  module _ (img : List ℕ) (L : Layout) (w : WellFormed img L) (op : Op) where
    refused-short : (s room : ℕ) → s < length img → One img L op s room (refuse ScratchLength)
    unfolding ledger_of step
    refused-short s room x =
        let k : (ltb s (1024 * L.pages) ≡ true) × (leb (1024 * L.pages) s ≡ false) = small img L w s x in
        record { reply = rw k.0; bytes = rw k.0; ten = rw k.1; holds = rw k.0 (unchanged L img w); image = rw k.1 }

    long-enough : (s room : ℕ) → length img ≤ s → One img L op s room (outcome_on L op room)
    unfolding step outcome_on ledger_of
    long-enough s room x =
        let k : (ltb s (1024 * L.pages) ≡ false) × (leb (1024 * L.pages) s ≡ true) = large img L w s x in
        let a : Agrees L op s room (refused (ledger_of L) op room) (outcome_if L op (refused (ledger_of L) op room))
        = agrees L op s room (refused (ledger_of L) op room) refl (refused-not-ten (ledger_of L) op room) in
        record { reply = rw k.0 a.reply; bytes = rw k.0 a.bytes; ten = rw k.1 a.ten; holds = rw k.0 (a.holds img w); image = rw k.1 }

    one : (s : List ℕ) (room : ℕ) (o : Outcome) (s' : List ℕ) → Called op img s room o s'
        → One img L op (length s) room o × (s' ≡ cond (leb (1024 * L.pages) (length s)) (cleared (length img) s) s)
    one s room o s' (bad_length b e c) = absurd (subst T (sym (right-length img L w) ∙ b) tt)
    one s room o s' (short_scratch b x e c) = (
      subst (One img L op (length s) room) (sym e) (refused-short (length s) room x),
      rw (small img L w (length s) x).1 c,
    )
    one s room o s' (malformed b x r e c) = absurd (r L w)
    one s room o s' (accepted b x M v e c) = (
      subst (One img L op (length s) room) (ap (λ (N : Layout). outcome_on N op room) (unique img L M w v) ∙ sym e) (long-enough (length s) room x),
      rw (large img L w (length s) x).1 c,
    )

  followed : (img : List ℕ) (L : Layout) (w : WellFormed img L) (e : Event)
      → Keeps e.op img e.scratch e.buffer e.reply e.image e.scratch_after e.buffer_after
      → (f : Followed (ledger_of L) img e) × Holds (said_to (ledger_of L) f.holds.layout e).ledger e.image
  unfolding unchanged
  followed img L w e k =
      let room : ℕ = length e.buffer in
      let fed_as : Reply → Fed = fed_by e.op (length e.scratch) room in
      let F : ℕ = free_count L.free in
      let o : One img L e.op (length e.scratch) room k.outcome × (e.scratch_after ≡ cond (enough L (length e.scratch)) (cleared (length img) e.scratch) e.scratch)
      = one img L w e.op e.scratch room k.outcome e.scratch_after k.called in (
        record {
          holds = unchanged L img w;
          reply = subst (λ (x : Reply). x ≡ (step (ledger_of L) F (fed_as x)).reply) (sym k.result) o.0.reply;
          answer =
              subst (λ (x : Reply). e.buffer_after ≡ answered (step (ledger_of L) F (fed_as x)).bytes e.buffer) (sym k.result)
              (k.answer ∙ ap (λ (x : List ℕ). answered x e.buffer) o.0.bytes);
          ten = subst (λ (x : Reply). eqb x.number 10 ≡ ten_due L (fed_as x)) (sym k.result) o.0.ten;
          image = k.image ∙ o.0.image;
          scratch = o.1;
        },
        subst (λ (x : Reply). Holds (step (ledger_of L) F (fed_as x)).ledger e.image) (sym k.result)
            (subst (Holds (step (ledger_of L) F (fed_as k.outcome.reply)).ledger) (sym k.image) o.0.holds),
      )

  pub remembers : Demand3
  unfolding Demand3 unchanged
  remembers img L [] w r = unchanged L img w
  remembers img L (e ∷ es) w r =
      let f : (g : Followed (ledger_of L) img e) × Holds (said_to (ledger_of L) g.holds.layout e).ledger e.image = followed img L w e r.0 in
      (f.0, subst (λ l. Remembered l e.image es) f.1.ledger (remembers e.image f.1.layout es f.1.well r.1))
