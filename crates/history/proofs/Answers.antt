-- What no call of a run answers.
use Prim.Native.Nat.{ℕ, ◌*◌}
use mathlib.Core.Path.{◌≡◌, refl, ap, sym, ◌∙◌, subst}
use mathlib.Core.Logic.{◌≢◌}
use mathlib.Core.Bool.{Bool, true, false, not, cond, ◌&&◌, true≢false, and-false}
use mathlib.Core.List.{List, [], ◌∷◌}
use mathlib.Core.Option.{Option, none, some}
use lib.ListN.{length}
use lib.Dec.{eqb, ltb}
use borrow.Author.Tests.{eq-eqb}
use Rattle.blockfile.specs.declared.Refusal.{Refusal}
use Rattle.blockfile.specs.declared.Refusal.TheVariants.{ScratchLength, NoRoom}
use Rattle.blockfile.specs.Bytes.{Every}
use Rattle.blockfile.specs.Layout.{Layout, free_count}
use Rattle.blockfile.specs.Order.{there}
use Rattle.blockfile.specs.Refusals.{Op, check, get, put, remove, next, create, Reply, refusal, Ledger, ledger_of, rows, lowest, refused, handed, done_reply}
use Rattle.blockfile.specs.Answers.{no_room}
use Rattle.blockfile.specs.Ledger.{Fed, stays, step_on, step, tables_after}
use Rattle.blockfile.specs.History.{Event, fed, enough, said_to, Followed, Remembered, Demand3}
use Rattle.laws.proofs.Ledgers.{layout-ok}
use Rattle.laws.proofs.Room.{put-never-lacks}
use Rattle.laws.proofs.Unique.{unique}
use Rattle.history.specs.Runs.{Throughout, InEachRun, NotOneOrThree, NeverOneOrThree, NotForRoom, NeverForRoom, RemoveNotTen, RemoveNeverTen}
use Rattle.history.proofs.Functions.{demand}

-- what holds of each call that follows the ledger
along : (P : List ℕ → Event → Type 0) → ((l : Ledger) (img : List ℕ) (e : Event) → Followed l img e → P img e)
    → (l : Ledger) (img : List ℕ) (es : List Event) → Remembered l img es → Throughout P img es
along P one l img [] h = tt
along P one l img (e ∷ es) h = (one l img e h.0, along P one (said_to l h.0.holds.layout e).ledger e.image es h.1)

in-each-run : (P : List ℕ → Event → Type 0) → ((l : Ledger) (img : List ℕ) (e : Event) → Followed l img e → P img e) → InEachRun P
unfolding Demand3
in-each-run P one img L es w r = along P one (ledger_of L) img es (demand img L es w r)

-- a number that does not pass the test is not that number
differs : (m n : ℕ) → eqb n m ≡ false → n ≢ m
differs m n h e = true≢false (sym (eq-eqb n m e) ∙ h)

-- ---- 1 and 3 never come: the ledger does not say them

abbrev Other : ℕ → Type 0
Other n = (eqb n 1 ≡ false) × (eqb n 3 ≡ false)

abbrev OtherThan : Option Refusal → Type 0
OtherThan none = Unit {0}
OtherThan (some f) = Other (refusal f).number

lowest-other : (xs : List (Bool × Refusal)) → Every (λ (x : Bool × Refusal). Other (refusal x.1).number) xs → OtherThan (lowest xs)
lowest-other [] h = tt
lowest-other (x ∷ xs) h = go x.0 (lowest-other xs h.1)
  where
    go : (b : Bool) → OtherThan (lowest xs) → OtherThan (cond b (some x.1) (lowest xs))
    go true k = h.0
    go false k = k

rows_other : (l : Ledger) (op : Op) (room : ℕ) → Every (λ (x : Bool × Refusal). Other (refusal x.1).number) (rows l op room)
rows_other l check room = tt
rows_other l (get n k) room = ((refl, refl), ((refl, refl), ((refl, refl), ((refl, refl), tt))))
rows_other l (put n k v) room = ((refl, refl), ((refl, refl), ((refl, refl), tt)))
rows_other l (remove n k) room = ((refl, refl), ((refl, refl), ((refl, refl), tt)))
rows_other l (next n k) room = ((refl, refl), ((refl, refl), ((refl, refl), ((refl, refl), tt))))
rows_other l (create n) room = ((refl, refl), ((refl, refl), tt))

done-other : (l : Ledger) (F : ℕ) (op : Op) → Other (done_reply l F op).number
done-other l F check = (refl, refl)
done-other l F (get n k) = (refl, refl)
done-other l F (put n k v) = (refl, refl)
done-other l F (remove n k) = (refl, refl)
done-other l F (next n k) = (refl, refl)
done-other l F (create n) = (refl, refl)

stepped-other : (l : Ledger) (F : ℕ) (c : Fed) (q : Option Refusal) → OtherThan q → Other (step_on l F c q).reply.number
stepped-other l F c (some f) h = h
stepped-other l F c none h = go c.ten
  where
    go : (b : Bool) → Other (cond b (stays l NoRoom) (record { reply = done_reply l F c.op; bytes = handed l c.op; ledger = record { pages = l.pages; tables = tables_after l c.op } })).reply.number
    go true = (refl, refl)
    go false = done-other l F c.op

said-other : (l : Ledger) (F : ℕ) (c : Fed) → Other (step l F c).reply.number
unfolding step refused
said-other l F c = go (ltb c.scratch_length (1024 * l.pages))
  where
    go : (b : Bool) → Other (cond b (stays l ScratchLength) (step_on l F c (lowest (rows l c.op c.room)))).reply.number
    go true = (refl, refl)
    go false = stepped-other l F c (lowest (rows l c.op c.room)) (lowest-other (rows l c.op c.room) (rows_other l c.op c.room))

pub never-one-or-three : NeverOneOrThree
unfolding NeverOneOrThree
never-one-or-three = in-each-run NotOneOrThree not-said
  where
    not-said : (l : Ledger) (img : List ℕ) (e : Event) → Followed l img e → NotOneOrThree img e
    not-said l img e f =
        let h : Other e.reply.number = subst (λ (r : Reply). Other r.number) (sym f.reply) (said-other l (free_count f.holds.layout.free) (fed e)) in
        (differs 1 e.reply.number h.0, differs 3 e.reply.number h.1)

-- ---- Room

-- a call that has room is not answered 10
not-ten : {l : Ledger} {img : List ℕ} {e : Event} (f : Followed l img e) → no_room f.holds.layout e.op ≡ false → e.reply.number ≢ 10
not-ten {e = e} f h =
    let M : Layout = f.holds.layout in
    let long : Bool = enough M (length e.scratch) in
    let allowed : Bool = not (there (refused (ledger_of M) e.op (length e.buffer))) in
    differs 10 e.reply.number (f.ten ∙ ap (λ (b : Bool). long && (allowed && b)) h ∙ ap (λ (b : Bool). long && b) (and-false allowed) ∙ and-false long)

pub never-for-room : NeverForRoom
unfolding NeverForRoom
never-for-room = in-each-run NotForRoom shorter-fits
  where
    shorter-fits : (l : Ledger) (img : List ℕ) (e : Event) → Followed l img e → NotForRoom img e
    shorter-fits l img e f L w n k v old o found shorter =
        let room : no_room L e.op ≡ false
        = subst (λ (op : Op). no_room L op ≡ false) (sym o) (put-never-lacks L (layout-ok img L w) n k v old found shorter) in
        not-ten f (subst (λ (N : Layout). no_room N e.op ≡ false) (unique img L f.holds.layout w f.holds.well) room)

pub remove-never-ten : RemoveNeverTen
unfolding RemoveNeverTen
remove-never-ten =
    in-each-run RemoveNotTen (λ l img e f n k o. not-ten f (subst (λ (op : Op). no_room f.holds.layout op ≡ false) (sym o) refl))
