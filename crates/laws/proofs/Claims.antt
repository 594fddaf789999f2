-- Each claim of specs/Claims, by the law that proves it.
use Prim.Native.Nat.{ℕ, ◌+◌}
use native.Mathlib.Omega.{arith}
use mathlib.Core.Path.{◌≡◌, refl, ap, subst}
use mathlib.Core.Bool.{Bool, true, false, cond}
use mathlib.Core.List.{List, [], ◌∷◌}
use mathlib.Core.Option.{Option, none, some}
use Rattle.blockfile.specs.declared.Refusal.{Refusal}
use Rattle.blockfile.specs.declared.Refusal.TheVariants.{NoRoom}
use Rattle.blockfile.specs.Bytes.{pg, apply, gather}
use Rattle.blockfile.specs.Layout.{Table, Layout, free_count}
use Rattle.blockfile.specs.Order.{name_rule, key_rule}
use Rattle.blockfile.specs.WellFormed.{count, WellFormed}
use Rattle.blockfile.specs.Plan.{Plan, lacks}
use Rattle.blockfile.specs.Refusals.{Op, ledger_of, refused, handed, done_reply}
use Rattle.blockfile.specs.Answers.{refuse, plan_of, lacking, no_room, planned, outcome_if, outcome_on}
use Rattle.blockfile.proofs.Count.{count-append}
use Rattle.laws.specs.FreeList.{free_pages}
use Rattle.laws.specs.Owned.{table_pages, changed_by, place_in}
use Rattle.laws.specs.Claims.{Decided, OneLayout, Determined, may_change, PageStays, MetaStays, TableStays, TablesStay, Does, BytesStay, WellAfter, CountKept, PutHasRoom, ReachNoFurther, RemoveWants, RemoveHasRoom, SameSpan}
use Rattle.laws.proofs.Orders.{names-ordered, keys-ordered}
use Rattle.laws.proofs.Paths.{same_place}
use Rattle.laws.proofs.TableCreate.{table-found}
use Rattle.laws.proofs.Unique.{unique, decided as decide}
use Rattle.laws.proofs.Determined.{determined as determine}
use Rattle.laws.proofs.Positions.{reach-no-further as no-further}
use Rattle.laws.proofs.Ledgers.{layout-ok}
use Rattle.laws.proofs.Room.{put-never-lacks, remove-wants, remove-never-lacks, room-enough}
use Rattle.laws.proofs.Preserves.{well-after as well, count-after}
use Rattle.laws.proofs.Owners.{under-named, names_apart}
use Rattle.laws.proofs.Stays.{owned-once, Changes, changes, stays, other-page}

pub decided : Decided
unfolding Decided
decided = decide

pub one-layout : OneLayout
unfolding OneLayout
one-layout = unique

pub determined : Determined
unfolding Determined
determined = determine

-- ---- Pages

-- the pages that a call may change, counted
count-may : (n : ℕ) (L : Layout) (op : Op)
    → count n (may_change L op) ≡ count n (1 ∷ []) + (count n (gather table_pages (changed_by L op)) + count n (free_pages L.free))
count-may n L op = omega (arith, count-append n (gather table_pages (changed_by L op)) (free_pages L.free))

pub page-stays : PageStays
unfolding PageStays outcome_on
page-stays img L op room n w z = go (refused (ledger_of L) op room) refl
  where
    planned-so : (a : Option Plan) → plan_of L op ≡ a → refused (ledger_of L) op room ≡ none → lacking L a ≡ false → pg (apply (planned L a) img) n ≡ pg img n
    planned-so none e r h = refl
    planned-so (some p) e r h =
        let c : Changes L op p = changes img L w op room r p e h in
        other-page img L c.table (place_in op c.table) p c.change n
        (omega (arith, count-may n L op, ap (λ (ts : List Table). count n (gather table_pages ts)) c.is, count-append n (table_pages c.table) []))

    done-so : (b : Bool) → no_room L op ≡ b → refused (ledger_of L) op room ≡ none
        → pg
        (apply
        (cond b (refuse NoRoom) (record { reply = done_reply (ledger_of L) (free_count L.free) op; bytes = handed (ledger_of L) op; writes = planned L (plan_of L op) })).writes
        img) n
        ≡ pg img n
    done-so true e r = refl
    done-so false e r = planned-so (plan_of L op) refl r (room-enough L (layout-ok img L w) op e)

    go : (q : Option Refusal) → refused (ledger_of L) op room ≡ q → pg (apply (outcome_if L op q).writes img) n ≡ pg img n
    go (some f) r = refl
    go none r = done-so (no_room L op) refl r

pub meta-stays : MetaStays
unfolding MetaStays PageStays
meta-stays img L op room n w name on h =
    page-stays img L op room n w
    (omega (arith, count-may n L op, owned-once img L w n, ap (λ (ts : List Table). count n (gather table_pages ts)) on, under-named n name L.tables))

pub table_stays : TableStays
unfolding TableStays PageStays
table_stays img L op room n w name on other d h =
    page-stays img L op room n w
    (omega (arith, count-may n L op, owned-once img L w n, ap (λ (ts : List Table). count n (gather table_pages ts)) on, names_apart n name other d L.tables))

pub tables-stay : TablesStay
unfolding TablesStay PageStays
tables-stay img L op room n w on h =
    page-stays img L op room n w
    (omega (arith, count-may n L op, owned-once img L w n, ap (λ (ts : List Table). count n (gather table_pages ts)) on, count-append n (table_pages L.meta) []))

-- ---- Bytes

-- what a done call does lacks no pages
pages-enough : (img : List ℕ) (L : Layout) (op : Op) (room : ℕ) (p : Plan) → WellFormed img L → Does L op room p → lacks L p ≡ false
pages-enough img L op room p w d = subst (λ (a : Option Plan). lacking L a ≡ false) d.planned (room-enough L (layout-ok img L w) op d.enough)

pub bytes-stay : BytesStay
unfolding BytesStay
bytes-stay img L op room p w d =
    let c : Changes L op p = changes img L w op room d.allowed p d.planned (pages-enough img L op room p w d) in
    (c.table, c.is, stays img L c.table (place_in op c.table) p c.change)

pub well-after : WellAfter
unfolding WellAfter
well-after img L op room p w d = well img L op room w d.allowed p d.planned (pages-enough img L op room p w d)

pub count_kept : CountKept
unfolding CountKept
count_kept img L op room p w d = count-after img L op room w d.allowed p d.planned (pages-enough img L op room p w d)

-- ---- Room

pub put-has-room : PutHasRoom
unfolding PutHasRoom
put-has-room img L w n k v old f l = put-never-lacks L (layout-ok img L w) n k v old f l

pub reach-no-further : ReachNoFurther
unfolding ReachNoFurther
reach-no-further = no-further

pub remove-wants-few : RemoveWants
unfolding RemoveWants
remove-wants-few img L w n k = remove-wants L (layout-ok img L w) n k

pub remove-has-room : RemoveHasRoom
unfolding RemoveHasRoom
remove-has-room img L w n k = remove-never-lacks L (layout-ok img L w) n k

pub same_span : SameSpan
unfolding SameSpan
same_span img L w = (
  λ name. same_place name_rule names-ordered name L.meta w.meta_ok,
  λ name t f key. same_place (key_rule name) (keys-ordered name) key t (table-found L.tables name t w.tables_ok f),
)
