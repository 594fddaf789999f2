-- Calls that are never refused for room: a value replaced by one that is no longer, and remove.
use Prim.Native.Nat.{ℕ, zero, suc, ◌+◌, ◌≤◌}
use native.Mathlib.Omega.{arith}
use mathlib.Core.Path.{◌≡◌, refl, sym, ◌∙◌, subst}
use mathlib.Core.Bool.{false}
use mathlib.Core.List.{List, [], ◌∷◌}
use mathlib.Core.Option.{Option, none, some, map}
use lib.ListN.{length}
use lib.Dec.{T}
use borrow.Author.Tests.{le-ltb}
use Rattle.blockfile.specs.Layout.{Entry, Table, Layout, entries_of, free_count, reached}
use Rattle.blockfile.specs.Order.{key_rule, find, there}
use Rattle.blockfile.specs.WellFormed.{TableOk}
use Rattle.blockfile.specs.Plan.{Plan, lacks}
use Rattle.blockfile.specs.Put.{target, span_at, parts, wanted_by, rewrite_plan, put_plan}
use Rattle.blockfile.specs.Remove.{unlink_plan, leave_plan, remove_plan}
use Rattle.blockfile.specs.Refusals.{Op, check, get, put, remove, next, create, ledger_of, map_of}
use Rattle.blockfile.specs.Answers.{on_table, plan_of, lacking, no_room}
use Rattle.laws.proofs.Orders.{keys-ordered}
use Rattle.laws.proofs.Positions.{erase-reached}
use Rattle.laws.proofs.Targets.{Target, target_is, find_at, span-rising}
use Rattle.laws.proofs.Columns.{span-ok}
use Rattle.laws.proofs.Splits.{plain-wanted}
use Rattle.laws.proofs.Sizes.{insert-reached}
use Rattle.laws.proofs.TablePut.{put_into, put-replaces}
use Rattle.laws.proofs.TableRemove.{left_by, left-fits}
use Rattle.laws.proofs.TableCreate.{table-found}
use Rattle.laws.proofs.Allowed.{ledger-map}
use Rattle.laws.proofs.Ledgers.{LayoutOk}

-- the plan wants no more pages than its span has
abbrev Spare : Plan → Type 0
Spare p = p.wanted ≤ length p.old

-- then it lacks none, however few are free
spare-room : (L : Layout) (p : Plan) → Spare p → lacks L p ≡ false
unfolding lacks
spare-room L p h = le-ltb (length p.old + free_count L.free) p.wanted (omega arith)

-- ---- On a table

module _ (n : List ℕ) (t : Table) (ok : TableOk (key_rule n) t) (k : List ℕ) where
  at : Target (key_rule n) k t (target (key_rule n) k t)
  at = target_is (key_rule n) (keys-ordered n) k t ok

  -- entries that fit the target and reach no further than its own want no more pages than it has
  no_more : (es : List Entry) → length es ≤ t.span_size → reached es ≤ reached (span_at t (target (key_rule n) k t)).entries
      → wanted_by (parts t es) ≤ length (span_at t (target (key_rule n) k t)).conts
  no_more es l h =
      let c : 1 + length (span_at t (target (key_rule n) k t)).conts ≡ reached (span_at t (target (key_rule n) k t)).entries
      = (span-ok (key_rule n) t ok (target (key_rule n) k t) at.place).reach in
      rw (plain-wanted t es l) (omega arith)

  -- a record no longer than the one under its key
  put-spare : (L : Layout) (v old : List ℕ) → find k (entries_of t) ≡ some old → length v ≤ length old → Spare (put_plan L n t k v)
  unfolding put_plan rewrite_plan
  put-spare L v old f l =
      let i : ℕ = target (key_rule n) k t in
      no_more (put_into (key_rule n) t k v) (put-replaces (key_rule n) (keys-ordered n) t ok k v (subst (λ a. T (there a)) (sym f) tt))
      (insert-reached (key_rule n) (keys-ordered n) k v old l (span_at t i).entries (span-rising (key_rule n) (keys-ordered n) k t i at ok)
      (sym (find_at (key_rule n) (keys-ordered n) k t i at) ∙ f))

  -- the entries without the key
  pub left-wants : wanted_by (parts t (left_by (key_rule n) t k)) ≤ length (span_at t (target (key_rule n) k t)).conts
  left-wants =
      no_more (left_by (key_rule n) t k) (left-fits (key_rule n) (keys-ordered n) t ok k) (erase-reached k (span_at t (target (key_rule n) k t)).entries)

  remove-spare : (L : Layout) → Spare (remove_plan L n t k)
  unfolding remove_plan rewrite_plan unlink_plan
  remove-spare L = go (target (key_rule n) k t) (left_by (key_rule n) t k) left-wants
    where
      go : (i : ℕ) (es : List Entry) → wanted_by (parts t es) ≤ length (span_at t i).conts → Spare (leave_plan L n t i es)
      go zero es h = h
      go (suc i) [] h = omega arith
      go (suc i) (e ∷ es) h = h

-- ---- On a layout

module _ (L : Layout) (ok : LayoutOk L) (n k : List ℕ) where
  -- what is done on the table of a name wants no more pages than its span has, if that holds on the table there
  on-table-spare : (f : Table → Plan) → ((t : Table) → TableOk (key_rule n) t → find n L.tables ≡ some t → Spare (f t))
      → (p : Plan) → on_table L n f ≡ some p → Spare p
  unfolding on_table
  on-table-spare f h p = go (find n L.tables) refl
    where
      go : (a : Option Table) → find n L.tables ≡ a → map f a ≡ some p → Spare p
      go none e q = absurd (let z : ◌≡◌ {A = ℕ} 0 1 = cc in omega arith)
      go (some t) e q = let same : f t ≡ p = cc in subst Spare same (h t (table-found L.tables n t ok.tables_ok e) e)

  -- and lacks none
  never-lacks : (a : Option Plan) → ((p : Plan) → a ≡ some p → Spare p) → lacking L a ≡ false
  never-lacks none h = refl
  never-lacks (some p) h = spare-room L p (h p refl)

  -- a record no longer than the one under its key is never refused for room
  pub put-never-lacks : (v old : List ℕ) → find k (map_of (ledger_of L) n) ≡ some old → length v ≤ length old → lacking L (plan_of L (put n k v)) ≡ false
  put-never-lacks v old f l =
      never-lacks (plan_of L (put n k v))
      (on-table-spare (λ t. put_plan L n t k v)
      (λ t o e. put-spare n t o k L v old (subst (λ (es : List Entry). find k es ≡ some old) (ledger-map L n t e) f) l))

  -- remove wants no page that its span does not have
  pub remove-wants : (p : Plan) → plan_of L (remove n k) ≡ some p → p.wanted ≤ length p.old
  remove-wants = on-table-spare (λ t. remove_plan L n t k) (λ t o e. remove-spare n t o k L)

  pub remove-never-lacks : lacking L (plan_of L (remove n k)) ≡ false
  remove-never-lacks = never-lacks (plan_of L (remove n k)) remove-wants

-- where row 10 does not hold, what the call does lacks no pages
pub room-enough : (L : Layout) → LayoutOk L → (op : Op) → no_room L op ≡ false → lacking L (plan_of L op) ≡ false
room-enough L ok check h = refl
room-enough L ok (get n k) h = refl
room-enough L ok (put n k v) h = h
room-enough L ok (remove n k) h = remove-never-lacks L ok n k
room-enough L ok (next n k) h = refl
room-enough L ok (create n) h = h
