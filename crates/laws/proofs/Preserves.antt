-- What a done call writes leaves a well-formed image with the ledger's tables; so demand 3 holds.
use Prim.Native.Nat.{ℕ, zero, suc, ◌+◌, ◌<◌, ◌≤◌}
use native.Mathlib.Omega.{arith}
use mathlib.Core.Path.{◌≡◌, refl, ap, sym, ◌∙◌, subst}
use mathlib.Core.Logic.{inr}
use mathlib.Core.Bool.{false}
use mathlib.Core.Option.{Option, none, some}
use mathlib.Core.List.{List, [], ◌∷◌, append_assoc}
use lib.ListN.{length, get_or, drop, drop_of_length-le}
use borrow.Author.Tests.{ltb-false}
use Rattle.blockfile.specs.Bytes.{pg, be32, Write, word32, apply, Every}
use Rattle.blockfile.specs.Layout.{Keyed, Entry, Table, Block, Layout, columns, free_count}
use Rattle.blockfile.specs.Order.{name_rule, key_rule, Rising, find, insert}
use Rattle.blockfile.specs.WellFormed.{TableOk, WellFormed}
use Rattle.blockfile.specs.Plan.{Plan, lacks, layout_after, drawn_by, changes_of, kept_on, writes_of}
use Rattle.blockfile.specs.Free.{Drawn}
use Rattle.blockfile.specs.Put.{target, span_at, parts, wanted_by, rewrite, rewrite_plan, put_plan}
use Rattle.blockfile.specs.Remove.{without, unlink_plan, leave_plan, remove_plan}
use Rattle.blockfile.specs.Create.{whole_table, create_plan}
use Rattle.blockfile.specs.Refusals.{Op, check, get, put, remove, next, create, ledger_of, refused}
use Rattle.blockfile.specs.Answers.{plan_of, lacking, planned}
use Rattle.blockfile.specs.History.{Holds, Demand3}
use Rattle.laws.specs.Owned.{in_option}
use Rattle.laws.proofs.Orders.{names-ordered, keys-ordered}
use Rattle.laws.proofs.Maps.{insert-found}
use Rattle.laws.proofs.Targets.{target_is}
use Rattle.laws.proofs.State.{Shows, held_by}
use Rattle.laws.proofs.Writes.{apply-append}
use Rattle.laws.proofs.Inside.{free-few}
use Rattle.laws.proofs.KeptCounts.{counted, counted-shows, counted-true}
use Rattle.laws.proofs.Opens.{opens, closes}
use Rattle.laws.proofs.Draws.{few-drawn, length-drawn}
use Rattle.laws.proofs.TablePut.{table_with, put_into, put-few}
use Rattle.laws.proofs.TableRemove.{left_by, left-fits}
use Rattle.laws.proofs.TableCreate.{names-rising, table-found, meta-wanted}
use Rattle.laws.proofs.Allowed.{OnTable, put-allowed, remove-allowed, create-allowed}
use Rattle.laws.proofs.Ledgers.{LayoutOk, layout-ok, with_table, meta_pages, created, meta_after, create-drawn, Done, on-table, done-after, none_after, ledger_after}
use Rattle.laws.proofs.Room.{room-enough}
use Rattle.laws.proofs.Remembers.{Preserved, remembers}
use Rattle.laws.proofs.Spots.{Around, among, tables_held, surrounds, held_at, held-gap, values, Spot, spot}
use Rattle.laws.proofs.Turns.{Turns, and_then, turns_as}
use Rattle.laws.proofs.Fitting.{keys-short, names-short}
use Rattle.laws.proofs.DrawnRewrites.{drawn_at, rewrite-turn}
use Rattle.laws.proofs.Unlinks.{unlink-turn}
use Rattle.laws.proofs.Creates.{three, new-turn}

-- ---- One table changed

-- writes that turn a table into another, whatever is around it, turn the layout into the one with it
table-turned : (L : Layout) (name : List ℕ) (t u : Table) (bs : List Block) (ws : List Write) → Rising name_rule L.tables → find name L.tables ≡ some t
    → ((o : Around) → Turns L.pages L.span_size ws (among o t L.free []) (among o u bs []))
    → Turns L.pages L.span_size ws (held_by L) (held_by (with_table L name u bs))
table-turned L name t u bs ws h f turns =
    let s : Spot name L.tables (t ∷ []) = subst (λ (a : Option Table). Spot name L.tables (in_option a)) f (spot name L.tables h) in
    let pre : List Table = L.meta ∷ s.before in
    turns_as refl
    (ap (λ (ts : List Table). tables_held (L.meta ∷ ts) L.free []) s.now ∙ held_at pre s.behind t L.free [])
    (sym (ap (λ (ts : List Table). tables_held (L.meta ∷ ts) bs []) (s.made u) ∙ held_at pre s.behind u bs []))
    (turns (surrounds pre s.behind))

-- the table put under a name keeps the rules, if all do
pub made_ok : (ns : List (Keyed Table)) (name : List ℕ) (u : Table) → Every (λ n. TableOk (key_rule n.key) n.value) (insert name_rule name u ns) → TableOk (key_rule name) u
made_ok ns name u h = table-found (insert name_rule name u ns) name u h (insert-found name_rule names-ordered name u ns)

module _ (L : Layout) (ok : LayoutOk L) (few : Every (λ b. length b.listed ≤ 252) L.free) where
  rising : Rising name_rule L.tables
  rising = names-rising L.tables L.meta ok.meta_ok ok.meta_entries

  module _ (n : List ℕ) (t : Table) (found : find n L.tables ≡ some t) where
    table_ok : TableOk (key_rule n) t
    table_ok = table-found L.tables n t ok.tables_ok found

    -- a span rewritten
    rewritten : (i : ℕ) (es : List Entry) → i < length (columns t) → length es ≤ t.span_size + 1 → lacks L (rewrite_plan L n t i es) ≡ false
        → LayoutOk (layout_after L (rewrite_plan L n t i es))
        → Turns L.pages L.span_size (changes_of L (rewrite_plan L n t i es)) (held_by L) (held_by (layout_after L (rewrite_plan L n t i es)))
    unfolding changes_of layout_after rewrite_plan rewrite lacks
    rewritten i es inside most h done =
        let w : ℕ = wanted_by (parts t es) in
        let room : w ≤ length (span_at t i).conts + free_count L.free = ltb-false (length (span_at t i).conts + free_count L.free) w h in
        let ps : List ℕ = (drawn_at t i L.free w).pages in
        let e : drop w ps ≡ [] = drop_of_length-le ps {i = w} (omega (arith, length-drawn (span_at t i).conts w [] L.free room)) in
        table-turned L n t (table_with t i es ps) (drawn_at t i L.free w).free _ rising found
        (λ o. turns_as refl refl (ap (among o (table_with t i es ps) (drawn_at t i L.free w).free) e)
        (rewrite-turn t i inside L.free w room (key_rule n) (keys-short n) table_ok es most (omega arith) o few (made_ok L.tables n (table_with t i es ps) done.tables_ok)))

    -- a span unlinked
    unlinked : (k : ℕ) → suc k < length (columns t) → LayoutOk (layout_after L (unlink_plan L n t (suc k)))
        → Turns L.pages L.span_size (changes_of L (unlink_plan L n t (suc k))) (held_by L) (held_by (layout_after L (unlink_plan L n t (suc k))))
    unfolding changes_of layout_after unlink_plan
    unlinked k inside done =
        table-turned L n t (without t (suc k)) _ _ rising found
        (λ o. unlink-turn t k inside (key_rule n) table_ok (made_ok L.tables n (without t (suc k)) done.tables_ok) o L.free few)

    left : (i : ℕ) (es : List Entry) → i < length (columns t) → length es ≤ t.span_size → lacks L (leave_plan L n t i es) ≡ false → LayoutOk (layout_after L (leave_plan L n t i es))
        → Turns L.pages L.span_size (changes_of L (leave_plan L n t i es)) (held_by L) (held_by (layout_after L (leave_plan L n t i es)))
    left zero es inside most h done = rewritten zero es inside (omega arith) h done
    left (suc k) [] inside most h done = unlinked k inside done
    left (suc k) (e ∷ es) inside most h done = rewritten (suc k) (e ∷ es) inside (omega arith) h done

    -- ---- Put and remove

    put-turn : (k v : List ℕ) → lacks L (put_plan L n t k v) ≡ false → LayoutOk (layout_after L (put_plan L n t k v))
        → Turns L.pages L.span_size (changes_of L (put_plan L n t k v)) (held_by L) (held_by (layout_after L (put_plan L n t k v)))
    unfolding put_plan
    put-turn k v h done =
        rewritten (target (key_rule n) k t) (put_into (key_rule n) t k v) (target_is (key_rule n) (keys-ordered n) k t table_ok).place
        (put-few (key_rule n) (keys-ordered n) t table_ok k v) h done

    remove-turn : (k : List ℕ) → lacks L (remove_plan L n t k) ≡ false → LayoutOk (layout_after L (remove_plan L n t k))
        → Turns L.pages L.span_size (changes_of L (remove_plan L n t k)) (held_by L) (held_by (layout_after L (remove_plan L n t k)))
    unfolding remove_plan
    remove-turn k h done =
        left (target (key_rule n) k t) (left_by (key_rule n) t k) (target_is (key_rule n) (keys-ordered n) k t table_ok).place (left-fits (key_rule n) (keys-ordered n) t table_ok k) h done

  -- ---- Create

  create-turn : (n : List ℕ) → find n L.tables ≡ none → lacks L (create_plan L n) ≡ false → LayoutOk (layout_after L (create_plan L n))
      → Turns L.pages L.span_size (changes_of L (create_plan L n)) (held_by L) (held_by (layout_after L (create_plan L n)))
  unfolding changes_of layout_after create_plan rewrite lacks
  create-turn n absent h done =
      let meta : Table = L.meta in
      let i : ℕ = target name_rule n meta in
      let w : ℕ = meta_pages L n in
      let es : List Entry = put_into name_rule meta n (word32 (created L n).root) in
      let d : Drawn = drawn_at meta i L.free (w + 3) in
      let room : w + 3 ≤ length (span_at meta i).conts + free_count L.free = ltb-false (length (span_at meta i).conts + free_count L.free) (w + 3) h in
      let e : w ≡ wanted_by (parts meta es) = meta-wanted L n (created L n).root in
      let s : Spot n L.tables [] = subst (λ (a : Option Table). Spot n L.tables (in_option a)) absent (spot n L.tables rising) in
      let pre : List Table = meta_after L n ∷ s.before in
      turns_as (sym (append_assoc d.writes (rewrite meta i es d.pages).writes (whole_table (created L n)))) (held_at [] (values L.tables) meta L.free [])
      (sym (ap (λ (ts : List Table). tables_held (meta_after L n ∷ ts) d.free []) (s.made (created L n)) ∙ held_at pre s.behind (created L n) d.free []))
      (and_then
      (rewrite-turn meta i (target_is name_rule names-ordered n meta ok.meta_ok).place L.free (w + 3) room name_rule names-short ok.meta_ok es
      (put-few name_rule names-ordered meta ok.meta_ok n (word32 (created L n).root)) (omega arith) (surrounds [] (values L.tables)) few done.meta_ok)
      (turns_as refl
      (sym (held_at [] (values L.tables) (meta_after L n) d.free (drop (wanted_by (parts meta es)) d.pages))
      ∙ ap (tables_held (meta_after L n ∷ values L.tables) d.free) (ap (λ (m : ℕ). drop m d.pages) (sym e) ∙ three d.pages w (create-drawn L n h))
      ∙ ap (λ (ts : List Table). tables_held (meta_after L n ∷ ts) d.free (get_or d.pages w 0 ∷ get_or d.pages (w + 1) 0 ∷ get_or d.pages (w + 2) 0 ∷ [])) s.now
      ∙ held-gap pre s.behind d.free (get_or d.pages w 0 ∷ get_or d.pages (w + 1) 0 ∷ get_or d.pages (w + 2) 0 ∷ []))
      refl
      (new-turn (key_rule n) (keys-short n) (surrounds pre s.behind) d.free L.span_size (get_or d.pages w 0) (get_or d.pages (w + 1) 0) (get_or d.pages (w + 2) 0) ok.span_size)))

-- ---- Each call

module _ (L : Layout) where
  -- the writes of the plan turn the layout into the one after it
  abbrev Turned : Plan → Type 0
  Turned p = lacks L p ≡ false → LayoutOk (layout_after L p) → Turns L.pages L.span_size (changes_of L p) (held_by L) (held_by (layout_after L p))

  turned_as : (o : Option Plan) (p q : Plan) → o ≡ some p → o ≡ some q → Turned q → Turned p
  turned_as o p q e d t = let i : q ≡ p = cc in subst Turned i t

-- those of an unrefused call do
plan-turn : (L : Layout) (op : Op) (room : ℕ) → LayoutOk L → Every (λ b. length b.listed ≤ 252) L.free → refused (ledger_of L) op room ≡ none → (p : Plan)
    → plan_of L op ≡ some p → Turned L p
plan-turn L check room ok few r p e = absurd (let z : ◌≡◌ {A = ℕ} 0 1 = cc in omega arith)
plan-turn L (get n k) room ok few r p e = absurd (let z : ◌≡◌ {A = ℕ} 0 1 = cc in omega arith)
plan-turn L (put n k v) room ok few r p e =
    let x : OnTable L n k = (put-allowed L room n k v r).0 in
    turned_as L (plan_of L (put n k v)) p (put_plan L n x.table k v) e (on-table L n x.table (λ u. put_plan L n u k v) x.found) (put-turn L ok few n x.table x.found k v)
plan-turn L (remove n k) room ok few r p e =
    let x : OnTable L n k = (remove-allowed L room n k r).0 in
    turned_as L (plan_of L (remove n k)) p (remove_plan L n x.table k) e (on-table L n x.table (λ u. remove_plan L n u k) x.found) (remove-turn L ok few n x.table x.found k)
plan-turn L (next n k) room ok few r p e = absurd (let z : ◌≡◌ {A = ℕ} 0 1 = cc in omega arith)
plan-turn L (create n) room ok few r p e =
    turned_as L (plan_of L (create n)) p (create_plan L n) e refl (create-turn L ok few n (create-allowed L room n r).1)

module _ (img : List ℕ) (L : Layout) (op : Op) (room : ℕ) (w : WellFormed img L) (allowed : refused (ledger_of L) op room ≡ none) where
  done-so : (p : Plan) → plan_of L op ≡ some p → lacks L p ≡ false → Done L op (layout_after L p)
  done-so p e h = done-after L op room p (layout-ok img L w) allowed e h

  module _ (p : Plan) (e : plan_of L op ≡ some p) (h : lacks L p ≡ false) where
    -- before the count of free pages is written, the image shows what the layout after the call holds
    shown-after : Shows L.pages L.span_size (apply (changes_of L p) img) (held_by (layout_after L p))
    shown-after = (plan-turn L op room (layout-ok img L w) w.blocks_ok allowed p e h (done-so p e h).ok).turn img (opens img L w)

    counted-after : apply (writes_of L p) img ≡ counted shown-after
    unfolding writes_of layout_after
    counted-after = apply-append (changes_of L p) (kept_on (free_count (drawn_by L p).free) ∷ []) img

    pub few-after : free_count (drawn_by L p).free ≤ 4096
    unfolding layout_after
    few-after = free-few shown-after

    -- a done call leaves the count true
    pub count-after : be32 (pg (apply (writes_of L p) img) 1) 28 ≡ free_count (layout_after L p).free + 1
    count-after = ap (λ (i : List ℕ). be32 (pg i 1) 28) counted-after ∙ counted-true shown-after

    -- what a done call writes leaves a well-formed image, with the layout that the plan says
    pub well-after : WellFormed (apply (writes_of L p) img) (layout_after L p)
    unfolding layout_after
    well-after =
        let d : LayoutOk (layout_after L p) = (done-so p e h).ok in
        closes (apply (writes_of L p) img) (layout_after L p)
        (record {
          span_size = d.span_size;
          meta_page = d.meta_page;
          meta_ok = d.meta_ok;
          meta_entries = d.meta_entries;
          tables_ok = d.tables_ok;
          blocks_ok = few-drawn p.old p.wanted p.gone L.free w.blocks_ok;
        })
        (inr count-after)
        (subst (λ (i : List ℕ). Shows L.pages L.span_size i (held_by (layout_after L p))) (sym counted-after) (counted-shows shown-after))

-- what a done call writes leaves a well-formed image with the ledger's tables
pub preserved : Preserved
preserved img L op room w r h = go (plan_of L op) refl (room-enough L (layout-ok img L w) op h)
  where
    go : (a : Option Plan) → plan_of L op ≡ a → lacking L a ≡ false → Holds (ledger_after L op) (apply (planned L a) img)
    go none e l = record { layout = L; well = w; ledger = sym (none_after L op room r e) }
    go (some p) e l = record { layout = layout_after L p; well = well-after img L op room w r p e l; ledger = (done-so img L op room w r p e l).ledger }

-- demand 3: over any list of calls, the answers and the tables are those of the ledger
pub demand-three : Demand3
demand-three = remembers preserved
