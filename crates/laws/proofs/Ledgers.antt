-- The layout after put, remove and create: it keeps the rules for tables, and its tables are those of the ledger.
use Prim.Native.Nat.{ℕ, zero, suc, ◌+◌, ◌≤◌}
use native.Mathlib.Omega.{arith}
use mathlib.Core.Path.{◌≡◌, refl, ap, sym, ◌∙◌, subst}
use mathlib.Core.Bool.{false}
use mathlib.Core.List.{List, [], ◌∷◌, map}
use mathlib.Core.Option
use mathlib.Core.Option.{Option, none, some}
use lib.ListN.{length, get_or}
use lib.Dec.{T}
use borrow.Author.Tests.{ltb-false}
use Rattle.blockfile.specs.Bytes.{word32}
use Rattle.blockfile.specs.Layout.{Keyed, Entry, Table, Block, Layout, entries_of, free_count}
use Rattle.blockfile.specs.Order.{name_rule, key_rule, Within, find, insert, erase}
use Rattle.blockfile.specs.WellFormed.{TableOk, WellFormed}
use Rattle.blockfile.specs.Plan.{Plan, drawn_by, lacks, layout_after}
use Rattle.blockfile.specs.Put.{target, parts, wanted_by, share, rewrite, rewrite_plan, put_plan}
use Rattle.blockfile.specs.Remove.{without, unlink_plan, leave_plan, remove_plan}
use Rattle.blockfile.specs.Create.{empty_table, meta_with, create_plan}
use Rattle.blockfile.specs.Refusals.{Op, check, get, put, remove, next, create, Ledger, ledger_of, refused}
use Rattle.blockfile.specs.Answers.{on_table, plan_of}
use Rattle.blockfile.specs.Ledger.{tables_after}
use Rattle.laws.proofs.Orders.{keys-ordered}
use Rattle.laws.proofs.Middle.{insert-under}
use Rattle.laws.proofs.Rewritten.{kept-after}
use Rattle.laws.proofs.TablePut.{table_with, put_into, put_entries, put-ok}
use Rattle.laws.proofs.TableRemove.{left_by, left-entries, left-table, gone-entries, gone-table}
use Rattle.laws.proofs.Draws.{length-drawn}
use Rattle.laws.proofs.TableCreate.{listed, TablesOk, names-rising, listed_same, table-found, tables-insert, new_ok, meta-wanted, meta-ok, meta-lists}
use Rattle.laws.proofs.Allowed.{OnTable, ledger-map, put-allowed, remove-allowed, create-allowed}

-- a plan that does not lack pages draws as many as it wants
pub plan-drawn : (L : Layout) (p : Plan) → lacks L p ≡ false → length (drawn_by L p).pages ≡ p.wanted
unfolding lacks
plan-drawn L p h = length-drawn p.old p.wanted p.gone L.free (ltb-false (length p.old + free_count L.free) p.wanted h)

-- the rules for the tables of a layout: all of `WellFormed` but the bytes and the free list
pub record LayoutOk (L : Layout) : Type 0 where
  pub pages : Within 4 4096 L.pages
  pub span_size : Within 2 128 L.span_size
  pub meta_page : L.meta.root ≡ 2
  pub meta_ok : TableOk name_rule L.meta
  pub meta_entries : entries_of L.meta ≡ map listed L.tables
  pub tables_ok : TablesOk L.tables

-- a well-formed image has them
pub layout-ok : (img : List ℕ) (L : Layout) → WellFormed img L → LayoutOk L
layout-ok img L w =
    record { pages = w.pages; span_size = w.span_size; meta_page = w.meta_page; meta_ok = w.meta_ok; meta_entries = w.meta_entries; tables_ok = w.tables_ok }

-- the ledger after a call on a layout
abbrev pub ledger_after : Layout → Op → Ledger
ledger_after L op = record { pages = L.pages; tables = tables_after (ledger_of L) op }

-- ---- One table changed

-- the table of this name becomes u
abbrev pub with_table : Layout → (name : List ℕ) → Table → List Block → Layout
with_table L name u bs = record { pages = L.pages; span_size = L.span_size; meta = L.meta; tables = insert name_rule name u L.tables; free = bs }

-- M is L, but the table t of this name has become one with the entries m, on the same skip-list page
pub record Becomes (L : Layout) (name : List ℕ) (t : Table) (m : List Entry) (M : Layout) : Type 0 where
  pub table : Table
  pub is : M ≡ with_table L name table M.free
  pub ok : TableOk (key_rule name) table
  pub root : table.root ≡ t.root
  pub entries : entries_of table ≡ m

module _ (L : Layout) (name : List ℕ) (t : Table) (m : List Entry) (M : Layout) (b : Becomes L name t m M) where
  -- the rules are kept
  pub becomes-ok : find name L.tables ≡ some t → LayoutOk L → LayoutOk M
  becomes-ok f h =
      subst LayoutOk (sym b.is)
      (record {
        pages = h.pages;
        span_size = h.span_size;
        meta_page = h.meta_page;
        meta_ok = h.meta_ok;
        meta_entries =
            h.meta_entries ∙ sym (listed_same L.tables name t b.table (names-rising L.tables L.meta h.meta_ok h.meta_entries) f b.root);
        tables_ok = tables-insert L.tables name b.table b.ok h.tables_ok;
      })

  -- the ledger has the name's new map
  pub becomes-ledger : ledger_of M ≡ record { pages = L.pages; tables = insert name_rule name m (ledger_of L).tables }
  unfolding ledger_of
  becomes-ledger =
      ap ledger_of b.is
      ∙ ap (λ (ns : List (Keyed (List Entry))). record { pages = L.pages; tables = ns })
      (insert-under entries_of name_rule name b.table L.tables ∙ ap (λ (es : List Entry). insert name_rule name es (ledger_of L).tables) b.entries)

-- ---- Put and remove

module _ (L : Layout) (n : List ℕ) (t : Table) where
  -- a plan that rewrites a span draws pages enough
  rewrite-drawn : (i : ℕ) (es : List Entry) → lacks L (rewrite_plan L n t i es) ≡ false → wanted_by (parts t es) ≤ length (drawn_by L (rewrite_plan L n t i es)).pages
  unfolding rewrite_plan
  rewrite-drawn i es h = omega (arith, plan-drawn L (rewrite_plan L n t i es) h)

  -- and leaves the table so
  pub rewrite-layout : (i : ℕ) (es : List Entry)
      → layout_after L (rewrite_plan L n t i es) ≡ with_table L n (table_with t i es (drawn_by L (rewrite_plan L n t i es)).pages) (layout_after L (rewrite_plan L n t i es)).free
  unfolding layout_after rewrite_plan rewrite
  rewrite-layout i es = refl

  -- a plan that unlinks a span leaves the table without it
  pub unlink-layout : (i : ℕ) → layout_after L (unlink_plan L n t i) ≡ with_table L n (without t i) (layout_after L (unlink_plan L n t i)).free
  unfolding layout_after unlink_plan
  unlink-layout i = refl

  module _ (ok : TableOk (key_rule n) t) (k : List ℕ) where
    -- what put makes of a table
    pub put-becomes : (v : List ℕ) → T ((key_rule n).allowed k) → length v ≤ 65535 → lacks L (put_plan L n t k v) ≡ false
        → Becomes L n t (insert (key_rule n) k v (entries_of t)) (layout_after L (put_plan L n t k v))
    unfolding put_plan
    put-becomes v a b h =
        let i : ℕ = target (key_rule n) k t in
        let es : List Entry = put_into (key_rule n) t k v in
        let ps : List ℕ = (drawn_by L (rewrite_plan L n t i es)).pages in
        let e : wanted_by (parts t es) ≤ length ps = rewrite-drawn i es h in
        record {
          table = table_with t i es ps;
          is = rewrite-layout i es;
          ok = put-ok (key_rule n) (keys-ordered n) t ok k v ps e a b;
          root = (kept-after t (parts t es) (share (parts t es) ps) i).root;
          entries = put_entries (key_rule n) (keys-ordered n) t ok k v ps e;
        }

    -- the table without the key, its span rewritten, if that span is the first or has entries left
    abbrev Left : (i : ℕ) (es : List Entry) → Type 0
    Left i es = (1 ≤ i → 1 ≤ length es) → lacks L (rewrite_plan L n t i es) ≡ false → Becomes L n t (erase k (entries_of t)) (layout_after L (rewrite_plan L n t i es))

    left-becomes : Left (target (key_rule n) k t) (left_by (key_rule n) t k)
    left-becomes f h =
        let i : ℕ = target (key_rule n) k t in
        let es : List Entry = left_by (key_rule n) t k in
        let ps : List ℕ = (drawn_by L (rewrite_plan L n t i es)).pages in
        let e : wanted_by (parts t es) ≤ length ps = rewrite-drawn i es h in
        record {
          table = table_with t i es ps;
          is = rewrite-layout i es;
          ok = left-table (key_rule n) (keys-ordered n) t ok k ps e f;
          root = (kept-after t (parts t es) (share (parts t es) ps) i).root;
          entries = left-entries (key_rule n) (keys-ordered n) t ok k ps e;
        }

    module _ (i : ℕ) (es : List Entry) (p : target (key_rule n) k t ≡ i) (q : left_by (key_rule n) t k ≡ es) where
      left_at : Left i es
      left_at = subst (λ (j : ℕ). Left j es) p (subst (λ (fs : List Entry). Left (target (key_rule n) k t) fs) q left-becomes)

    leave-becomes : (i : ℕ) (es : List Entry) → target (key_rule n) k t ≡ i → left_by (key_rule n) t k ≡ es → lacks L (leave_plan L n t i es) ≡ false
        → Becomes L n t (erase k (entries_of t)) (layout_after L (leave_plan L n t i es))
    leave-becomes zero es p q h = left_at zero es p q (λ z. absurd (omega arith)) h
    leave-becomes (suc i) [] p q h =
        record {
          table = without t (suc i);
          is = unlink-layout (suc i);
          ok = gone-table (key_rule n) (keys-ordered n) t ok k i p q;
          root = refl;
          entries = gone-entries (key_rule n) (keys-ordered n) t ok k i p q;
        }
    leave-becomes (suc i) (e ∷ es) p q h = left_at (suc i) (e ∷ es) p q (λ z. omega arith) h

    -- what remove makes of a table
    pub remove-becomes : lacks L (remove_plan L n t k) ≡ false → Becomes L n t (erase k (entries_of t)) (layout_after L (remove_plan L n t k))
    unfolding remove_plan
    remove-becomes h = leave-becomes (target (key_rule n) k t) (left_by (key_rule n) t k) refl refl h

-- ---- Create

module _ (L : Layout) (n : List ℕ) where
  -- the pages drawn
  abbrev pub create_drawn : List ℕ
  create_drawn = (drawn_by L (create_plan L n)).pages

  -- how many of them are for the metaindex
  abbrev pub meta_pages : ℕ
  meta_pages = wanted_by (parts L.meta (meta_with L n (target name_rule n L.meta) 0))

  -- the new table, on the three pages behind those
  abbrev pub created : Table
  created = empty_table L.span_size (get_or create_drawn meta_pages 0) (get_or create_drawn (meta_pages + 1) 0) (get_or create_drawn (meta_pages + 2) 0)

  -- the metaindex with its name
  abbrev pub meta_after : Table
  meta_after = table_with L.meta (target name_rule n L.meta) (put_into name_rule L.meta n (word32 created.root)) create_drawn

  -- the layout after it
  pub create-layout : layout_after L (create_plan L n)
      ≡ record { pages = L.pages; span_size = L.span_size; meta = meta_after; tables = insert name_rule n created L.tables; free = (layout_after L (create_plan L n)).free }
  unfolding layout_after create_plan rewrite
  create-layout = refl

  -- pages enough for the metaindex, and the three of the table behind them
  pub create-drawn : lacks L (create_plan L n) ≡ false → length create_drawn ≡ meta_pages + 3
  unfolding create_plan
  create-drawn h = plan-drawn L (create_plan L n) h

  module _ (ok : LayoutOk L) (a : T (name_rule.allowed n)) (h : lacks L (create_plan L n) ≡ false) where
    meta-enough : wanted_by (parts L.meta (put_into name_rule L.meta n (word32 created.root))) ≤ length create_drawn
    meta-enough = omega (arith, create-drawn h, meta-wanted L n created.root)

    -- the rules are kept
    pub create-ok : LayoutOk (layout_after L (create_plan L n))
    create-ok =
        subst LayoutOk (sym create-layout)
        (record {
          pages = ok.pages;
          span_size = ok.span_size;
          meta_page =
              (kept-after L.meta (parts L.meta (put_into name_rule L.meta n (word32 created.root)))
              (share (parts L.meta (put_into name_rule L.meta n (word32 created.root))) create_drawn) (target name_rule n L.meta)).root ∙ ok.meta_page;
          meta_ok = meta-ok L.meta ok.meta_ok n created.root create_drawn meta-enough a;
          meta_entries = meta-lists L.meta ok.meta_ok n created.root create_drawn meta-enough L.tables created refl ok.meta_entries;
          tables_ok =
              tables-insert L.tables n created
              (new_ok (key_rule n) L.span_size (get_or create_drawn meta_pages 0) (get_or create_drawn (meta_pages + 1) 0) (get_or create_drawn (meta_pages + 2) 0) ok.span_size) ok.tables_ok;
        })

  -- the ledger has the name with an empty map
  pub create-ledger : ledger_of (layout_after L (create_plan L n)) ≡ ledger_after L (create n)
  unfolding ledger_of
  create-ledger =
      ap ledger_of create-layout ∙ ap (λ (ns : List (Keyed (List Entry))). record { pages = L.pages; tables = ns }) (insert-under entries_of name_rule n created L.tables)

-- ---- Each call

-- after a call on L: the rules, and the ledger's tables
pub record Done (L : Layout) (op : Op) (M : Layout) : Type 0 where
  pub ok : LayoutOk M
  pub ledger : ledger_of M ≡ ledger_after L op

-- where the table is there, what is done is done on it
pub on-table : (L : Layout) (n : List ℕ) (t : Table) (f : Table → Plan) → find n L.tables ≡ some t → on_table L n f ≡ some (f t)
unfolding on_table
on-table L n t f e = ap (Option.map f) e

-- one plan, whichever way it is named
same-plan : (a : Option Plan) (p q : Plan) → a ≡ some p → a ≡ some q → p ≡ q
same-plan a p q e f = cc

unplanned : (a : Option Plan) (p : Plan) → a ≡ none → a ≡ some p → ⊥
unplanned a p e f = let z : ◌≡◌ {A = ℕ} 0 1 = cc in omega arith

-- an unrefused call that does not lack pages leaves a layout that keeps the rules, with the ledger's tables
pub done-after : (L : Layout) (op : Op) (room : ℕ) (p : Plan) → LayoutOk L → refused (ledger_of L) op room ≡ none → plan_of L op ≡ some p → lacks L p ≡ false → Done L op (layout_after L p)
done-after L check room p ok r e h = absurd (let z : ◌≡◌ {A = ℕ} 0 1 = cc in omega arith)
done-after L (get n k) room p ok r e h = absurd (let z : ◌≡◌ {A = ℕ} 0 1 = cc in omega arith)
done-after L (put n k v) room p ok r e h =
    let x : OnTable L n k × (length v ≤ 65535) = put-allowed L room n k v r in
    let t : Table = x.0.table in
    let q : p ≡ put_plan L n t k v = same-plan (plan_of L (put n k v)) p (put_plan L n t k v) e (on-table L n t (λ u. put_plan L n u k v) x.0.found) in
    let b : Becomes L n t (insert (key_rule n) k v (entries_of t)) (layout_after L (put_plan L n t k v))
    = put-becomes L n t (table-found L.tables n t ok.tables_ok x.0.found) k v x.0.key_ok x.1 (subst (λ (y : Plan). lacks L y ≡ false) q h) in
    subst (λ (y : Plan). Done L (put n k v) (layout_after L y)) (sym q)
    (record {
      ok = becomes-ok L n t (insert (key_rule n) k v (entries_of t)) (layout_after L (put_plan L n t k v)) b x.0.found ok;
      ledger =
          becomes-ledger L n t (insert (key_rule n) k v (entries_of t)) (layout_after L (put_plan L n t k v)) b
          ∙ ap (λ (es : List Entry). record { pages = L.pages; tables = insert name_rule n (insert (key_rule n) k v es) (ledger_of L).tables }) (sym (ledger-map L n t x.0.found));
    })
done-after L (remove n k) room p ok r e h =
    let x : OnTable L n k = (remove-allowed L room n k r).0 in
    let t : Table = x.table in
    let q : p ≡ remove_plan L n t k = same-plan (plan_of L (remove n k)) p (remove_plan L n t k) e (on-table L n t (λ u. remove_plan L n u k) x.found) in
    let b : Becomes L n t (erase k (entries_of t)) (layout_after L (remove_plan L n t k))
    = remove-becomes L n t (table-found L.tables n t ok.tables_ok x.found) k (subst (λ (y : Plan). lacks L y ≡ false) q h) in
    subst (λ (y : Plan). Done L (remove n k) (layout_after L y)) (sym q)
    (record {
      ok = becomes-ok L n t (erase k (entries_of t)) (layout_after L (remove_plan L n t k)) b x.found ok;
      ledger =
          becomes-ledger L n t (erase k (entries_of t)) (layout_after L (remove_plan L n t k)) b
          ∙ ap (λ (es : List Entry). record { pages = L.pages; tables = insert name_rule n (erase k es) (ledger_of L).tables }) (sym (ledger-map L n t x.found));
    })
done-after L (next n k) room p ok r e h = absurd (let z : ◌≡◌ {A = ℕ} 0 1 = cc in omega arith)
done-after L (create n) room p ok r e h =
    let q : p ≡ create_plan L n = same-plan (plan_of L (create n)) p (create_plan L n) e refl in
    subst (λ (y : Plan). Done L (create n) (layout_after L y)) (sym q)
    (record {
      ok = create-ok L n ok (create-allowed L room n r).0 (subst (λ (y : Plan). lacks L y ≡ false) q h);
      ledger = create-ledger L n;
    })

-- an unrefused call with nothing to do leaves the ledger
pub none_after : (L : Layout) (op : Op) (room : ℕ) → refused (ledger_of L) op room ≡ none → plan_of L op ≡ none → ledger_after L op ≡ ledger_of L
unfolding ledger_of
none_after L check room r e = refl
none_after L (get n k) room r e = refl
none_after L (put n k v) room r e =
    let x : OnTable L n k = (put-allowed L room n k v r).0 in
    absurd (unplanned (plan_of L (put n k v)) (put_plan L n x.table k v) e (on-table L n x.table (λ u. put_plan L n u k v) x.found))
none_after L (remove n k) room r e =
    let x : OnTable L n k = (remove-allowed L room n k r).0 in
    absurd (unplanned (plan_of L (remove n k)) (remove_plan L n x.table k) e (on-table L n x.table (λ u. remove_plan L n u k) x.found))
none_after L (next n k) room r e = refl
none_after L (create n) room r e = absurd (unplanned (plan_of L (create n)) (create_plan L n) e refl)
