-- The ways through `enter`: the metaindex gets the name with its table's page, and the table is the text's.
use Prim.Native.Nat.{ℕ, suc, ◌+◌, ◌*◌, ◌-◌, ◌/◌, ◌≤◌, ◌<◌}
use native.Mathlib.Omega.{arith}
use mathlib.Core.Path.{◌≡◌, refl, ap, sym, ◌∙◌, subst}
use mathlib.Core.List.{List, [], ◌∷◌, ◌++◌, append_assoc}
use mathlib.Core.Option.{none, map}
use lib.ListN.{length, get_or, replicate}
use lib.Seq.{sets}
use borrow.Author.Tests.{le-ltb, lt-ltb}
use Rattle.std.specs.Prelude.{Some, None}
use Rattle.std.proofs.lemmas.Option.{none-some}
use Rattle.blockfile.specs.Bytes.{Write, word32, apply}
use Rattle.blockfile.specs.Layout.{Entry, Table, Layout, entries_of, free_count}
use Rattle.blockfile.specs.Order.{name_rule, find, insert}
use Rattle.blockfile.specs.Free.{Drawn, draw}
use Rattle.blockfile.specs.Plan.{lacks, changes_of}
use Rattle.blockfile.specs.Put.{target, span_at, parts, wanted_by, Edited, rewrite}
use Rattle.blockfile.specs.Create.{empty_table, whole_table, meta_with, create_plan}
use Rattle.laws.specs.FreeList.{FreeList}
use Rattle.laws.proofs.Numbers.{length-word32}
use Rattle.laws.proofs.Draws.{left-drawn}
use Rattle.laws.proofs.Orders.{names-ordered}
use Rattle.laws.proofs.Middle.{find-under}
use Rattle.laws.proofs.Grows.{new-wanted}
use Rattle.laws.proofs.TakeOrder.{take_order, taken_at, drawn-at}
use Rattle.laws.proofs.Writes.{apply-append}
use Rattle.laws.proofs.Fitting.{names-short}
use Rattle.pages.specs.Taking.{Ahead, TakenAfter}
use Rattle.draw.proofs.Hands.{shown}
use Rattle.stage.specs.declared.change.Change.{Change}
use Rattle.edit.specs.declared.plan.Plan.{Plan}
use Rattle.edit.specs.Shapes.{ContsReady, ContsCounted}
use Rattle.edit.specs.Makes.{PlanReady, PlanFor}
use Rattle.edit.specs.Applies.{wanted_of}
use Rattle.edit.specs.Commits.{drawn_with}
use Rattle.edit.specs.Rewrites.{changed, RewriteOf, Carries, CarryOn, CarriedOn}
use Rattle.edit.proofs.Stands.{besides, in_hand, columns-few}
use Rattle.edit.proofs.Committing.{plan-total}
use Rattle.edit.proofs.Rewritings.{table_at, all-few, plan-is, conts-ready, counted, conts-near, span-near, tower-near}
use Rattle.edit.proofs.Puttings.{told}
use Rattle.create.specs.declared.table.NewTable.{NewTable}
use Rattle.create.specs.Tables.{TableFor}
use Rattle.create.specs.Creates.{Outcome, Enters, EnterReady, Entered}

module _ {img : List ℕ} {page free : ℕ} {c : Change} {name path : List ℕ} {L : Layout} (e : Enters img page free c name path L) where
  abbrev i : ℕ
  i = target name_rule name L.meta

  abbrev old : List ℕ
  old = (span_at L.meta i).conts

  -- the pages wanted for the metaindex
  abbrev w : ℕ
  w = wanted_by (parts L.meta (meta_with L name i 0))

  -- the change, with any value
  abbrev any : RewriteOf img 2 page c name (word32 0) name_rule L.meta L.free i
  any = e.rewrite (word32 0)

  free-shown : FreeList img L.free
  free-shown =
      shown {old = []}
      (record {
        pages = any.standing.pages;
        span_size = any.standing.span_size;
        things = besides any.standing.around L.meta i;
        free = L.free;
        spare = old ++ ((span_at L.meta i).page ∷ []);
        holds = in_hand any.standing i any.change.inside;
        few = any.standing.few;
      })

  pub small : length img ≤ 4194304
  small = any.standing.readable.small

  -- the name is not in the metaindex
  absent : find name (entries_of L.meta) ≡ none
  absent =
      ap (find name) e.none.well.meta_entries ∙ find-under (λ t. word32 t.root) name L.tables ∙ ap (map (λ t. word32 t.root)) e.none.absent

  module _ {base : ℕ} {x : Plan} (q : PlanFor img 2 page c (length name + 4) 3 base x) where
    -- the plan is good for every value of four bytes
    with_value : (v : List ℕ) → length v ≡ 4 → PlanFor img 2 page c (length name + length v) 3 base x
    with_value v l = subst (λ (n : ℕ). PlanFor img 2 page c (length name + n) 3 base x) (sym l) q

    abbrev plan : PlanFor img 2 page c (length name + length (word32 0)) 3 base x
    plan = with_value (word32 0) (length-word32 0)

    pub conts-known : ContsReady img page x.links.size
    conts-known = conts-ready any plan

    pub wanted-near : wanted_of x < 4398046511104
    wanted-near = omega (arith, conts-near any plan, span-near any plan, tower-near any plan)

    wanted-is : wanted_of x ≡ w
    wanted-is = plan-total (plan-is any plan) ∙ ap (λ (es : List Entry). wanted_by (parts L.meta es)) (e.puts (word32 0))

    module _ (n : ℕ) (m : ContsCounted img page n) where
      old-is : n ≡ length old
      old-is = counted any plan n m

      pub reach_few : n + free ≤ 4096
      reach_few = omega (arith, old-is, e.none.pages, all-few any, small)

      -- no page is left over
      pub all-used : n ≤ wanted_of x
      all-used = omega (arith, old-is, wanted-is, new-wanted name_rule names-ordered L.meta e.none.well.meta_ok name (word32 0) absent)

      pub not-enough : n + free < wanted_of x + 3 → Outcome img L name None img
      unfolding lacks create_plan
      not-enough l =
          record {
            done = λ b a. absurd (none-some _ a);
            refused = λ a. (lt-ltb (length old + free_count L.free) (w + 3) (omega (arith, old-is, wanted-is, e.none.pages)), refl);
          }

      -- ---- There is room

      module _ (l : wanted_of x + 3 ≤ n + free) where
        pub pages-ahead : Ahead img (wanted_of x - n + 2)
        pages-ahead = record { free = L.free; shown = free-shown; more = omega (arith, e.none.pages, all-used) }

        carries : 1024 * x.base ≡ length img → (v : List ℕ) → length v ≡ 4 → Carries img x c name v name_rule L.meta L.free i
        carries k v four =
            record {
              root = 2;
              page = page;
              more = 3;
              base = base;
              is = e.rewrite v;
              plan = with_value v four;
              whole = k;
              room = omega (arith, old-is, e.none.pages, q.further);
            }

        -- ---- The pages drawn

        abbrev drawn : Drawn
        drawn = draw old (w + 3) [] L.free

        room : w + 3 ≤ length old + free_count L.free
        room = omega (arith, old-is, wanted-is, e.none.pages)

        -- a page of the table is the one drawn at its place
        drawn-as : (k j place : ℕ) → k < 3 → j ≡ wanted_of x - n + k → place ≡ w + k → (r : ℕ) → TakenAfter img j r → r ≡ get_or drawn.pages place 0
        drawn-as k j place a b d r t =
            let f : j < free_count L.free = omega (arith, room, wanted-is, old-is, all-used) in
            let g : place - length old ≡ j = omega (arith, wanted-is, old-is, all-used) in
            t.is L.free free-shown f ∙ taken_at (suc j) j L.free (omega arith) (omega arith) ∙ ap (λ (m : ℕ). get_or (take_order L.free) m 0) (sym g)
            ∙ sym (drawn-at old (w + 3) place L.free (omega (arith, old-is, wanted-is, all-used)) (omega arith) room)

        -- ---- The table

        module _ (t : NewTable) (f : TableFor img (wanted_of x - n) t) where
          root_is : t.root ≡ get_or drawn.pages w 0
          root_is = drawn-as 0 (wanted_of x - n) w (omega arith) (omega arith) (omega arith) t.root f.root

          span-is : t.span ≡ get_or drawn.pages (w + 1) 0
          span-is = drawn-as 1 (wanted_of x - n + 1) (w + 1) (omega arith) refl refl t.span f.span

          head-is : t.head ≡ get_or drawn.pages (w + 2) 0
          head-is = drawn-as 2 (wanted_of x - n + 2) (w + 2) (omega arith) refl refl t.head f.head

          most-is : t.most ≡ L.span_size
          most-is = f.most ∙ e.none.well.bears.0.span_size

          -- the text's table
          abbrev made : Table
          made = empty_table L.span_size (get_or drawn.pages w 0) (get_or drawn.pages (w + 1) 0) (get_or drawn.pages (w + 2) 0)

          made-is : empty_table t.most t.root t.span t.head ≡ made
          made-is = λ k. empty_table (most-is k) (root_is k) (span-is k) (head-is k)

          module _ (v : List ℕ) (s : v ≡ word32 t.root) where
            four : length v ≡ 4
            four = ap length s ∙ length-word32 t.root

            entries-are : changed L.meta i c name v ≡ meta_with L name i (get_or drawn.pages w 0)
            entries-are = e.puts v ∙ ap (λ (u : List ℕ). insert name_rule name u (span_at L.meta i).entries) (s ∙ ap word32 root_is)

            drawn-is : drawn_with L.meta i L.free (changed L.meta i c name v) x.more ≡ drawn
            drawn-is =
                let k : wanted_by (parts L.meta (changed L.meta i c name v)) + x.more ≡ w + 3
                = omega (arith, plan-total (plan-is (e.rewrite v) (with_value v four)), wanted-is, q.further) in
                ap (λ (m : ℕ). draw old m [] L.free) k

            pub all_done : 1024 * x.base ≡ length img → (img1 : List ℕ) → CarriedOn img x c name v path img1 → (out : List ℕ)
                → out ≡ apply (whole_table (empty_table t.most t.root t.span t.head)) img1 → Outcome img L name (Some (n + free - (wanted_of x + 3))) out
            unfolding lacks changes_of create_plan
            all_done k img1 d out g =
                record {
                  done = λ b a. (
                    le-ltb (length old + free_count L.free) (w + 3) room,
                    told
                        (record {
                          image = g
                              ∙ (λ j. apply (whole_table (made-is j)) (entered j))
                              ∙ sym (apply-append (drawn.writes ++ named.writes) (whole_table made) img)
                              ∙ ap (λ (ws : List Write). apply ws img) (append_assoc drawn.writes named.writes (whole_table made));
                          left = omega (arith, old-is, wanted-is, e.none.pages, left-drawn old (w + 3) [] L.free room);
                        })
                        a,
                  );
                  refused = λ a. absurd (none-some _ (sym a));
                }
              where
                named : Edited
                named = rewrite L.meta i (meta_with L name i (get_or drawn.pages w 0)) drawn.pages

                entered : img1 ≡ apply (drawn.writes ++ named.writes) img
                entered =
                    d.image name_rule L.meta L.free i (carries k v four) e.passed
                    ∙ (λ j. apply ((drawn-is j).writes ++ (rewrite L.meta i (entries-are j) (drawn-is j).pages).writes) img)

-- ---- The metaindex's page of names

module _ {img b : List ℕ} {page free : ℕ} {c : Change} {name path : List ℕ} (h : EnterReady img b page free c name path) where
  pub plan-ready : PlanReady img 2 page c (length name + 4)
  plan-ready =
      let o = h.enters.rewrite (word32 0) in
      record {
        reading = table_at o;
        place = target name_rule name h.layout.meta;
        change = o.change;
        few = columns-few o.standing;
        short = omega (arith, names-short name h.allowed);
      }

  pub whole-pages : {base : ℕ} {x : Plan} → base ≡ length img / 1024 → PlanFor img 2 page c (length name + 4) 3 base x → 1024 * x.base ≡ length img
  whole-pages e q = omega (arith, q.words, (h.enters.rewrite (word32 0)).standing.shows.size)

  pub carry-ready : {base : ℕ} {x : Plan} (q : PlanFor img 2 page c (length name + 4) 3 base x) (n : ℕ) (m : ContsCounted img page n) → wanted_of x + 3 ≤ n + free
      → 1024 * x.base ≡ length img → (r : ℕ) (v : List ℕ) → v ≡ word32 r → CarryOn img b x c name v path
  carry-ready q n m l k r v s =
      record {
        ready = record {
          rule = name_rule;
          table = h.layout.meta;
          blocks = h.layout.free;
          place = target name_rule name h.layout.meta;
          carries = carries h.enters q n m l k v (ap length s ∙ length-word32 r);
          lent = h.lent;
        };
        passed = h.enters.passed;
      }

-- four bytes stored over four
pub stored-word : (r : ℕ) → sets (replicate 4 0) 0 (word32 r) ≡ word32 r
unfolding word32
stored-word r = refl

module _ {img : List ℕ} {page free : ℕ} {c : Change} {name path : List ℕ} {base : ℕ} {x : Plan} (q : PlanFor img 2 page c (length name + 4) 3 base x)
    (n : ℕ) (m : ContsCounted img page n) where
  pub no_room : n + free < wanted_of x + 3 → Entered img page free c name path None img
  no_room l = record { is = λ L e. not-enough e q n m l }

  pub entered : wanted_of x + 3 ≤ n + free → 1024 * x.base ≡ length img → (t : NewTable) → TableFor img (wanted_of x - n) t → (v : List ℕ) → v ≡ word32 t.root
      → (img1 : List ℕ) → CarriedOn img x c name v path img1 → (out : List ℕ) → out ≡ apply (whole_table (empty_table t.most t.root t.span t.head)) img1
      → Entered img page free c name path (Some (n + free - (wanted_of x + 3))) out
  entered l k t f v s img1 d out g = record { is = λ L e. all_done e q n m l t f v s k img1 d out g }
