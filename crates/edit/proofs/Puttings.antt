-- The ways through `put`: the change of its spot is the text's plan.
use Prim.Native.Nat.{ℕ, ◌+◌, ◌-◌, ◌/◌, ◌≤◌, ◌<◌}
use native.Mathlib.Omega.{arith}
use mathlib.Core.Path.{◌≡◌, refl, ap, sym, ◌∙◌, subst}
use mathlib.Core.Bool.{true, false}
use mathlib.Core.List.{List, []}
use lib.ListN.{length}
use borrow.Author.Tests.{le-ltb, lt-ltb}
use Rattle.std.specs.Prelude.{Some, None, Result}
use Rattle.std.proofs.lemmas.Option.{none-some}
use Rattle.blockfile.specs.Bytes.{Write, apply}
use Rattle.blockfile.specs.Layout.{Entry, Table, Layout, columns, free_count}
use Rattle.blockfile.specs.Order.{key_rule, insert}
use Rattle.blockfile.specs.WellFormed.{TableOk}
use Rattle.blockfile.specs.Plan.{Plan as TextPlan, drawn_by, lacks, changes_of}
use Rattle.blockfile.specs.Put.{target, span_at, parts, wanted_by, rewrite_plan, put_plan}
use Rattle.laws.proofs.Draws.{left-drawn}
use Rattle.laws.proofs.Orders.{keys-ordered}
use Rattle.laws.proofs.Targets.{target_is}
use Rattle.laws.proofs.TablePut.{put-few}
use Rattle.laws.proofs.Fitting.{keys-short}
use Rattle.search.specs.declared.table.TableRef.{TableRef}
use Rattle.search.specs.declared.path.Path.{Path}
use Rattle.search.specs.Tables.{ReadingBy, TargetIn}
use Rattle.search.specs.Paths.{PathIn}
use Rattle.search.proofs.Readables.{table_by}
use Rattle.search.proofs.Tables.{said-target}
use Rattle.links.proofs.Leading.{path-target}
use Rattle.stage.specs.declared.change.Change.{Change}
use Rattle.stage.specs.Changes.{Fits, put_at, Spotted, SpottedOn}
use Rattle.edit.specs.declared.plan.Plan.{Plan}
use Rattle.edit.specs.Shapes.{ContsCounted}
use Rattle.edit.specs.Makes.{PlanReady, PlanFor}
use Rattle.edit.specs.Applies.{wanted_of}
use Rattle.edit.specs.Rewrites.{changed, writes_for, RewriteOf, CarryOn, CarriedOn}
use Rattle.edit.specs.Puts.{CarriedOut, TableAt, PutReady, PutDone}
use Rattle.edit.proofs.Stands.{table-standing}
use Rattle.edit.proofs.Committing.{plan-total}
use Rattle.edit.proofs.Rewritings.{plan-is, plan-ready, counted, carries, written}

-- the answer tells how many pages are free
pub told : {img : List ℕ} {L : Layout} {p : TextPlan} {m n : ℕ} {out : List ℕ} → CarriedOut img L p m out → Some m ≡ Some n → CarriedOut img L p n out
told {img} {L} {p} {m} {n} {out} c e = let i : m ≡ n = cc in subst (λ (k : ℕ). CarriedOut img L p k out) i c

-- a span rewritten with the entries es is the text's plan for them
pub plan-writes : (L : Layout) (name : List ℕ) (t : Table) (i : ℕ) {es fs : List Entry} → fs ≡ es → writes_for t i L.free fs ≡ changes_of L (rewrite_plan L name t i es)
unfolding changes_of rewrite_plan
plan-writes L name t i e = ap (writes_for t i L.free) e

-- the pages old and free, but for those wanted, are free after it
pub plan-left : (L : Layout) (name : List ℕ) (t : Table) (i : ℕ) {es fs : List Entry} → fs ≡ es → wanted_by (parts t fs) ≤ length (span_at t i).conts + free_count L.free
    → free_count (drawn_by L (rewrite_plan L name t i es)).free + wanted_by (parts t fs) ≡ length (span_at t i).conts + free_count L.free
unfolding rewrite_plan
plan-left L name t i {es} {fs} e room =
    let old : List ℕ = (span_at t i).conts in
    subst (λ (l : List Entry). free_count (drawn_by L (rewrite_plan L name t i l)).free + wanted_by (parts t fs) ≡ length old + free_count L.free) e
    (omega (arith, left-drawn old (wanted_by (parts t fs)) [] L.free room))

abbrev pub reading : {img : List ℕ} {d : TableRef} {L : Layout} {name : List ℕ} {t : Table} → TableAt img d L name t → ReadingBy img d
reading {img} {d} {L} {name} {t} a = table_by img L a.well name t a.found d a.at a.sorts

module _ {img : List ℕ} {d : TableRef} {L : Layout} {name : List ℕ} {t : Table} (a : TableAt img d L name t) (k : List ℕ) where
  abbrev pub place : ℕ
  place = target (key_rule name) k t

  abbrev pub ok : TableOk (key_rule name) t
  ok = (table-standing img L a.well name t a.found).readable.ok

  pub inside : place < length (columns t)
  inside = (target_is (key_rule name) (keys-ordered name) k t ok).place

  module _ (page : ℕ) (f : TargetIn img d k page) (s : Result ℕ ℕ) (g : SpottedOn img page d.sort k s) where
    pub spotted : Spotted (key_rule name) k (span_at t place).entries s
    spotted = said-target (reading a) k page f (λ r es. Spotted r k es s) g.is

    module _ (ch : Change) (made : ch ≡ put_at s) where
      -- the entries after the change are those with the key's value
      inserted : (v : List ℕ) → changed t place ch k v ≡ insert (key_rule name) k v (span_at t place).entries
      inserted v = ap (λ (x : Change). changed t place x k v) made ∙ sym (spotted.put v)

      pub rewrite_of : (v : List ℕ) → RewriteOf img d.root page ch k v (key_rule name) t L.free place
      rewrite_of v =
          record {
            standing = table-standing img L a.well name t a.found;
            at = sym a.at;
            change = record {
              inside = inside;
              at = f.is (reading a);
              fits = subst (λ (x : Change). Fits x (span_at t place).entries) (sym made) (record { inside = spotted.inside; few = spotted.few });
            };
            few = subst (λ (es : List Entry). length es ≤ t.span_size + 1) (sym (inserted v)) (put-few (key_rule name) (keys-ordered name) t ok k v);
          }

-- ---- The plan

module _ {img scratch : List ℕ} {d : TableRef} {free : ℕ} {k v : List ℕ} (h : PutReady img scratch d free k v) (page : ℕ) (f : TargetIn img d k page)
    (s : Result ℕ ℕ) (g : SpottedOn img page d.sort k s) (ch : Change) (made : ch ≡ put_at s) where
  abbrev pub change_of : RewriteOf img d.root page ch k v (key_rule h.name) h.table h.layout.free (place h.is k)
  change_of = rewrite_of h.is k page f s g ch made v

  pub put-planned : PlanReady img d.root page ch (length k + length v)
  put-planned = plan-ready change_of (omega (arith, keys-short h.name k h.allowed, h.short))

-- ---- The answers

module _ {img : List ℕ} {d : TableRef} {free : ℕ} {k : List ℕ} (v : List ℕ) (page : ℕ) (f : TargetIn img d k page) (s : Result ℕ ℕ) (g : SpottedOn img page d.sort k s) (ch : Change) (made : ch ≡ put_at s)
    {x : Plan} (q : PlanFor img d.root page ch (length k + length v) 0 (length img / 1024) x) (n : ℕ) (m : ContsCounted img page n) where
  module _ {L : Layout} {name : List ℕ} {t : Table} (a : TableAt img d L name t) (h : free_count L.free ≡ free) where
    abbrev o : RewriteOf img d.root page ch k v (key_rule name) t L.free (place a k)
    o = rewrite_of a k page f s g ch made v

    -- the entries after the change are the text's
    wanted-is : wanted_of x ≡ wanted_by (parts t (insert (key_rule name) k v (span_at t (place a k)).entries))
    wanted-is = plan-total (plan-is o q) ∙ ap (λ (es : List Entry). wanted_by (parts t es)) (inserted a k page f s g ch made v)

    lacking : n + free < wanted_of x → lacks L (put_plan L name t k v) ≡ true
    unfolding lacks put_plan rewrite_plan
    lacking l = lt-ltb (length (span_at t (place a k)).conts + free_count L.free) _ (omega (arith, counted o q n m, wanted-is))

    module _ (l : wanted_of x ≤ n + free) where
      has_room : wanted_by (parts t (changed t (place a k) ch k v)) ≤ length (span_at t (place a k)).conts + free_count L.free
      has_room = omega (arith, counted o q n m, plan-total (plan-is o q))

      enough : lacks L (put_plan L name t k v) ≡ false
      unfolding lacks put_plan rewrite_plan
      enough = le-ltb (length (span_at t (place a k)).conts + free_count L.free) _ (omega (arith, counted o q n m, wanted-is))

      left_is : n + free - wanted_of x ≡ free_count (drawn_by L (put_plan L name t k v)).free
      unfolding put_plan
      left_is = omega (arith, counted o q n m, plan-total (plan-is o q), plan-left L name t (place a k) (inserted a k page f s g ch made v) has_room)

      image-is : {path : Path} → PathIn img d k false path → {out : List ℕ} → CarriedOn img x ch k v path.pages out → out ≡ apply (changes_of L (put_plan L name t k v)) img
      unfolding put_plan
      image-is p w = written o q has_room (w.image (key_rule name) t L.free (place a k) (carries o q has_room) (path-target (reading a) k p)) ∙ ap (λ (ws : List Write). apply ws img) (plan-writes L name t (place a k) (inserted a k page f s g ch made v))

  pub put_full : n + free < wanted_of x → PutDone img d free k v None img
  put_full l = record { done = λ b e. absurd (none-some _ e); refused = λ e L name t a h. (lacking a h l, refl) }

  module _ (l : wanted_of x ≤ n + free) where
    module _ {path : Path} (p : PathIn img d k false path) where
      pub put-carries : {b : List ℕ} → PutReady img b d free k v → CarryOn img b x ch k v path.pages
      put-carries h =
          record {
            ready = record {
              rule = key_rule h.name;
              table = h.table;
              blocks = h.layout.free;
              place = place h.is k;
              carries = carries (change_of h page f s g ch made) q (has_room h.is h.pages l);
              lent = h.lent;
            };
            passed = path-target (reading h.is) k p;
          }

      pub put-done : {out : List ℕ} → CarriedOn img x ch k v path.pages out → PutDone img d free k v (Some (n + free - wanted_of x)) out
      put-done w =
          record {
            done = λ b e L name t a h. (enough a h l, told (record { image = image-is a h l p w; left = left_is a h l }) e);
            refused = λ e. absurd (none-some _ (sym e));
          }
