-- The ways through `remove`: the span rewritten or unlinked is the text's plan.
use Prim.Native.Nat.{ℕ, zero, suc, ◌+◌, ◌≤◌, ◌<◌}
use native.Mathlib.Omega.{arith}
use mathlib.Core.Path.{◌≡◌, refl, ap, sym, ◌∙◌, subst}
use mathlib.Core.Logic.{◌⊎◌, inl, inr}
use mathlib.Core.Bool.{Bool, true, false, cond}
use mathlib.Core.List.{List, [], ◌∷◌, ◌++◌, map}
use mathlib.Core.Option.{Option, none, some}
use lib.ListN.{length, take, drop, length-map}
use lib.Dec.{T}
use Rattle.std.specs.Prelude.{Some, None, Result, Ok, Err}
use Rattle.std.proofs.lemmas.Option.{none-some}
use Rattle.blockfile.specs.Bytes.{Write, apply}
use Rattle.blockfile.specs.Layout.{Entry, Tower, Column, Table, Layout, columns, tower_in, towers_of, entries_of, free_count}
use Rattle.blockfile.specs.Order.{key_rule, same, find, erase}
use Rattle.blockfile.specs.Plan.{changes_of}
use Rattle.blockfile.specs.Put.{span_at, parts, wanted_by, rewrite_plan}
use Rattle.blockfile.specs.Remove.{towers_at, unlink_plan, leave_plan, remove_plan}
use Rattle.blockfile.proofs.Bools.{same-eq}
use Rattle.laws.proofs.Draws.{left-drawn}
use Rattle.laws.proofs.Orders.{keys-ordered}
use Rattle.laws.proofs.Targets.{target_is, find_at}
use Rattle.laws.proofs.Paths.{BeginsWith}
use Rattle.laws.proofs.TableRemove.{left-fits}
use Rattle.laws.proofs.Room.{left-wants}
use Rattle.search.specs.declared.table.TableRef.{TableRef}
use Rattle.search.specs.declared.path.Path.{Path}
use Rattle.search.specs.Tables.{TargetIn}
use Rattle.search.specs.Paths.{PathIn}
use Rattle.links.proofs.Leading.{path-strict}
use Rattle.stage.specs.Changes.{Fits, Spotted, SpottedOn}
use Rattle.stage.proofs.Splices.{length-spliced}
use Rattle.edit.specs.declared.fields.Links.{Links}
use Rattle.edit.specs.Fields.{LinkedOn, LinksOf, LinksRead}
use Rattle.edit.specs.Standing.{here_at}
use Rattle.edit.specs.Stages.{coming}
use Rattle.edit.specs.Puts.{CarriedOut, TableAt}
use Rattle.edit.proofs.Stands.{table-standing, span-borne}
use Rattle.edit.proofs.Rewritings.{all-few}
use Rattle.edit.proofs.Puttings.{told, reading, place, ok, inside, spotted, plan-writes, plan-left}
use Rattle.remove.specs.Unlinks.{gone_count, UnlinkOf, UnlinkReady, Unlinked}
use Rattle.remove.specs.Leaves.{taken_out, others, LeaveOf, LeaveReady, SpanLeft}
use Rattle.remove.specs.Removes.{RemoveReady, RemoveDone}
use Rattle.remove.proofs.Unlinkings.{prev-is}

no-entries : (es : List Entry) → length es ≡ 0 → es ≡ []
no-entries [] e = refl
no-entries (x ∷ es) e = absurd (omega arith)

-- a span has at most one tower
one_at_most : (cs : List Column) → length (towers_of (take 1 cs)) ≤ 1
one_at_most [] = omega arith
one_at_most (c ∷ cs) = go c.tower
  where
    go : (w : Option Tower) → length (tower_in w ++ []) ≤ 1
    go none = omega arith
    go (some w) = omega arith

-- one entry, and the key is among them
only-key : (k v : List ℕ) (es : List Entry) → length es ≡ 1 → find k es ≡ some v → BeginsWith k es
only-key k v [] n f = absurd (omega arith)
only-key k v (e ∷ []) n f = sym (same-eq k e.key (go (same k e.key) f))
  where
    go : (b : Bool) → cond b (some e.value) none ≡ some v → T b
    go true f = tt
    go false f = absurd (let z : ◌≡◌ {A = ℕ} 0 1 = cc in omega arith)
only-key k v (e ∷ (x ∷ es)) n f = absurd (omega arith)

-- a span that is the first, or keeps entries, is rewritten
leave-rewrites : (L : Layout) (name : List ℕ) (t : Table) (i : ℕ) (es : List Entry) → (i ≡ 0) ⊎ (es ≡ [] → ⊥) → leave_plan L name t i es ≡ rewrite_plan L name t i es
leave-rewrites L name t zero es h = refl
leave-rewrites L name t (suc i) [] (inl e) = absurd (omega arith)
leave-rewrites L name t (suc i) [] (inr n) = absurd (n refl)
leave-rewrites L name t (suc i) (x ∷ es) h = refl

module _ {img : List ℕ} {d : TableRef} {L : Layout} {name : List ℕ} {t : Table} (a : TableAt img d L name t) (k : List ℕ) (page : ℕ) (f : TargetIn img d k page) where
  abbrev i : ℕ
  i = place a k

  abbrev es : List Entry
  es = (span_at t i).entries

  pub linked_on : LinkedOn img page
  linked_on =
      record {
        small = (table-standing img L a.well name t a.found).readable.small;
        linked = here_at t i;
        borne = span-borne (table-standing img L a.well name t a.found).readable i (inside a k);
        at = sym (f.is (reading a));
      }

  module _ (s : Result ℕ ℕ) (g : SpottedOn img page d.sort k s) where
    abbrev sp : Spotted (key_rule name) k es s
    sp = spotted a k page f s g

    found_at : find k (entries_of t) ≡ find k es
    found_at = find_at (key_rule name) (keys-ordered name) k t i (target_is (key_rule name) (keys-ordered name) k t (ok a k))

    missing : (index : ℕ) → s ≡ Err index → find k (entries_of t) ≡ none
    missing index z = found_at ∙ sp.missing index z

    module _ (index : ℕ) (there : s ≡ Ok index) where
      spotted_at : Spotted (key_rule name) k es (Ok index)
      spotted_at = subst (Spotted (key_rule name) k es) there sp

      found : (v : List ℕ) × (find k (entries_of t) ≡ some v)
      found = let w = spotted_at.found index refl in (w.0, found_at ∙ w.1)

      fits : Fits (taken_out index) es
      fits = record { inside = spotted_at.inside; few = sp.few }

      -- the others are the entries without the key, one fewer
      erased : others t i index ≡ erase k es
      erased = sym (spotted_at.remove (coming [] []))

      one_fewer : length (erase k es) + 1 ≡ length es
      one_fewer = omega (arith, ap length erased, length-spliced (taken_out index) (coming [] []) es fits)

      -- never a split, and no pages but the span's own
      leave-of : LeaveOf img d.root page index (key_rule name) t L.free i
      leave-of =
          record {
            rewrite = record {
              standing = table-standing img L a.well name t a.found;
              at = sym a.at;
              change = record { inside = inside a k; at = f.is (reading a); fits = fits };
              few = subst (λ (l : List Entry). length l ≤ t.span_size + 1) (sym erased) (omega (arith, left-fits (key_rule name) (keys-ordered name) t (ok a k) k));
            };
            fits = subst (λ (l : List Entry). length l ≤ t.span_size) (sym erased) (left-fits (key_rule name) (keys-ordered name) t (ok a k) k);
            wants = subst (λ (l : List Entry). wanted_by (parts t l) ≤ length (span_at t i).conts) (sym erased) (left-wants name t (ok a k) k);
          }

      module _ (x : Links) (y : LinksRead img page x) where
        links-of : LinksOf (here_at t i) x
        unfolding linked_on
        links-of = y.is linked_on

        -- ---- The span goes

        module _ (n : (x.prev ≡ 0 → ⊥) × (x.size ≡ 1)) where
          -- it is not the first
          later : (j : ℕ) × (i ≡ suc j)
          later = go i links-of.prev
            where
              go : (m : ℕ) → x.prev ≡ (here_at t m).prev → (j : ℕ) × (m ≡ suc j)
              go zero e = absurd (n.0 e)
              go (suc m) e = (m, refl)

          none_left : erase k es ≡ []
          none_left = no-entries (erase k es) (omega (arith, one_fewer, links-of.size, n.1))

          begins : BeginsWith k (span_at t (suc later.0)).entries
          begins =
              let w = spotted_at.found index refl in
              subst (λ (m : ℕ). BeginsWith k (span_at t m).entries) later.1 (only-key k w.0 es (omega (arith, links-of.size, n.1)) w.1)

          here-inside : suc later.0 < length (columns t)
          here-inside = subst (λ (m : ℕ). m < length (columns t)) later.1 (inside a k)

          unlink-of : {path : Path} → PathIn img d k true path → UnlinkOf img d.root page x path.pages (key_rule name) t L.free later.0
          unlink-of p =
              record {
                gone = record {
                  standing = table-standing img L a.well name t a.found;
                  at = sym a.at;
                  inside = here-inside;
                  here = subst (λ (m : ℕ). page ≡ (span_at t m).page) later.1 (f.is (reading a));
                };
                links = subst (λ (m : ℕ). LinksOf (here_at t m) x) later.1 links-of;
                passed = path-strict (reading a) k p later.0 here-inside begins;
              }

          gone-plan : remove_plan L name t k ≡ unlink_plan L name t (suc later.0)
          unfolding remove_plan
          gone-plan = λ j. leave_plan L name t (later.1 j) (none_left j)

          module _ {path : Path} (p : PathIn img d k true path) {m : ℕ} {out : List ℕ} (u : Unlinked img d.root page x path.pages m out) where
            gone-many : m ≡ gone_count t (suc later.0)
            gone-many = u.given (key_rule name) t L.free later.0 (unlink-of p)

            gone-few : m ≤ length (span_at t i).conts + 2
            gone-few =
                subst (λ (j : ℕ). m ≤ length (span_at t j).conts + 2) (sym later.1) (omega (arith, gone-many, one_at_most (drop (suc later.0) (columns t))))

            gone-done : {free : ℕ} → free_count L.free ≡ free → CarriedOut img L (remove_plan L name t k) (free + m) out
            unfolding changes_of unlink_plan
            gone-done {free} e =
                let j : ℕ = suc later.0 in
                let ts : List ℕ = map (λ (w : Tower). w.page) (towers_at t j) in
                subst (λ q. CarriedOut img L q (free + m) out) (sym gone-plan)
                (record {
                  image = u.image (key_rule name) t L.free later.0 (unlink-of p);
                  left = omega (
                    arith,
                    gone-many,
                    length-map (towers_at t j) (λ (w : Tower). w.page),
                    left-drawn (span_at t j).conts 0 ((span_at t j).page ∷ ts) L.free (omega arith),
                  );
                })

        -- ---- The span is rewritten

        module _ (n : (x.prev ≡ 0) ⊎ (x.size ≡ 1 → ⊥)) where
          stays : (i ≡ 0) ⊎ (erase k es ≡ [] → ⊥)
          stays = go n
            where
              first : (m : ℕ) → m < length (columns t) → (here_at t m).prev ≡ 0 → m ≡ 0
              first zero l e = refl
              first (suc m) l e =
                  absurd (omega (arith, prev-is t m l, (span-borne (table-standing img L a.well name t a.found).readable m (omega arith)).1.0.low))

              go : (x.prev ≡ 0) ⊎ (x.size ≡ 1 → ⊥) → (i ≡ 0) ⊎ (erase k es ≡ [] → ⊥)
              go (inl e) = inl (first i (inside a k) (sym links-of.prev ∙ e))
              go (inr z) = inr (λ e. z (omega (arith, links-of.size, one_fewer, ap length e)))

          left-plan : remove_plan L name t k ≡ rewrite_plan L name t i (erase k es)
          unfolding remove_plan
          left-plan = leave-rewrites L name t i (erase k es) stays

          left-done : {free : ℕ} → free_count L.free ≡ free → {m : ℕ} {out : List ℕ} → SpanLeft img d.root page index m out
              → CarriedOut img L (remove_plan L name t k) (free + m) out
          left-done {free} e {m} {out} w =
              subst (λ q. CarriedOut img L q (free + m) out) (sym left-plan)
              (record {
                image = w.image (key_rule name) t L.free i leave-of ∙ ap (λ (ws : List Write). apply ws img) (plan-writes L name t i erased);
                left = omega (arith, w.given (key_rule name) t L.free i leave-of, plan-left L name t i erased (omega (arith, leave-of.wants)));
              })

-- ---- What the calls ask for

module _ {img scratch : List ℕ} {d : TableRef} {free : ℕ} {k : List ℕ} (h : RemoveReady img scratch d free k) (page : ℕ) (f : TargetIn img d k page)
    (s : Result ℕ ℕ) (g : SpottedOn img page d.sort k s) (index : ℕ) (there : s ≡ Ok index) where
  pub unlink-ready : (x : Links) → LinksRead img page x → (x.prev ≡ 0 → ⊥) × (x.size ≡ 1) → {path : Path} → PathIn img d k true path
      → UnlinkReady img d.root page x path.pages
  unlink-ready x y n p =
      record { rule = key_rule h.name; table = h.table; blocks = h.layout.free; place = _; is = unlink-of h.is k page f s g index there x y n p }

  pub leave-ready : LeaveReady img scratch d.root page index
  leave-ready =
      record { rule = key_rule h.name; table = h.table; blocks = h.layout.free; place = _; is = leave-of h.is k page f s g index there; lent = h.lent }

  -- the pages of the span and the free ones are no more than the image has
  pages-few : length (span_at h.table (place h.is k)).conts + free ≤ 4096
  pages-few = let o = (leave-of h.is k page f s g index there).rewrite in omega (arith, all-few o, h.pages, o.standing.readable.small)

  pub few-gone : (x : Links) → LinksRead img page x → (x.prev ≡ 0 → ⊥) × (x.size ≡ 1) → {path : Path} → PathIn img d k true path → {n : ℕ} {out : List ℕ}
      → Unlinked img d.root page x path.pages n out → free + n ≤ 4098
  few-gone x y n p u = omega (arith, pages-few, gone-few h.is k page f s g index there x y n p u)

  pub few-left : {n : ℕ} {out : List ℕ} → SpanLeft img d.root page index n out → free + n ≤ 4098
  few-left w = omega (arith, pages-few, w.given _ _ _ _ (leave-of h.is k page f s g index there))

-- ---- The answers

module _ {img : List ℕ} {d : TableRef} {free : ℕ} {k : List ℕ} (page : ℕ) (f : TargetIn img d k page) (s : Result ℕ ℕ) (g : SpottedOn img page d.sort k s) where
  pub not_there : (index : ℕ) → s ≡ Err index → RemoveDone img d free k None img
  not_there index z = record { done = λ n e. absurd (none-some _ e); missing = λ e L name t a. (missing a k page f s g index z, refl) }

  module _ (index : ℕ) (there : s ≡ Ok index) (x : Links) (y : LinksRead img page x) where
    was-there : {n : ℕ} {out : List ℕ} → ((L : Layout) (name : List ℕ) (t : Table) → TableAt img d L name t → free_count L.free ≡ free → CarriedOut img L (remove_plan L name t k) n out)
        → RemoveDone img d free k (Some n) out
    was-there h = record { done = λ m e L name t a c. (found a k page f s g index there, told (h L name t a c) e); missing = λ e. absurd (none-some _ (sym e)) }

    pub went : (x.prev ≡ 0 → ⊥) × (x.size ≡ 1) → {path : Path} → PathIn img d k true path → {n : ℕ} {out : List ℕ} → Unlinked img d.root page x path.pages n out
        → RemoveDone img d free k (Some (free + n)) out
    went z p u = was-there (λ L name t a e. gone-done a k page f s g index there x y z p u e)

    pub stayed : (x.prev ≡ 0) ⊎ (x.size ≡ 1 → ⊥) → {n : ℕ} {out : List ℕ} → SpanLeft img d.root page index n out → RemoveDone img d free k (Some (free + n)) out
    stayed z w = was-there (λ L name t a e. left-done a k page f s g index there x y z e w)
