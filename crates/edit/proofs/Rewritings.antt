-- The ways through `carry_out`: a span rewritten.
use Prim.Native.Nat.{ℕ, ◌+◌, ◌*◌, ◌/◌, ◌≤◌, ◌<◌}
use native.Mathlib.Omega.{arith}
use mathlib.Core.Path.{◌≡◌, refl, ap, sym, ◌∙◌, subst}
use mathlib.Core.List.{List, [], ◌∷◌, ◌++◌}
use lib.ListN.{length, take, drop, length-append}
use Rattle.std.specs.Int.{from_bool}
use Rattle.blockfile.specs.Bytes.{apply}
use Rattle.blockfile.specs.Layout.{Entry, Table, Block, entries_from, entries_end, reached, free_count}
use Rattle.blockfile.specs.Order.{KeyRule}
use Rattle.blockfile.specs.Free.{Drawn, draw}
use Rattle.blockfile.specs.Put.{Parts, parts, span_wanted, wanted_by, span_at, rewrite}
use Rattle.laws.proofs.Positions.{reached-one}
use Rattle.laws.proofs.Splits.{parts_whole}
use Rattle.search.specs.Spans.{SpanOn}
use Rattle.search.specs.Tables.{Reading}
use Rattle.stage.specs.declared.change.Change.{Change}
use Rattle.stage.specs.Changes.{spliced}
use Rattle.stage.proofs.Splices.{length-spliced}
use Rattle.edit.specs.declared.plan.Plan.{Plan}
use Rattle.edit.specs.Shapes.{ContsReady, ContsCounted}
use Rattle.edit.specs.Makes.{Changes, PlanReady, PlanOf, PlanFor}
use Rattle.edit.specs.Stages.{coming, PartsFor, PartsReady, PartsIn, PartsStaged}
use Rattle.edit.specs.Applies.{total_of}
use Rattle.edit.specs.Commits.{CommitOf, CommitOn, CommitReady, Committed, CommittedOn, drawn_for, drawn_with}
use Rattle.edit.specs.Rewrites.{changed, writes_for, writes_with, RewriteOf, Carries, CarryReady, Carried, CarryOn, CarriedOn}
use Rattle.edit.proofs.Stands.{columns-few}
use Rattle.edit.proofs.Makings.{span-on, entries-on, conts-on, fits_on}
use Rattle.edit.proofs.Committing.{plan-total, stay-half, move-half, drawn-few}

-- a reach of so many bytes
reach_of : (es : List Entry) (n : ℕ) → n ≡ entries_end entries_from es → reached es ≡ (n + 1015) / 1016
unfolding reached
reach_of es n e = ap (λ (m : ℕ). (m + 1015) / 1016) (sym e)

wanted-reach : (es : List Entry) → span_wanted es ≤ reached es
wanted-reach [] = omega arith
wanted-reach (e ∷ es) = omega arith

some-reach : (es : List Entry) → 1 ≤ span_wanted es → span_wanted es ≡ reached es
some-reach [] l = absurd (omega arith)
some-reach (e ∷ es) l = refl

module _ {img : List ℕ} {root page : ℕ} {c : Change} {k v : List ℕ} {r : KeyRule} {t : Table} {bs : List Block} {i : ℕ}
    (o : RewriteOf img root page c k v r t bs i) where
  abbrev pub table_at : Reading img root
  table_at = record { rule = r; table = t; readable = o.standing.readable; root = sym o.at }

  -- all pages in reach are no more than the image has
  pub all-few : 1024 * (length (span_at t i).conts + free_count bs + 1) ≤ length img
  all-few = drawn-few o.standing i o.change.inside (length (span_at t i).conts + free_count bs) (omega arith)

  module _ {more base : ℕ} {x : Plan} (q : PlanFor img root page c (length k + length v) more base x) where
    pub plan-is : PlanOf t i (changed t i c k v) x
    plan-is = q.is table_at i o.change (coming k v) refl

    pub conts-ready : ContsReady img page x.links.size
    conts-ready =
        record {
          span = span-on table_at i o.change;
          many = plan-is.links.size ∙ ap length (sym (entries-on table_at i o.change));
          few = omega (arith, plan-is.links.size, o.change.fits.few);
        }

    pub counted : (n : ℕ) → ContsCounted img page n → n ≡ length (span_at t i).conts
    counted n m = m.is (span-on table_at i o.change) ∙ ap length (conts-on table_at i o.change)

    pub conts-near : x.wants.conts < 1099511627776
    conts-near = omega (arith, plan-is.wants.conts, reach_of (parts t (changed t i c k v)).stay x.shape.stay plan-is.shape.stay, q.stay)

    pub span-near : x.wants.span < 1099511627776
    span-near =
        omega (
          arith,
          plan-is.wants.span,
          wanted-reach (parts t (changed t i c k v)).move,
          reach_of (parts t (changed t i c k v)).move x.shape.moved plan-is.shape.moved,
          q.moved,
        )

    pub tower-near : x.wants.tower ≤ 1
    tower-near = omega (arith, plan-is.wants.tower)

    -- ---- Staging

    many-changed : length (changed t i c k v) + from_bool c.drops ≡ length (span_at t i).entries + from_bool c.adds
    many-changed = length-spliced c (coming k v) (span_at t i).entries o.change.fits

    entries-are : x.shape.entries ≡ length (changed t i c k v)
    entries-are =
        plan-is.shape.entries
        ∙ omega (arith, ap length (parts_whole t (changed t i c k v)), length-append (parts t (changed t i c k v)).stay (parts t (changed t i c k v)).move)

    abbrev p : Parts
    p = parts t (changed t i c k v)

    half-low : x.shape.half ≤ x.shape.entries
    half-low = omega (arith, plan-is.shape.half, plan-is.shape.entries)

    abbrev change_at : Changes t i x.page c
    change_at = record { inside = o.change.inside; at = q.span ∙ o.change.at; fits = o.change.fits }

    abbrev here : SpanOn img x.page
    here = span-on table_at i change_at

    same : here.linked.span.entries ≡ (span_at t i).entries
    same = entries-on table_at i change_at

    pub parts-for : PartsFor img x c k v here
    parts-for =
        record {
          staying = record {
            fits = fits_on table_at i change_at;
            has = omega (arith, entries-are, many-changed, half-low, ap length same);
            end = plan-is.shape.stay ∙ ap (entries_end entries_from) (sym (stay-half t (changed t i c k v) plan-is.shape.half))
                ∙ ap (λ (es : List Entry). entries_end entries_from (take x.shape.half (spliced c (coming k v) es))) (sym same);
          };
          all = omega (arith, entries-are, many-changed, ap length same);
          half = half-low;
          end = plan-is.shape.moved ∙ ap (entries_end entries_from) (sym (move-half t (changed t i c k v) plan-is.shape.half))
              ∙ ap (λ (es : List Entry). entries_end entries_from (drop x.shape.half (spliced c (coming k v) es))) (sym same);
        }

    -- there is room
    module _ (whole : 1024 * x.base ≡ length img) (room : total_of x ≤ length (span_at t i).conts + free_count bs) where
      fits_in : 1 + total_of x ≤ x.base
      fits_in = omega (arith, drawn-few o.standing i o.change.inside (total_of x) room)

      parts-ready : (b : List ℕ) → length b ≡ length img → PartsReady img b x c k v
      parts-ready b e =
          let m : reached p.stay ≡ (x.shape.stay + 1015) / 1016 = reach_of p.stay x.shape.stay plan-is.shape.stay in
          let a : x.wants.conts + 1 ≡ reached p.stay = omega (arith, plan-is.wants.conts, reached-one p.stay) in
          let n : reached p.move ≡ (x.shape.moved + 1015) / 1016 = reach_of p.move x.shape.moved plan-is.shape.moved in
          record {
            span = here;
            parts = parts-for;
            stay = omega (arith, fits_in);
            apart = omega arith;
            moved = λ l. let g : x.wants.span ≡ reached p.move = plan-is.wants.span ∙ some-reach p.move (omega (arith, plan-is.wants.span)) in omega (arith, fits_in);
          }

      commit-of : (b : List ℕ) → length b ≡ length img → PartsStaged img x c k v b → CommitOf img b x r t bs i (changed t i c k v)
      commit-of b e g =
          record {
            standing = o.standing;
            inside = o.change.inside;
            root = q.list ∙ o.at;
            page = q.span ∙ o.change.at;
            plan = plan-is;
            few = o.few;
            staged = subst (λ (es : List Entry). PartsIn x (spliced c (coming k v) es) b) same (g.is here parts-for);
            room = omega (arith, plan-total plan-is, room);
            base = whole;
            lent = e;
          }

-- ---- Carried out

module _ {img : List ℕ} {x : Plan} {c : Change} {k v : List ℕ} where
  pub stage-ready : {b : List ℕ} → (h : CarryReady img b x c k v) → PartsReady img b x c k v
  stage-ready {b} h = let a = h.carries in parts-ready a.is a.plan a.whole a.room b h.lent

  pub commit-ready : {b₀ : List ℕ} → (h : CarryReady img b₀ x c k v) → (b : List ℕ) → length b ≡ length b₀ → PartsStaged img x c k v b → CommitReady img b x
  commit-ready h b e g =
      let a = h.carries in
      record {
        rule = h.rule;
        table = h.table;
        free = h.blocks;
        place = h.place;
        entries = _;
        is = commit-of a.is a.plan a.whole a.room b (e ∙ h.lent) g;
      }

  pub commit-on : {b₀ path : List ℕ} → (h : CarryOn img b₀ x c k v path) → (b : List ℕ) → length b ≡ length b₀ → PartsStaged img x c k v b → CommitOn img b x path
  unfolding commit-ready
  commit-on h b e g = record { ready = commit-ready h.ready b e g; passed = h.passed }

  pub carried : (b : List ℕ) → length b ≡ length img → PartsStaged img x c k v b → {n : ℕ} (out : List ℕ) → Committed img b x n out → Carried img x c k v n out
  carried b e g out d =
      record {
        image = λ r t bs i a. d.image r t bs i (changed t i c k v) (commit-of a.is a.plan a.whole a.room b e g);
        given = λ r t bs i a. d.given r t bs i (changed t i c k v) (commit-of a.is a.plan a.whole a.room b e g);
      }

  pub carried-flat : {path : List ℕ} (b : List ℕ) → length b ≡ length img → PartsStaged img x c k v b → {n : ℕ} (out : List ℕ) → Committed img b x n out
      → CarriedOn img x c k v path out
  carried-flat b e g out d = record { image = λ r t bs i a _. (carried b e g out d).image r t bs i a }

  pub carried-tall : {path : List ℕ} (b : List ℕ) → length b ≡ length img → PartsStaged img x c k v b → (out : List ℕ) → CommittedOn img b x path out → CarriedOn img x c k v path out
  carried-tall b e g out d = record { image = λ r t bs i a p. d.image r t bs i (changed t i c k v) (commit-of a.is a.plan a.whole a.room b e g) p }

-- ---- A plan without further pages

-- no further pages are drawn
drawn_plain : (t : Table) (i : ℕ) (bs : List Block) (es : List Entry) (n : ℕ) → n ≡ 0 → drawn_with t i bs es n ≡ drawn_for t i bs es
drawn_plain t i bs es n z =
    let e : wanted_by (parts t es) + n ≡ wanted_by (parts t es) = omega arith in
    ap (λ (w : ℕ). draw (span_at t i).conts w [] bs) e

module _ {img : List ℕ} {root page : ℕ} {c : Change} {k v : List ℕ} {r : KeyRule} {t : Table} {bs : List Block} {i : ℕ}
    (o : RewriteOf img root page c k v r t bs i) where
  pub plan-ready : length k + length v ≤ 131070 → PlanReady img root page c (length k + length v)
  plan-ready l = record { reading = table_at o; place = i; change = o.change; few = columns-few o.standing; short = l }

  -- no further pages are wanted
  module _ {x : Plan} (q : PlanFor img root page c (length k + length v) 0 (length img / 1024) x) where
    pub total-plain : total_of x ≡ wanted_by (parts t (changed t i c k v))
    total-plain = omega (arith, plan-total (plan-is o q), q.further)

    -- there is room
    module _ (room : wanted_by (parts t (changed t i c k v)) ≤ length (span_at t i).conts + free_count bs) where
      pub carries : Carries img x c k v r t bs i
      carries =
          record {
            root = root;
            page = page;
            more = 0;
            base = length img / 1024;
            is = o;
            plan = q;
            whole = omega (arith, q.words, o.standing.shows.size);
            room = omega (arith, total-plain, room);
          }

      pub written : {out : List ℕ} → out ≡ apply (writes_with t i bs (changed t i c k v) x.more) img → out ≡ apply (writes_for t i bs (changed t i c k v)) img
      written d =
          let es : List Entry = changed t i c k v in
          d ∙ ap (λ (y : Drawn). apply (y.writes ++ (rewrite t i es y.pages).writes) img) (drawn_plain t i bs es x.more q.further)
