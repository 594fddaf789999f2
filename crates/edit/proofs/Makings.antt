-- A plan has what the table says.
use Prim.Native.Nat.{ℕ}
use native.Mathlib.Omega.{arith}
use mathlib.Core.Path.{◌≡◌, refl, ap, sym, ◌∙◌, subst}
use mathlib.Core.List.{List, []}
use lib.ListN.{length, replicate, length-replicate}
use Rattle.blockfile.specs.Layout.{Entry, Span}
use Rattle.blockfile.specs.Put.{span_at, parts}
use Rattle.search.specs.Spans.{SpanOn}
use Rattle.search.specs.Tables.{Reading}
use Rattle.search.proofs.Tables.{reading-span, reading-at}
use Rattle.stage.specs.declared.change.Change.{Change}
use Rattle.stage.specs.Changes.{spliced, Fits}
use Rattle.edit.specs.declared.fields.SkipList.{SkipList}
use Rattle.edit.specs.declared.fields.Links.{Links}
use Rattle.edit.specs.declared.shape.Shape.{Shape}
use Rattle.edit.specs.declared.shape.Wants.{Wants}
use Rattle.edit.specs.Standing.{here_at}
use Rattle.edit.specs.Fields.{ListRead, LinkedOn, LinksOf, LinksRead}
use Rattle.edit.specs.Shapes.{ShapeOf, ShapeReady, ShapeFor, Shaped, WantsFor}
use Rattle.edit.specs.Makes.{Changes, PlanReady, PlanFor}
use Rattle.edit.proofs.Stands.{span-borne}

module _ {img : List ℕ} {root page : ℕ} (t : Reading img root) (i : ℕ) {c : Change} (h : Changes t.table i page c) where
  -- the span is on the page, with its links
  linked_on : LinkedOn img page
  linked_on = record { small = t.readable.small; linked = here_at t.table i; borne = span-borne t.readable i h.inside; at = sym h.at }

  pub span-on : SpanOn img page
  span-on = reading-span t i h.inside page h.at

  -- the entries of the span
  pub entries-on : span-on.linked.span.entries ≡ (span_at t.table i).entries
  unfolding span-on
  entries-on = ap (λ (s : Span). s.entries) (reading-at t i h.inside page h.at)

  pub conts-on : span-on.linked.span.conts ≡ (span_at t.table i).conts
  unfolding span-on
  conts-on = ap (λ (s : Span). s.conts) (reading-at t i h.inside page h.at)

  pub fits_on : Fits c span-on.linked.span.entries
  fits_on = subst (Fits c) (sym entries-on) h.fits

  links-of : (x : Links) → LinksRead img page x → LinksOf (here_at t.table i) x
  unfolding linked_on
  links-of x r = r.is linked_on

module _ {img : List ℕ} {root page : ℕ} {c : Change} {both : ℕ} (r : PlanReady img root page c both) where
  pub links-ready : LinkedOn img page
  links-ready = linked_on r.reading r.place r.change

  module _ (l : SkipList) (k : Links) (a : ListRead img root l) (b : LinksRead img page k) where
    pub shape-ready : ShapeReady img page c both l k.size
    shape-ready =
        record {
          span = span-on r.reading r.place r.change;
          fits = fits_on r.reading r.place r.change;
          many = (links-of r.reading r.place r.change k b).size ∙ ap length (sym (entries-on r.reading r.place r.change));
          short = r.short;
          spans = omega (arith, (a.is r.reading).spans, r.few);
        }

    module _ (x : Shape) (s : ShapeFor img page c both l x) where
      -- an entry of so many bytes
      sample : Entry
      sample = record { key = replicate both 0; value = [] }

      pub shaped : Shaped x
      unfolding sample
      shaped =
          record {
            parts = parts r.reading.table (spliced c sample (span-on r.reading r.place r.change).linked.span.entries);
            shape = s.is (span-on r.reading r.place r.change) (fits_on r.reading r.place r.change) r.reading.table (a.is r.reading) sample
                (omega (arith, length-replicate {A = ℕ} both 0));
            stay = s.stay;
            moved = s.moved;
          }

      pub plan-for : (more base : ℕ) (w : Wants) → WantsFor x w → PlanFor img root page c both more base (record { root = root; page = page; list = l; links = k; shape = x; wants = w; more = more; base = base })
      plan-for more base w v =
          record {
            stay = s.stay;
            moved = s.moved;
            list = refl;
            span = refl;
            further = refl;
            words = refl;
            is = λ t i h e z.
                let p : ShapeOf (parts t.table (spliced c e (span_at t.table i).entries)) x
                = subst (λ (es : List Entry). ShapeOf (parts t.table (spliced c e es)) x) (entries-on t i h)
                (s.is (span-on t i h) (fits_on t i h) t.table (a.is t) e z) in
                record { list = a.is t; links = links-of t i h k b; shape = p; wants = v.is _ p };
          }
