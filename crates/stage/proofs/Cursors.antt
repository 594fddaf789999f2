-- The ways through `pass`, `reach` and `next_entry`.
use Prim.Native.Nat.{ℕ, ◌+◌, ◌≤◌, ◌<◌}
use native.Mathlib.Omega.{arith}
use native.Mathlib.Decide.{dec_lt}
use mathlib.Core.Path.{◌≡◌, refl, ap, sym, subst}
use mathlib.Core.Logic.{by_cases}
use mathlib.Core.Bool.{true}
use mathlib.Core.List.{List, ◌∷◌}
use lib.ListN.{drop}
use Rattle.std.specs.Int.{from_bool}
use Rattle.std.proofs.lemmas.Bool.{false_from_ne_true}
use Rattle.blockfile.specs.Layout.{Entry}
use Rattle.entries.specs.declared.place.Place.{Place}
use Rattle.entries.specs.declared.place.Sizes.{Sizes}
use Rattle.entries.specs.Places.{Moved, Measured}
use Rattle.search.specs.Spans.{SpanOn, Along, EntryThere, EntryAt}
use Rattle.search.proofs.Entries.{along-entry}
use Rattle.search.proofs.Seeks.{span-ahead}
use Rattle.stage.specs.declared.change.Change.{Change}
use Rattle.stage.specs.declared.change.Cursor.{Cursor}
use Rattle.stage.specs.declared.change.Next.TheVariants.{New, Old}
use Rattle.stage.specs.Changes.{spliced, Fits, PassedOver, Stands, Has, Onward, Turned, Kept, NextOf}
use Rattle.stage.proofs.Splices.{bit, FromOn, from_on, splice-before, splice-new, splice-old}

-- ---- pass

pub pass-done : {img : List ℕ} {at p : Place} (g : Sizes) → Measured img at g → Moved img g.after (g.key + g.value) p → PassedOver img at p
pass-done {p = p} g m t = record { on = λ e es a. (along-entry a g m).next p t }

-- ---- the cursor before the first entry

pub start-stands : {img : List ℕ} {page : ℕ} (x : SpanOn img page) (c : Change) → Fits c x.linked.span.entries
    → Stands img c x.linked.span.entries (record { index = 0; at = record { page = page; offset = 20 } })
start-stands x c f =
    record {
      fits = f;
      old = 0;
      before = λ h. refl;
      behind = λ h. absurd (omega arith);
      along = (span-ahead x).along;
    }

-- ---- reach

module _ {img : List ℕ} {c : Change} {es : List Entry} {u : Cursor} (s : Stands img c es u) where
  module _ (h : u.index ≡ c.index) (d : c.drops ≡ true) where
    old-is : s.old ≡ u.index
    old-is = s.before (omega arith)

    dropped : FromOn es s.old
    dropped = from_on es s.old (let a : s.old ≡ u.index = old-is in omega (arith, s.fits.inside, ap from_bool d))

    pub dropped-there : EntryThere img u.at
    dropped-there = record { first = dropped.first; more = drop (s.old + 1) es; along = subst (Along img u.at) dropped.is s.along }

    -- the entry here gives way
    pub reach-behind : (p : Place) → PassedOver img u.at p → Onward img c es u p
    unfolding dropped-there
    reach-behind p o =
        let a : s.old ≡ u.index = old-is in
        record {
          old = s.old + 1;
          before = λ l. absurd (omega arith);
          here = λ l. omega (arith, ap from_bool d);
          behind = λ l. absurd (omega arith);
          along = o.on dropped.first (drop (s.old + 1) es) dropped-there.along;
        }

-- ---- next_entry

module _ {img : List ℕ} {c : Change} {es : List Entry} {u : Cursor} {p : Place} (s : Stands img c es u) (o : Onward img c es u p) where
  -- the entry that comes is at the cursor
  pub next-new : u.index ≡ c.index → c.adds ≡ true → (e : Entry) → Turned img c e es u e (record { index = u.index + 1; at = p })
  next-new h a e =
      let q : o.old ≡ c.index + from_bool c.drops = o.here h in
      let one : from_bool c.adds ≡ 1 = ap from_bool a in
      record {
        is = subst (λ (i : ℕ). drop i (spliced c e es) ≡ e ∷ drop (i + 1) (spliced c e es)) (sym h) (splice-new c e es s.fits a);
        index = refl;
        stands = record {
          fits = s.fits;
          old = o.old;
          before = λ l. absurd (omega arith);
          behind = λ l. omega arith;
          along = o.along;
        };
      }

  module _ (n : u.index ≡ c.index → c.adds ≡ true → ⊥) (more : Has c es u 1) where
    -- an old entry is at the cursor: before the index, or at or behind it
    place-cases : {X : Type 0} → (u.index < c.index → o.old ≡ u.index → X) → (c.index + from_bool c.adds ≤ u.index → o.old + from_bool c.adds ≡ u.index + from_bool c.drops → X) → X
    place-cases f g =
        by_cases (dec_lt u.index c.index) (λ h. f h (o.before h))
        (λ h. by_cases (dec_lt c.index u.index) (λ l. g (omega (arith, bit c.adds)) (o.behind l))
        (λ l. let q : u.index ≡ c.index = omega arith in
        let none : from_bool c.adds ≡ 0 = none-comes q in
        let r : o.old ≡ c.index + from_bool c.drops = o.here q in
        g (omega arith) (omega arith)))
      where
        none-comes : u.index ≡ c.index → from_bool c.adds ≡ 0
        none-comes q = ap from_bool (false_from_ne_true c.adds (n q))

    kept : FromOn es o.old
    kept = from_on es o.old (place-cases (λ h q. omega (arith, s.fits.inside)) (λ h q. omega arith))

    pub kept_there : EntryThere img p
    kept_there = record { first = kept.first; more = drop (o.old + 1) es; along = subst (Along img p) kept.is o.along }

    pub next-old : (g : Sizes) → Measured img p g → (q : Place) → Moved img g.after (g.key + g.value) q → (e : Entry)
        → Kept img c e es u g (record { index = u.index + 1; at = q })
    unfolding kept_there
    next-old g m q t e =
        let a : EntryAt img g kept.first (drop (o.old + 1) es) = along-entry kept_there.along g m in
        record {
          entry = kept.first;
          more = drop (o.old + 1) es;
          at = a;
          turned = record {
            is = place-cases (λ h l. splice-before c e es s.fits u.index kept.first (drop (o.old + 1) es) h (subst (λ (i : ℕ). drop i es ≡ kept.first ∷ drop (o.old + 1) es) l kept.is))
                (λ h l. splice-old c e es s.fits u.index o.old kept.first h l kept.is);
            index = refl;
            stands = record {
              fits = s.fits;
              old = o.old + 1;
              before = λ h. place-cases (λ i l. omega arith) (λ i l. absurd (omega arith));
              behind = λ h. place-cases (λ i l. absurd (omega arith)) (λ i l. omega arith);
              along = a.next q t;
            };
          };
        }

-- ---- answers

pub answer-new : {img : List ℕ} {c : Change} {u v : Cursor}
    → ((e : Entry) (es : List Entry) → Stands img c es u → Has c es u 1 → Turned img c e es u e v) → NextOf img c u (New v)
answer-new {img} {c} {u} {v} t =
    record {
      small = λ g w q. absurd (let z : ◌≡◌ {A = ℕ} 0 1 = cc in omega arith);
      new = λ w q e es s l. let x : v ≡ w = cc in subst (Turned img c e es u e) x (t e es s l);
      old = λ g w q. absurd (let z : ◌≡◌ {A = ℕ} 0 1 = cc in omega arith);
    }

pub answer-old : {img : List ℕ} {c : Change} {u v : Cursor} {g : Sizes} → g.key < 65536 → g.value < 65536
    → ((e : Entry) (es : List Entry) → Stands img c es u → Has c es u 1 → Kept img c e es u g v) → NextOf img c u (Old g v)
answer-old {img} {c} {u} {v} {g} a b t =
    record {
      small = λ h w q. let y : g ≡ h = cc in subst (λ (i : Sizes). (i.key < 65536) × (i.value < 65536)) y (a, b);
      new = λ w q. absurd (let z : ◌≡◌ {A = ℕ} 0 1 = cc in omega arith);
      old = λ h w q e es s l.
          let x : v ≡ w = cc in
          let y : g ≡ h = cc in
          subst (Kept img c e es u h) x (subst (λ (i : Sizes). Kept img c e es u i v) y (t e es s l));
    }
