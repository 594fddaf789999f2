-- The ways through `measure_entry`, `measure_part` and `measure`.
use Prim.Native.Nat.{ℕ, ◌+◌, ◌-◌, ◌*◌, ◌≤◌, ◌<◌}
use native.Mathlib.Omega.{arith}
use mathlib.Core.Path.{◌≡◌, ap, sym, ◌∙◌, subst}
use mathlib.Core.List.{List, []}
use lib.ListN.{length, take, drop, replicate, length-replicate, length-drop}
use lib.Seq.{take_all}
use Rattle.std.specs.Int.{from_bool}
use Rattle.blockfile.specs.Bytes.{pg, be16}
use Rattle.blockfile.specs.Layout.{Entry, entries_from, lens_start, entries_end}
use Rattle.pages.specs.Places.{Number}
use Rattle.entries.specs.declared.place.Sizes.{Sizes}
use Rattle.search.specs.Spans.{SpanOn}
use Rattle.search.proofs.Seeks.{span-size}
use Rattle.stage.specs.declared.change.Change.{Change}
use Rattle.stage.specs.declared.change.Cursor.{Cursor}
use Rattle.stage.specs.declared.change.Next.{Next}
use Rattle.stage.specs.declared.change.Next.TheVariants.{New, Old}
use Rattle.stage.specs.declared.measure.Part.{Part}
use Rattle.stage.specs.Changes.{spliced, Fits, Stands, Has, Going, Kept, NextOf}
use Rattle.stage.specs.Parts.{far, Sized, Measures, EntryMeasured, Gone, PartMeasured, Measurable, MeasuredOn}
use Rattle.stage.proofs.Splices.{bit, length-spliced}
use Rattle.stage.proofs.Cursors.{start-stands}
use Rattle.stage.proofs.Sections.{entry-sized, sized-end, gone-next}

-- ---- measure_entry

module _ {img : List ℕ} {c : Change} {u v : Cursor} {both end lens : ℕ} {r : Next} (t : NextOf img c u r) (l : lens ≡ lens_start end) (n : lens ≤ end + 3) where
  pub entry_new : r ≡ New v → both ≤ 131070 → EntryMeasured img c u both end (record { end = lens + 4 + both; after = v })
  entry_new q m =
      record {
        near = omega arith;
        is = λ e es z s h. record { entry = e; turned = t.new v q e es s h; is = sized-end end lens both e l z };
      }

  pub entry_old : (g : Sizes) → r ≡ Old g v → EntryMeasured img c u both end (record { end = lens + 4 + (g.key + g.value); after = v })
  entry_old g q =
      record {
        near = let b : (g.key < 65536) × (g.value < 65536) = t.small g v q in omega (arith, b.0, b.1);
        is = λ e es z s h.
            let k : Kept img c e es u g v = t.old g v q e es s h in
            record { entry = k.entry; turned = k.turned; is = sized-end end lens (g.key + g.value) k.entry l (entry-sized k.at) };
      }

-- ---- measure_part: of n entries from u on, i are measured

pub record Measuring (img : List ℕ) (c : Change) (both n : ℕ) (u v : Cursor) (end i : ℕ) : Type 0 where
  pub most : i ≤ n
  pub near : end ≤ 12 + 131077 * i
  pub is : (e : Entry) (es : List Entry) → Sized e both → Stands img c es u → Has c es u n → Gone img c e es u i v end

-- an entry of so many bytes
abbrev sample : ℕ → Entry
sample n = record { key = replicate n 0; value = [] }

sample-sized : (n : ℕ) → Sized (sample n) n
sample-sized n = omega (arith, length-replicate {A = ℕ} n 0)

module _ {img : List ℕ} {c : Change} {both n : ℕ} {u v : Cursor} {end i : ℕ} (m : Measuring img c both n u v end i) where
  pub measuring-next : i < n → (r : Part) → EntryMeasured img c v both end r → Measuring img c both n u r.after r.end (i + 1)
  measuring-next h r t =
      record {
        most = omega arith;
        near = omega (arith, t.near, m.near);
        is = λ e es z s l.
            let g : Gone img c e es u i v end = m.is e es z s l in
            let k : Measures img c e es v end r = t.is e es z g.stands (omega (arith, g.index)) in
            gone-next g k.turned k.is;
      }

  pub measuring-near : Going img c u n → end < far
  measuring-near p = omega (arith, m.most, m.near, p.has, p.stands.fits.few, bit c.adds)

  pub measuring-end : Going img c u n → n ≤ i → PartMeasured img c u both n (record { end = end; after = v })
  measuring-end p h =
      let q : i ≡ n = omega (arith, m.most) in
      record { near = measuring-near p; is = λ e es z s l. subst (λ (j : ℕ). Gone img c e es u j v end) q (m.is e es z s l) }

  module _ (p : Going img c u n) (h : i < n) where
    gone : Gone img c (sample both) p.entries u i v end
    gone = m.is (sample both) p.entries (sample-sized both) p.stands p.has

    pub measuring-going : Going img c v 1
    measuring-going = record { entries = p.entries; stands = gone.stands; has = omega (arith, gone.index, p.has) }

-- ---- measure

module _ {img : List ℕ} {page : ℕ} {c : Change} {half : ℕ} (m : Measurable img page c half) (u : Cursor) (st : u ≡ record { index = 0; at = record { page = page; offset = 20 } }) where
  -- every span on the page has as many entries
  as_many : (x : SpanOn img page) → length x.linked.span.entries ≡ length m.span.linked.span.entries
  as_many x = sym (span-size x) ∙ span-size m.span

  any-fits : (x : SpanOn img page) → Fits c x.linked.span.entries
  any-fits x =
      record {
        inside = omega (arith, m.fits.inside, as_many x);
        few = omega (arith, m.fits.few, as_many x);
      }

  first-stands : (x : SpanOn img page) → Stands img c x.linked.span.entries u
  first-stands x = subst (Stands img c x.linked.span.entries) (sym st) (start-stands x c (any-fits x))

  first-index : u.index ≡ 0
  first-index = ap (λ (w : Cursor). w.index) st

  first-has : (x : SpanOn img page) → Has c x.linked.span.entries u half
  first-has x = omega (arith, m.has, first-index, as_many x)

  pub first-going : Going img c u half
  first-going = record { entries = m.span.linked.span.entries; stands = first-stands m.span; has = first-has m.span }

  module _ {both : ℕ} (a : Part) (f : PartMeasured img c u both half a) (size : ℕ) (z : Number (be16 (pg img page) 18) 65536 size)
      (rest : ℕ) (q : rest ≡ size + from_bool c.adds - from_bool c.drops - half) where
    first-gone : (x : SpanOn img page) (e : Entry) → Sized e both → Gone img c e x.linked.span.entries u half a.after a.end
    first-gone x e s = f.is e x.linked.span.entries s (first-stands x) (first-has x)

    size_is : (x : SpanOn img page) → size ≡ length x.linked.span.entries
    size_is x = z.is ∙ span-size x

    middle-stands : (x : SpanOn img page) → Stands img c x.linked.span.entries a.after
    middle-stands x = (first-gone x (sample both) (sample-sized both)).stands

    middle-has : (x : SpanOn img page) → Has c x.linked.span.entries a.after rest
    middle-has x = omega (arith, (first-gone x (sample both) (sample-sized both)).index, first-index, first-has x, size_is x)

    pub middle-going : Going img c a.after rest
    middle-going = record { entries = m.span.linked.span.entries; stands = middle-stands m.span; has = middle-has m.span }

    pub measure-done : (b : Part) → PartMeasured img c a.after both rest b → MeasuredOn img page c both half (record { stay = a.end; moved = b.end })
    measure-done b l =
        record {
          stay_near = f.near;
          moved_near = l.near;
          is = λ x e s.
              let es : List Entry = x.linked.span.entries in
              let g : Gone img c e es u half a.after a.end = first-gone x e s in
              let k : Gone img c e es a.after rest b.after b.end = l.is e es s (middle-stands x) (middle-has x) in
              let at : a.after.index ≡ half = omega (arith, g.index, first-index) in
              let whole : take rest (drop half (spliced c e es)) ≡ drop half (spliced c e es)
              = take_all rest (drop half (spliced c e es)) (rw length-drop (omega (arith, length-spliced c e es (any-fits x), size_is x))) in
              record {
                stay = g.is ∙ ap (λ (i : ℕ). entries_end entries_from (take half (drop i (spliced c e es)))) first-index;
                moved = k.is ∙ ap (λ (i : ℕ). entries_end entries_from (take rest (drop i (spliced c e es)))) at ∙ ap (entries_end entries_from) whole;
              };
        }
