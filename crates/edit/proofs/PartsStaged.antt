-- The ways through staging the two parts of a plan.
use Prim.Native.Nat.{ℕ, zero, suc, ◌+◌, ◌*◌, ◌-◌, ◌≤◌}
use native.Mathlib.Omega.{arith}
use mathlib.Core.Path.{◌≡◌, refl, ap, sym, ◌∙◌, subst}
use mathlib.Core.List.{List, ◌++◌}
use lib.ListN.{length, take, drop, length-append, length-take, length-drop}
use lib.Seq.{take_all, take_at}
use Rattle.blockfile.specs.Layout.{Entry, entries_from, entries_end}
use Rattle.blockfile.specs.Encode.{entries_bytes}
use Rattle.search.specs.Spans.{SpanOn}
use Rattle.stage.specs.declared.change.Change.{Change}
use Rattle.stage.specs.declared.change.Cursor.{Cursor}
use Rattle.stage.specs.Changes.{spliced, Stands, Has}
use Rattle.stage.specs.Parts.{part, Stageable, Stages, Staged as Encoded}
use Rattle.stage.proofs.Cursors.{start-stands}
use Rattle.stage.proofs.Splices.{length-spliced}
use Rattle.edit.specs.declared.plan.Plan.{Plan}
use Rattle.edit.specs.Staged.{Staged}
use Rattle.edit.specs.Stages.{coming, Staying, StayStage, StaysIn, StayStaged, Moving, moved_from, MovedStage, MovedStaged, PartsFor, PartsReady, PartsStaged}
use Rattle.edit.proofs.Stagings.{staged-before, staged-lent}

-- a part of the buffer is as long as it is lent
lent-long : (b : List ℕ) (from n : ℕ) → from + n ≤ length b → length (take n (drop from b)) ≡ n
lent-long b from n l = simp (length-take, length-drop) (omega arith)

-- with the part put back, the buffer is as long as before
back_long : (b : List ℕ) (from n : ℕ) (new : List ℕ) → from + n ≤ length b → length new ≡ n → length (take from b ++ (new ++ drop n (drop from b))) ≡ length b
back_long b from n new l e = simp (length-append, length-take, length-drop) (omega arith)

-- n entries from the cursor on, staged in a lent part of the buffer
module _ {img : List ℕ} {c : Change} {k v : List ℕ} {u : Cursor} {n : ℕ} (b : List ℕ) (from len : ℕ) (room : from + len ≤ length b) (es : List Entry)
    (stands : Stands img c es u) (has : Has c es u n) (end : len ≡ entries_end entries_from (part c (coming k v) es u n)) where
  pub can-stage : Stageable img c u k v n (take len (drop from b))
  can-stage = record { entries = es; stands = stands; has = has; long = lent-long b from len room ∙ end }

  module _ (new : List ℕ) (r : Cursor) (w : Encoded img c u k v n (take len (drop from b)) new r) where
    stages : Stages img c (coming k v) es u n (take len (drop from b)) new r
    stages = w.is es stands has (lent-long b from len room ∙ end)

    pub now-staged : length new ≡ length (take len (drop from b)) → Staged (take from b ++ (new ++ drop len (drop from b))) from (part c (coming k v) es u n)
    now-staged e =
        subst (λ (l : List ℕ). Staged (take from b ++ (l ++ drop len (drop from b))) from ps) (sym written)
        (staged-lent b from ps (omega (arith, end)) (drop len (drop from b))
        (ap (λ (l : List ℕ). length (take from b ++ (l ++ drop len (drop from b)))) (sym written) ∙ back_long b from len new room (e ∙ lent-long b from len room)))
      where
        ps : List Entry
        ps = part c (coming k v) es u n

        written : new ≡ take entries_from (take (entries_end entries_from ps) (drop from b)) ++ entries_bytes entries_from ps
        written = stages.is ∙ ap (λ (m : ℕ). take entries_from (take m (drop from b)) ++ entries_bytes entries_from ps) end

    pub cursor-behind : (r.index ≡ u.index + n) × Stands img c es r
    cursor-behind = (stages.index, stages.stands)

-- ---- The two parts

-- before the first entry of the span
abbrev pub start_of : Plan → Cursor
start_of x = record { index = 0; at = record { page = x.page; offset = 20 } }

module _ {img : List ℕ} {x : Plan} {c : Change} {k v : List ℕ} where
  stay-has : {y : SpanOn img x.page} → Staying img x c k v y → Has c y.linked.span.entries (start_of x) x.shape.half
  stay-has s = omega (arith, s.has)

  -- the entries that move are all that are left
  moved-part : {u : Cursor} {es : List Entry} → Moving img x c k v u es
      → part c (coming k v) es u (x.shape.entries - x.shape.half) ≡ drop x.shape.half (spliced c (coming k v) es)
  moved-part {u} {es} m =
      let l : List Entry = spliced c (coming k v) es in
      ap (λ (i : ℕ). take (x.shape.entries - x.shape.half) (drop i l)) m.index
      ∙ take_all (x.shape.entries - x.shape.half) (drop x.shape.half l)
      (omega (arith, length-drop x.shape.half l, length-spliced c (coming k v) es m.stands.fits, m.all))

  moved-has : {u : Cursor} {es : List Entry} → Moving img x c k v u es → Has c es u (x.shape.entries - x.shape.half)
  moved-has m = omega (arith, m.index, m.all, m.half)

module _ {img b : List ℕ} {x : Plan} {c : Change} {k v : List ℕ} where
  pub stay-stageable : (r : StayStage img b x c k v) (u : Cursor) → u ≡ start_of x
      → Stageable img c u k v x.shape.half (take (4 * x.base + x.shape.stay - 4 * x.base) (drop (4 * x.base) b))
  stay-stageable r u a =
      let n : 4 * x.base + x.shape.stay - 4 * x.base ≡ x.shape.stay = omega arith in
      subst (λ (q : Cursor). Stageable img c q k v x.shape.half (take (4 * x.base + x.shape.stay - 4 * x.base) (drop (4 * x.base) b))) (sym a)
      (subst (λ (m : ℕ). Stageable img c (start_of x) k v x.shape.half (take m (drop (4 * x.base) b))) (sym n)
      (can-stage b (4 * x.base) x.shape.stay r.room r.span.linked.span.entries (start-stands r.span c r.staying.fits) (stay-has r.staying) r.staying.end))

  pub stay-staged : StayStage img b x c k v → (u : Cursor) → u ≡ start_of x → (new : List ℕ) (q : Cursor)
      → length new ≡ length (take (4 * x.base + x.shape.stay - 4 * x.base) (drop (4 * x.base) b))
      → Encoded img c u k v x.shape.half (take (4 * x.base + x.shape.stay - 4 * x.base) (drop (4 * x.base) b)) new q
      → StayStaged img b x c k v q (take (4 * x.base) b ++ (new ++ drop (4 * x.base + x.shape.stay - 4 * x.base) (drop (4 * x.base) b)))
  stay-staged r u a new q e w = go _ n e (subst (λ (p : Cursor). Encoded img c p k v x.shape.half (take (4 * x.base + x.shape.stay - 4 * x.base) (drop (4 * x.base) b)) new q) a w)
    where
      n : 4 * x.base + x.shape.stay - 4 * x.base ≡ x.shape.stay
      n = omega arith

      go : (m : ℕ) → m ≡ x.shape.stay → length new ≡ length (take m (drop (4 * x.base) b))
          → Encoded img c (start_of x) k v x.shape.half (take m (drop (4 * x.base) b)) new q
          → StayStaged img b x c k v q (take (4 * x.base) b ++ (new ++ drop m (drop (4 * x.base) b)))
      go m o e w =
          record {
            is = λ y s.
                let st : Stands img c y.linked.span.entries (start_of x) = start-stands y c s.fits in
                let rm : 4 * x.base + m ≤ length b = omega (arith, r.room) in
                let cb : (q.index ≡ 0 + x.shape.half) × Stands img c y.linked.span.entries q
                = cursor-behind b (4 * x.base) m rm y.linked.span.entries st (stay-has s) (o ∙ s.end) new q w in
                record {
                  staged = now-staged b (4 * x.base) m rm y.linked.span.entries st (stay-has s) (o ∙ s.end) new q w e;
                  index = cb.0 ∙ omega arith;
                  stands = cb.1;
                };
          }

  pub moved-stageable : {u : Cursor} → (r : MovedStage img b x c k v u)
      → Stageable img c u k v (x.shape.entries - x.shape.half) (take (moved_from x + x.shape.moved - moved_from x) (drop (moved_from x) b))
  moved-stageable {u} r =
      let n : moved_from x + x.shape.moved - moved_from x ≡ x.shape.moved = omega arith in
      subst (λ (m : ℕ). Stageable img c u k v (x.shape.entries - x.shape.half) (take m (drop (moved_from x) b))) (sym n)
      (can-stage b (moved_from x) x.shape.moved r.room r.entries r.moving.stands (moved-has r.moving)
      (r.moving.end ∙ ap (entries_end entries_from) (sym (moved-part r.moving))))

  pub moved-staged : {u : Cursor} → MovedStage img b x c k v u → (new : List ℕ) (q : Cursor) → length new ≡ length (take (moved_from x + x.shape.moved - moved_from x) (drop (moved_from x) b))
      → Encoded img c u k v (x.shape.entries - x.shape.half) (take (moved_from x + x.shape.moved - moved_from x) (drop (moved_from x) b)) new q
      → MovedStaged img b x c k v u (take (moved_from x) b ++ (new ++ drop (moved_from x + x.shape.moved - moved_from x) (drop (moved_from x) b)))
  moved-staged {u} r new q e w = go _ n e w
    where
      n : moved_from x + x.shape.moved - moved_from x ≡ x.shape.moved
      n = omega arith

      go : (m : ℕ) → m ≡ x.shape.moved → length new ≡ length (take m (drop (moved_from x) b)) → Encoded img c u k v (x.shape.entries - x.shape.half) (take m (drop (moved_from x) b)) new q
          → MovedStaged img b x c k v u (take (moved_from x) b ++ (new ++ drop m (drop (moved_from x) b)))
      go m o e w =
          record {
            is = λ es s.
                subst (Staged (take (moved_from x) b ++ (new ++ drop m (drop (moved_from x) b))) (moved_from x)) (moved-part s)
                (now-staged b (moved_from x) m (omega (arith, r.room)) es s.stands (moved-has s) (o ∙ s.end ∙ ap (entries_end entries_from) (sym (moved-part s))) new q w e);
            kept = take_at (take (moved_from x) b) (new ++ drop m (drop (moved_from x) b)) (moved_from x) (simp length-take (omega (arith, r.room)));
          }

  -- ---- Both parts

  pub only-stay : x.wants.span ≡ 0 → (q : Cursor) (out : List ℕ) → StayStaged img b x c k v q out → PartsStaged img x c k v out
  only-stay z q out w = record { is = λ y p. record { stay = (w.is y p.staying).staged; moved = λ h. absurd (omega arith) } }

  moving : {y : SpanOn img x.page} → PartsFor img x c k v y → (q : Cursor) (out : List ℕ) → StayStaged img b x c k v q out
      → Moving img x c k v q y.linked.span.entries
  moving {y} p q out w =
      let s : StaysIn img x c k v y q out = w.is y p.staying in
      record { index = s.index; stands = s.stands; all = p.all; half = p.half; end = p.end }

  pub parts-moved : (r : PartsReady img b x c k v) → (x.wants.span ≡ 0 → ⊥) → (q : Cursor) (out : List ℕ) → length out ≡ length b → StayStaged img b x c k v q out
      → MovedStage img out x c k v q
  parts-moved r z q out e w = record { entries = r.span.linked.span.entries; moving = moving r.parts q out w; room = omega (arith, r.moved (some x.wants.span z)) }
    where
      some : (n : ℕ) → (n ≡ 0 → ⊥) → 1 ≤ n
      some zero k = absurd (k refl)
      some (suc n) k = omega arith

  pub both-staged : (r : PartsReady img b x c k v) (q : Cursor) (out out2 : List ℕ) → length out ≡ length b → length out2 ≡ length out → StayStaged img b x c k v q out
      → MovedStaged img out x c k v q out2 → PartsStaged img x c k v out2
  both-staged r q out out2 e e2 w m =
      record {
        is = λ y p.
            record {
              stay = staged-before (moved_from x) out2 (omega (arith, r.apart, p.staying.end)) e2 m.kept (w.is y p.staying).staged;
              moved = λ h. m.is y.linked.span.entries (moving p q out w);
            };
      }
