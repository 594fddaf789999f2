-- The spans of a plan, as parts of the buffer.
use Prim.Native.Nat.{ℕ, zero, suc, ◌+◌, ◌*◌, ◌-◌, ◌≤◌}
use native.Mathlib.Omega.{arith}
use mathlib.Core.Path.{◌≡◌, refl, ap, sym, ◌∙◌, subst}
use mathlib.Core.List.{List, [], ◌∷◌, ◌++◌}
use lib.ListN.{length}
use lib.Seq.{sets}
use Rattle.blockfile.specs.Bytes.{Write, on, be32, word32, write, apply, Every}
use Rattle.blockfile.specs.Encode.{whole_span}
use Rattle.blockfile.specs.Fields.{Numbers}
use Rattle.edit.specs.declared.span.Part.{Part}
use Rattle.edit.specs.declared.plan.Plan.{Plan}
use Rattle.edit.specs.Cuts.{Cut, stayed, moved, prev_on, span_writes}
use Rattle.laws.proofs.Writes.{apply-append}
use Rattle.pages.specs.Places.{Inside}
use Rattle.entries.specs.Places.{IsPage}
use Rattle.draw.specs.Writing.{PageOf}
use Rattle.edit.specs.Staged.{header, Staged, PartOf, PartReady, WrotePart}
use Rattle.edit.specs.Plans.{StayOf, StayReady, WroteStay, MovedOf, MovedReady, WroteMoved, SplitOf, SplitReady, WroteSplit, SpansOf, SpansReady, WroteSpans}
use Rattle.edit.proofs.Stagings.{length-header, numbers-kept, staged-kept}

-- the span, with the span on page n behind it
abbrev pub stay_part : Plan → (n : ℕ) → Part
stay_part x n =
    record {
      at = 0;
      count = 1 + x.wants.conts;
      word = x.base;
      end = 4 * x.base + x.shape.stay;
      top = record { prev = x.links.prev; next = n; most = x.list.most; size = x.shape.half };
    }

-- the new span
abbrev pub moved_part : Plan → Part
moved_part x =
    record {
      at = 1 + x.wants.conts;
      count = x.wants.span;
      word = x.base + 254 * (1 + x.wants.conts);
      end = 4 * (x.base + 254 * (1 + x.wants.conts)) + x.shape.moved;
      top = record { prev = x.page; next = x.links.next; most = x.list.most; size = x.shape.entries - x.shape.half };
    }

-- the previous link of the span that follows is written where there is one
pub prev-none : (m q : ℕ) → m ≡ 0 → [] ≡ prev_on m q
prev-none zero q e = refl
prev-none (suc m) q e = absurd (omega arith)

pub prev-some : (m q : ℕ) → (m ≡ 0 → ⊥) → on m 8 (word32 q) ∷ [] ≡ prev_on m q
prev-some zero q e = absurd (e refl)
prev-some (suc m) q e = refl

module _ {img b : List ℕ} {x : Plan} where
  stay-part : {c : Cut} → StayOf img b x c → (n : ℕ) → PartOf img b (stay_part x n) (c.page ∷ c.conts) c.stay
  stay-part {c} s n =
      record {
        stand = s.listed;
        many = omega (arith, s.conts);
        reach = ap (λ (k : ℕ). 1 + k) s.conts ∙ s.reach;
        each = s.each;
        apart = omega (arith, s.conts, s.base);
        staged = s.staged;
        end = ap (λ (k : ℕ). 4 * x.base + k) s.end;
        size = s.half;
      }

  pub stay-ready : (r : StayReady img b x) (n : ℕ) → PartReady img b (stay_part x n)
  stay-ready r n =
      record { small = r.small; most = r.most; few = r.few; pages = r.cut.page ∷ r.cut.conts; entries = r.cut.stay; part = stay-part r.is n }

  pub wrote-stay : (n : ℕ) (out after : List ℕ) → WrotePart img b (stay_part x n) out after → WroteStay img b x n out after
  wrote-stay n out after w =
      record {
        image = λ c s.
            w.image (c.page ∷ c.conts) c.stay (stay-part s n)
            ∙ (λ j. apply (whole_span (record { span = record { page = c.page; conts = c.conts; entries = c.stay }; prev = s.prev j; next = n; max_keys = s.most j })) img);
        kept = w.kept;
      }

  moved-part : {c : Cut} {q : ℕ} {qs : List ℕ} → MovedOf img b x c q qs → PartOf img b (moved_part x) (q ∷ qs) c.move
  moved-part {c} {q} {qs} s =
      let n : length c.conts ≡ x.wants.conts = sym s.conts in
      record {
        stand = subst (λ (k : ℕ). Numbers b (4 * (1 + k)) (q ∷ qs)) n s.listed;
        many = omega (arith, s.span);
        reach = s.span ∙ s.reach;
        each = s.each;
        apart = omega (arith, s.conts, s.span, s.base);
        staged = subst (λ (k : ℕ). Staged b (4 * (x.base + 254 * (1 + k))) c.move) n s.staged;
        end = ap (λ (k : ℕ). 4 * (x.base + 254 * (1 + x.wants.conts)) + k) s.end;
        size = omega (arith, s.half);
      }

  pub moved_ready : (r : MovedReady img b x) → PartReady img b (moved_part x)
  moved_ready r =
      record { small = r.small; most = r.most; few = omega (arith, r.few); pages = r.page ∷ r.conts; entries = r.cut.move; part = moved-part r.is }

  pub wrote-moved : (out after : List ℕ) → WrotePart img b (moved_part x) out after → WroteMoved img b x out
  wrote-moved out after w =
      record {
        image = λ c q qs s.
            w.image (q ∷ qs) c.move (moved-part s)
            ∙ (λ j. apply (whole_span (record { span = record { page = q; conts = qs; entries = c.move }; prev = s.page j; next = s.next j; max_keys = s.most j })) img);
      }

  -- ---- A split

  -- the span's header stored in the buffer leaves the new span there as it was
  moved-kept : {c : Cut} {q : ℕ} {qs : List ℕ} (n : ℕ) (out : List ℕ) → length out ≡ length img → MovedOf img b x c q qs
      → MovedOf out (sets b (4 * x.base) (header x.links.prev n x.list.most x.shape.half)) x c q qs
  moved-kept {c} {q} {qs} n out e s =
      record {
        page = s.page;
        next = s.next;
        most = s.most;
        conts = s.conts;
        span = s.span;
        reach = s.reach;
        listed = numbers-kept h b (4 * x.base) (4 * (1 + length c.conts)) (q ∷ qs) (omega (arith, s.base)) s.listed;
        each = subst (λ (k : ℕ). Every (PageOf k) (q ∷ qs)) (sym e) s.each;
        base = s.base;
        staged = staged-kept (4 * x.base) h (omega (arith, length-header x.links.prev n x.list.most x.shape.half)) s.staged;
        end = s.end;
        half = s.half;
      }
    where
      h : List ℕ
      h = header x.links.prev n x.list.most x.shape.half

  pub split-moved : (r : SplitReady img b x) (n : ℕ) (out after : List ℕ) → length out ≡ length img → WroteStay img b x n out after → MovedReady out after x
  split-moved r n out after e w =
      record {
        small = omega (arith, r.small);
        most = r.most;
        few = r.few;
        cut = r.cut;
        page = r.page;
        conts = r.conts;
        is = subst (λ (l : List ℕ). MovedOf out l x r.cut r.page r.conts) (sym w.kept) (moved-kept n out e r.is.moved);
      }

  pub split-stay : (r : SplitReady img b x) → StayReady img b x
  split-stay r = record { small = r.small; most = r.most; few = omega (arith, r.few, r.is.moved.half); cut = r.cut; is = r.is.stay }

  module _ (n : ℕ) (first : n ≡ be32 b (4 * (1 + x.wants.conts))) (out after out2 : List ℕ) (e : length out ≡ length img)
      (w : WroteStay img b x n out after) (m : WroteMoved out after x out2) where
    -- the number read is the new span's page
    is-new : {c : Cut} {q : ℕ} {qs : List ℕ} → SplitOf img b x c q qs → n ≡ q
    is-new {c} {q} s = first ∙ ap (λ (k : ℕ). be32 b (4 * (1 + k))) s.moved.conts ∙ s.moved.listed.0

    both-written : {c : Cut} {q : ℕ} {qs : List ℕ} → SplitOf img b x c q qs → (ws : List Write) → apply ws out2 ≡ apply (stayed c q ++ (moved c q qs ++ ws)) img
    both-written {c} {q} {qs} s ws =
        ap (apply ws) (m.image c q qs (subst (λ (l : List ℕ). MovedOf out l x c q qs) (sym w.kept) (moved-kept n out e s.moved)))
        ∙ sym (apply-append (moved c q qs) ws out)
        ∙ ap (apply (moved c q qs ++ ws)) (w.image c s.stay ∙ ap (λ (k : ℕ). apply (stayed c k) img) (is-new s))
        ∙ sym (apply-append (stayed c q) (moved c q qs ++ ws) img)

    pub split-last : x.links.next ≡ 0 → WroteSplit img b x out2
    split-last z =
        record {
          image = λ c q qs s.
              both-written s [] ∙ ap (λ (ws : List Write). apply (stayed c q ++ (moved c q qs ++ ws)) img) (prev-none c.next q (sym s.moved.next ∙ z));
        }

    pub split-follows : (x.links.next ≡ 0 → ⊥) → (out3 : List ℕ) → out3 ≡ write out2 x.links.next 8 (word32 n) → WroteSplit img b x out3
    split-follows z out3 o =
        record {
          image = λ c q qs s.
              o ∙ (λ j. write out2 (s.moved.next j) 8 (word32 (is-new s j)))
              ∙ both-written s (on c.next 8 (word32 q) ∷ [])
              ∙ ap (λ (ws : List Write). apply (stayed c q ++ (moved c q qs ++ ws)) img) (prev-some c.next q (λ k. z (s.moved.next ∙ k)));
        }

  -- the span that follows is on a page
  pub follows-inside : SplitReady img b x → (x.links.next ≡ 0 → ⊥) → (out : List ℕ) → length out ≡ length img → Inside out x.links.next 8 4
  follows-inside r z out e =
      let p : IsPage img r.cut.next = r.is.follows (some r.cut.next (λ k. z (r.is.moved.next ∙ k))) in
      record { small = omega (arith, r.small); low = omega (arith, p.low, r.is.moved.next); high = omega (arith, p.high, r.is.moved.next); fits = omega arith }
    where
      some : (m : ℕ) → (m ≡ 0 → ⊥) → 1 ≤ m
      some zero k = absurd (k refl)
      some (suc m) k = omega arith

  -- ---- With a new span, or without

  pub spans-stay : (r : SpansReady img b x) → StayReady img b x
  spans-stay r = record { small = r.small; most = r.most; few = omega (arith, r.few, r.half); cut = r.cut; is = r.is.stay }

  pub plain-spans : x.wants.span ≡ 0 → (out after : List ℕ) → WroteStay img b x x.links.next out after → WroteSpans img b x out
  plain-spans z out after w = record { image = λ c ps s. go c ps s }
    where
      go : (c : Cut) (ps : List ℕ) → SpansOf img b x c ps → out ≡ apply (span_writes c ps) img
      go c [] s = w.image c s.stay ∙ ap (λ (k : ℕ). apply (stayed c k) img) s.next
      go c (q ∷ qs) s = absurd (omega (arith, s.span))

  pub spans-split : (r : SpansReady img b x) → (x.wants.span ≡ 0 → ⊥) → SplitReady img b x
  spans-split r z = go r.pages r.is
    where
      go : (ps : List ℕ) → SpansOf img b x r.cut ps → SplitReady img b x
      go [] s = absurd (z s.span)
      go (q ∷ qs) s = record { small = r.small; most = r.most; few = r.few; cut = r.cut; page = q; conts = qs; is = s.split q qs refl }

  pub split-spans : (x.wants.span ≡ 0 → ⊥) → (out : List ℕ) → WroteSplit img b x out → WroteSpans img b x out
  split-spans z out w = record { image = λ c ps s. go c ps s }
    where
      go : (c : Cut) (ps : List ℕ) → SpansOf img b x c ps → out ≡ apply (span_writes c ps) img
      go c [] s = absurd (z s.span)
      go c (q ∷ qs) s = w.image c q qs (s.split q qs refl)
