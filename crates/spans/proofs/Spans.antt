-- The ways through `verify_span`: a span's pages and then its bytes.
use Prim.Native.Nat.{ℕ, ◌+◌}
use native.Mathlib.Omega.{arith}
use mathlib.Core.Path.{◌≡◌, refl, ap, ap₂, sym, ◌∙◌, subst}
use mathlib.Core.List.{List, [], ◌∷◌, append-nil}
use lib.ListN.{length}
use lib.Seq.{slice}
use Rattle.std.proofs.Common.{Option, Some, None}
use Rattle.std.proofs.lemmas.Option.{none-some}
use Rattle.blockfile.specs.Bytes.{pg, Every}
use Rattle.blockfile.specs.Layout.{Entry, Span, lens_start, entry_end}
use Rattle.blockfile.specs.Fields.{EntriesAt}
use Rattle.blockfile.specs.WellFormed.{Piece, span, pages_of, Bears}
use Rattle.heads.specs.Claims.{Lent}
use Rattle.walks.specs.Found.{Fresh, claims, Found, FindsAt}
use Rattle.walks.proofs.Founds.{lent-claims, unclaimed-claims, unclaimed-most}
use Rattle.entries.specs.Places.{IsPage, stream_of}
use Rattle.spans.specs.declared.entry.Last.{Last}
use Rattle.spans.specs.declared.span.Spanned.{Spanned}
use Rattle.order.specs.declared.sort.Sort.{Sort}
use Rattle.spans.specs.Entries.{last_key, LastIs, Met}
use Rattle.spans.specs.Parts.{PagesFound, SpanPages, with_links, span_on, SpanIs, ReadySpan, SpanSays, SpanRight, Reading, SpanFound, Answered, VerifiedAll}
use Rattle.spans.proofs.PageClaims.{inside-fresh}

-- ---- one piece

pub one_found : (img scr : List ℕ) (x : Piece) (s : List ℕ) → Bears (pg img) x → Fresh scr (pages_of x) → s ≡ claims scr (pages_of x) → Found img scr (x ∷ []) s
one_found img scr x s b f e =
    record { bears = (b, tt); fresh = subst (Fresh scr) (sym (append-nil (pages_of x))) f; left = e ∙ ap (claims scr) (sym (append-nil (pages_of x))) }

module _ {img scr : List ℕ} {x : Piece} {s : List ℕ} (f : Found img scr (x ∷ []) s) where
  pub found-fresh : Fresh scr (pages_of x)
  found-fresh = subst (Fresh scr) (append-nil (pages_of x)) f.fresh

  pub found_left : s ≡ claims scr (pages_of x)
  found_left = f.left ∙ ap (claims scr) (append-nil (pages_of x))

-- ---- the entries of a stream are one list, and so a span is told by its pages

entries-one : (st : List ℕ) (v : ℕ) (es fs : List Entry) → EntriesAt st v es → EntriesAt st v fs → length es ≡ length fs → es ≡ fs
unfolding entry_end
entries-one st v [] [] a b n = refl
entries-one st v [] (f ∷ fs) a b n = absurd (omega arith)
entries-one st v (e ∷ es) [] a b n = absurd (omega arith)
entries-one st v (e ∷ es) (f ∷ fs) a b n =
    let kl : length e.key ≡ length f.key = sym a.0 ∙ b.0 in
    let vl : length e.value ≡ length f.value = sym a.1 ∙ b.1 in
    let end : entry_end v e ≡ entry_end v f = omega arith in
    let k : e.key ≡ f.key = sym a.2 ∙ ap (λ (x : ℕ). slice (lens_start v + 4) (lens_start v + 4 + x) st) kl ∙ b.2 in
    let w : e.value ≡ f.value = sym a.3 ∙ ap₂ (λ (x y : ℕ). slice (lens_start v + 4 + x) y st) kl end ∙ b.3 in
    ap₂ (λ (x : Entry) (xs : List Entry). x ∷ xs) (λ i. record { key = k i; value = w i })
    (entries-one st (entry_end v e) es fs a.4 (subst (λ (x : ℕ). EntriesAt st x fs) (sym end) b.4) (omega arith))

span-one : {sort : Sort} {img : List ℕ} {p : ℕ} {conts : List ℕ} {prev z : ℕ} {low : List ℕ} {es fs : List Entry} {next other : ℕ}
    → SpanIs sort img prev z low (span_on p conts es) next → SpanIs sort img prev z low (span_on p conts fs) other → (es ≡ fs) × (next ≡ other)
span-one {img = img} {p} {conts} {es = es} {fs} a b =
    (entries-one (stream_of img (p ∷ conts)) 12 es fs a.bears.entries b.bears.entries (sym a.bears.size ∙ b.bears.size), sym a.bears.next ∙ b.bears.next)

-- ---- the pages of a span that is found

module _ {sort : Sort} {img scr : List ℕ} {prev z : ℕ} {low : List ℕ} {sp : Span} {next : ℕ} {t : List ℕ} where
  -- its page is the one it is asked for on
  at-page : {p : ℕ} → SpanFound sort img scr p prev z low sp next t → SpanFound sort img scr sp.page prev z low sp next t
  at-page f = record { named = refl; ok = f.ok; found = f.found }

  pages-found : SpanFound sort img scr sp.page prev z low sp next t → PagesFound img scr sp.page (length sp.conts) t
  pages-found f =
      let b : Bears (pg img) (span (with_links sp prev next z)) = f.found.bears.0 in
      record { conts = sp.conts; marked = b.mark; linked = b.cont; are = b.conts; fresh = found-fresh f.found; long = refl; left = found_left f.found }

pages-of : {img scr : List ℕ} {p m : ℕ} {s : List ℕ} → Lent img scr → (x : PagesFound img scr p m s) → SpanPages img p x.conts
pages-of {img} {scr} {p} lent x =
    let all : Every (IsPage img) (p ∷ x.conts) = inside-fresh img scr (p ∷ x.conts) lent.room x.fresh in
    record { small = omega (arith, lent.room.size, lent.room.most); page = all.0; marked = x.marked; linked = x.linked; are = x.are; inside = all.1 }

module _ {img scr : List ℕ} {p : ℕ} (lent : Lent img scr) {a : Option ℕ} {s : List ℕ} (f : FindsAt Some (PagesFound img scr p) a s) where
  pub verify-ready : {m : ℕ} → a ≡ Some m → {sort : Sort} {l : Last} → Met sort img l → ReadySpan sort img p m l
  verify-ready {m} e k =
      let y : PagesFound img scr p m s = f.sound m e in
      record {
        conts = y.conts;
        pages = pages-of lent y;
        long = y.long;
        few = omega (arith, y.long, unclaimed-most scr, lent.room.whole, lent.room.most, unclaimed-claims scr (p ∷ y.conts) y.fresh);
        low = k.low;
        key = k.key;
      }

  -- the scratch after the claims
  pub verify-lent : {m : ℕ} → a ≡ Some m → Lent img s
  verify-lent {m} e = let y : PagesFound img scr p m s = f.sound m e in subst (Lent img) (sym y.left) (lent-claims (p ∷ y.conts) y.fresh lent)

  module _ {sort : Sort} {prev z : ℕ} where
    -- the span is on page p
    module _ {low : List ℕ} {sp : Span} {next : ℕ} {t : List ℕ} (x : SpanFound sort img scr p prev z low sp next t) where
      on-p : PagesFound img scr p (length sp.conts) t
      on-p = subst (λ (q : ℕ). PagesFound img scr q (length sp.conts) t) x.named (pages-found (at-page x))

      is-p : SpanIs sort img prev z low (span_on p sp.conts sp.entries) next
      is-p = subst (λ (q : ℕ). SpanIs sort img prev z low (span_on q sp.conts sp.entries) next) x.named (record { bears = x.found.bears.0; ok = x.ok })

      pages-p : SpanPages img p sp.conts
      unfolding pages-found
      pages-p = subst (λ (q : ℕ). SpanPages img q sp.conts) x.named (pages-of lent (pages-found (at-page x)))

    pub verify-no : {l : Last} → a ≡ None → VerifiedAll sort img scr p prev z l None s
    verify-no e = record {
      is = λ low k. record {
        sound = λ b q. absurd (none-some b q);
        complete = λ sp next t x.
            let d : (a ≡ Some (length sp.conts)) × (s ≡ t) = f.complete (length sp.conts) t (on-p x) in
            absurd (none-some (length sp.conts) (sym e ∙ d.0));
      };
    }

    pub verify-done : {m : ℕ} → a ≡ Some m → {l : Last} {r : Option Spanned} → Reading sort img p prev z l r → VerifiedAll sort img scr p prev z l r s
    verify-done {m} e {r = r} x = record {
      is = λ low k. record {
        sound = λ b q.
            let y : PagesFound img scr p m s = f.sound m e in
            let w : SpanRight sort img p y.conts prev z low b = subst (SpanSays sort img p y.conts prev z low) q (x.is y.conts low (pages-of lent y) k) in
            record {
              sp = span_on p y.conts w.entries;
              found = record {
                named = refl;
                ok = w.is.ok;
                found = one_found img scr (span (with_links (span_on p y.conts w.entries) prev b.next z)) s w.is.bears y.fresh y.left;
              };
              count = w.count;
              key = w.key;
            };
        complete = λ sp next t y. go low sp next t (is-p y) r (x.is sp.conts low (pages-p y) k) (f.complete (length sp.conts) t (on-p y)).1;
      };
    }
      where
        go : (low : List ℕ) (sp : Span) (next : ℕ) (t : List ℕ) → SpanIs sort img prev z low (span_on p sp.conts sp.entries) next
            → (r : Option Spanned) → SpanSays sort img p sp.conts prev z low r → s ≡ t → Answered sort img low sp next t r s
        go low sp next t b None w q = absurd (w sp.entries next b)
        go low sp next t b (Some a) w q =
            let o : (w.entries ≡ sp.entries) × (a.next ≡ next) = span-one w.is b in
            let c : a.size ≡ length sp.entries = w.count ∙ ap length o.0 in
            record {
              last = a.last;
              is = λ i. Some (record { size = c i; next = o.1 i; last = a.last });
              left = q;
              key = subst (λ (es : List Entry). LastIs sort img a.last (last_key low es)) o.0 w.key;
            }
