-- The ways through `read_span`.
use Prim.Native.Nat.{ℕ, zero, suc, ◌+◌, ◌*◌, ◌-◌, ◌/◌, ◌≤◌, ◌<◌}
use native.Mathlib.Omega.{arith}
use mathlib.Core.Path.{◌≡◌, refl, ap, sym, ◌∙◌, subst}
use mathlib.Core.List.{List, [], ◌∷◌, map}
use lib.ListN.{length, drop, length-drop}
use lib.Seq.{drop-drop, drop_at}
use Rattle.std.proofs.Common.{Option, Some, None}
use Rattle.blockfile.specs.Bytes.{pg, be16, be32, Every, first_of}
use Rattle.blockfile.specs.Layout.{Entry, entries_end, reached}
use Rattle.blockfile.specs.Fields.{AreConts}
use Rattle.laws.proofs.Pages.{length-pg}
use Rattle.pages.specs.Places.{Number}
use Rattle.heads.specs.Claims.{Lent, InHead}
use Rattle.heads.proofs.Claims.{in_head}
use Rattle.entries.specs.Places.{IsPage, stream_of, Rest}
use Rattle.entries.proofs.Rests.{length-stream, conts-one, rest_in}
use Rattle.entries.proofs.Keys.{key_one}
use Rattle.spans.specs.declared.entry.Last.{Last}
use Rattle.spans.specs.declared.entry.Position.{Position}
use Rattle.spans.specs.declared.span.Spanned.{Spanned}
use Rattle.order.specs.declared.sort.Sort.{Sort}
use Rattle.spans.specs.Entries.{last_key, taken, key_of, Run, LastIs, Ready, Ended, Ends, Entering}
use Rattle.spans.specs.Charts.{Charted, Spread}
use Rattle.spans.specs.Parts.{span_on, SpanIs, ReadySpan, SpanSays, Reading}
use Rattle.spans.proofs.Bridge.{Listed, run-listed, listed-run}

-- entries that end at e reach 1 + m pages
pages-by : (e m : ℕ) → 1016 * m < e → e ≤ 1016 * (1 + m) → 1 + m ≡ (e + 1015) / 1016
pages-by e m h k = omega arith

pages-of : (e m : ℕ) → 1 + m ≡ (e + 1015) / 1016 → (1016 * m < e) × (e ≤ 1016 * (1 + m))
pages-of e m h = (omega arith, omega arith)

run-one : (sort : Sort) (n : ℕ) (s low t hi u ho : List ℕ) → Run sort s low n t hi → Run sort s low n u ho → t ≡ u
run-one sort zero s low t hi u ho a b = sym a.0 ∙ b.0
run-one sort (suc n) s low t hi u ho a b = run-one sort n (drop (taken s) s) (key_of s) t hi u ho a.2 b.2

module _ {sort : Sort} {img : List ℕ} {p more : ℕ} {l : Last} (r : ReadySpan sort img p more l) where
  abbrev st : List ℕ
  st = stream_of img (p ∷ r.conts)

  whole : length st ≡ 1016 * (1 + length r.conts)
  whole = omega (arith, length-stream img (p ∷ r.conts) (r.pages.page, r.pages.inside))

  from-20 : Rest img (record { page = p; offset = 20 }) (drop 12 st)
  from-20 =
      rest_in img (record { page = p; offset = 8 }) st
      (record {
        small = r.pages.small;
        page = r.pages.page;
        low = omega arith;
        high = omega arith;
        more = r.conts;
        linked = r.pages.linked;
        conts = r.pages.are;
        inside = r.pages.inside;
        is = refl;
      })
      12 (omega arith)

  pub span-ready : Ready sort img (record { page = p; offset = 20 }) (1004 + 1016 * more) l
  span-ready = record { bytes = drop 12 st; rest = from-20; long = rw length-drop (omega (arith, whole, r.long)); low = r.low; key = r.key }

  -- its fields are in its head
  pub span-in-head : {scr : List ℕ} → Lent img scr → {o w : ℕ} → o + w ≤ 16 + 4 * (o / 16) → InHead scr p o w
  span-in-head lent fits = in_head lent r.pages.page.low r.pages.page.high fits

  -- the first continuation page
  from_first : (cs : List ℕ) → be32 (pg img p) 4 ≡ first_of cs → AreConts cs (map (pg img) cs) → Every (IsPage img) cs → 0 < length cs
      → Rest img (record { page = be32 (pg img p) 4; offset = 8 }) (stream_of img cs)
  from_first [] e a h some = absurd (omega arith)
  from_first (q ∷ cs) e a h some =
      subst (λ (n : ℕ). Rest img (record { page = n; offset = 8 }) (stream_of img (q ∷ cs))) (sym e)
      (record { small = r.pages.small; page = h.0; low = omega arith; high = omega arith; more = cs; linked = a.1; conts = a.2; inside = h.1; is = refl })

  pub span-spread : {chart : List ℕ} → Charted img (be32 (pg img p) 4) more chart → Spread img chart more (record { page = p; offset = 20 }) (1004 + 1016 * more)
  span-spread {chart} c =
      let tail : List ℕ = stream_of img r.conts in
      let size : length tail ≡ 1016 * length r.conts = length-stream img r.conts r.pages.inside in
      let start : length (drop 8 (pg img p)) ≡ 1016 = simp (length-drop, length-pg img p r.pages.page.low r.pages.page.high) in
      let long : length (drop 12 st) ≡ 1004 + 1016 * length r.conts = rw length-drop (omega (arith, whole)) in
      record {
        bytes = drop 12 st;
        rest = from-20;
        long = omega (arith, long, r.long);
        first = be32 (pg img p) 4;
        tail = tail;
        from = λ some. from_first r.conts r.pages.linked r.pages.are r.pages.inside (omega (arith, r.long));
        all = omega (arith, size, r.long);
        few = r.few;
        most = omega arith;
        ends = λ j a b.
            let sum : 12 + (length (drop 12 st) - j) ≡ 1016 + (length tail - j) = omega (arith, long, size) in
            drop-drop (length (drop 12 st) - j) 12 st ∙ ap (λ (n : ℕ). drop n st) sum ∙ sym (drop-drop (length tail - j) 1016 st)
            ∙ ap (drop (length tail - j)) (drop_at (drop 8 (pg img p)) tail 1016 start);
        charted = c;
      }

  module _ (prev z : ℕ) where
    -- what is shown of these continuation pages and this last key is shown of all
    all_of : (a : Option Spanned) → SpanSays sort img p r.conts prev z r.low a → Reading sort img p prev z l a
    all_of a x = record {
      is = λ conts low c k.
          subst (λ (y : List ℕ). SpanSays sort img p conts prev z y a) (key_one img l.at l.length r.low low r.key.there k.there)
          (subst (λ (y : List ℕ). SpanSays sort img p y prev z r.low a)
          (conts-one img r.conts conts r.pages.inside c.inside (sym r.pages.linked ∙ c.linked) r.pages.are c.are) x);
    }

    pub read-other : {g : ℕ} → Number (be32 (pg img p) 8) 4294967296 g → (g ≡ prev → ⊥) → Reading sort img p prev z l None
    read-other g n = all_of None (λ es next b. n (g.is ∙ b.bears.prev))

    pub read-max : {m : ℕ} → Number (be16 (pg img p) 16) 65536 m → (m ≡ z → ⊥) → Reading sort img p prev z l None
    read-max m n = all_of None (λ es next b. n (m.is ∙ b.bears.max_keys))

    module _ {n : ℕ} (e : Number (be16 (pg img p) 18) 65536 n) where
      pub read-over : z < n → Reading sort img p prev z l None
      read-over h = all_of None (λ es next b. omega (arith, e.is, b.bears.size, b.ok.size))

      -- the run that the entries of a span are, and where it ends
      record Ran (es : List Entry) : Type 0 where
        run : Run sort (drop 12 st) r.low n (drop (entries_end 12 es) st) (last_key r.low es)
        after : 1016 * length r.conts < entries_end 12 es
        inside : entries_end 12 es ≤ length st

      ran : (es : List Entry) (next : ℕ) → SpanIs sort img prev z r.low (span_on p r.conts es) next → Ran es
      unfolding reached
      ran es next b =
          let w : (1016 * length r.conts < entries_end 12 es) × (entries_end 12 es ≤ 1016 * (1 + length r.conts)) = pages-of (entries_end 12 es) (length r.conts) b.ok.reach in
          let end : entries_end 12 es ≤ length st = omega (arith, whole, w.1) in
          record {
            run = subst (λ (y : ℕ). Run sort (drop 12 st) r.low y (drop (entries_end 12 es) st) (last_key r.low es)) (sym b.bears.size ∙ sym e.is)
                (listed-run sort st (1 + length r.conts) whole es 12 r.low (omega (arith, whole)) b.bears.entries b.ok.above b.ok.fine end);
            after = w.0;
            inside = end;
          }

      module _ {a : Option Position} (x : Entering sort img (record { page = p; offset = 20 }) l n a) where
        told : (b : Option Position) → a ≡ b → Ends sort img (drop 12 st) r.low n b
        told b f = subst (Ends sort img (drop 12 st) r.low n) f (x.is (drop 12 st) r.low from-20 r.key)

        pub read-bad : a ≡ None → Reading sort img p prev z l None
        read-bad f = all_of None (λ es next b. told None f (drop (entries_end 12 es) st) (last_key r.low es) (ran es next b).run)

        module _ {to : Position} (f : a ≡ Some to) where
          d : Ended sort img (drop 12 st) r.low n to.at to.left to.last
          d = told (Some to) f

          pub read-spare : 1016 ≤ to.left → Reading sort img p prev z l None
          read-spare h = all_of None (λ es next b.
              let y : Ran es = ran es next b in
              let q : d.bytes ≡ drop (entries_end 12 es) st = run-one sort n (drop 12 st) r.low d.bytes d.hi (drop (entries_end 12 es) st) (last_key r.low es) d.run y.run in
              omega (arith, ap length q, length-drop (entries_end 12 es) st, whole, d.long, y.after, y.inside))

          pub read_done : to.left < 1016 → n ≤ z → {m : ℕ} → Number (be16 (pg img p) 16) 65536 m → m ≡ z → {g : ℕ} → Number (be32 (pg img p) 8) 4294967296 g → g ≡ prev
              → {next : ℕ} → Number (be32 (pg img p) 12) 4294967296 next → Reading sort img p prev z l (Some (record { size = n; next = next; last = to.last }))
          unfolding reached
          read_done h most {m} mi mz {g} gi gp {next} ni =
              let y : Listed sort st (1 + length r.conts) whole 12 r.low n d.bytes d.hi
              = run-listed sort st (1 + length r.conts) whole n 12 r.low d.bytes d.hi (omega (arith, whole)) d.run in
              all_of (Some (record { size = n; next = next; last = to.last })) (record {
                entries = y.es;
                is = record {
                  bears = record {
                    mark = r.pages.marked;
                    cont = r.pages.linked;
                    prev = sym gi.is ∙ gp;
                    next = sym ni.is;
                    max_keys = sym mi.is ∙ mz;
                    size = sym e.is ∙ sym y.count;
                    conts = r.pages.are;
                    entries = y.entries;
                  };
                  ok = record {
                    size = omega (arith, y.count);
                    reach = pages-by (entries_end 12 y.es) (length r.conts)
                        (omega (arith, ap length y.left, length-drop (entries_end 12 y.es) st, whole, d.long, y.end)) (omega (arith, whole, y.end));
                    above = y.above;
                    fine = y.fine;
                  };
                };
                count = sym y.count;
                key = subst (LastIs sort img to.last) y.last d.key;
              })
