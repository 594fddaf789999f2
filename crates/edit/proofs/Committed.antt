-- What is written where a span is rewritten is what the text writes.
use Prim.Native.Nat.{ℕ, zero, suc, ◌+◌, ◌*◌, ◌≤◌, min}
use native.Mathlib.Omega.{arith}
use mathlib.Core.Path.{◌≡◌, refl, ap, ap₂, sym, ◌∙◌, subst}
use mathlib.Core.List.{List, [], ◌∷◌, ◌++◌}
use lib.ListN.{length, get_or, length-append}
use lib.Seq.{sets}
use Rattle.blockfile.specs.Bytes.{Write, be32, word32, apply, Every, gather, first_of}
use Rattle.blockfile.specs.Layout.{Entry, Table, Block, columns, towers_of, entries_of}
use Rattle.blockfile.specs.Order.{KeyRule}
use Rattle.blockfile.specs.Fields.{Numbers}
use Rattle.blockfile.specs.WellFormed.{TableOk}
use Rattle.blockfile.specs.Free.{Drawn}
use Rattle.blockfile.specs.Put.{Parts, parts, span_wanted, wanted_by, Shared, share, span_at, new_column, new_columns, table_after, rewrite}
use Rattle.laws.proofs.Writes.{apply-append, length-apply}
use Rattle.laws.proofs.Positions.{reached-one}
use Rattle.laws.proofs.Places.{entries_before, entries_after, place-entries}
use Rattle.laws.proofs.Splits.{parts-cases, parts-plain, parts_whole, split-halves, height-fits, share-span, share-tower}
use Rattle.laws.proofs.SpanLinks.{split-spans}
use Rattle.laws.proofs.TableTowers.{split-levels}
use Rattle.laws.proofs.TablePut.{with_entries}
use Rattle.laws.proofs.TableWrites.{shared-tower}
use Rattle.entries.specs.Places.{IsPage}
use Rattle.draw.specs.Writing.{PageOf}
use Rattle.search.specs.Tables.{Reading}
use Rattle.search.specs.Paths.{Filled}
use Rattle.links.specs.Levels.{Before, PathAt, page_or_head, HasBefore, AfterIn}
use Rattle.links.proofs.Leading.{before-all}
use Rattle.links.proofs.Relinked.{before-less, before-linkable}
use Rattle.edit.specs.declared.plan.Plan.{Plan}
use Rattle.edit.specs.Cuts.{span_writes, tower_writes, counts_at}
use Rattle.edit.specs.Plans.{SpansOf}
use Rattle.edit.specs.Counts.{size_of, spans_of, levels_of, counts_of}
use Rattle.edit.specs.Applies.{DrewPlan, FlatReady, WroteFlat, TowerOn, TallReady, rise_for, WroteTall}
use Rattle.edit.specs.Commits.{CommitOf, drawn_with, Committed, CommittedOn}
use Rattle.edit.proofs.Cuts.{cut_at, rise_at, Around, rewriting-coded}
use Rattle.edit.proofs.Stands.{past-pages, head-borne}
use Rattle.edit.proofs.Risings.{page-of}
use Rattle.edit.proofs.Committing.{total, many, words, tower-listed, tower-pages, buffer-size, b1, can_draw, drawn-is, spans-of, spans-ready, counts-ready}

module _ {img b : List ℕ} {x : Plan} {r : KeyRule} {t : Table} {bs : List Block} {i : ℕ} {es : List Entry} (h : CommitOf img b x r t bs i es) where
  -- the table, as reading asks for it
  abbrev pub reading_of : Reading img x.root
  reading_of = record { rule = r; table = t; readable = h.standing.readable; root = sym h.root }

  -- the towers before the place, by the path to it
  module _ {path old before : List ℕ} (p : PathAt t (suc i) path) (e : length old ≡ 252) (f : Filled old 252 (λ l. page_or_head x.list.head (get_or path l 0)) before) where
    pub before_at : Before t (suc i) 252 before
    before_at = before-all reading_of i h.plan.list.head e p f

    pub has-before : HasBefore img x.root before
    has-before = record { reading = reading_of; place = i; before = before_at }

-- one new column for a new span
new-count : (t : Table) (p : Parts) (ns ms : List ℕ) → length (new_column t p ns ms) ≡ min 1 (length ns)
new-count t p [] ms = refl
new-count t p (n ∷ ns) ms = omega arith

module _ {img b : List ℕ} {x : Plan} {r : KeyRule} {t : Table} {bs : List Block} {i : ℕ} {es : List Entry} (h : CommitOf img b x r t bs i es) where
  abbrev ok : TableOk r t
  ok = h.standing.readable.ok

  abbrev p : Parts
  p = parts t es

  abbrev ps : List ℕ
  ps = (drawn_with t i bs es x.more).pages

  abbrev s : Shared
  s = share p ps

  enough : wanted_by p ≤ length ps
  enough = omega (arith, many h)

  -- a tower comes only with a split
  tall-moves : 1 ≤ p.height → 1 ≤ length p.move
  tall-moves l =
      parts-cases t es (λ k. absurd (omega (arith, l, ap (λ (q : Parts). q.height) (parts-plain t es k)))) (λ k. (split-halves r t ok es k h.few).move.0)

  some-wanted : (fs : List Entry) → 1 ≤ length fs → 1 ≤ span_wanted fs
  some-wanted [] l = absurd (omega arith)
  some-wanted (f ∷ fs) l = reached-one (f ∷ fs)

  with-span : 1 ≤ length s.tower → 1 ≤ length s.span
  with-span l = omega (arith, share-span p ps enough, some-wanted p.move (tall-moves (omega (arith, share-tower p ps enough))))

  pub low-tower : p.height ≤ 252
  low-tower = omega (arith, height-fits r t ok es, ok.heights.0.0.1)

  towers-new : length (towers_of (new_columns t p s)) ≡ min 1 p.height
  towers-new = shared-tower t p ps enough tall-moves

  size_is : size_of x ≡ length (entries_of (table_after t i p s))
  size_is =
      omega (
        arith,
        h.plan.list.size,
        h.plan.links.size,
        h.plan.shape.entries,
        ap length (parts_whole t es),
        length-append p.stay p.move,
        ap length (place-entries t i h.inside),
        length-append (entries_before t i) ((span_at t i).entries ++ entries_after t i),
        length-append (span_at t i).entries (entries_after t i),
        ap length (with_entries r t ok i h.inside es h.few ps enough),
        length-append (entries_before t i) (es ++ entries_after t i),
        length-append es (entries_after t i),
      )

  spans-is : spans_of x ≡ length (columns (table_after t i p s))
  spans-is =
      omega (arith, h.plan.list.spans, h.plan.wants.span, share-span p ps enough, new-count t p s.span s.tower, split-spans t i p s h.inside)

  levels-is : levels_of x ≡ length (towers_of (columns (table_after t i p s)))
  levels-is = omega (arith, h.plan.list.levels, h.plan.wants.tower, towers-new, split-levels t i p s h.inside)

  -- the text's writes in the numbers that the code has
  coded : (before behind : List ℕ) → (1 ≤ length s.tower → Around t i before behind)
      → (rewrite t i es ps).writes
      ≡ span_writes (cut_at t i p s) s.span ++ (tower_writes (rise_at t p (first_of s.span) before behind) s.tower ++ (counts_of x ∷ []))
  unfolding rewrite
  coded before behind around =
      rewriting-coded t i p s before behind (size_of x) (spans_of x) (levels_of x) h.inside (past-pages h.standing.readable i h.inside) towers-new low-tower with-span around
      size_is spans-is levels-is
      ∙ ap (λ (n : ℕ). span_writes (cut_at t i p s) s.span ++ (tower_writes (rise_at t p (first_of s.span) before behind) s.tower ++ (counts_at n (size_of x) (spans_of x) (levels_of x) ∷ [])))
      (sym h.root)

  -- ---- After drawing

  module _ {n : ℕ} (out after : List ℕ) (w : DrewPlan img b x n out after) where
    pub image-drawn : out ≡ apply (drawn_with t i bs es x.more).writes img
    image-drawn = w.image (can_draw h) ∙ ap (λ (d : Drawn). apply d.writes img) (drawn-is h)

    pub list-drawn : after ≡ b1 h
    list-drawn = w.list (can_draw h) ∙ ap (λ (d : Drawn). sets (sets b 0 (word32 x.page)) 4 (gather word32 d.pages)) (drawn-is h)

    pub flat-ready : FlatReady out after x
    flat-ready =
        subst (λ (l : List ℕ). FlatReady l after x) (sym image-drawn)
        (subst (λ (l : List ℕ). FlatReady (apply (drawn_with t i bs es x.more).writes img) l x) (sym list-drawn) (record { spans = spans-ready h; counts = counts-ready h }))

    spans-drawn : SpansOf out after x (cut_at t i p s) s.span
    spans-drawn =
        subst (λ (l : List ℕ). SpansOf l after x (cut_at t i p s) s.span) (sym image-drawn)
        (subst (λ (l : List ℕ). SpansOf (apply (drawn_with t i bs es x.more).writes img) l x (cut_at t i p s) s.span) (sym list-drawn) (spans-of h))

    -- the writes of the text, after those of drawing
    joined : (ws : List Write) (fin : List ℕ) → fin ≡ apply ws out → (rewrite t i es ps).writes ≡ ws → fin ≡ apply ((drawn_with t i bs es x.more).writes ++ (rewrite t i es ps).writes) img
    joined ws fin e c =
        e ∙ ap₂ (λ (l : List Write) (m : List ℕ). apply l m) (sym c) image-drawn ∙ sym (apply-append (drawn_with t i bs es x.more).writes (rewrite t i es ps).writes img)

    none : (ns : List ℕ) → length ns ≡ 0 → ns ≡ []
    none [] e = refl
    none (n ∷ ns) e = absurd (omega arith)

    flat-is : x.wants.tower ≡ 0 → (fin : List ℕ) → WroteFlat out after x fin → fin ≡ apply ((drawn_with t i bs es x.more).writes ++ (rewrite t i es ps).writes) img
    flat-is z fin f =
        joined (span_writes (cut_at t i p s) s.span ++ (counts_of x ∷ [])) fin (f.image (cut_at t i p s) s.span spans-drawn)
        (coded [] [] (λ l. absurd (omega (arith, ap length no-tower)))
        ∙ ap (λ (ns : List ℕ). span_writes (cut_at t i p s) s.span ++ (tower_writes (rise_at t p (first_of s.span) [] []) ns ++ (counts_of x ∷ []))) no-tower)
      where
        no-tower : s.tower ≡ []
        no-tower = none s.tower (omega (arith, z, h.plan.wants.tower, share-tower p ps enough))

    -- ---- With a tower

    one-tower : x.wants.tower ≡ 1 → (n : ℕ) × (s.tower ≡ n ∷ [])
    one-tower e = go s.tower (share-tower p ps enough ∙ sym h.plan.wants.tower ∙ e)
      where
        go : (ns : List ℕ) → length ns ≡ 1 → (n : ℕ) × (ns ≡ n ∷ [])
        go [] k = absurd (omega arith)
        go (n ∷ []) k = (n, refl)
        go (n ∷ (m ∷ ns)) k = absurd (omega arith)

    is_one : (x.wants.tower ≡ 0 → ⊥) → x.wants.tower ≡ 1
    is_one z = go x.wants.tower (omega (arith, h.plan.wants.tower)) z
      where
        go : (k : ℕ) → k ≤ 1 → (k ≡ 0 → ⊥) → k ≡ 1
        go zero l z = absurd (z refl)
        go (suc k) l z = omega arith

    tower-on : (n : ℕ) → s.tower ≡ n ∷ [] → TowerOn out after x n
    tower-on n e =
        record {
          listed = ap (λ (l : List ℕ). be32 l (4 * (1 + x.wants.conts + x.wants.span))) list-drawn
              ∙ (subst (Numbers (b1 h) (4 * (1 + x.wants.conts + x.wants.span))) e (tower-listed h)).0;
          page = on-page (subst (Every (PageOf (length (apply (drawn_with t i bs es x.more).writes img)))) e (tower-pages h)).0;
        }
      where
        on-page : PageOf (length (apply (drawn_with t i bs es x.more).writes img)) n → IsPage out n
        on-page q = subst (λ (l : List ℕ). IsPage l n) (sym image-drawn) (record { low = q.0; high = q.1 })

    same_length : length out ≡ length img
    same_length = ap length image-drawn ∙ length-apply (drawn_with t i bs es x.more).writes img

    pub tall-ready : (x.wants.tower ≡ 0 → ⊥) → (before : List ℕ) → Before t (suc i) 252 before → TallReady out after x before
    tall-ready z before l =
        let o : (n : ℕ) × (s.tower ≡ n ∷ []) = one-tower (is_one z) in
        let f : FlatReady out after x = flat-ready in
        record {
          spans = f.spans;
          counts = f.counts;
          room = omega (arith, words h, total h, is_one z, h.base, h.lent, ap length list-drawn, buffer-size h);
          small = omega (arith, ap length list-drawn, buffer-size h, h.lent, h.standing.readable.small);
          number = o.0;
          tower = tower-on o.0 o.1;
          head = page-of out same_length (subst (IsPage img) (sym h.plan.list.head) (head-borne h.standing.readable).1.0);
          links = before-linkable (reading_of h) (suc i) x.shape.height (omega (arith, h.plan.shape.height, low-tower)) (before-less (omega (arith, h.plan.shape.height, low-tower)) l) out same_length;
        }

    tall-is : (x.wants.tower ≡ 0 → ⊥) → (before behind : List ℕ) → Around t i before behind → (fin : List ℕ) → WroteTall out after x before behind fin
        → fin ≡ apply ((drawn_with t i bs es x.more).writes ++ (rewrite t i es ps).writes) img
    tall-is z before behind a fin f = go s.span refl (with-span (omega (arith, ap length o.1)))
      where
        o : (n : ℕ) × (s.tower ≡ n ∷ [])
        o = one-tower (is_one z)

        rise : (q : ℕ) → rise_for x q before behind ≡ rise_at t p q before behind
        rise q =
            λ j. record {
              head = h.plan.list.head j;
              top = h.plan.list.top j;
              max = h.plan.list.max j;
              height = h.plan.shape.height j;
              span = q;
              before = before;
              after = behind;
            }

        go : (ns : List ℕ) → s.span ≡ ns → 1 ≤ length ns → fin ≡ apply ((drawn_with t i bs es x.more).writes ++ (rewrite t i es ps).writes) img
        go [] e l = absurd (omega arith)
        go (q ∷ qs) e l =
            joined (span_writes (cut_at t i p s) (q ∷ qs) ++ (tower_writes (rise_for x q before behind) (o.0 ∷ []) ++ (counts_of x ∷ []))) fin
            (f.image (cut_at t i p s) q qs o.0 (subst (SpansOf out after x (cut_at t i p s)) e spans-drawn) (tower-on o.0 o.1))
            (coded before behind (λ k. a)
            ∙ (λ j. span_writes (cut_at t i p s) (e j) ++ (tower_writes (rise_at t p (first_of (e j)) before behind) (o.1 j) ++ (counts_of x ∷ [])))
            ∙ ap (λ u. span_writes (cut_at t i p s) (q ∷ qs) ++ (tower_writes u (o.0 ∷ []) ++ (counts_of x ∷ []))) (sym (rise q)))

pub committed-flat : {img b : List ℕ} {x : Plan} {n : ℕ} (out after fin : List ℕ) → DrewPlan img b x n out after → x.wants.tower ≡ 0 → WroteFlat out after x fin
    → Committed img b x n fin
committed-flat out after fin w z f = record { image = λ r t bs i es h. flat-is h out after w z fin f; given = λ r t bs i es h. w.given (can_draw h) }

-- with a tower, from the towers around it, which were read before
pub committed-tall : {img b : List ℕ} {x : Plan} {path old : List ℕ} {n : ℕ} (before behind out after fin : List ℕ) → length old ≡ 252
    → Filled old 252 (λ l. page_or_head x.list.head (get_or path l 0)) before → AfterIn img x.root before behind
    → DrewPlan img b x n out after → (x.wants.tower ≡ 0 → ⊥) → WroteTall out after x before behind fin → CommittedOn img b x path fin
committed-tall before behind out after fin e l a w z f =
    record {
      image = λ r t bs i es h p.
          let c : Before t (suc i) 252 before = before_at h p e l in
          tall-is h out after w z before behind (record { last = c; next = a.is (reading_of h) i c }) fin f;
    }
