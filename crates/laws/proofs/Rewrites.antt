-- A span rewritten, on what is held: with the pages drawn in hand, the writes of the text lead to the table after it.
use Prim.Native.Nat.{ℕ, suc, ◌+◌, ◌-◌, ◌<◌, ◌≤◌, min, max}
use native.Mathlib.Omega.{arith}
use mathlib.Core.Path.{◌≡◌, refl, ap, ap₂, sym, ◌∙◌, subst}
use mathlib.Core.List.{List, [], ◌∷◌, ◌++◌, map, append_assoc}
use lib.ListN.{length, take, drop, length-map, take-append-drop}
use Rattle.blockfile.specs.Bytes.{Write, Every, gather}
use Rattle.blockfile.specs.Layout.{Entry, Span, Tower, Column, Table, Block, columns, spans_of, towers_of}
use Rattle.blockfile.specs.Order.{KeyRule}
use Rattle.blockfile.specs.Fields.{SkipList, LinkedSpan, LinkedTower}
use Rattle.blockfile.specs.WellFormed.{next_at, link_towers, spans_in, towers_in, count, skip_list_of, TableOk}
use Rattle.blockfile.specs.Encode.{whole_span, whole_tower}
use Rattle.blockfile.specs.Put.{Parts, parts, wanted_by, tower_wanted, Shared, share, new_column, new_columns, span_at, table_after, prev_link, counts_on, raise, rewriting}
use Rattle.blockfile.proofs.Every.{every-left, every-right, every-join, every-unmap}
use Rattle.blockfile.proofs.Count.{count-append, every-counted}
use Rattle.laws.specs.Owned.{pages_in}
use Rattle.laws.proofs.Places.{every_take, every_drop}
use Rattle.laws.proofs.State.{Held, Shows, span_pages, tower_pages}
use Rattle.laws.proofs.Opens.{held}
use Rattle.laws.proofs.Edits.{respare}
use Rattle.laws.proofs.Encodes.{SpanFits, TowerFits}
use Rattle.laws.proofs.Splits.{parts-cases, parts-plain, plain-new, Split, split-new, share-all, share-tower, new-span-pages, new-tower-pages}
use Rattle.laws.proofs.Rewritten.{raised}
use Rattle.laws.proofs.SpanLinks.{linked, first_page, last_page, link_between, new_span, spans_to, spans_past, spans-after, new-at-most-one, spans-rewritten, written-whole, written-prev}
use Rattle.laws.proofs.TowerLinks.{seats_of, seated, Distinct, Link, link_write, set_nexts, stretch, head_as, seated-towers}
use Rattle.laws.proofs.Relinks.{relinks, towers_before, towers-at, links-pages}
use Rattle.laws.proofs.TableTowers.{head-after, seats-after, new_linked, towers-split, tower-written, split-written, split-count, counts-after}
use Rattle.laws.proofs.Spots.{Around, among}
use Rattle.laws.proofs.Inside.{Word, spans-small, spare-small, towers-once, tower-or-spare}
use Rattle.laws.proofs.LinksWritten.{tall, LinkFits, links-written}
use Rattle.laws.proofs.Turns.{Turns, and_then, turns_as, whole-spans, prevs-written, whole-towers, stretched, raise-written, Headed, sets-headed}
use Rattle.laws.proofs.Fitting.{Short, SmallPages, spans_fit, towers-fit, others-low, counts-turn}
use Rattle.laws.proofs.RelinksFit.{above, tall-stretched, relinks-fit}
use Rattle.laws.proofs.Pagewise.{between-pages, each-page, spans-between, last_word, tower-pages, count-between}

-- ---- The parts of what is held

-- the linked spans before place i
abbrev pub spans_left : Table → (i : ℕ) → List LinkedSpan
spans_left t i = link_between t.span_size 0 (span_at t i).page (spans_to t i)

-- and behind it
abbrev pub spans_right : Table → (i : ℕ) → List LinkedSpan
spans_right t i = link_between t.span_size (span_at t i).page 0 (spans_past t i)

-- the linked towers from place j on
abbrev pub towers_past : Table → (j : ℕ) → List LinkedTower
towers_past t j = link_towers (drop j (columns t))

-- the table without the span at place i, whose page is in hand with those drawn
abbrev pub opened : Around → Table → (i : ℕ) → List Block → (drawn rest : List ℕ) → Held
opened o t i bs ps rest =
    held (o.skips_before ++ skip_list_of t ∷ o.skips_after) ((o.spans_before ++ spans_left t i) ++ (spans_right t i ++ o.spans_after)) (o.towers_first ++ (towers_in t ++ o.towers_last)) bs
    ((span_at t i).page ∷ (ps ++ rest))

-- ---- The pages drawn, shared out

-- the pages of the shares, and those left over
abbrev pub dealt_out : Shared → (left : List ℕ) → List ℕ
dealt_out s left = (s.conts ++ (s.span ++ s.tower)) ++ left

dealt : (m q : ℕ) (cs ss ws left ps rest : List ℕ) → ps ≡ (cs ++ (ss ++ ws)) ++ left
    → count m ((q ∷ (cs ++ ss)) ++ (ws ++ (left ++ rest))) ≡ count m (q ∷ (ps ++ rest))
dealt m q cs ss ws left ps rest e = regroup ∙ ap (λ (l : List ℕ). count m (q ∷ (l ++ rest))) (sym e)
  where
    regroup : count m ((q ∷ (cs ++ ss)) ++ (ws ++ (left ++ rest))) ≡ count m (q ∷ (((cs ++ (ss ++ ws)) ++ left) ++ rest))
    regroup = simp count-append (omega arith)

module _ (r : KeyRule) (t : Table) (ok : TableOk r t) (es : List Entry) (few : length es ≤ t.span_size + 1) (ps : List ℕ) (enough : wanted_by (parts t es) ≤ length ps) where
  -- the shares are the first pages drawn
  pub shares : ps ≡ dealt_out (share (parts t es) ps) (drop (wanted_by (parts t es)) ps)
  shares = sym (take-append-drop (wanted_by (parts t es)) ps) ∙ ap (λ (l : List ℕ). l ++ drop (wanted_by (parts t es)) ps) (sym (share-all (parts t es) ps))

  -- the new tower is on its share
  pub new-towers : pages_in (towers_of (new_columns t (parts t es) (share (parts t es) ps))) ≡ (share (parts t es) ps).tower
  new-towers = parts-cases t es plain split
    where
      s : Shared
      s = share (parts t es) ps

      none_left : (ns : List ℕ) → length ns ≡ 0 → [] ≡ ns
      none_left [] e = refl
      none_left (n ∷ ns) e = absurd (omega arith)

      plain : length es ≤ t.span_size → pages_in (towers_of (new_columns t (parts t es) s)) ≡ s.tower
      plain l =
          ap (λ (cs : List Column). pages_in (towers_of cs)) (plain-new t es l ps)
          ∙ none_left s.tower (share-tower (parts t es) ps enough ∙ ap tower_wanted (parts-plain t es l))

      split : t.span_size < length es → pages_in (towers_of (new_columns t (parts t es) s)) ≡ s.tower
      split l =
          let d : Split t (parts t es) s = split-new r t ok es l few ps enough in
          ap (λ (ns : List ℕ). pages_in (towers_of (new_column t (parts t es) ns s.tower))) d.pages
          ∙ new-tower-pages t (parts t es) d.page d.conts s.tower (omega (arith, share-tower (parts t es) ps enough))

-- ---- What is written

-- what a rewriting needs to know of its parts and shares
pub record Ready (r : KeyRule) (t : Table) (i : ℕ) (p : Parts) (s : Shared) : Type 0 where
  pub inside : i < length (columns t)
  pub ok : TableOk r t
  pub ok_after : TableOk r (table_after t i p s)
  pub low : p.height ≤ t.head.max_height
  pub towers : pages_in (towers_of (new_columns t p s)) ≡ s.tower
  pub one : length s.tower ≡ min 1 p.height

module _ (t : Table) (i : ℕ) (p : Parts) (s : Shared) where
  -- the spans written whole
  abbrev wholly : List LinkedSpan
  wholly =
      linked t.span_size (last_page 0 (spans_to t i)) (first_page (first_page 0 (spans_past t i)) (spans_of (new_columns t p s))) (new_span t i p s)
      ∷ link_between t.span_size (span_at t i).page (first_page 0 (spans_past t i)) (spans_of (new_columns t p s))

  -- the spans behind them, with their links after it
  abbrev moved : List LinkedSpan
  moved = link_between t.span_size (last_page (span_at t i).page (spans_of (new_columns t p s))) 0 (spans_past t i)

  -- the towers, before links to the new one are written
  abbrev unlinked : List LinkedTower
  unlinked = towers_before t (suc i) ++ (new_linked t i p s ++ towers_past t (suc i))

  -- the links written
  abbrev edits : List Link
  edits = relinks (table_after t i p s) (suc i) p.height

module _ {A : Type 0} where
  span-place : (xs a w b ys : List A) → ((xs ++ a) ++ w) ++ (b ++ ys) ≡ xs ++ ((a ++ (w ++ b)) ++ ys)
  span-place xs a w b ys = simp append_assoc

  -- towers with new ones in their midst
  pub tower-place : (ts b n a us : List A) → (ts ++ b) ++ (n ++ (a ++ us)) ≡ ts ++ ((b ++ (n ++ a)) ++ us)
  tower-place ts b n a us = simp append_assoc

module _ (r : KeyRule) (short : Short r) (t : Table) (i : ℕ) (p : Parts) (s : Shared) (d : Ready r t i p s) where
  -- ---- Pages

  module _ {c z : ℕ} {img : List ℕ} (o : Around) (bs : List Block) (left rest : List ℕ) (sh : Shows c z img (opened o t i bs (dealt_out s left) rest)) where
    span-drawn : Every Word s.span
    span-drawn =
        every-left Word s.span s.tower
        (every-right Word s.conts (s.span ++ s.tower)
        (every-left Word (s.conts ++ (s.span ++ s.tower)) left (every-left Word (dealt_out s left) rest (spare-small sh).1)))

    towers-counted : (n : ℕ) → count n (pages_in (towers_of (columns (table_after t i p s))))
        ≤ count n (tower_pages (o.towers_first ++ (towers_in t ++ o.towers_last))) + count n ((span_at t i).page ∷ (dealt_out s left ++ rest))
    towers-counted n =
        omega (
          arith,
          split-count t i p s d.inside n,
          ap (count n) d.towers,
          count-between n o.towers_first (towers_in t) o.towers_last,
          ap (count n) (tower-pages (columns t)),
          count-append n (dealt_out s left) rest,
          count-append n (s.conts ++ (s.span ++ s.tower)) left,
          count-append n s.conts (s.span ++ s.tower),
          count-append n s.span s.tower,
        )

    distinct-after : Distinct (towers_of (columns (table_after t i p s)))
    distinct-after n = omega (arith, towers-counted n, towers-once sh n)

    small-after : SmallPages (table_after t i p s)
    small-after =
        let R : Span → Type 0 = λ x. Word x.page in
        let a : Every Word (span_pages (spans_left t i))
        = spans-between o.spans_before (spans_left t i) (spans_right t i ++ o.spans_after)
        (subst (λ (l : List LinkedSpan). Every Word (span_pages l)) (append_assoc o.spans_before (spans_left t i) (spans_right t i ++ o.spans_after)) (spans-small sh)) in
        let b : Every Word (span_pages (spans_right t i)) = spans-between (o.spans_before ++ spans_left t i) (spans_right t i) o.spans_after (spans-small sh) in
        record {
          spans =
              subst (Every R) (sym (spans-after t i p s d.inside))
              (every-join R (spans_to t i) (new_span t i p s ∷ (spans_of (new_columns t p s) ++ spans_past t i))
              (each-page (spans_to t i) (subst (Every Word) (between-pages t.span_size 0 (span_at t i).page (spans_to t i)) a)) (
                (spare-small sh).0,
                every-join R (spans_of (new_columns t p s)) (spans_past t i)
                    (each-page (spans_of (new_columns t p s)) (subst (Every Word) (sym (new-span-pages t p s.span s.tower)) span-drawn))
                    (each-page (spans_past t i) (subst (Every Word) (between-pages t.span_size (span_at t i).page 0 (spans_past t i)) b)),
              ));
          towers =
              every-unmap Word (λ (w : Tower). w.page) (towers_of (columns (table_after t i p s)))
              (every-counted Word (pages_in (towers_of (columns (table_after t i p s)))) (λ n k. tower-or-spare sh n (omega (arith, towers-counted n))));
        }

  -- ---- The writes, one after another

  many-new : length (towers_of (new_columns t p s)) ≡ min 1 p.height
  many-new = sym (length-map (towers_of (new_columns t p s)) (λ (w : Tower). w.page)) ∙ ap length d.towers ∙ d.one

  written : rewriting t i (length (new_columns t p s)) p.height (table_after t i p s)
      ≡ (gather whole_span (wholly t i p s) ++ map prev_link (take (length (new_columns t p s)) (moved t i p s)))
      ++ ((gather whole_tower (new_linked t i p s) ++ (map link_write (edits t i p s) ++ raise t.head (table_after t i p s).head))
      ++ (counts_on (table_after t i p s) ∷ []))
  unfolding rewriting
  written =
      (λ j.
      gather whole_span (written-whole t i p s d.inside j)
      ++ (map prev_link (written-prev t i p s d.inside j)
      ++ (gather whole_tower (tower-written t i p s d.inside many-new j)
      ++ (split-written t i p s d.inside j ++ (raise t.head (table_after t i p s).head ++ (counts_on (table_after t i p s) ∷ []))))))
      ∙ regroup (gather whole_span (wholly t i p s)) (map prev_link (take (length (new_columns t p s)) (moved t i p s))) (gather whole_tower (new_linked t i p s)) (map link_write (edits t i p s))
      (raise t.head (table_after t i p s).head) (counts_on (table_after t i p s) ∷ [])
    where
      regroup : (a b c l v k : List Write) → a ++ (b ++ (c ++ (l ++ (v ++ k)))) ≡ (a ++ b) ++ ((c ++ (l ++ v)) ++ k)
      regroup a b c l v k = simp append_assoc

  module _ {c z : ℕ} (o : Around) (bs : List Block) (sm : SmallPages (table_after t i p s)) (ds : Distinct (towers_of (columns (table_after t i p s)))) where
    spans-turn : (sp : List ℕ)
        → Turns c z (gather whole_span (wholly t i p s) ++ map prev_link (take (length (new_columns t p s)) (moved t i p s)))
        (held (o.skips_before ++ skip_list_of t ∷ o.skips_after) ((o.spans_before ++ spans_left t i) ++ (spans_right t i ++ o.spans_after)) (o.towers_first ++ (towers_in t ++ o.towers_last)) bs
        (span_pages (wholly t i p s) ++ sp))
        (held (o.skips_before ++ skip_list_of t ∷ o.skips_after) (o.spans_before ++ (spans_in (table_after t i p s) ++ o.spans_after)) (o.towers_first ++ (towers_in t ++ o.towers_last)) bs sp)
    spans-turn sp =
        and_then
        (whole-spans (o.spans_before ++ spans_left t i) (spans_right t i ++ o.spans_after) (wholly t i p s) sp fits)
        (turns_as refl
        (ap (λ (l : List LinkedSpan). held (o.skips_before ++ skip_list_of t ∷ o.skips_after) l (o.towers_first ++ (towers_in t ++ o.towers_last)) bs sp)
        (sym (append_assoc (o.spans_before ++ spans_left t i) (wholly t i p s) (spans_right t i ++ o.spans_after))))
        (ap (λ (l : List LinkedSpan). held (o.skips_before ++ skip_list_of t ∷ o.skips_after) l (o.towers_first ++ (towers_in t ++ o.towers_last)) bs sp)
        (span-place o.spans_before (spans_left t i) (wholly t i p s) (moved t i p s) o.spans_after
        ∙ ap (λ (l : List LinkedSpan). o.spans_before ++ (l ++ o.spans_after)) (sym (spans-rewritten t i p s d.inside))))
        (prevs-written ((o.spans_before ++ spans_left t i) ++ wholly t i p s) o.spans_after sp t.span_size (span_at t i).page
        (last_page (span_at t i).page (spans_of (new_columns t p s))) (length (new_columns t p s)) (spans_past t i) (new-at-most-one t p s) (none-new (new_columns t p s)) last))
      where
        none-new : (cs : List Column) → length cs ≡ 0 → (span_at t i).page ≡ last_page (span_at t i).page (spans_of cs)
        none-new [] e = refl
        none-new (x ∷ cs) e = absurd (omega arith)

        fits : Every SpanFits (wholly t i p s)
        fits =
            subst (Every SpanFits) (written-whole t i p s d.inside)
            (every_take SpanFits (1 + length (new_columns t p s)) (drop i (spans_in (table_after t i p s)))
            (every_drop SpanFits i (spans_in (table_after t i p s)) (spans_fit r short (table_after t i p s) d.ok_after sm)))

        last : Word (last_page (span_at t i).page (spans_of (new_columns t p s)))
        last =
            let R : Span → Type 0 = λ x. Word x.page in
            let h : Every R (new_span t i p s ∷ (spans_of (new_columns t p s) ++ spans_past t i))
            = every-right R (spans_to t i) (new_span t i p s ∷ (spans_of (new_columns t p s) ++ spans_past t i)) (subst (Every R) (spans-after t i p s d.inside) sm.spans) in
            last_word (span_at t i).page (spans_of (new_columns t p s)) h.0 (every-left R (spans_of (new_columns t p s)) (spans_past t i) h.1)

    links-turn : (ks : List SkipList) (xs : List LinkedSpan) (sp : List ℕ)
        → Turns c z (map link_write (edits t i p s) ++ raise t.head (table_after t i p s).head)
        (held ks xs (o.towers_first ++ (unlinked t i p s ++ o.towers_last)) bs sp)
        (held ks xs (o.towers_first ++ (towers_in (table_after t i p s) ++ o.towers_last)) bs sp)
    links-turn ks xs sp =
        record {
          turn = λ img sh.
              let st : (ms : List ℕ) × (length ms ≡ max t.head.height p.height - t.head.height)
              × Shows c z img (held ks xs (o.towers_first ++ (stretch ms (unlinked t i p s) ++ o.towers_last)) bs sp)
              = stretched o.towers_first o.towers_last sp (unlinked t i p s) (max t.head.height p.height - t.head.height) sh in
              (linked_up st.0 (omega (arith, st.1))).turn img st.2;
        }
      where
        high : max t.head.height p.height ≤ 252
        high = omega (arith, d.low, d.ok.heights.0)

        top : (table_after t i p s).head ≡ raised p.height t.head
        top = head-after t p s i

        height : (table_after t i p s).head.height ≡ max t.head.height p.height
        height = ap (λ (w : Tower). w.height) top

        front : towers_of (take i (table_after t i p s).rest) ≡ seated (seats_of (take i t.rest))
        front = seated-towers (take i (table_after t i p s).rest) ∙ ap seated (seats-after t p s i d.inside)

        fits : (ms : List ℕ) → t.head.height + length ms ≡ max t.head.height p.height → Every (LinkFits (stretch ms (unlinked t i p s))) (edits t i p s)
        fits ms e =
            relinks-fit (table_after t i p s) i p.height (stretch ms (unlinked t i p s)) (omega (arith, height)) (omega (arith, high)) sm
            (λ k n.
            omega (
              arith,
              ap (count n)
                  (tall-stretched k (λ l. next_at l (towers_of (drop i t.rest))) (record { span_page = t.first.page; tower = t.head }) (seats_of (take i t.rest))
                  (new_linked t i p s ++ towers_past t (suc i)) ms (table_after t i p s).head (ap (λ (w : Tower). w.page) top) (e ∙ sym height)),
              ap (λ (ws : List Tower). count n (above k ((table_after t i p s).head ∷ ws))) front,
              count-append n (above k ((table_after t i p s).head ∷ seated (seats_of (take i t.rest)))) (tall k (new_linked t i p s ++ towers_past t (suc i))),
            ))

        linked_up : (ms : List ℕ) → t.head.height + length ms ≡ max t.head.height p.height
            → Turns c z (map link_write (edits t i p s) ++ raise t.head (table_after t i p s).head)
            (held ks xs (o.towers_first ++ (stretch ms (unlinked t i p s) ++ o.towers_last)) bs sp)
            (held ks xs (o.towers_first ++ (towers_in (table_after t i p s) ++ o.towers_last)) bs sp)
        linked_up ms e =
            let y : Headed t.head (set_nexts (edits t i p s) (stretch ms (unlinked t i p s))) = sets-headed (edits t i p s) _ _ in
            let w : (table_after t i p s).head ≡ raised p.height y.first.tower = top ∙ ap (raised p.height) (sym y.tower) in
            and_then {ws = map link_write (edits t i p s)}
            (record { turn = links-written o.towers_first o.towers_last (edits t i p s) (stretch ms (unlinked t i p s)) (fits ms e) })
            (turns_as (ap₂ raise (sym y.tower) w) (ap (λ (l : List LinkedTower). held ks xs (o.towers_first ++ (l ++ o.towers_last)) bs sp) y.is)
            (ap (λ (l : List LinkedTower). held ks xs (o.towers_first ++ (l ++ o.towers_last)) bs sp)
            (ap₂ head_as (sym w) (sym y.is) ∙ sym (towers-split t i p s d.inside ms e (others-low r t d.ok) ds)))
            (raise-written o.towers_first o.towers_last sp y.first y.others p.height
            (subst (λ (v : Tower). max v.height p.height < 65536) (sym y.tower) (omega (arith, high)))))

    towers-turn : (ks : List SkipList) (xs : List LinkedSpan) (sp : List ℕ)
        → Turns c z (gather whole_tower (new_linked t i p s) ++ (map link_write (edits t i p s) ++ raise t.head (table_after t i p s).head))
        (held ks xs (o.towers_first ++ (towers_in t ++ o.towers_last)) bs (tower_pages (new_linked t i p s) ++ sp))
        (held ks xs (o.towers_first ++ (towers_in (table_after t i p s) ++ o.towers_last)) bs sp)
    towers-turn ks xs sp =
        and_then
        (turns_as refl
        (ap (λ (l : List LinkedTower). held ks xs l bs (tower_pages (new_linked t i p s) ++ sp))
        (ap (λ (l : List LinkedTower). o.towers_first ++ (l ++ o.towers_last)) (towers-at t (suc i))
        ∙ sym (tower-place o.towers_first (towers_before t (suc i)) [] (towers_past t (suc i)) o.towers_last)))
        (ap (λ (l : List LinkedTower). held ks xs l bs sp) (tower-place o.towers_first (towers_before t (suc i)) (new_linked t i p s) (towers_past t (suc i)) o.towers_last))
        (whole-towers (o.towers_first ++ towers_before t (suc i)) (towers_past t (suc i) ++ o.towers_last) (new_linked t i p s) sp fits))
        (links-turn ks xs sp)
      where
        fits : Every TowerFits (new_linked t i p s)
        fits =
            subst (Every TowerFits) (tower-written t i p s d.inside many-new)
            (every_take TowerFits (min 1 p.height) (towers_past (table_after t i p s) (i + 1))
            (every-right TowerFits (towers_before (table_after t i p s) (i + 1)) (towers_past (table_after t i p s) (i + 1))
            (subst (Every TowerFits) (towers-at (table_after t i p s) (i + 1)) (towers-fit r short (table_after t i p s) d.ok_after sm))))

  -- with the pages in hand, the writes of the text lead from the table without its span at place i to the table after it
  pub rewriting-turn : {c z : ℕ} (o : Around) (bs : List Block) (left rest : List ℕ)
      → Turns c z (rewriting t i (length (new_columns t p s)) p.height (table_after t i p s)) (opened o t i bs (dealt_out s left) rest) (among o (table_after t i p s) bs (left ++ rest))
  rewriting-turn {c} {z} o bs left rest =
      record { turn = λ img sh. (all (small-after o bs left rest sh) (distinct-after o bs left rest sh)).turn img (respare _ pages sh) }
    where
      pages : (m : ℕ) → count m (span_pages (wholly t i p s) ++ (tower_pages (new_linked t i p s) ++ (left ++ rest))) ≡ count m ((span_at t i).page ∷ (dealt_out s left ++ rest))
      pages m =
          dealt m (span_at t i).page s.conts (span_pages (link_between t.span_size (span_at t i).page (first_page 0 (spans_past t i)) (spans_of (new_columns t p s))))
          (tower_pages (new_linked t i p s)) left (dealt_out s left) rest
          (λ j. (s.conts ++ (new-spans j ++ news j)) ++ left)
        where
          new-spans : s.span ≡ span_pages (link_between t.span_size (span_at t i).page (first_page 0 (spans_past t i)) (spans_of (new_columns t p s)))
          new-spans = sym (between-pages t.span_size (span_at t i).page (first_page 0 (spans_past t i)) (spans_of (new_columns t p s)) ∙ new-span-pages t p s.span s.tower)

          news : s.tower ≡ tower_pages (new_linked t i p s)
          news = sym (links-pages (λ l. next_at l (towers_of (drop (suc i) (columns t)))) (new_columns t p s) ∙ d.towers)

      all : SmallPages (table_after t i p s) → Distinct (towers_of (columns (table_after t i p s)))
          → Turns c z (rewriting t i (length (new_columns t p s)) p.height (table_after t i p s))
          (held (o.skips_before ++ skip_list_of t ∷ o.skips_after) ((o.spans_before ++ spans_left t i) ++ (spans_right t i ++ o.spans_after)) (o.towers_first ++ (towers_in t ++ o.towers_last)) bs
          (span_pages (wholly t i p s) ++ (tower_pages (new_linked t i p s) ++ (left ++ rest))))
          (among o (table_after t i p s) bs (left ++ rest))
      all sm ds =
          turns_as written refl refl
          (and_then (spans-turn o bs sm ds (tower_pages (new_linked t i p s) ++ (left ++ rest)))
          (and_then (towers-turn o bs sm ds (o.skips_before ++ skip_list_of t ∷ o.skips_after) (o.spans_before ++ (spans_in (table_after t i p s) ++ o.spans_after)) (left ++ rest))
          (counts-turn o.skips_before o.skips_after o.spans_before o.spans_after r t (table_after t i p s) d.ok_after (counts-after t i p s))))
