-- A span unlinked, on what is held: its pages are given back, and the writes of the text lead to the table without it.
use Prim.Native.Nat.{ℕ, suc, ◌<◌, ◌≤◌}
use native.Mathlib.Omega.{arith}
use mathlib.Core.Path.{◌≡◌, refl, ap, sym, ◌∙◌, subst, subst₂}
use mathlib.Core.List.{List, [], ◌∷◌, ◌++◌, map, append_assoc}
use lib.ListN.{length, take, drop, length-take}
use lib.Seq.{take_at}
use lib.Dec.{lit<}
use Rattle.blockfile.specs.Bytes.{Every, gather}
use Rattle.blockfile.specs.Layout.{Span, Tower, Table, Block, columns, spans_of, towers_of}
use Rattle.blockfile.specs.Order.{KeyRule}
use Rattle.blockfile.specs.Fields.{SkipList, LinkedSpan, LinkedTower}
use Rattle.blockfile.specs.WellFormed.{next_at, spans_in, towers_in, count, skip_list_of, TableOk}
use Rattle.blockfile.specs.Free.{Drawn, draw}
use Rattle.blockfile.specs.Put.{span_at, prev_link, next_link, counts_on}
use Rattle.blockfile.specs.Remove.{without, towers_at, unlinking}
use Rattle.blockfile.proofs.Every.{every-left, every-right, every-join, every-so, every_map, every-unmap}
use Rattle.blockfile.proofs.Count.{count-append, every-counted}
use Rattle.laws.specs.Owned.{pages_in}
use Rattle.laws.proofs.Places.{every_take, every_drop}
use Rattle.laws.proofs.State.{Held, Shows, tower_pages}
use Rattle.laws.proofs.Opens.{held}
use Rattle.laws.proofs.Edits.{respare, forget-span, next-written}
use Rattle.laws.proofs.Draws.{Few, length-drawn, drawn-shows}
use Rattle.laws.proofs.TableRemove.{columns-without}
use Rattle.laws.proofs.SpanLinks.{linked, first_page, last_page, link_between, spans_to, spans_past, spans-here, spans-out, spans-with, spans-unlinked, unlinked-next, unlinked-prev}
use Rattle.laws.proofs.TowerLinks.{seats_of, seated, Distinct, Link, link_write, seated-towers}
use Rattle.laws.proofs.Relinks.{relinks, towers_before, towers-cut, links-pages}
use Rattle.laws.proofs.TableTowers.{relinks-gone, gone_linked, towers-with, towers-unlinked, unlinked-count, unlinked-distinct, counts-without}
use Rattle.laws.proofs.Inside.{Word, counted-every}
use Rattle.laws.proofs.Spots.{Around, among}
use Rattle.laws.proofs.LinksWritten.{tall, LinkFits, links-written}
use Rattle.laws.proofs.Turns.{Turns, and_then, turns_as, prevs-written, forget-towers}
use Rattle.laws.proofs.Fitting.{SmallPages, others-low, counts-turn}
use Rattle.laws.proofs.RelinksFit.{above, tall-append, tall-links, relinks-fit}
use Rattle.laws.proofs.Pagewise.{first_word, small-pages, distinct-towers}
use Rattle.laws.proofs.Rewrites.{spans_left, spans_right, towers_past, tower-place}

module _ (t : Table) (k : ℕ) where
  -- the span before the one that goes, before and after it
  abbrev before : LinkedSpan
  before = linked t.span_size (last_page 0 (spans_to t k)) (span_at t (suc k)).page (span_at t k)

  abbrev joined : LinkedSpan
  joined = linked t.span_size (last_page 0 (spans_to t k)) (first_page 0 (spans_past t (suc k))) (span_at t k)

  -- the spans behind the one that goes, after it
  abbrev behind : List LinkedSpan
  behind = link_between t.span_size (span_at t k).page 0 (spans_past t (suc k))

  -- the pages that go
  abbrev pub gone : List ℕ
  gone = (span_at t (suc k)).page ∷ map (λ w. w.page) (towers_at t (suc k))

  -- what giving them back leads to
  abbrev pub given : List Block → Drawn
  given bs = draw (span_at t (suc k)).conts 0 gone bs

  -- the links written
  abbrev edits : List Link
  edits = gather (λ w. relinks (without t (suc k)) (suc k) w.height) (towers_at t (suc k))

  -- the table with neither the span nor its tower, but with the links as they were
  abbrev parted : Around → List Block → Held
  parted o bs =
      held (o.skips_before ++ skip_list_of t ∷ o.skips_after) ((o.spans_before ++ spans_left t k) ++ before ∷ (spans_right t (suc k) ++ o.spans_after))
      (o.towers_first ++ ((towers_before t (suc k) ++ towers_past t (suc (suc k))) ++ o.towers_last)) bs []

module _ {A : Type 0} where
  span-place : (xs a : List A) (x y : A) (b ys : List A) → xs ++ ((a ++ (x ∷ (y ∷ b))) ++ ys) ≡ ((xs ++ a) ++ x ∷ []) ++ y ∷ (b ++ ys)
  span-place xs a x y b ys = simp append_assoc

  joined-place : (xs a : List A) (x : A) (b ys : List A) → ((xs ++ a) ++ x ∷ []) ++ (b ++ ys) ≡ xs ++ ((a ++ x ∷ b) ++ ys)
  joined-place xs a x b ys = simp append_assoc

handed : (m q : ℕ) (cs ws : List ℕ) → count m (cs ++ ((q ∷ ws) ++ [])) ≡ count m (ws ++ (q ∷ (cs ++ [])))
handed m q cs ws = simp count-append (omega arith)

none-drawn : (m : ℕ) (ps : List ℕ) → length ps ≡ 0 → count m [] ≡ count m (ps ++ [])
none-drawn m [] e = refl
none-drawn m (p ∷ ps) e = absurd (omega arith)

every-gather : {A B : Type 0} (R : B → Type 0) (f : A → List B) (xs : List A) → Every (λ x. Every R (f x)) xs → Every R (gather f xs)
every-gather R f [] h = tt
every-gather R f (x ∷ xs) h = every-join R (f x) (gather f xs) h.0 (every-gather R f xs h.1)

module _ (t : Table) (k : ℕ) (inside : suc k < length (columns t)) where
  -- the span and its tower are let go, and their pages are given back
  give-turn : {c z : ℕ} (o : Around) (bs : List Block) → Few bs → Turns c z (given t k bs).writes (among o t bs []) (parted t k o (given t k bs).free)
  give-turn {c} {z} o bs few =
      record {
        turn = λ img s.
            regrouped (respare [] (λ m. none-drawn m (given t k bs).pages (length-drawn (span_at t (suc k)).conts 0 (gone t k) bs (omega arith)))
            (drawn-shows (span_at t (suc k)).conts 0 (gone t k) bs (omega arith) [] few
            (respare _ pages
            (forget-towers (o.towers_first ++ towers_before t (suc k)) (towers_past t (suc (suc k)) ++ o.towers_last) (gone_linked t k) _
            (forget-span ((o.spans_before ++ spans_left t k) ++ before t k ∷ []) (spans_right t (suc k) ++ o.spans_after) go
            (opened s))))));
      }
    where
      go : LinkedSpan
      go = linked t.span_size (span_at t k).page (first_page 0 (spans_past t (suc k))) (span_at t (suc k))

      pages : (m : ℕ) → count m ((span_at t (suc k)).conts ++ (gone t k ++ [])) ≡ count m (tower_pages (gone_linked t k) ++ ((span_at t (suc k)).page ∷ ((span_at t (suc k)).conts ++ [])))
      pages m =
          handed m (span_at t (suc k)).page (span_at t (suc k)).conts (map (λ w. w.page) (towers_at t (suc k)))
          ∙ ap (λ (l : List ℕ). count m (l ++ ((span_at t (suc k)).page ∷ ((span_at t (suc k)).conts ++ []))))
          (sym (links-pages (λ l. next_at l (towers_of (drop (suc (suc k)) (columns t)))) (take 1 (drop (suc k) (columns t)))))

      opened : {img : List ℕ} → Shows c z img (among o t bs [])
          → Shows c z img
          (held (o.skips_before ++ skip_list_of t ∷ o.skips_after) (((o.spans_before ++ spans_left t k) ++ before t k ∷ []) ++ go ∷ (spans_right t (suc k) ++ o.spans_after))
          ((o.towers_first ++ towers_before t (suc k)) ++ (gone_linked t k ++ (towers_past t (suc (suc k)) ++ o.towers_last))) bs [])
      opened {img} s =
          subst₂ (λ (xs : List LinkedSpan) (ts : List LinkedTower). Shows c z img (held (o.skips_before ++ skip_list_of t ∷ o.skips_after) xs ts bs []))
          (ap (λ (l : List LinkedSpan). o.spans_before ++ (l ++ o.spans_after)) (spans-with t k inside)
          ∙ span-place o.spans_before (spans_left t k) (before t k) go (spans_right t (suc k)) o.spans_after)
          (ap (λ (l : List LinkedTower). o.towers_first ++ (l ++ o.towers_last)) (towers-with t k inside)
          ∙ sym (tower-place o.towers_first (towers_before t (suc k)) (gone_linked t k) (towers_past t (suc (suc k))) o.towers_last))
          s

      regrouped : {img : List ℕ} {bs : List Block}
          → Shows c z img
          (held (o.skips_before ++ skip_list_of t ∷ o.skips_after) (((o.spans_before ++ spans_left t k) ++ before t k ∷ []) ++ (spans_right t (suc k) ++ o.spans_after))
          ((o.towers_first ++ towers_before t (suc k)) ++ (towers_past t (suc (suc k)) ++ o.towers_last)) bs [])
          → Shows c z img (parted t k o bs)
      regrouped {img} {bs} s =
          subst₂ (λ (xs : List LinkedSpan) (ts : List LinkedTower). Shows c z img (held (o.skips_before ++ skip_list_of t ∷ o.skips_after) xs ts bs []))
          (append_assoc (o.spans_before ++ spans_left t k) (before t k ∷ []) (spans_right t (suc k) ++ o.spans_after))
          (tower-place o.towers_first (towers_before t (suc k)) [] (towers_past t (suc (suc k))) o.towers_last)
          s

  -- ---- Pages

  small-without : SmallPages t → SmallPages (without t (suc k))
  small-without s =
      let R : Span → Type 0 = λ x. Word x.page in
      record {
        spans =
            subst (Every R) (sym (spans-out t k inside))
            (every-join R (spans_to t k) (span_at t k ∷ spans_past t (suc k)) (every_take R k (spans_of (columns t)) s.spans) (
              (every-right R (spans_to t k) (span_at t k ∷ spans_past t k) (subst (Every R) (spans-here t k (omega arith)) s.spans)).0,
              every_drop R (suc (suc k)) (spans_of (columns t)) s.spans,
            ));
        towers =
            every-unmap Word (λ (w : Tower). w.page) (towers_of (columns (without t (suc k))))
            (every-counted Word (pages_in (towers_of (columns (without t (suc k)))))
            (λ n c. counted-every Word (pages_in (towers_of (columns t))) n (every_map Word (λ (w : Tower). w.page) (towers_of (columns t)) s.towers) (omega (arith, unlinked-count t k inside n))));
      }

  -- ---- The writes, one after another

  written : unlinking (without t (suc k)) (suc k) (towers_at t (suc k))
      ≡ (next_link (joined t k) ∷ map prev_link (take 1 (behind t k))) ++ (map link_write (edits t k) ++ (counts_on (without t (suc k)) ∷ []))
  unfolding unlinking
  written =
      λ j. map next_link (unlinked-next t k inside j)
      ++ (map prev_link (unlinked-prev t k inside j) ++ (relinks-gone (without t (suc k)) (suc k) (towers_at t (suc k)) j ++ (counts_on (without t (suc k)) ∷ [])))

  module _ {c z : ℕ} (r : KeyRule) (ok : TableOk r t) (o : Around) (bs : List Block) (sm : SmallPages t) (ds : Distinct (towers_of (columns t))) where
    spans-turn : (ks : List SkipList) (ts : List LinkedTower)
        → Turns c z (next_link (joined t k) ∷ map prev_link (take 1 (behind t k)))
        (held ks ((o.spans_before ++ spans_left t k) ++ before t k ∷ (spans_right t (suc k) ++ o.spans_after)) ts bs [])
        (held ks (o.spans_before ++ (spans_in (without t (suc k)) ++ o.spans_after)) ts bs [])
    spans-turn ks ts =
        let R : Span → Type 0 = λ x. Word x.page in
        let w : Every R (span_at t k ∷ spans_past t (suc k))
        = every-right R (spans_to t k) (span_at t k ∷ spans_past t (suc k)) (subst (Every R) (spans-out t k inside) (small-without sm).spans) in
        and_then {ws = next_link (joined t k) ∷ []}
        (record {
          turn = λ img s.
              next-written (o.spans_before ++ spans_left t k) (spans_right t (suc k) ++ o.spans_after) (before t k) (first_page 0 (spans_past t (suc k)))
              (first_word 0 (spans_past t (suc k)) (lit< tt) w.1) s;
        })
        (turns_as refl
        (ap (λ (l : List LinkedSpan). held ks l ts bs []) (sym (append_assoc (o.spans_before ++ spans_left t k) (joined t k ∷ []) (spans_right t (suc k) ++ o.spans_after))))
        (ap (λ (l : List LinkedSpan). held ks l ts bs [])
        (joined-place o.spans_before (spans_left t k) (joined t k) (behind t k) o.spans_after
        ∙ ap (λ (l : List LinkedSpan). o.spans_before ++ (l ++ o.spans_after)) (sym (spans-unlinked t k inside))))
        (prevs-written ((o.spans_before ++ spans_left t k) ++ joined t k ∷ []) o.spans_after [] t.span_size (span_at t (suc k)).page (span_at t k).page 1 (spans_past t (suc k))
        (omega arith) (λ e. absurd (omega arith)) w.0))

    links-turn : (ks : List SkipList) (xs : List LinkedSpan)
        → Turns c z (map link_write (edits t k)) (held ks xs (o.towers_first ++ ((towers_before t (suc k) ++ towers_past t (suc (suc k))) ++ o.towers_last)) bs [])
        (held ks xs (o.towers_first ++ (towers_in (without t (suc k)) ++ o.towers_last)) bs [])
    links-turn ks xs =
        turns_as refl refl
        (ap (λ (l : List LinkedTower). held ks xs (o.towers_first ++ (l ++ o.towers_last)) bs []) (sym (towers-unlinked t k inside (others-low r t ok) (unlinked-distinct t k inside ds))))
        (record { turn = links-written o.towers_first o.towers_last (edits t k) (towers_before t (suc k) ++ towers_past t (suc (suc k))) fits })
      where
        R : Tower → Type 0
        R w = w.height ≤ t.head.height

        below : Every R (towers_at t (suc k))
        below =
            every-left R (towers_at t (suc k)) (towers_of (drop 1 (drop k t.rest)))
            (subst (Every R) (towers-cut 1 (drop k t.rest))
            (every-right R (towers_of (take k t.rest)) (towers_of (drop k t.rest)) (subst (Every R) (towers-cut k t.rest) (others-low r t ok))))

        front : towers_of (take (suc k) (columns (without t (suc k)))) ≡ seated (seats_of (take (suc k) (columns t)))
        front =
            ap towers_of
            (ap (take (suc k)) (columns-without t k)
            ∙ take_at (take (suc k) (columns t)) (drop (suc (suc k)) (columns t)) (suc k) (length-take (suc k) (columns t) ∙ omega arith))
            ∙ seated-towers (take (suc k) (columns t))

        fits : Every (LinkFits (towers_before t (suc k) ++ towers_past t (suc (suc k)))) (edits t k)
        fits =
            every-gather (LinkFits (towers_before t (suc k) ++ towers_past t (suc (suc k)))) (λ w. relinks (without t (suc k)) (suc k) w.height) (towers_at t (suc k))
            (every-so R
            (λ w h.
            relinks-fit (without t (suc k)) k w.height (towers_before t (suc k) ++ towers_past t (suc (suc k))) h (omega (arith, ok.heights.0)) (small-without sm)
            (λ j n.
            omega (
              arith,
              ap (count n)
                  (tall-append j (towers_before t (suc k)) (towers_past t (suc (suc k)))
                  ∙ ap (λ (l : List ℕ). l ++ tall j (towers_past t (suc (suc k)))) (tall-links j (λ l. next_at l (towers_of (drop (suc k) (columns t)))) (seats_of (take (suc k) (columns t))))),
              ap (λ (ws : List Tower). count n (above j ws)) front,
              count-append n (above j (seated (seats_of (take (suc k) (columns t))))) (tall j (towers_past t (suc (suc k)))),
            )))
            (towers_at t (suc k)) below)

  -- its pages given back, and the links around it written: the table without it
  pub unlink-turn : {c z : ℕ} (r : KeyRule) → TableOk r t → TableOk r (without t (suc k)) → (o : Around) (bs : List Block) → Few bs
      → Turns c z ((given t k bs).writes ++ unlinking (without t (suc k)) (suc k) (towers_at t (suc k))) (among o t bs [])
      (among o (without t (suc k)) (given t k bs).free [])
  unlink-turn {c} {z} r ok ok_after o bs few =
      record {
        turn = λ img s.
            (all (small-pages o.spans_before o.spans_after o.towers_first o.towers_last t s) (distinct-towers o.towers_first o.towers_last t s)).turn img s;
      }
    where
      left : List Block
      left = (given t k bs).free

      all : SmallPages t → Distinct (towers_of (columns t))
          → Turns c z ((given t k bs).writes ++ unlinking (without t (suc k)) (suc k) (towers_at t (suc k))) (among o t bs []) (among o (without t (suc k)) left [])
      all sm ds =
          and_then (give-turn o bs few)
          (turns_as written refl refl
          (and_then
          (spans-turn r ok o left sm ds (o.skips_before ++ skip_list_of t ∷ o.skips_after)
          (o.towers_first ++ ((towers_before t (suc k) ++ towers_past t (suc (suc k))) ++ o.towers_last)))
          (and_then
          (links-turn r ok o left sm ds (o.skips_before ++ skip_list_of t ∷ o.skips_after) (o.spans_before ++ (spans_in (without t (suc k)) ++ o.spans_after)))
          (counts-turn o.skips_before o.skips_after o.spans_before o.spans_after r t (without t (suc k)) ok_after (counts-without t (suc k))))))
