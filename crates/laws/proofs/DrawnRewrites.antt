-- Pages drawn, then a span rewritten.
use Prim.Native.Nat.{ℕ, ◌+◌, ◌<◌, ◌≤◌}
use native.Mathlib.Omega.{arith}
use mathlib.Core.Path.{◌≡◌, refl, ap, sym, ◌∙◌, subst}
use mathlib.Core.List.{List, [], ◌∷◌, ◌++◌, append-nil}
use lib.ListN.{length, drop}
use Rattle.blockfile.specs.Layout.{Entry, Table, Block, columns, free_count}
use Rattle.blockfile.specs.Order.{KeyRule}
use Rattle.blockfile.specs.Fields.{LinkedSpan}
use Rattle.blockfile.specs.WellFormed.{spans_in, towers_in, count, skip_list_of, TableOk}
use Rattle.blockfile.specs.Free.{Drawn, draw}
use Rattle.blockfile.specs.Put.{parts, wanted_by, share, span_at, rewrite}
use Rattle.blockfile.proofs.Count.{count-append}
use Rattle.laws.proofs.State.{Shows}
use Rattle.laws.proofs.Opens.{held}
use Rattle.laws.proofs.Edits.{respare, forget-span}
use Rattle.laws.proofs.Draws.{Few, length-drawn, drawn-shows}
use Rattle.laws.proofs.Splits.{height-fits, share-tower}
use Rattle.laws.proofs.TablePut.{table_with}
use Rattle.laws.proofs.SpanLinks.{linked, first_page, last_page, spans_to, spans_past, spans-before}
use Rattle.laws.proofs.Spots.{Around, among}
use Rattle.laws.proofs.LinksWritten.{in-middle}
use Rattle.laws.proofs.Turns.{Turns, and_then, turns_as}
use Rattle.laws.proofs.Fitting.{Short}
use Rattle.laws.proofs.Rewrites.{opened, spans_left, spans_right, shares, new-towers, rewriting-turn}

moved : (m q : ℕ) (xs ys : List ℕ) → count m (xs ++ (q ∷ ys)) ≡ count m (q ∷ (xs ++ ys))
moved m q xs ys = simp count-append (omega arith)

-- pages drawn for the span at place i
abbrev pub drawn_at : Table → (i : ℕ) → List Block → (wanted : ℕ) → Drawn
drawn_at t i bs wanted = draw (span_at t i).conts wanted [] bs

-- the span at place i is let go: its pages are in hand, its continuation pages first
pub let_go : (t : Table) (i : ℕ) → i < length (columns t) → (bs : List Block) {c z : ℕ} {img : List ℕ} (o : Around) → Shows c z img (among o t bs [])
    → Shows c z img
    (held (o.skips_before ++ skip_list_of t ∷ o.skips_after) ((o.spans_before ++ spans_left t i) ++ (spans_right t i ++ o.spans_after)) (o.towers_first ++ (towers_in t ++ o.towers_last)) bs
    ((span_at t i).conts ++ ((span_at t i).page ∷ [])))
let_go t i inside bs {c} {z} {img} o s =
    respare _ (λ m. moved m (span_at t i).page (span_at t i).conts [])
    (forget-span (o.spans_before ++ spans_left t i) (spans_right t i ++ o.spans_after) here
    (subst (λ (l : List LinkedSpan). Shows c z img (held (o.skips_before ++ skip_list_of t ∷ o.skips_after) l (o.towers_first ++ (towers_in t ++ o.towers_last)) bs [])) place s))
  where
    here : LinkedSpan
    here = linked t.span_size (last_page 0 (spans_to t i)) (first_page 0 (spans_past t i)) (span_at t i)

    place : o.spans_before ++ (spans_in t ++ o.spans_after) ≡ (o.spans_before ++ spans_left t i) ++ here ∷ (spans_right t i ++ o.spans_after)
    place =
        ap (λ (l : List LinkedSpan). o.spans_before ++ (l ++ o.spans_after)) (spans-before t i inside)
        ∙ in-middle o.spans_before (spans_left t i) here (spans_right t i) o.spans_after

module _ (t : Table) (i : ℕ) (inside : i < length (columns t)) (bs : List Block) (wanted : ℕ) (room : wanted ≤ length (span_at t i).conts + free_count bs) where
  -- the span at place i is let go, and pages are drawn
  pub drawn-turn : {c z : ℕ} (o : Around) → Few bs
      → Turns c z (drawn_at t i bs wanted).writes (among o t bs [])
      (opened o t i (drawn_at t i bs wanted).free (drawn_at t i bs wanted).pages [])
  drawn-turn o few =
      record {
        turn = λ img s.
            respare _ (λ m. sym (moved m (span_at t i).page (drawn_at t i bs wanted).pages []))
            (drawn-shows (span_at t i).conts wanted [] bs room ((span_at t i).page ∷ []) few (let_go t i inside bs o s));
      }

  module _ (r : KeyRule) (short : Short r) (ok : TableOk r t) (es : List Entry) (most : length es ≤ t.span_size + 1) (enough : wanted_by (parts t es) ≤ wanted) where
    -- and it is rewritten with the entries es: the pages that this does not want stay in hand
    pub rewrite-turn : {c z : ℕ} (o : Around) → Few bs → TableOk r (table_with t i es (drawn_at t i bs wanted).pages)
        → Turns c z ((drawn_at t i bs wanted).writes ++ (rewrite t i es (drawn_at t i bs wanted).pages).writes) (among o t bs [])
        (among o (table_with t i es (drawn_at t i bs wanted).pages) (drawn_at t i bs wanted).free
        (drop (wanted_by (parts t es)) (drawn_at t i bs wanted).pages))
    unfolding rewrite
    rewrite-turn o few ok_after =
        let d : Drawn = drawn_at t i bs wanted in
        let e : wanted_by (parts t es) ≤ length d.pages = omega (arith, length-drawn (span_at t i).conts wanted [] bs room) in
        let left : List ℕ = drop (wanted_by (parts t es)) d.pages in
        and_then (drawn-turn o few)
        (turns_as refl (ap (λ (l : List ℕ). opened o t i d.free l []) (shares r t ok es most d.pages e))
        (ap (among o (table_with t i es d.pages) d.free) (append-nil left))
        (rewriting-turn r short t i (parts t es) (share (parts t es) d.pages)
        (record {
          inside = inside;
          ok = ok;
          ok_after = ok_after;
          low = height-fits r t ok es;
          towers = new-towers r t ok es most d.pages e;
          one = share-tower (parts t es) d.pages e;
        })
        o d.free left []))
