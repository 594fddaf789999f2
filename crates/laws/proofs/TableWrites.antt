-- What the text writes when a table's span is rewritten, split or unlinked, in terms of the links before it.
use Prim.Native.Nat.{ℕ, suc, ◌<◌, ◌≤◌, min}
use native.Mathlib.Omega.{arith}
use mathlib.Core.Path.{◌≡◌, refl, ◌∙◌}
use mathlib.Core.List.{List, [], ◌∷◌, ◌++◌, map}
use lib.ListN.{length, take, length-take, length-drop}
use Rattle.blockfile.specs.Bytes.{gather}
use Rattle.blockfile.specs.Layout.{Entry, Table, columns, spans_of, towers_of}
use Rattle.blockfile.specs.Encode.{whole_span, whole_tower}
use Rattle.blockfile.specs.Put.{Parts, Shared, span_at, span_wanted, wanted_by, share, new_column, new_columns, table_after, prev_link, next_link, counts_on, raise, rewriting}
use Rattle.blockfile.specs.Remove.{without, towers_at, unlinking}
use Rattle.laws.proofs.Positions.{reached-one}
use Rattle.laws.proofs.SpanLinks.{linked, first_page, last_page, link_between, new_span, spans_to, spans_past, written-whole, written-prev, unlinked-next, unlinked-prev}
use Rattle.laws.proofs.TowerLinks.{link_write}
use Rattle.laws.proofs.Relinks.{relinks}
use Rattle.laws.proofs.TableTowers.{new_linked, tower-written, split-written, relinks-gone}

-- the tower that is wanted is there
new-towers : (t : Table) (p : Parts) (qs ns : List ℕ) → length ns ≤ 1 → (1 ≤ length ns → 1 ≤ length qs) → length (towers_of (new_column t p qs ns)) ≡ length ns
new-towers t p [] [] l h = refl
new-towers t p [] (n ∷ ns) l h = absurd (omega (arith, h (omega arith)))
new-towers t p (q ∷ qs) [] l h = refl
new-towers t p (q ∷ qs) (n ∷ ns) l h = omega arith

wanted-span : (es : List Entry) → 1 ≤ length es → 1 ≤ span_wanted es
wanted-span [] h = absurd (omega arith)
wanted-span (e ∷ es) h = reached-one (e ∷ es)

-- of enough pages drawn, a split that has a tower gets its page
pub shared-tower : (t : Table) (p : Parts) (ps : List ℕ) → wanted_by p ≤ length ps → (1 ≤ p.height → 1 ≤ length p.move)
    → length (towers_of (new_columns t p (share p ps))) ≡ min 1 p.height
unfolding share wanted_by
shared-tower t p ps w h = new-towers t p (share p ps).span (share p ps).tower one some ∙ many
  where
    many : length (share p ps).tower ≡ min 1 p.height
    many = simp (length-take, length-drop) (omega arith)

    one : length (share p ps).tower ≤ 1
    one = omega (arith, many)

    some : 1 ≤ length (share p ps).tower → 1 ≤ length (share p ps).span
    some k = simp (length-take, length-drop) (omega (arith, many, wanted-span p.move (h (omega (arith, many)))))

-- Rewritten: the span and the new one whole, the previous link of the one that follows a new one, the new tower whole, the links to
-- it, the head's current height, the counts
pub rewriting-is : (t : Table) (i : ℕ) (p : Parts) (s : Shared) → i < length (columns t) → length (towers_of (new_columns t p s)) ≡ min 1 p.height
    → rewriting t i (length (new_columns t p s)) p.height (table_after t i p s)
    ≡ gather whole_span
    (linked t.span_size (last_page 0 (spans_to t i)) (first_page (first_page 0 (spans_past t i)) (spans_of (new_columns t p s))) (new_span t i p s)
    ∷ link_between t.span_size (span_at t i).page (first_page 0 (spans_past t i)) (spans_of (new_columns t p s)))
    ++ (map prev_link (take (length (new_columns t p s)) (link_between t.span_size (last_page (span_at t i).page (spans_of (new_columns t p s))) 0 (spans_past t i)))
    ++ (gather whole_tower (new_linked t i p s)
    ++ (map link_write (relinks (table_after t i p s) (suc i) p.height) ++ (raise t.head (table_after t i p s).head ++ (counts_on (table_after t i p s) ∷ [])))))
unfolding rewriting
rewriting-is t i p s l e =
    λ j. gather whole_span (written-whole t i p s l j)
    ++ (map prev_link (written-prev t i p s l j)
    ++ (gather whole_tower (tower-written t i p s l e j)
    ++ (split-written t i p s l j ++ (raise t.head (table_after t i p s).head ++ (counts_on (table_after t i p s) ∷ [])))))

-- Unlinked: the next link of the span before it, the previous link of the one that follows, the links to its tower, the counts
pub unlinking-is : (t : Table) (k : ℕ) → suc k < length (columns t)
    → unlinking (without t (suc k)) (suc k) (towers_at t (suc k))
    ≡ map next_link (linked t.span_size (last_page 0 (spans_to t k)) (first_page 0 (spans_past t (suc k))) (span_at t k) ∷ [])
    ++ (map prev_link (take 1 (link_between t.span_size (span_at t k).page 0 (spans_past t (suc k))))
    ++ (map link_write (gather (λ w. relinks (without t (suc k)) (suc k) w.height) (towers_at t (suc k))) ++ (counts_on (without t (suc k)) ∷ [])))
unfolding unlinking
unlinking-is t k l =
    λ j. map next_link (unlinked-next t k l j)
    ++ (map prev_link (unlinked-prev t k l j) ++ (relinks-gone (without t (suc k)) (suc k) (towers_at t (suc k)) j ++ (counts_on (without t (suc k)) ∷ [])))
