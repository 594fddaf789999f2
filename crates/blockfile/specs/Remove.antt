-- Remove: the span rewritten, or unlinked with its tower and given back.
use Rattle.std.specs.Prelude.{ℕ, zero, suc, ◌-◌, List, [], ◌∷◌, ◌++◌, map, take, drop}
use Rattle.blockfile.specs.Bytes.{Write, gather}
use Rattle.blockfile.specs.Layout.{Entry, Tower, Table, Layout, columns, towers_of}
use Rattle.blockfile.specs.Order.{name_rule, key_rule, insert, erase}
use Rattle.blockfile.specs.WellFormed.{spans_in}
use Rattle.blockfile.specs.Plan.{Plan}
use Rattle.blockfile.specs.Put.{target, span_at, rewrite_plan, prev_link, next_link, relink, counts_on}

-- the table without the span at place i, not the first, and its tower; the head's height stays
abbrev pub without : Table → (i : ℕ) → Table
without t i =
    record { root = t.root; span_size = t.span_size; first = t.first; head = t.head; rest = take (i - 1) t.rest ++ drop i t.rest }

-- the tower, if any, of the span at place i
abbrev pub towers_at : Table → (i : ℕ) → List Tower
towers_at t i = towers_of (take 1 (drop i (columns t)))

-- from the table after the call: the links around the span that was at place i, the entries that pointed to its tower at each of the
-- tower's levels, the counts
unfoldable pub unlinking : (after : Table) (i : ℕ) → (gone : List Tower) → List Write
unlinking after i ts =
    map next_link (take 1 (drop (i - 1) (spans_in after)))
    ++ (map prev_link (take 1 (drop i (spans_in after)))
    ++ (gather (λ w. relink after i w.height) ts ++ (counts_on after ∷ [])))

-- A span left empty that is not the first is given back: continuation pages in chain order, span, tower
unfoldable pub unlink_plan : Layout → (name : List ℕ) → Table → (i : ℕ) → Plan
unlink_plan L name t i =
    record {
      old = (span_at t i).conts;
      wanted = 0;
      gone = (span_at t i).page ∷ map (λ w. w.page) (towers_at t i);
      make = λ ps.
          record { meta = L.meta; tables = insert name_rule name (without t i) L.tables; writes = unlinking (without t i) i (towers_at t i) };
    }

-- the span at place i is left with the entries es
abbrev pub leave_plan : Layout → (name : List ℕ) → Table → (i : ℕ) (es : List Entry) → Plan
leave_plan L name t zero es = rewrite_plan L name t zero es
leave_plan L name t (suc i) [] = unlink_plan L name t (suc i)
leave_plan L name t (suc i) (e ∷ es) = rewrite_plan L name t (suc i) (e ∷ es)

unfoldable pub remove_plan : Layout → (name : List ℕ) → Table → (key : List ℕ) → Plan
remove_plan L name t key =
    let i : ℕ = target (key_rule name) key t in
    leave_plan L name t i (erase key (span_at t i).entries)
