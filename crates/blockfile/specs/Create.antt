-- Create: a put of the name into the metaindex that also wants, last, a skip-list page, a span and a head tower.
use Rattle.std.specs.Prelude.{ℕ, ◌+◌, List, [], ◌++◌, get_or}
use Rattle.blockfile.specs.Bytes.{Write, word32, gather}
use Rattle.blockfile.specs.Layout.{Entry, Table, Layout}
use Rattle.blockfile.specs.Order.{name_rule, insert}
use Rattle.blockfile.specs.WellFormed.{skip_list_of, spans_in, towers_in}
use Rattle.blockfile.specs.Encode.{whole_skip_list, whole_span, whole_tower}
use Rattle.blockfile.specs.Plan.{Plan}
use Rattle.blockfile.specs.Put.{Edited, parts, wanted_by, target, span_at, rewrite}

-- span size from the superblock, max height 12, current 0
abbrev pub empty_table : (span_size root span head : ℕ) → Table
empty_table z r s h =
    record {
      root = r;
      span_size = z;
      first = record { page = s; conts = []; entries = [] };
      head = record { page = h; max_height = 12; height = 0 };
      rest = [];
    }

unfoldable pub whole_table : Table → List Write
whole_table t = whole_skip_list (skip_list_of t) ++ (gather whole_span (spans_in t) ++ gather whole_tower (towers_in t))

-- the metaindex's span at place i, with the name's entry in it
abbrev pub meta_with : Layout → (name : List ℕ) → (i root : ℕ) → List Entry
meta_with L name i root = insert name_rule name (word32 root) (span_at L.meta i).entries

-- w pages are for the metaindex, as many for any value of four bytes; the three pages after them are the table's
unfoldable pub create_plan : Layout → (name : List ℕ) → Plan
create_plan L name =
    let i : ℕ = target name_rule name L.meta in
    let w : ℕ = wanted_by (parts L.meta (meta_with L name i 0)) in
    record {
      old = (span_at L.meta i).conts;
      wanted = w + 3;
      gone = [];
      make = λ ps.
          let t : Table = empty_table L.span_size (get_or ps w 0) (get_or ps (w + 1) 0) (get_or ps (w + 2) 0) in
          let e : Edited = rewrite L.meta i (meta_with L name i t.root) ps in
          record { meta = e.after; tables = insert name_rule name t L.tables; writes = e.writes ++ whole_table t };
    }
