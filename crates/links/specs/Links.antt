-- What is written of towers and skip lists.
use Rattle.std.specs.Prelude.{ℕ, ◌+◌, ◌*◌, ◌≤◌, ◌<◌, List, map, length, get_or}
use Rattle.blockfile.specs.Bytes.{Write, on, word32, from}
use Rattle.blockfile.specs.Fields.{SkipList, LinkedTower}
use Rattle.entries.specs.Places.{IsPage}
use Rattle.links.specs.declared.write.NewSkipList.{NewSkipList}

-- at each level below h, the entry on the page in `before` becomes the number in `values`
abbrev pub link_writes : (before values : List ℕ) (h : ℕ) → List Write
link_writes before values h = map (λ i. on (get_or before i 0) (16 + 4 * i) (word32 (get_or values i 0))) (from 0 h)

-- at each level below h there is a page of the image in `before`
pub record Linkable (img before : List ℕ) (h : ℕ) : Type 0 where
  pub small : length img ≤ 4194304
  pub few : h ≤ 252
  pub pages : (i : ℕ) → i < h → IsPage img (get_or before i 0)

-- the numbers of the levels below h
abbrev pub levels_below : (levels : List ℕ) (h : ℕ) → List ℕ
levels_below levels h = map (λ i. get_or levels i 0) (from 0 h)

-- a tower and a skip list, field by field
abbrev pub tower_as : (page max height span : ℕ) (nexts : List ℕ) → LinkedTower
tower_as page max height span nexts = record { tower = record { page = page; max_height = max; height = height }; span_page = span; nexts = nexts }

abbrev pub skip_list_as : NewSkipList → SkipList
skip_list_as x =
    record { page = x.page; first = x.first; level = x.head; size = x.counts.size; spans = x.counts.spans; levels = x.counts.levels; span_size = x.span_size }
