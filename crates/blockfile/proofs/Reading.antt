-- The layout read from an image's bytes, and the rules that it breaks.
use Prim.Native.Nat.{ℕ, zero, suc, ◌+◌, ◌/◌}
use mathlib.Core.Path.{◌≡◌}
use mathlib.Core.List.{List, [], ◌∷◌, map}
use mathlib.Core.Option.{Option, none, some}
use mathlib.Core.Bool.{cond}
use lib.ListN.{length, get_or, drop}
use lib.Seq.{slice}
use lib.Dec.{eqb}
use Rattle.blockfile.specs.Bytes.{pg, be16, be32, Every, gather}
use Rattle.blockfile.specs.Layout.{Entry, Span, Tower, Column, Table, Block, Layout, entries_of, entries_from, lens_start, entry_end}
use Rattle.blockfile.proofs.Tested.{Rule, failed, j_well}

-- pages from p on, each leading to the next, up to 0; at most k
abbrev pub chain : (next : ℕ → ℕ) (k p : ℕ) → List ℕ
chain next zero p = []
chain next (suc k) zero = []
chain next (suc k) (suc m) = suc m ∷ chain next k (next (suc m))

abbrev pub read_numbers : (b : List ℕ) (o n : ℕ) → List ℕ
read_numbers b o zero = []
read_numbers b o (suc n) = be32 b o ∷ read_numbers b (o + 4) n

-- the entry whose lengths lie at position a
abbrev pub read_entry : (s : List ℕ) (a : ℕ) → Entry
read_entry s a =
    record { key = slice (a + 4) (a + 4 + be16 s a) s; value = slice (a + 4 + be16 s a) (a + 4 + be16 s a + be16 s (a + 2)) s }

abbrev pub read_entries : (s : List ℕ) (v n : ℕ) → List Entry
read_entries s v zero = []
read_entries s v (suc n) = read_entry s (lens_start v) ∷ read_entries s (entry_end v (read_entry s (lens_start v))) n

-- g gives the bytes of a page; k is as many pages as a chain can have
module _ (g : ℕ → List ℕ) (k : ℕ) where
  abbrev pub follow : (o p : ℕ) → List ℕ
  follow o p = chain (λ q. be32 (g q) o) k p

  abbrev pub read_block : ℕ → Block
  read_block p = record { page = p; listed = read_numbers (g p) 16 (be32 (g p) 12) }

  -- a span's bytes, over its continuation pages
  abbrev pub stream : (p : ℕ) → List ℕ → List ℕ
  stream p cs = gather (λ c. drop 8 c) (g p ∷ map g cs)

  abbrev pub read_span : ℕ → Span
  read_span p =
      let cs : List ℕ = follow 4 (be32 (g p) 4) in
      record { page = p; conts = cs; entries = read_entries (stream p cs) entries_from (be16 (g p) 18) }

  abbrev pub read_tower : ℕ → Tower
  read_tower p = record { page = p; max_height = be16 (g p) 8; height = be16 (g p) 10 }

  -- the pages of the other towers, for a head on page p of that current height
  abbrev pub other_towers : (height p : ℕ) → List ℕ
  other_towers zero p = []
  other_towers (suc h) p = follow 16 (be32 (g p) 16)

  -- the first of these towers, if it is the span's on page q, and the towers after it
  abbrev pub tower_here : (q : ℕ) → List ℕ → Option Tower
  tower_here q [] = none
  tower_here q (w ∷ ws) = cond (eqb (be32 (g w) 12) q) (some (read_tower w)) none

  abbrev pub towers_left : (q : ℕ) → List ℕ → List ℕ
  towers_left q [] = []
  towers_left q (w ∷ ws) = cond (eqb (be32 (g w) 12) q) ws (w ∷ ws)

  abbrev pub read_columns : List Span → (towers : List ℕ) → List Column
  read_columns [] ws = []
  read_columns (s ∷ ss) ws = record { span = s; tower = tower_here s.page ws } ∷ read_columns ss (towers_left s.page ws)

  abbrev pub read_table : ℕ → Table
  read_table r =
      let f : ℕ = be32 (g r) 8 in
      let h : ℕ = be32 (g r) 12 in
      record {
        root = r;
        span_size = be16 (g r) 28;
        first = read_span f;
        head = read_tower h;
        rest = read_columns (map read_span (follow 12 (be32 (g f) 12))) (other_towers (be16 (g h) 10) h);
      }

-- k is P
abbrev pub read_layout : (g : ℕ → List ℕ) (k : ℕ) → Layout
read_layout g k =
    let m : Table = read_table g k 2 in
    record {
      pages = k;
      span_size = be16 (g 1) 22;
      meta = m;
      tables = map (λ e. record { key = e.key; value = read_table g k (be32 e.value 0) }) (entries_of m);
      free = map (read_block g k) (follow g k 8 (be32 (g 1) 16));
    }

-- the rules that an image of n bytes with these pages breaks
abbrev pub broken_on : (g : ℕ → List ℕ) (n : ℕ) → List Rule
broken_on g n = failed (j_well g n (read_layout g (n / 1024))).verdicts

abbrev pub broken : List ℕ → List Rule
broken img = broken_on (pg img) (length img)

-- ---- An image as a list of pages of 1024 bytes

abbrev pub joined : List (List ℕ) → List ℕ
joined ps = gather (λ p. p) ps

abbrev pub Full : List (List ℕ) → Type 0
Full ps = Every (λ p. length p ≡ 1024) ps

abbrev pub page_in : List (List ℕ) → ℕ → List ℕ
page_in ps zero = []
page_in ps (suc k) = get_or ps k []
