-- An image between the writes of a call: what its pages are held as, and which pages are in hand. In between, what is held
-- need be no layout's.
use Prim.Native.Nat.{ℕ, ◌*◌}
use mathlib.Core.Path.{◌≡◌}
use mathlib.Core.Bool.{cond}
use mathlib.Core.List.{List, [], ◌∷◌, ◌++◌, map}
use lib.ListN.{length}
use Rattle.blockfile.specs.Bytes.{pg, Every, gather}
use Rattle.blockfile.specs.Layout.{Block, Layout}
use Rattle.blockfile.specs.Order.{Within, within}
use Rattle.blockfile.specs.Fields.{SkipList, LinkedSpan, LinkedTower, IsSuperblock, IsSkipList, IsSpan, IsTower}
use Rattle.blockfile.specs.WellFormed.{Bears, free_pieces, first_block, count, skip_list_of, spans_in, towers_in}
use Rattle.blockfile.proofs.Owned.{owned_by}

pub record Held : Type 0 where
  pub skips : List SkipList
  pub spans : List LinkedSpan
  pub towers : List LinkedTower
  pub free : List Block
  pub spare : List ℕ

abbrev pub skip_pages : List SkipList → List ℕ
skip_pages ks = map (λ k. k.page) ks

abbrev pub span_pages : List LinkedSpan → List ℕ
span_pages xs = gather (λ x. x.span.page ∷ x.span.conts) xs

abbrev pub tower_pages : List LinkedTower → List ℕ
tower_pages xs = map (λ x. x.tower.page) xs

-- all pages, the superblock first
abbrev pub held_pages : Held → List ℕ
held_pages h = 1 ∷ (skip_pages h.skips ++ (span_pages h.spans ++ (tower_pages h.towers ++ (owned_by (free_pieces h.free) ++ h.spare))))

-- an image of p pages, whose superblock has span size z, bears what is held, and each page is held once
pub record Shows (p z : ℕ) (img : List ℕ) (h : Held) : Type 0 where
  pub pages : Within 4 4096 p
  pub size : length img ≡ 1024 * p
  pub super : IsSuperblock p (first_block h.free) z (pg img 1)
  pub skips : Every (λ k. IsSkipList k (pg img k.page)) h.skips
  pub spans : Every (λ x. IsSpan x (pg img x.span.page) (map (pg img) x.span.conts)) h.spans
  pub towers : Every (λ x. IsTower x (pg img x.tower.page)) h.towers
  pub free : Every (Bears (pg img)) (free_pieces h.free)
  pub once : (n : ℕ) → count n (held_pages h) ≡ cond (within 1 p n) 1 0

-- what a layout holds: the metaindex first, then the tables
abbrev pub held_by : Layout → Held
held_by L =
    record {
      skips = map skip_list_of (L.meta ∷ map (λ n. n.value) L.tables);
      spans = gather spans_in (L.meta ∷ map (λ n. n.value) L.tables);
      towers = gather towers_in (L.meta ∷ map (λ n. n.value) L.tables);
      free = L.free;
      spare = [];
    }
