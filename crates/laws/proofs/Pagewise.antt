-- The pages of a table's spans and towers among those of an image.
use Prim.Native.Nat.{ℕ, ◌+◌}
use native.Mathlib.Omega.{arith}
use mathlib.Core.Path.{◌≡◌, refl, ap, ◌∙◌, subst}
use mathlib.Core.List.{List, [], ◌∷◌, ◌++◌, map-append}
use Rattle.blockfile.specs.Bytes.{Every, gather}
use Rattle.blockfile.specs.Layout.{Span, Tower, Column, Table, Block, columns, spans_of, towers_of}
use Rattle.blockfile.specs.Fields.{SkipList, LinkedSpan, LinkedTower}
use Rattle.blockfile.specs.WellFormed.{link_towers, spans_in, towers_in, count}
use Rattle.blockfile.proofs.Every.{every-left, every-right, every-unmap}
use Rattle.blockfile.proofs.Count.{count-append}
use Rattle.laws.specs.Owned.{pages_in}
use Rattle.laws.proofs.Places.{gather_append}
use Rattle.laws.proofs.State.{Shows, span_pages, tower_pages}
use Rattle.laws.proofs.Opens.{held}
use Rattle.laws.proofs.SpanLinks.{link_between, last_page, first_page, link-between}
use Rattle.laws.proofs.TowerLinks.{Distinct, link-seats}
use Rattle.laws.proofs.Relinks.{links-pages}
use Rattle.laws.proofs.Inside.{Word, spans-small, towers-small, towers-once}
use Rattle.laws.proofs.Fitting.{SmallPages}

-- ---- Spans

-- all pages of spans
abbrev pub all_pages : List Span → List ℕ
all_pages ss = gather (λ s. s.page ∷ s.conts) ss

-- the pages of spans in a row do not hang on their links
pub between-pages : (z p n : ℕ) (ss : List Span) → span_pages (link_between z p n ss) ≡ all_pages ss
between-pages z p n [] = refl
between-pages z p n (s ∷ ss) = ap (λ (l : List ℕ). s.page ∷ (s.conts ++ l)) (between-pages z s.page n ss)

-- the first page of each
pub each-page : (ss : List Span) → Every Word (all_pages ss) → Every (λ s. Word s.page) ss
each-page [] h = tt
each-page (s ∷ ss) h = (h.0, each-page ss (every-right Word s.conts (all_pages ss) h.1))

-- in the middle of others
pub spans-between : (xs ms ys : List LinkedSpan) → Every Word (span_pages (xs ++ (ms ++ ys))) → Every Word (span_pages ms)
spans-between xs ms ys h =
    every-left Word (span_pages ms) (span_pages ys)
    (subst (Every Word) (gather_append (λ (x : LinkedSpan). x.span.page ∷ x.span.conts) ms ys)
    (every-right Word (span_pages xs) (span_pages (ms ++ ys)) (subst (Every Word) (gather_append (λ (x : LinkedSpan). x.span.page ∷ x.span.conts) xs (ms ++ ys)) h)))

-- the page of the last of some spans, or the one given for none
pub last_word : (p : ℕ) (ss : List Span) → Word p → Every (λ s. Word s.page) ss → Word (last_page p ss)
last_word p [] w h = w
last_word p (s ∷ ss) w h = last_word s.page ss h.0 h.1

-- and of the first
pub first_word : (n : ℕ) (ss : List Span) → Word n → Every (λ s. Word s.page) ss → Word (first_page n ss)
first_word n [] w h = w
first_word n (s ∷ ss) w h = h.0

-- ---- Towers

-- the pages of a table's linked towers
pub tower-pages : (cs : List Column) → tower_pages (link_towers cs) ≡ pages_in (towers_of cs)
tower-pages cs = ap tower_pages (link-seats cs) ∙ links-pages (λ i. 0) cs

-- in the middle of others
pub count-between : (n : ℕ) (xs ms ys : List LinkedTower) → count n (tower_pages (xs ++ (ms ++ ys))) ≡ count n (tower_pages xs) + (count n (tower_pages ms) + count n (tower_pages ys))
count-between n xs ms ys =
    let f : LinkedTower → ℕ = λ x. x.tower.page in
    ap (count n) (map-append f xs (ms ++ ys) ∙ ap (λ (l : List ℕ). tower_pages xs ++ l) (map-append f ms ys))
    ∙ count-append n (tower_pages xs) (tower_pages ms ++ tower_pages ys) ∙ ap (λ (k : ℕ). count n (tower_pages xs) + k) (count-append n (tower_pages ms) (tower_pages ys))

-- ---- A table

-- the page numbers of a table that an image shows are small
pub small-pages : {p z : ℕ} {img : List ℕ} {ks : List SkipList} {bs : List Block} {sp : List ℕ} (xs ys : List LinkedSpan) (ts us : List LinkedTower) (t : Table)
    → Shows p z img (held ks (xs ++ (spans_in t ++ ys)) (ts ++ (towers_in t ++ us)) bs sp) → SmallPages t
small-pages xs ys ts us t s =
    record {
      spans =
          each-page (spans_of (columns t))
          (subst (Every Word) (ap span_pages (link-between t.span_size 0 (spans_of (columns t))) ∙ between-pages t.span_size 0 0 (spans_of (columns t)))
          (spans-between xs (spans_in t) ys (spans-small s)));
      towers =
          every-unmap Word (λ (w : Tower). w.page) (towers_of (columns t))
          (subst (Every Word) (tower-pages (columns t)) (towers-between (towers-small s)));
    }
  where
    towers-between : Every Word (tower_pages (ts ++ (towers_in t ++ us))) → Every Word (tower_pages (towers_in t))
    towers-between h =
        let f : LinkedTower → ℕ = λ x. x.tower.page in
        every-left Word (tower_pages (towers_in t)) (tower_pages us)
        (subst (Every Word) (map-append f (towers_in t) us) (every-right Word (tower_pages ts) (tower_pages (towers_in t ++ us)) (subst (Every Word) (map-append f ts (towers_in t ++ us)) h)))

-- no two of its towers are on one page
pub distinct-towers : {p z : ℕ} {img : List ℕ} {ks : List SkipList} {xs : List LinkedSpan} {bs : List Block} {sp : List ℕ} (ts us : List LinkedTower) (t : Table)
    → Shows p z img (held ks xs (ts ++ (towers_in t ++ us)) bs sp) → Distinct (towers_of (columns t))
distinct-towers ts us t s n = omega (arith, towers-once s n, count-between n ts (towers_in t) us, ap (count n) (tower-pages (columns t)))
