-- The metaindex and every named table of a well-formed image can be changed: what drawing and writing ask for.
use Prim.Native.Nat.{ℕ, ◌<◌, ◌≤◌}
use native.Mathlib.Omega.{arith}
use mathlib.Core.Path.{◌≡◌, ap, ◌∙◌, subst}
use mathlib.Core.Option.{Option, some}
use mathlib.Core.List.{List, [], ◌∷◌, ◌++◌, map}
use lib.ListN.{length, length-append, length-map}
use Rattle.blockfile.specs.Bytes.{Every, from}
use Rattle.blockfile.specs.Layout.{Span, Column, Table, Block, Layout, columns, spans_of, towers_of}
use Rattle.blockfile.specs.Order.{KeyRule, name_rule, key_rule, find}
use Rattle.blockfile.specs.Fields.{LinkedTower}
use Rattle.blockfile.specs.WellFormed.{Piece, span, tower, WellFormed, skip_list_of, spans_in, towers_in, next_at}
use Rattle.blockfile.specs.Put.{span_at}
use Rattle.laws.proofs.State.{Shows, held_by}
use Rattle.laws.proofs.Steps.{Holds}
use Rattle.laws.proofs.SpanLinks.{link_between, spans_to, spans_past, spans-before, link-between, length-between}
use Rattle.laws.proofs.Inside.{spans-few}
use Rattle.laws.proofs.Opens.{opens, thing_pieces, all_pieces, to-pieces}
use Rattle.laws.specs.Owned.{in_option}
use Rattle.laws.proofs.Spots.{Around, tables_held, surrounds, held_at, values, Spot, spot}
use Rattle.laws.proofs.TableCreate.{names-rising}
use Rattle.laws.proofs.Rewrites.{spans_left, spans_right}
use Rattle.laws.proofs.DrawnRewrites.{let_go}
use Rattle.blockfile.proofs.Every.{every-left, every-right, every-unmap, every-so}
use Rattle.entries.specs.Places.{IsPage}
use Rattle.search.specs.Spans.{Borne}
use Rattle.search.specs.Tables.{Readable}
use Rattle.search.proofs.Readables.{meta-readable, table-readable}
use Rattle.edit.specs.Standing.{Standing, here_at}

module _ (img : List ℕ) (L : Layout) (w : WellFormed img L) where
  all_shown : Shows L.pages L.span_size img (held_by L)
  all_shown = opens img L w

  pub meta-standing : Standing img name_rule L.meta L.free
  meta-standing =
      record {
        readable = meta-readable img L w;
        pages = L.pages;
        span_size = L.span_size;
        around = surrounds [] (values L.tables);
        shows = subst (Shows L.pages L.span_size img) (held_at [] (values L.tables) L.meta L.free []) all_shown;
        few = w.blocks_ok;
      }

  pub table-standing : (name : List ℕ) (t : Table) → find name L.tables ≡ some t → Standing img (key_rule name) t L.free
  table-standing name t e =
      record {
        readable = table-readable img L w name t e;
        pages = L.pages;
        span_size = L.span_size;
        around = surrounds pre s.behind;
        shows = subst (Shows L.pages L.span_size img)
            (ap (λ (ts : List Table). tables_held (L.meta ∷ ts) L.free []) s.now ∙ held_at pre s.behind t L.free []) all_shown;
        few = w.blocks_ok;
      }
    where
      s : Spot name L.tables (t ∷ [])
      s = subst (λ (a : Option Table). Spot name L.tables (in_option a)) e (spot name L.tables (names-rising L.tables L.meta w.meta_ok w.meta_entries))

      pre : List Table
      pre = L.meta ∷ s.before

-- ---- What the pages of a table bear

-- the head with its links
abbrev pub head_of : Table → LinkedTower
head_of t = record { tower = t.head; span_page = t.first.page; nexts = map (λ l. next_at l (towers_of t.rest)) (from 0 t.head.height) }

module _ {img : List ℕ} {r : KeyRule} {t : Table} (h : Readable img r t) where
  spans-borne : Every (λ x. Borne img (span x)) (spans_in t)
  spans-borne = every-unmap (Borne img) span (spans_in t) (every-left (Borne img) (map span (spans_in t)) (map tower (towers_in t)) h.borne.1)

  pub head-borne : Borne img (tower (head_of t))
  head-borne = (every-right (Borne img) (map span (spans_in t)) (map tower (towers_in t)) h.borne.1).0

  module _ (i : ℕ) (inside : i < length (columns t)) where
    from_place : Every (λ x. Borne img (span x)) (here_at t i ∷ link_between t.span_size (span_at t i).page 0 (spans_past t i))
    from_place =
        every-right (λ x. Borne img (span x)) (link_between t.span_size 0 (span_at t i).page (spans_to t i)) _
        (subst (Every (λ x. Borne img (span x))) (spans-before t i inside) spans-borne)

    pub span-borne : Borne img (span (here_at t i))
    span-borne = from_place.0

    -- the spans behind it are on pages
    pub past-inside : Every (λ y. IsPage img y.page) (spans_past t i)
    past-inside = go (span_at t i).page (spans_past t i) from_place.1
      where
        go : (q : ℕ) (ss : List Span) → Every (λ x. Borne img (span x)) (link_between t.span_size q 0 ss) → Every (λ y. IsPage img y.page) ss
        go q [] e = tt
        go q (s ∷ ss) e = (e.0.1.0, go s.page ss e.1)

    pub past-pages : Every (λ x. 1 ≤ x.page) (spans_past t i)
    past-pages = every-so (λ (y : Span). IsPage img y.page) (λ y p. p.low) (spans_past t i) past-inside

-- ---- What drawing asks for

-- all that is held but the span at place i
abbrev pub besides : (o : Around) (t : Table) (i : ℕ) → List Piece
besides o t i =
    thing_pieces (o.skips_before ++ skip_list_of t ∷ o.skips_after) ((o.spans_before ++ spans_left t i) ++ (spans_right t i ++ o.spans_after)) (o.towers_first ++ (towers_in t ++ o.towers_last))

-- with the span at place i let go, its pages are in hand
pub in_hand : {img : List ℕ} {r : KeyRule} {t : Table} {bs : List Block} (s : Standing img r t bs) (i : ℕ) → i < length (columns t)
    → Holds s.pages img (all_pieces s.pages s.span_size (besides s.around t i) bs) ((span_at t i).conts ++ ((span_at t i).page ∷ []))
in_hand {img} {r} {t} {bs} s i l = to-pieces _ _ _ _ _ bs ((span_at t i).conts ++ ((span_at t i).page ∷ [])) img (let_go t i l bs s.around s.shows)

-- ---- How many

-- a table has no more spans than the image has pages
pub columns-few : {img : List ℕ} {r : KeyRule} {t : Table} {bs : List Block} → Standing img r t bs → length (columns t) ≤ 4096
columns-few {t = t} s =
    omega (
      arith,
      spans-few s.shows,
      length-append s.around.spans_before (spans_in t ++ s.around.spans_after),
      length-append (spans_in t) s.around.spans_after,
      ap length (link-between t.span_size 0 (spans_of (columns t))) ∙ length-between t.span_size 0 0 (spans_of (columns t)),
      length-map (columns t) (λ (c : Column). c.span),
    )
