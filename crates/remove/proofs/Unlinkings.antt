-- The ways through `unlink`: what it writes is what the text writes.
use Prim.Native.Nat.{ℕ, zero, suc, ◌+◌, ◌-◌, ◌≤◌, ◌<◌}
use native.Mathlib.Omega.{arith}
use mathlib.Core.Path.{◌≡◌, refl, ap, ap₂, sym, ◌∙◌, subst}
use mathlib.Core.List.{List, [], ◌∷◌, ◌++◌, map, append-nil}
use lib.ListN.{length, get_or, take, drop, length-append, length-map}
use Rattle.std.specs.Prelude.{Option, Some, None, is_some, option_to_list}
use Rattle.std.specs.Int.{from_bool}
use Rattle.blockfile.specs.Bytes.{Write, on, word32, write, apply, Every, gather}
use Rattle.blockfile.specs.Layout.{Span, Tower, Column, Table, Block, columns, spans_of, towers_of, entries_of}
use Rattle.blockfile.specs.Order.{KeyRule}
use Rattle.blockfile.specs.Encode.{counts}
use Rattle.blockfile.specs.Free.{draw, give_many, take_many}
use Rattle.blockfile.specs.WellFormed.{spans_in}
use Rattle.blockfile.specs.Put.{span_at, next_link, prev_link, relink, counts_on}
use Rattle.blockfile.specs.Remove.{without, towers_at, unlinking}
use Rattle.laws.proofs.Writes.{apply-append}
use Rattle.laws.proofs.Steps.{Holds}
use Rattle.laws.proofs.Opens.{all_pieces}
use Rattle.laws.proofs.Places.{entries_before, entries_after, place-entries}
use Rattle.laws.proofs.TableRemove.{entries-without}
use Rattle.laws.proofs.SpanLinks.{first_page, last_page, spans_to, spans_past, unlinked-next, unlinked-prev, unlinked-spans}
use Rattle.laws.proofs.TableTowers.{unlinked-levels}
use Rattle.pages.specs.Places.{Inside}
use Rattle.entries.specs.Places.{IsPage}
use Rattle.search.specs.Tables.{Reading}
use Rattle.links.specs.Links.{link_writes, Linkable}
use Rattle.search.specs.Paths.{Filled}
use Rattle.links.specs.Levels.{Before, Pages, page_or_head, Preceded, Precedes}
use Rattle.links.proofs.Leading.{path-pages, before-all}
use Rattle.links.proofs.Relinked.{before-less, before-linkable, gone-links}
use Rattle.edit.specs.declared.fields.Links.{Links}
use Rattle.edit.specs.declared.fields.SkipList.{SkipList}
use Rattle.edit.specs.Fields.{ListRead}
use Rattle.edit.specs.Cuts.{counts_at}
use Rattle.edit.proofs.Cuts.{prev-on}
use Rattle.edit.proofs.Plannings.{prev-none, prev-some}
use Rattle.edit.proofs.Stands.{besides, in_hand, span-borne, past-inside, past-pages}
use Rattle.remove.specs.declared.tower.OwnTower.{OwnTower}
use Rattle.remove.specs.declared.unlink.Going.{Going}
use Rattle.remove.specs.Gone.{SpanInHand, GoneReady, GaveGone}
use Rattle.remove.specs.Towers.{FoundTower}
use Rattle.remove.specs.Unlinks.{around_writes, SpansReady, lowered, CountsReady, GoneAt, unlink_writes, gone_count, GoingAt, LetGo, UnlinkOf, Unlinked}

-- a tower's page is counted once
pub one_page : (o : Option ℕ) → from_bool (is_some o) ≡ length (option_to_list o)
one_page None = refl
one_page (Some n) = refl

-- ---- `link_spans`

module _ {img : List ℕ} {p n : ℕ} where
  pub behind-inside : SpansReady img p n → (n ≡ 0 → ⊥) → (out : List ℕ) → length out ≡ length img → Inside out n 8 4
  behind-inside h z out e =
      let i : Inside img n 0 1024 = h.behind z in
      record { small = omega (arith, i.small); low = i.low; high = omega (arith, i.high); fits = omega arith }

pub linked-last : (img : List ℕ) (p n : ℕ) {out : List ℕ} → n ≡ 0 → out ≡ write img p 12 (word32 n) → out ≡ apply (around_writes p n) img
linked-last img p n z e = e ∙ ap (λ (ws : List Write). apply (on p 12 (word32 n) ∷ ws) img) (prev-none n p z)

pub linked-both : (img : List ℕ) (p n : ℕ) {mid out : List ℕ} → (n ≡ 0 → ⊥) → mid ≡ write img p 12 (word32 n) → out ≡ write mid n 8 (word32 p) → out ≡ apply (around_writes p n) img
linked-both img p n z e f =
    f ∙ ap (λ (i : List ℕ). write i n 8 (word32 p)) e ∙ ap (λ (ws : List Write). apply (on p 12 (word32 n) ∷ ws) img) (prev-some n p z)

-- ---- The span before

last_taken : (p : ℕ) (d : Span) (k : ℕ) (ss : List Span) → k < length ss → last_page p (take (suc k) ss) ≡ (get_or ss k d).page
last_taken p d k [] l = absurd (omega arith)
last_taken p d zero (s ∷ ss) l = refl
last_taken p d (suc k) (s ∷ ss) l = last_taken s.page d k ss (omega arith)

first-inside : {img : List ℕ} (ss : List Span) → Every (λ y. IsPage img y.page) ss → (first_page 0 ss ≡ 0 → ⊥) → IsPage img (first_page 0 ss)
first-inside [] e z = absurd (z refl)
first-inside (s ∷ ss) e z = e.0

-- lists gathered over heights
gathered : {A B : Type 0} (f : B → List Write) (g : A → B) (xs : List A) → gather (λ x. f (g x)) xs ≡ gather f (map g xs)
gathered f g [] = refl
gathered f g (x ∷ xs) = ap (λ (l : List Write). f (g x) ++ l) (gathered f g xs)

module _ (t : Table) (k : ℕ) (inside : suc k < length (columns t)) where
  many-spans : length (spans_of (columns t)) ≡ length (columns t)
  many-spans = length-map (columns t) (λ (c : Column). c.span)

  -- the page before the span at place k + 1
  pub prev-is : last_page 0 (spans_to t (suc k)) ≡ (span_at t k).page
  unfolding span_at
  prev-is = last_taken 0 t.first k (spans_of (columns t)) (omega (arith, many-spans))

  -- the counts of the table without the span
  size-left : length (entries_of (without t (suc k))) ≡ length (entries_of t) - length (span_at t (suc k)).entries
  size-left =
      omega (
        arith,
        ap length (entries-without t k),
        length-append (entries_before t (suc k)) (entries_after t (suc k)),
        ap length (place-entries t (suc k) inside),
        length-append (entries_before t (suc k)) ((span_at t (suc k)).entries ++ entries_after t (suc k)),
        length-append (span_at t (suc k)).entries (entries_after t (suc k)),
      )

  size-among : length (span_at t (suc k)).entries ≤ length (entries_of t)
  size-among =
      omega (
        arith,
        ap length (place-entries t (suc k) inside),
        length-append (entries_before t (suc k)) ((span_at t (suc k)).entries ++ entries_after t (suc k)),
        length-append (span_at t (suc k)).entries (entries_after t (suc k)),
      )

-- ---- `let_go`

module _ {img : List ℕ} {x : Going} {w : OwnTower} {path : List ℕ} {r : KeyRule} {t : Table} {bs : List Block} {k : ℕ} (h : GoingAt img x w path r t bs k) where
  abbrev g : GoneAt img x.root x.page r t bs k
  g = h.gone

  abbrev span : SpanInHand img x.links.first x.page
  span =
      record {
        conts = (span_at t (suc k)).conts;
        hand = record {
          pages = g.standing.pages;
          span_size = g.standing.span_size;
          things = besides g.standing.around t (suc k);
          free = bs;
          spare = [];
          holds = subst (Holds g.standing.pages img (all_pieces g.standing.pages g.standing.span_size (besides g.standing.around t (suc k)) bs))
              (ap (λ (n : ℕ). (span_at t (suc k)).conts ++ (n ∷ [])) (sym g.here) ∙ sym (append-nil ((span_at t (suc k)).conts ++ (x.page ∷ []))))
              (in_hand g.standing (suc k) g.inside);
          few = g.standing.few;
        };
        first = h.links.first;
        linked = (span-borne g.standing.readable (suc k) g.inside).0.conts;
      }

  pub gone-ready : GoneReady img x.links.first x.page w.page
  gone-ready = record { span = span; tall = h.tower.inside }

  small : length img ≤ 4194304
  small = g.standing.readable.small

  prev-at : x.links.prev ≡ (span_at t k).page
  prev-at = h.links.prev ∙ prev-is t k g.inside

  next-at : x.links.next ≡ first_page 0 (spans_past t (suc k))
  next-at = h.links.next

  -- a page of the image before is one of an image as long
  inside-as : {n : ℕ} → IsPage img n → {out : List ℕ} → length out ≡ length img → (o v : ℕ) → o + v ≤ 1024 → Inside out n o v
  inside-as p e o v f = record { small = omega (arith, small); low = p.low; high = omega (arith, p.high); fits = f }

  pub spans-ready : {out : List ℕ} → length out ≡ length img → SpansReady out x.links.prev x.links.next
  spans-ready e =
      record {
        before = inside-as (subst (IsPage img) (sym prev-at) (span-borne g.standing.readable k (omega (arith, g.inside))).1.0) e 0 1024 (omega arith);
        behind = λ z. inside-as (subst (IsPage img) (sym next-at) (first-inside (spans_past t (suc k)) (past-inside g.standing.readable (suc k) g.inside) (λ y. z (next-at ∙ y)))) e 0 1024 (omega arith);
      }

  abbrev reading : Reading img x.root
  reading = record { rule = r; table = t; readable = g.standing.readable; root = sym g.at }

  pub pages-ready : Pages path
  pages-ready = path-pages reading k h.tower.before

  -- the towers before the span at the levels of its tower, by the path
  module _ {old before : List ℕ} (long : length old ≡ 252) (f : Filled old 252 (λ l. page_or_head x.list.head (get_or path l 0)) before) where
    before_at : Before t (suc k) w.height before
    before_at = before-less h.tower.low (before-all reading k h.list.head long h.tower.before f)

    pub levels-ready : {out : List ℕ} → length out ≡ length img → Linkable out before w.height
    levels-ready {out} e = before-linkable reading (suc k) w.height h.tower.low before_at out e

  one-tower : length (towers_at t (suc k)) ≡ length (option_to_list w.page)
  one-tower = sym (length-map (towers_at t (suc k)) (λ (u : Tower). u.page)) ∙ ap length h.tower.pages

  pub counts-ready : {out : List ℕ} → length out ≡ length img → CountsReady out x w.page
  counts-ready e =
      record {
        root = inside-as (subst (IsPage img) (sym g.at) g.standing.readable.borne.0.1.0) e 16 12 (omega arith);
        size = omega (arith, h.links.size, h.list.size, size-among t k g.inside);
        spans = omega (arith, h.list.spans, g.inside);
        levels = omega (arith, h.list.levels, one-tower, unlinked-levels t k g.inside);
      }

  gone-many : {n : ℕ} {out : List ℕ} → GaveGone img x.links.first x.page w.page n out → n ≡ gone_count t (suc k)
  gone-many a = omega (arith, a.given span, one-tower)

  -- ---- What is written

  given-coded : (draw (span_at t (suc k)).conts 0 ((span_at t (suc k)).page ∷ map (λ u. u.page) (towers_at t (suc k))) bs).writes
      ≡ (give_many ((span_at t (suc k)).conts ++ (x.page ∷ option_to_list w.page)) bs).writes
  unfolding draw
  given-coded =
      let z : 0 - length (span_at t (suc k)).conts ≡ 0 = omega arith in
      ap (λ (n : ℕ). (take_many n bs).writes ++ (give_many ((span_at t (suc k)).conts ++ ((span_at t (suc k)).page ∷ map (λ u. u.page) (towers_at t (suc k)))) (take_many n bs).free).writes) z
      ∙ ap₂ (λ (n : ℕ) (ns : List ℕ). (give_many ((span_at t (suc k)).conts ++ (n ∷ ns)) bs).writes) (sym g.here) h.tower.pages

  levels-coded : {before : List ℕ} → Before t (suc k) w.height before
      → gather (λ u. relink (without t (suc k)) (suc k) u.height) (towers_at t (suc k)) ≡ link_writes before w.after w.height
  unfolding relink
  levels-coded {before} b =
      gathered (relink (without t (suc k)) (suc k)) (λ u. u.height) (towers_at t (suc k)) ∙ ap (gather (relink (without t (suc k)) (suc k))) h.tower.heights
      ∙ go w.page h.tower.flat ∙ sym (gone-links t k g.inside w.height before w.after b h.tower.after)
    where
      go : (o : Option ℕ) → (o ≡ None → w.height ≡ 0) → gather (relink (without t (suc k)) (suc k)) (map (λ _. w.height) (option_to_list o)) ≡ relink (without t (suc k)) (suc k) w.height
      go None z = ap (relink (without t (suc k)) (suc k)) (sym (z refl))
      go (Some n) z = append-nil (relink (without t (suc k)) (suc k) w.height)

  counts-coded : counts_on (without t (suc k)) ∷ [] ≡ lowered x w.page
  unfolding counts
  counts-coded =
      let a : length (entries_of (without t (suc k))) ≡ x.list.size - x.links.size
      = size-left t k g.inside ∙ (λ j. sym h.list.size j - sym h.links.size j) in
      let b : length (columns (without t (suc k))) ≡ x.list.spans - 1 = omega (arith, h.list.spans, unlinked-spans t k g.inside) in
      let c : length (towers_of (columns (without t (suc k)))) ≡ x.list.levels - length (option_to_list w.page) = omega (arith, h.list.levels, one-tower, unlinked-levels t k g.inside) in
      λ j. counts_at (sym g.at j) (a j) (b j) (c j) ∷ []

  spans-coded : (ws : List Write) → map next_link (take 1 (drop (suc k - 1) (spans_in (without t (suc k))))) ++ (map prev_link (take 1 (drop (suc k) (spans_in (without t (suc k))))) ++ ws)
      ≡ around_writes x.links.prev x.links.next ++ ws
  spans-coded ws =
      ap₂ (λ (a b : List Write). a ++ (b ++ ws)) (ap (map next_link) (unlinked-next t k g.inside))
      (ap (map prev_link) (unlinked-prev t k g.inside) ∙ prev-on t.span_size (span_at t k).page (spans_past t (suc k)) (past-pages g.standing.readable (suc k) g.inside))
      ∙ (λ j. around_writes (sym prev-at j) (sym next-at j) ++ ws)

  module _ {before : List ℕ} (at : Before t (suc k) w.height before) where
    links-coded : unlinking (without t (suc k)) (suc k) (towers_at t (suc k))
        ≡ around_writes x.links.prev x.links.next ++ (link_writes before w.after w.height ++ lowered x w.page)
    unfolding unlinking
    links-coded =
        spans-coded (gather (λ u. relink (without t (suc k)) (suc k) u.height) (towers_at t (suc k)) ++ (counts_on (without t (suc k)) ∷ []))
        ∙ (λ j. around_writes x.links.prev x.links.next ++ (levels-coded at j ++ counts-coded j))

    written : {n : ℕ} {out1 out2 out3 out4 : List ℕ} → GaveGone img x.links.first x.page w.page n out1 → out2 ≡ apply (around_writes x.links.prev x.links.next) out1
        → out3 ≡ apply (link_writes before w.after w.height) out2 → out4 ≡ apply (lowered x w.page) out3 → out4 ≡ apply (unlink_writes t k bs) img
    written a b c d =
        let gs : List Write = (give_many ((span_at t (suc k)).conts ++ (x.page ∷ option_to_list w.page)) bs).writes in
        let ss : List Write = around_writes x.links.prev x.links.next in
        let ls : List Write = link_writes before w.after w.height in
        d ∙ ap (apply (lowered x w.page)) (c ∙ ap (apply ls) (b ∙ ap (apply ss) (a.image span)))
        ∙ sym (apply-append ls (lowered x w.page) (apply ss (apply gs img)))
        ∙ sym (apply-append ss (ls ++ lowered x w.page) (apply gs img))
        ∙ sym (apply-append gs (ss ++ (ls ++ lowered x w.page)) img)
        ∙ ap₂ (λ (p q : List Write). apply (p ++ q) img) (sym given-coded) (sym links-coded)

pub let_go : {img : List ℕ} {x : Going} {w : OwnTower} {path old before out1 out2 out3 out4 : List ℕ} {n : ℕ} → length old ≡ 252
    → Filled old 252 (λ l. page_or_head x.list.head (get_or path l 0)) before → GaveGone img x.links.first x.page w.page n out1
    → out2 ≡ apply (around_writes x.links.prev x.links.next) out1 → out3 ≡ apply (link_writes before w.after w.height) out2
    → out4 ≡ apply (lowered x w.page) out3 → LetGo img x w path n out4
let_go long f a b c d = record { image = λ r t bs k h. written h (before_at h long f) a b c d; given = λ r t bs k h. gone-many h a }

-- ---- `unlink`

module _ {img : List ℕ} {root page : ℕ} {x : Links} {path : List ℕ} {r : KeyRule} {t : Table} {bs : List Block} {k : ℕ} (u : UnlinkOf img root page x path r t bs k) where
  abbrev pub table_read : Reading img root
  table_read = record { rule = r; table = t; readable = u.gone.standing.readable; root = sym u.gone.at }

  preceded : Preceded table_read page k path
  preceded = record { at = record { there = u.gone.inside; is = u.gone.here }; path = u.passed }

  pub precedes : Precedes img page path
  precedes = record { root = root; reading = table_read; place = k; is = preceded }

  pub going-at : {l : SkipList} {w : OwnTower} → ListRead img root l → FoundTower img page path w
      → GoingAt img (record { root = root; page = page; list = l; links = x }) w path r t bs k
  going-at l w = record { gone = u.gone; list = l.is table_read; links = u.links; tower = w.is root table_read k preceded }

pub unlinked : {img : List ℕ} {root page : ℕ} {x : Links} {path : List ℕ} {l : SkipList} {w : OwnTower} {n : ℕ} {out : List ℕ} → ListRead img root l → FoundTower img page path w
    → LetGo img (record { root = root; page = page; list = l; links = x }) w path n out → Unlinked img root page x path n out
unlinked l w g = record { image = λ r t bs k u. g.image r t bs k (going-at u l w); given = λ r t bs k u. g.given r t bs k (going-at u l w) }
