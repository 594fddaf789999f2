-- A span of a table rewritten: from the table to what drawing and writing ask for, and from what they leave to the text.
use Prim.Native.Nat.{ℕ, suc, ◌+◌, ◌*◌, ◌≤◌, ◌<◌}
use native.Mathlib.Omega.{arith}
use mathlib.Core.Path.{◌≡◌, refl, ap, ap₂, sym, ◌∙◌, subst}
use mathlib.Core.List.{List, [], ◌∷◌, ◌++◌, append-nil}
use lib.ListN.{length, take, drop, length-append, length-map, take-append-drop}
use lib.Seq.{sets, length-sets, take_at, drop_at}
use Rattle.blockfile.specs.Bytes.{word32, apply, Every, gather}
use Rattle.blockfile.specs.Layout.{Entry, Span, Column, Table, Block, columns, spans_of, towers_of, entries_of, reached, free_count}
use Rattle.blockfile.specs.Order.{KeyRule}
use Rattle.blockfile.specs.Fields.{Numbers}
use Rattle.blockfile.specs.Free.{Drawn, draw}
use Rattle.blockfile.specs.Put.{Parts, parts, span_wanted, wanted_by, Shared, share, span_at}
use Rattle.blockfile.proofs.Every.{every-left, every-right}
use Rattle.laws.proofs.Steps.{Holds}
use Rattle.laws.proofs.Opens.{all_pieces, to-pieces}
use Rattle.laws.proofs.Writes.{length-apply}
use Rattle.laws.proofs.Lists.{sets-append}
use Rattle.laws.proofs.Numbers.{length-word32}
use Rattle.laws.proofs.Written.{numbers-left}
use Rattle.laws.proofs.Encodes.{length-numbers32}
use Rattle.laws.proofs.Draws.{few-drawn, length-drawn, drawn-shows}
use Rattle.laws.proofs.Splits.{parts_whole, share-all, share-conts, share-span}
use Rattle.laws.proofs.SpanLinks.{first_page, spans_past}
use Rattle.laws.proofs.Places.{entries_before, entries_after, place-entries}
use Rattle.laws.proofs.Fitting.{many-entries, many-towers}
use Rattle.laws.proofs.DrawnRewrites.{let_go}
use Rattle.entries.specs.Places.{IsPage}
use Rattle.draw.specs.Hands.{InHand, Drawable}
use Rattle.draw.specs.Writing.{PageOf}
use Rattle.draw.proofs.Hands.{hand-pages, hand-few}
use Rattle.draw.proofs.Listings.{stored-stand}
use Rattle.edit.specs.declared.plan.Plan.{Plan}
use Rattle.edit.specs.Standing.{Standing}
use Rattle.edit.specs.Staged.{Staged}
use Rattle.edit.specs.Plans.{StayOf, MovedOf, SpansOf, SpansReady}
use Rattle.edit.specs.Counts.{CountsReady}
use Rattle.edit.specs.Makes.{PlanOf}
use Rattle.edit.specs.Applies.{wanted_of, total_of, DrawReady}
use Rattle.edit.specs.Commits.{CommitOf, drawn_with}
use Rattle.edit.proofs.Cuts.{cut_at}
use Rattle.edit.proofs.Stands.{span-borne, past-inside, besides, in_hand, columns-few}
use Rattle.edit.proofs.Stagings.{staged-kept}
use Rattle.edit.proofs.Risings.{page-of}

-- numbers behind others
numbers-right : (b : List ℕ) (k : ℕ) (xs ys : List ℕ) → Numbers b k (xs ++ ys) → Numbers b (k + 4 * length xs) ys
numbers-right b k [] ys h = let e : k + 4 * 0 ≡ k = omega arith in subst (λ (m : ℕ). Numbers b m ys) (sym e) h
numbers-right b k (x ∷ xs) ys h =
    let e : k + 4 + 4 * length xs ≡ k + 4 * suc (length xs) = omega arith in
    subst (λ (m : ℕ). Numbers b m ys) e (numbers-right b (k + 4) xs ys h.1)

-- the parts are the entries in two
module _ (t : Table) (es : List Entry) {n : ℕ} (half : n ≡ length (parts t es).stay) where
  pub stay-half : take n es ≡ (parts t es).stay
  stay-half = ap₂ (λ (n : ℕ) (l : List Entry). take n l) half (sym (parts_whole t es)) ∙ take_at (parts t es).stay (parts t es).move (length (parts t es).stay) refl

  pub move-half : drop n es ≡ (parts t es).move
  move-half = ap₂ (λ (n : ℕ) (l : List Entry). drop n l) half (sym (parts_whole t es)) ∙ drop_at (parts t es).stay (parts t es).move (length (parts t es).stay) refl

-- the pages that a plan wants
pub plan-total : {t : Table} {i : ℕ} {es : List Entry} {x : Plan} → PlanOf t i es x → wanted_of x ≡ wanted_by (parts t es)
unfolding wanted_by
plan-total q = λ j. q.wants.conts j + q.wants.span j + q.wants.tower j

-- pages drawn for the span at place i are in hand, with the span's own
pub drawn-in : {img : List ℕ} {r : KeyRule} {t : Table} {bs : List Block} (st : Standing img r t bs) (i : ℕ) → i < length (columns t) → (w : ℕ)
    → w ≤ length (span_at t i).conts + free_count bs
    → InHand (apply (draw (span_at t i).conts w [] bs).writes img) ((draw (span_at t i).conts w [] bs).pages ++ ((span_at t i).page ∷ []))
drawn-in {img} {r} {t} {bs} st i inside w room =
    record {
      pages = st.pages;
      span_size = st.span_size;
      things = besides st.around t i;
      free = (draw old w [] bs).free;
      spare = [];
      holds = subst (λ (l : List ℕ). Holds st.pages out (all_pieces st.pages st.span_size (besides st.around t i) (draw old w [] bs).free) l)
          (sym (append-nil ((draw old w [] bs).pages ++ ((span_at t i).page ∷ []))))
          (to-pieces _ _ _ _ _ (draw old w [] bs).free ((draw old w [] bs).pages ++ ((span_at t i).page ∷ [])) out
          (drawn-shows old w [] bs room ((span_at t i).page ∷ []) st.few (let_go t i inside bs st.around st.shows)));
      few = few-drawn old w [] bs st.few;
    }
  where
    old : List ℕ
    old = (span_at t i).conts

    out : List ℕ
    out = apply (draw old w [] bs).writes img

-- with the span's own they are no more than the image has
pub drawn-few : {img : List ℕ} {r : KeyRule} {t : Table} {bs : List Block} (st : Standing img r t bs) (i : ℕ) → i < length (columns t) → (w : ℕ)
    → w ≤ length (span_at t i).conts + free_count bs → 1024 * (w + 1) ≤ length img
unfolding drawn-in
drawn-few {t = t} {bs} st i inside w room =
    omega (
      arith,
      hand-few (drawn-in st i inside w room),
      length-append (draw (span_at t i).conts w [] bs).pages ((span_at t i).page ∷ []),
      length-drawn (span_at t i).conts w [] bs room,
      st.shows.size,
    )

module _ {img b : List ℕ} {x : Plan} {r : KeyRule} {t : Table} {bs : List Block} {i : ℕ} {es : List Entry} (h : CommitOf img b x r t bs i es) where
  abbrev old : List ℕ
  old = (span_at t i).conts

  abbrev p : Parts
  p = parts t es

  abbrev d : Drawn
  d = drawn_with t i bs es x.more

  abbrev s : Shared
  s = share p d.pages

  pub total : total_of x ≡ wanted_by p + x.more
  total = ap (λ (n : ℕ). n + x.more) (plan-total h.plan)

  -- ---- Drawing

  abbrev pub can_draw : Drawable img x.links.first (total_of x)
  can_draw =
      record {
        chain = record {
          old = old;
          hand = record {
            pages = h.standing.pages;
            span_size = h.standing.span_size;
            things = besides h.standing.around t i;
            free = bs;
            spare = (span_at t i).page ∷ [];
            holds = in_hand h.standing i h.inside;
            few = h.standing.few;
          };
          first = h.plan.links.first;
          linked = (span-borne h.standing.readable i h.inside).0.conts;
        };
        enough = omega (arith, total, h.room);
      }

  pub drawn-is : draw old (total_of x) [] bs ≡ d
  drawn-is = ap (λ (n : ℕ). draw old n [] bs) total

  -- the image with the pages drawn: these are in hand, with the span's own
  abbrev img1 : List ℕ
  img1 = apply d.writes img

  drawn-hand : InHand img1 (d.pages ++ ((span_at t i).page ∷ []))
  drawn-hand = drawn-in h.standing i h.inside (wanted_by p + x.more) h.room

  pub many : length d.pages ≡ wanted_by p + x.more
  many = length-drawn old (wanted_by p + x.more) [] bs h.room

  -- no more pages than the image has
  pub words : 1 + (wanted_by p + x.more) ≤ x.base
  words = omega (arith, drawn-few h.standing i h.inside (wanted_by p + x.more) h.room, h.base)

  pub draw-ready : DrawReady img b x
  draw-ready =
      record {
        drawable = can_draw;
        room = omega (arith, total, words, h.base, h.lent);
        conts = omega (arith, total, words, h.base, h.standing.readable.small);
        span = omega (arith, total, words, h.base, h.standing.readable.small);
        tower = omega (arith, total, words, h.base, h.standing.readable.small);
        more = omega (arith, total, words, h.base, h.standing.readable.small);
      }

  -- ---- The buffer with the list of pages

  abbrev ps : List ℕ
  ps = d.pages

  abbrev pub b1 : List ℕ
  b1 = sets (sets b 0 (word32 x.page)) 4 (gather word32 ps)

  -- the span's page and those drawn, stored in one run
  one-run : b1 ≡ sets b 0 (gather word32 (x.page ∷ ps))
  one-run =
      let e : 0 + length (word32 x.page) ≡ 4 = omega (arith, length-word32 x.page) in
      sym (sets-append (word32 x.page) (gather word32 ps) b 0 ∙ ap (λ (k : ℕ). sets (sets b 0 (word32 x.page)) k (gather word32 ps)) e)

  all-pages : Every (PageOf (length img1)) (ps ++ ((span_at t i).page ∷ []))
  all-pages = hand-pages drawn-hand

  same_size : length img1 ≡ length img
  same_size = length-apply d.writes img

  page-word : (n : ℕ) → PageOf (length img1) n → n < 4294967296
  page-word n q = omega (arith, q.1, same_size, h.standing.readable.small)

  own : PageOf (length img1) x.page
  own = subst (PageOf (length img1)) (sym h.page) (every-right (PageOf (length img1)) ps ((span_at t i).page ∷ []) all-pages).0

  drawn-pages : Every (PageOf (length img1)) ps
  drawn-pages = every-left (PageOf (length img1)) ps ((span_at t i).page ∷ []) all-pages

  all_words : (ns : List ℕ) → Every (PageOf (length img1)) ns → Every (λ n. n < 4294967296) ns
  all_words [] e = tt
  all_words (n ∷ ns) e = (page-word n e.0, all_words ns e.1)

  listed : Numbers b1 0 (x.page ∷ ps)
  listed =
      subst (λ (l : List ℕ). Numbers l 0 (x.page ∷ ps)) (sym one-run)
      (stored-stand b 0 (x.page ∷ ps) (omega (arith, many, words, h.base, h.lent)) (all_words (x.page ∷ ps) (own, drawn-pages)))

  -- the pages, shared out, and the further ones
  shares : ps ≡ (s.conts ++ (s.span ++ s.tower)) ++ drop (wanted_by p) ps
  shares = sym (ap (λ (l : List ℕ). l ++ drop (wanted_by p) ps) (share-all p ps) ∙ take-append-drop (wanted_by p) ps)

  enough : wanted_by p ≤ length ps
  enough = omega (arith, many)

  listed-shares : Numbers b1 0 ((x.page ∷ s.conts) ++ (s.span ++ s.tower))
  listed-shares = numbers-left b1 0 ((x.page ∷ s.conts) ++ (s.span ++ s.tower)) (drop (wanted_by p) ps) (subst (λ (l : List ℕ). Numbers b1 0 (x.page ∷ l)) shares listed)

  pages-shares : Every (PageOf (length img1)) (s.conts ++ (s.span ++ s.tower))
  pages-shares = every-left (PageOf (length img1)) (s.conts ++ (s.span ++ s.tower)) (drop (wanted_by p) ps) (subst (Every (PageOf (length img1))) shares drawn-pages)

  -- entries staged behind the list are as they were
  behind-list : {at : ℕ} {fs : List Entry} → 4 * x.base ≤ at → Staged b at fs → Staged b1 at fs
  behind-list {at} {fs} l g =
      subst (λ (m : List ℕ). Staged m at fs) (sym one-run)
      (staged-kept 0 (gather word32 (x.page ∷ ps)) (omega (arith, length-numbers32 (x.page ∷ ps), many, words)) g)

  stays : take x.shape.half es ≡ p.stay
  stays = stay-half t es h.plan.shape.half

  moves : drop x.shape.half es ≡ p.move
  moves = move-half t es h.plan.shape.half

  conts-are : x.wants.conts ≡ length s.conts
  conts-are = h.plan.wants.conts ∙ omega (arith, share-conts p ps enough)

  stay_of : StayOf img1 b1 x (cut_at t i p s)
  stay_of =
      record {
        prev = h.plan.links.prev;
        most = h.plan.list.most;
        conts = conts-are;
        reach = share-conts p ps enough;
        listed = subst (λ (n : ℕ). Numbers b1 0 (n ∷ s.conts)) h.page (numbers-left b1 0 (x.page ∷ s.conts) (s.span ++ s.tower) listed-shares);
        each = (subst (PageOf (length img1)) h.page own, every-left (PageOf (length img1)) s.conts (s.span ++ s.tower) pages-shares);
        base = omega (arith, words, total, conts-are);
        staged = behind-list (omega arith) (subst (Staged b (4 * x.base)) stays h.staged.stay);
        end = h.plan.shape.stay;
        half = h.plan.shape.half;
      }

  behind-conts : Numbers b1 (4 * (1 + length s.conts)) (s.span ++ s.tower)
  behind-conts =
      let e : 0 + 4 * length (x.page ∷ s.conts) ≡ 4 * (1 + length s.conts) = omega arith in
      subst (λ (k : ℕ). Numbers b1 k (s.span ++ s.tower)) e (numbers-right b1 0 (x.page ∷ s.conts) (s.span ++ s.tower) listed-shares)

  span-pages : Every (PageOf (length img1)) (s.span ++ s.tower)
  span-pages = every-right (PageOf (length img1)) s.conts (s.span ++ s.tower) pages-shares

  span-is : x.wants.span ≡ length s.span
  span-is = h.plan.wants.span ∙ sym (share-span p ps enough)

  -- a new span has entries
  new-reach : (fs : List Entry) → 1 ≤ span_wanted fs → span_wanted fs ≡ reached fs
  new-reach [] l = absurd (omega arith)
  new-reach (f ∷ fs) l = refl

  moved-of : (q : ℕ) (qs : List ℕ) → s.span ≡ q ∷ qs → MovedOf img1 b1 x (cut_at t i p s) q qs
  moved-of q qs e =
      let n : length s.span ≡ 1 + length qs = ap length e ∙ omega arith in
      record {
        page = h.page;
        next = h.plan.links.next;
        most = h.plan.list.most;
        conts = conts-are;
        span = span-is ∙ n;
        reach = sym n ∙ share-span p ps enough ∙ new-reach p.move (omega (arith, n, share-span p ps enough));
        listed = subst (Numbers b1 (4 * (1 + length s.conts))) e (numbers-left b1 (4 * (1 + length s.conts)) s.span s.tower behind-conts);
        each = subst (Every (PageOf (length img1))) e (every-left (PageOf (length img1)) s.span s.tower span-pages);
        base = omega (arith, words, total, conts-are, span-is, n);
        staged = behind-list (omega arith)
            (subst (λ (k : ℕ). Staged b (4 * (x.base + 254 * (1 + k))) p.move) conts-are
            (subst (Staged b (4 * (x.base + 254 * (1 + x.wants.conts)))) moves (h.staged.moved (omega (arith, span-is, n)))));
        end = h.plan.shape.moved;
        half = sym (h.plan.shape.entries ∙ ap (λ (k : ℕ). k + length p.move) (sym h.plan.shape.half));
      }

  -- the span that follows, if there is one, is on a page of the image
  next-page : 1 ≤ first_page 0 (spans_past t i) → IsPage img1 (first_page 0 (spans_past t i))
  next-page = go (spans_past t i) (past-inside h.standing.readable i h.inside)
    where
      go : (ss : List Span) → Every (λ y. IsPage img y.page) ss → 1 ≤ first_page 0 ss → IsPage img1 (first_page 0 ss)
      go [] e l = absurd (omega arith)
      go (y ∷ ss) e l = page-of img1 same_size e.0

  pub spans-of : SpansOf img1 b1 x (cut_at t i p s) s.span
  spans-of =
      record {
        stay = stay_of;
        next = h.plan.links.next;
        span = span-is;
        split = λ q qs e. record { stay = stay_of; moved = moved-of q qs e; follows = next-page };
      }

  small_size : t.span_size ≤ 128
  small_size = h.standing.readable.ok.span_size.1

  entries-few : x.shape.entries ≤ 129
  entries-few = omega (arith, h.plan.shape.entries, ap length (parts_whole t es), length-append p.stay p.move, h.few, small_size)

  pub spans-ready : SpansReady img1 b1 x
  spans-ready =
      record {
        small = omega (arith, same_size, h.standing.readable.small);
        most = omega (arith, h.plan.list.most, small_size);
        few = omega (arith, entries-few);
        half = omega (arith, h.plan.shape.half, h.plan.shape.entries);
        cut = cut_at t i p s;
        pages = s.span;
        is = spans-of;
      }

  -- ---- Counts

  own-entries : length (span_at t i).entries ≤ length (entries_of t)
  own-entries =
      omega (
        arith,
        ap length (place-entries t i h.inside),
        length-append (entries_before t i) ((span_at t i).entries ++ entries_after t i),
        length-append (span_at t i).entries (entries_after t i),
      )

  few-columns : length (columns t) ≤ 4096
  few-columns = columns-few h.standing

  few-towers : length (towers_of (columns t)) ≤ length (columns t)
  few-towers = many-towers (columns t)

  few-keys : length (entries_of t) ≤ 128 * length (columns t)
  few-keys =
      omega (arith, many-entries t.span_size small_size (spans_of (columns t)) h.standing.readable.ok.sizes, length-map (columns t) (λ (c : Column). c.span))

  one-tower : x.wants.tower ≤ 1
  one-tower = omega (arith, h.plan.wants.tower)

  pub counts-ready : CountsReady img1 x
  counts-ready =
      let q : IsPage img t.root = h.standing.readable.borne.0.1.0 in
      record {
        root = record { small = omega (arith, same_size, h.standing.readable.small); low = omega (arith, h.root, q.low); high = omega (arith, h.root, q.high, same_size); fits = omega arith };
        among = omega (arith, h.plan.links.size, h.plan.list.size, own-entries);
        size = omega (arith, h.plan.list.size, few-keys, few-columns);
        spans = omega (arith, h.plan.list.spans, few-columns);
        levels = omega (arith, h.plan.list.levels, few-towers, few-columns);
        entries = omega (arith, entries-few);
        tower = one-tower;
      }

  -- ---- The tower

  pub tower-listed : Numbers b1 (4 * (1 + x.wants.conts + x.wants.span)) s.tower
  tower-listed =
      let e : 4 * (1 + length s.conts) + 4 * length s.span ≡ 4 * (1 + x.wants.conts + x.wants.span) = omega (arith, conts-are, span-is) in
      subst (λ (k : ℕ). Numbers b1 k s.tower) e (numbers-right b1 (4 * (1 + length s.conts)) s.span s.tower behind-conts)

  pub tower-pages : Every (PageOf (length img1)) s.tower
  tower-pages = every-right (PageOf (length img1)) s.span s.tower span-pages

  pub buffer-size : length b1 ≡ length b
  buffer-size = length-sets (sets b 0 (word32 x.page)) 4 (gather word32 ps) ∙ length-sets b 0 (word32 x.page)
