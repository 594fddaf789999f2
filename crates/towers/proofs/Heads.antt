-- The head, and all towers of a table.
use Prim.Native.Nat.{ℕ, suc, ◌*◌, ◌≤◌}
use native.Mathlib.Omega.{arith}
use mathlib.Core.Path.{◌≡◌, refl, ap, sym, ◌∙◌, subst}
use mathlib.Core.List.{List, [], ◌∷◌, ◌++◌, map, head-eq_of_cons-eq, tail-eq_of_cons-eq, nil≢cons, cons≢nil}
use lib.ListN.{length, length-append}
use Rattle.blockfile.specs.Bytes.{pg, Every, gather, first_of}
use Rattle.blockfile.specs.Layout.{Span, Tower, Column, spans_of, towers_of, tower_in}
use Rattle.blockfile.specs.Order.{Within}
use Rattle.blockfile.specs.Fields.{LinkedTower, IsTower}
use Rattle.blockfile.specs.WellFormed.{Piece, span, tower, pages_of, Bears, next_at, link_spans, link_towers}
use Rattle.blockfile.proofs.Every.{every-so, every-both}
use Rattle.laws.proofs.Chains.{entry-at}
use Rattle.heads.specs.Claims.{Room, Lent, claimed, head32, InHead}
use Rattle.heads.proofs.Claims.{room-long, in_head, head32-is}
use Rattle.std.proofs.Common.{Option as Answer, Some, None}
use Rattle.std.proofs.lemmas.Option.{none-some, same_Some}
use Rattle.walks.specs.Found.{Open, Fresh, claims, Found, FindsAt}
use Rattle.walks.proofs.Founds.{same_start, finds-none, finds-same, fresh-right, length-claims, unclaimed-claims, unclaimed-most}
use Rattle.walks.proofs.Pieces.{found-claimable, found-rest, found-cons}
use Rattle.towers.specs.Towers.{Spanned, TowersFound}
use Rattle.towers.specs.Climb.{entry_at, next_span, Way, Linked, Tall, span_under, TowerFound, Climb}
use Rattle.towers.proofs.Ways.{way-unique}
use Rattle.towers.proofs.Climbs.{tower-single, raised, tower_at, tower-bears}

-- ---- Spans that were verified

abbrev pages : List Span → List ℕ
pages ss = map (λ s. s.page) ss

-- next links lead through them
spans-way : (img : List ℕ) (z p : ℕ) (ss : List Span) → Every (Bears (pg img)) (map span (link_spans z p ss))
    → Every (λ s. (1 ≤ s.page) × (1024 * s.page ≤ length img)) ss → Way img (first_of (pages ss)) 0 (pages ss)
spans-way img z p [] b i = refl
spans-way img z p (s ∷ ss) b i =
    (refl, i.0.0, i.0.1, subst (λ (q : ℕ). Way img q 0 (pages ss)) (sym b.0.next) (spans-way img z s.page ss b.1 i.1))

length-pages : (ss : List Span) → length (pages ss) ≡ length ss
length-pages [] = refl
length-pages (s ∷ ss) = ap suc (length-pages ss)

module _ (img : List ℕ) (p z : ℕ) (s : Span) (others : List Span) (sp : Spanned img p z s others) where
  pub others-way : Way img (next_span img p) 0 (pages others)
  others-way = subst (λ (q : ℕ). Way img (next_span img q) 0 (pages others)) sp.here (spans-way img z 0 (s ∷ others) sp.bears sp.inside).3

  -- the first span is on a page of the image, and its head has its next link
  pub first-in-head : {scr : List ℕ} → Lent img scr → InHead scr p 12 4
  first-in-head lent = in_head lent (subst (λ (q : ℕ). 1 ≤ q) sp.here sp.inside.0.0) (omega (arith, sp.here, sp.inside.0.1)) (omega arith)

  pub first_next : {scr : List ℕ} → Lent img scr → head32 scr p 12 ≡ next_span img p
  first_next lent = head32-is lent (first-in-head lent) (omega arith)

  pub others-linked : (q : ℕ) → q ≡ next_span img p → Linked img q
  others-linked q e =
      let l : length (pages others) ≡ length others = length-pages others in
      subst (Linked img) (sym e) (record { passed = pages others; way = others-way; few = omega (arith, sp.few) })

-- spans that were found are such spans
span-inside : (img scr : List ℕ) (z p : ℕ) (ss : List Span) → Room img scr → Fresh scr (gather pages_of (map span (link_spans z p ss)))
    → Every (λ s. (1 ≤ s.page) × (1024 * s.page ≤ length img)) ss
span-inside img scr z p [] room f = tt
span-inside img scr z p (s ∷ ss) room f =
    let o : Open scr s.page = f.0 in (
      (o.low, omega (arith, room.size, room.whole)),
      span-inside img (claims scr (s.page ∷ s.conts)) z s.page ss (room-long (length-claims scr (s.page ∷ s.conts)) room)
          (fresh-right scr (s.page ∷ s.conts) (gather pages_of (map span (link_spans z s.page ss))) f),
    )

pub span-few : (z p : ℕ) (ss : List Span) → length ss ≤ length (gather pages_of (map span (link_spans z p ss)))
span-few z p [] = omega arith
span-few z p (s ∷ ss) =
    let l : length ss ≤ length (gather pages_of (map span (link_spans z s.page ss))) = span-few z s.page ss in
    omega (arith, length-append s.conts (gather pages_of (map span (link_spans z s.page ss))))

pub spans-found : (img scr out : List ℕ) (p z : ℕ) (s : Span) (others : List Span) → Lent img scr → Found img scr (map span (link_spans z 0 (s ∷ others))) out
    → s.page ≡ p → Spanned img p z s others
spans-found img scr out p z s others l f e =
    let ns : List ℕ = gather pages_of (map span (link_spans z 0 (s ∷ others))) in
    record {
      here = e;
      bears = f.bears;
      inside = span-inside img scr z 0 (s ∷ others) l.room f.fresh;
      few = omega (arith, l.room.size, l.room.whole, span-few z 0 (s ∷ others), unclaimed-claims scr ns f.fresh, unclaimed-most scr);
    }

-- ---- The same towers, on other spans on the same pages

record Moved (cs : List Column) (ss : List Span) : Type 0 where
  pub rest : List Column
  pub stands : spans_of rest ≡ ss
  pub towers : towers_of rest ≡ towers_of cs
  pub links : link_towers rest ≡ link_towers cs

moved : (cs : List Column) (ss : List Span) → pages (spans_of cs) ≡ pages ss → Moved cs ss
moved [] [] e = record { rest = []; stands = refl; towers = refl; links = refl }
moved [] (s ∷ ss) e = absurd (nil≢cons e)
moved (c ∷ cs) [] e = absurd (cons≢nil e)
moved (c ∷ cs) (s ∷ ss) e =
    let m : Moved cs ss = moved cs ss (tail-eq_of_cons-eq e) in
    let p : s.page ≡ c.span.page = sym (head-eq_of_cons-eq e) in
    record {
      rest = record { span = s; tower = c.tower } ∷ m.rest;
      stands = ap (λ (us : List Span). s ∷ us) m.stands;
      towers = ap (λ (ts : List Tower). tower_in c.tower ++ ts) m.towers;
      links = λ j. map (raised (p j) (m.towers j)) (tower_in c.tower) ++ m.links j;
    }

-- ---- The head

module _ (img scr : List ℕ) (head p z : ℕ) (s : Span) (others : List Span) (sp : Spanned img p z s others) where
  abbrev TowersIs : Answer ℕ → List ℕ → Type 0
  TowersIs r out = FindsAt Some (TowersFound img scr head s others) r out

  head-found : (m : ℕ) (out : List ℕ) (x : TowersFound img scr head s others m out) → TowerFound img scr 0 252 head x.top.height (claimed scr head)
  head-found m out x =
      let w : Tower = x.top in
      let y : LinkedTower = raised s.page (towers_of x.rest) w in
      let b : IsTower y (pg img w.page) = x.found.bears.0 in
      let h : Within 1 252 w.max_height × (w.height ≤ w.max_height) = x.heights.0 in
      subst (λ (n : ℕ). TowerFound img scr 0 252 n w.height (claimed scr n)) x.named
      (record {
        can = found-claimable img scr (tower y) w.page 2 (tower-single img y) (map tower (link_towers x.rest)) out x.found;
        height = sym b.height;
        tall = subst (λ (n : ℕ). Tall 0 252 n w.height) (sym b.max_height) (record { range = h.0; most = h.1; low = omega arith; high = omega arith });
        left = refl;
      })

  module _ (a : Answer ℕ) (u : List ℕ) (b : FindsAt Some (TowerFound img scr 0 252 head) a u) where
    towers-none : ((m : ℕ) (t : List ℕ) → TowersFound img scr head s others m t → ⊥) → TowersIs None u
    towers-none f = finds-none (same_start (TowersFound img scr head s others)) f

    pub head-no : a ≡ None → TowersIs None u
    head-no e = towers-none (λ m t x. none-some x.top.height (sym e ∙ (b.complete x.top.height (claimed scr head) (head-found m t x)).0))

    module _ (k : ℕ) (e : a ≡ Some k) (q : ℕ) (is : q ≡ span_under img head) where
      pub head-off : (q ≡ p → ⊥) → TowersIs None u
      head-off ne = towers-none (λ m t x. ne (is ∙ ap (span_under img) (sym x.named) ∙ x.found.bears.0.span_page ∙ sp.here))

      module _ (on : q ≡ p) where
        towers-to : (m : ℕ) (t : List ℕ) → Climb img u k (next_span img p) (entry_at img head) 1 m t → TowersFound img scr head s others m t
        towers-to m t c =
            let f : TowerFound img scr 0 252 head k u = b.sound k e in
            let w : Tower = tower_at img head in
            let v : Moved c.rest others
            = moved c.rest others (way-unique img (pages (spans_of c.rest)) (pages others) (next_span img p) c.on.way (others-way img p z s others sp)) in
            let y : LinkedTower = raised (span_under img head) (towers_of c.rest) w in
            let ys : List Piece = map tower (link_towers c.rest) in
            let g : Bears (pg img) (tower y) = tower-bears img scr head (towers_of c.rest) f.can (λ i l. c.on.expected i (omega (arith, f.height))) in
            let page : span_under img head ≡ s.page = sym is ∙ on ∙ sym sp.here in
            let h : k ≡ w.height = f.height in
            record {
              top = w;
              rest = v.rest;
              named = refl;
              stands = v.stands;
              heights = (
                (f.tall.range, subst (λ (n : ℕ). n ≤ w.max_height) h f.tall.most),
                subst (Every (λ w. Within 1 252 w.max_height × (w.height ≤ w.max_height))) (sym v.towers)
                    (every-so (λ w. Tall 1 k w.max_height w.height) (λ w t. (t.range, t.most)) (towers_of c.rest) c.on.tall),
              );
              lower = subst (Every (λ w'. Within 1 w.height w'.height)) (sym v.towers)
                  (every-so (λ w. Tall 1 k w.max_height w.height) (λ w' t. (t.low, subst (λ (n : ℕ). w'.height ≤ n) h t.high)) (towers_of c.rest) c.on.tall);
              found = subst (λ (ps : List Piece). Found img scr ps t)
                  (λ j. tower (raised (page j) (sym v.towers j) w) ∷ map tower (sym v.links j))
                  (found-cons img scr (tower y) head 2 (tower-single img y) ys t f.can g (subst (λ (x : List ℕ). Found img x ys t) f.left c.on.found));
              total = omega (arith, c.on.total, ap length v.towers);
            }

        towers-back : (m : ℕ) (t : List ℕ) → TowersFound img scr head s others m t → Climb img u k (next_span img p) (entry_at img head) 1 m t
        towers-back m t x =
            let w : Tower = x.top in
            let ts : List Tower = towers_of x.rest in
            let y : LinkedTower = raised s.page ts w in
            let ys : List Piece = map tower (link_towers x.rest) in
            let g : IsTower y (pg img w.page) = x.found.bears.0 in
            let d : (a ≡ Some w.height) × (u ≡ claimed scr head) = b.complete w.height (claimed scr head) (head-found m t x) in
            let h : w.height ≡ k = same_Some w.height k (sym d.0 ∙ e) in
            let left : claimed scr w.page ≡ u = ap (claimed scr) x.named ∙ sym d.1 in
            record {
              rest = x.rest;
              on = record {
                way = subst (λ (ss : List Span). Way img (next_span img p) 0 (pages ss)) (sym x.stands) (others-way img p z s others sp);
                tall = subst (λ (n : ℕ). Every (λ w'. Tall 1 n w'.max_height w'.height) ts) h
                    (every-both (λ w'. Within 1 252 w'.max_height × (w'.height ≤ w'.max_height)) (λ w'. Within 1 w.height w'.height)
                    (λ w' i j. record { range = i.0; most = i.1; low = j.0; high = j.1 }) ts x.heights.1 x.lower);
                expected = λ i l. ap (λ (n : ℕ). entry_at img n i) (sym x.named)
                    ∙ entry-at (pg img w.page) (λ n. next_at n ts) w.height i g.nexts (omega arith);
                found = subst (λ (r : List ℕ). Found img r ys t) left (found-rest img scr (tower y) w.page 2 (tower-single img y) ys t x.found);
                total = omega (arith, x.total);
              };
            }

        pub towers-climb : (n : ℕ) → n ≡ next_span img p → (r : Answer ℕ) (out : List ℕ)
            → FindsAt Some (Climb img u k n (entry_at img head) 1) r out → TowersIs r out
        towers-climb n n-is r out f =
            finds-same (record { to = towers-to; back = towers-back })
            (subst (λ (x : ℕ). FindsAt Some (Climb img u k x (entry_at img head) 1) r out) n-is f)
