-- The walk over the towers of the spans after the first.
use Prim.Native.Nat.{ℕ, suc, ◌+◌, ◌*◌, ◌/◌, ◌≤◌, ◌<◌}
use native.Mathlib.Omega.{arith}
use native.Mathlib.Decide.{dec_lt}
use mathlib.Core.Path.{◌≡◌, refl, ap, sym, ◌∙◌, subst}
use mathlib.Core.Logic.{by_cases}
use mathlib.Core.Bool.{Bool, true, false, true≢false}
use mathlib.Core.List.{List, [], ◌∷◌, map}
use mathlib.Core.Option.{Option, none, some}
use lib.ListN.{length}
use borrow.Author.Tests.{lt-ltb, le-ltb}
use Rattle.blockfile.specs.Bytes.{pg, be16, be32, from}
use Rattle.blockfile.specs.Marks.{tower_mark}
use Rattle.blockfile.specs.Layout.{Span, Tower, Column, spans_of, towers_of}
use Rattle.blockfile.specs.Fields.{LinkedTower, IsTower}
use Rattle.blockfile.specs.WellFormed.{Piece, tower, Bears, next_at, link_towers}
use Rattle.laws.proofs.Chains.{entry-at, at-entries}
use Rattle.heads.specs.Claims.{Lent, claimable, claimed, Claimed, InHead, head32}
use Rattle.heads.proofs.Claims.{lent-claimed, in_head, head32-read}
use Rattle.pages.specs.Places.{Number}
use Rattle.pages.proofs.Begins.{begins-take, take_begins}
use Rattle.std.proofs.Common.{Option as Answer, Some, None}
use Rattle.std.proofs.lemmas.Option.{none-some, same_Some}
use Rattle.walks.specs.Found.{Open, unclaimed, Found, Decides, FindsAt}
use Rattle.walks.proofs.Founds.{SameAt, same_start, same_turn, finds-none, finds-done, found_none, claimable-open, unclaimed-claimed, length-claimed}
use Rattle.walks.proofs.Pieces.{Single, found-claimable, found-rest, found-cons, claim-done}
use Rattle.towers.specs.Climb.{level_at, AllAre, entry_at, Followed, next_span, Way, Linked, Reach, Tall, span_under, TowerFound, Placed, ClimbOn, Climb}
use Rattle.towers.proofs.Levels.{lowest-is}
use Rattle.towers.proofs.Ways.{next-is, reach-linked}

-- ---- One tower

pub tower-single : (img : List ℕ) (x : LinkedTower) → Single img (tower x) x.tower.page 2
unfolding tower_mark
tower-single img x = record { page = refl; mark = λ b. take_begins tower_mark (pg img x.tower.page) b.mark }

module _ (img scr : List ℕ) (lo hi n : ℕ) (r : Bool) (s : List ℕ) (c : Claimed img scr n 2 r s) where
  module _ (e : r ≡ true) where
    module _ (h max : ℕ) (h-is : h ≡ be16 (pg img n) 10) (max-is : max ≡ be16 (pg img n) 8) (q : Bool) (d : Decides (Tall lo hi max h) q) where
      pub tower-not : q ≡ false → FindsAt Some (TowerFound img scr lo hi n) None s
      tower-not f =
          finds-none (same_start (TowerFound img scr lo hi n))
          (λ m t x. true≢false (sym (d.complete (rw (max-is, h-is, ← x.height) x.tall)) ∙ f))

      pub tower-done : q ≡ true → FindsAt Some (TowerFound img scr lo hi n) (Some h) s
      tower-done f =
          let k : (claimable img scr n 2 ≡ true) × (s ≡ claimed scr n) = claim-done img scr n 2 r s c e in
          finds-done (same_start (TowerFound img scr lo hi n)) h
          (record { can = k.0; height = h-is; tall = subst (λ (x : ℕ). Tall lo hi x h) max-is (d.sound f); left = k.1 })
          (λ m t x. (h-is ∙ sym x.height, k.1 ∙ sym x.left))

pub found-open : (img scr : List ℕ) (lo hi n m : ℕ) (out : List ℕ) → TowerFound img scr lo hi n m out → Open scr n
found-open img scr lo hi n m out f = (claimable-open img scr n 2 f.can).0

pub found-lent : (img scr : List ℕ) (lo hi n m : ℕ) (out : List ℕ) → TowerFound img scr lo hi n m out → Lent img scr → Lent img out
found-lent img scr lo hi n m out f l = let o = found-open img scr lo hi n m out f in subst (Lent img) (sym f.left) (lent-claimed n o.low o.high l)

-- its fields are in its head
pub found-in-head : {img scr : List ℕ} {lo hi n m : ℕ} {out : List ℕ} → TowerFound img scr lo hi n m out → Lent img scr → {o w : ℕ} → o + w ≤ 16 + 4 * (o / 16) → InHead out n o w
found-in-head f l fits =
    let o = found-open _ _ _ _ _ _ _ f in
    in_head (found-lent _ _ _ _ _ _ _ f l) o.low (omega (arith, o.high, l.room.size, l.room.whole)) fits

-- the span that it names, as the code reads it
pub found-span : {img scr : List ℕ} {lo hi n m : ℕ} {out : List ℕ} → TowerFound img scr lo hi n m out → Lent img scr
    → {most v : ℕ} → Number (head32 out n 12) most v → v ≡ span_under img n
found-span f l x = (head32-read (found-lent _ _ _ _ _ _ _ f l) (found-in-head f l (omega arith)) (omega arith) x).is

-- ---- A tower on its span

module _ (img scr : List ℕ) (top : ℕ) (levels : List ℕ) (p n : ℕ) (a : Answer ℕ) (s : List ℕ) (c : FindsAt Some (TowerFound img scr 1 top n) a s) where
  abbrev PlacedIs : Answer ℕ → Type 0
  PlacedIs r = FindsAt Some (Placed img scr top levels p n) r s

  placed-none : ((m : ℕ) (t : List ℕ) → Placed img scr top levels p n m t → ⊥) → PlacedIs None
  placed-none f = finds-none (same_start (Placed img scr top levels p n)) f

  module _ (h : ℕ) (e : a ≡ Some h) where
    module _ (span : ℕ) (span-is : span ≡ span_under img n) (q : Bool) (d : Decides (Reach img p span) q) where
      pub placed_off : q ≡ false → PlacedIs None
      placed_off f = placed-none (λ m t x. true≢false (sym (d.complete (subst (Reach img p) (sym span-is) x.reach)) ∙ f))

      module _ (b : Bool) (w : Decides (AllAre levels h n) b) where
        same-height : (m : ℕ) (t : List ℕ) → Placed img scr top levels p n m t → m ≡ h
        same-height m t x = same_Some m h (sym (c.complete m t x.found).0 ∙ e)

        pub placed-done : q ≡ true → b ≡ true → PlacedIs (Some h)
        placed-done f g =
            finds-done (same_start (Placed img scr top levels p n)) h
            (record { found = c.sound h e; reach = subst (Reach img p) span-is (d.sound f); expected = w.sound g })
            (λ m t x. (sym (same-height m t x), (c.complete m t x.found).1))

-- ---- The towers of columns

-- the first of the towers is the next one at the levels below its height
module _ (i : ℕ) (w : Tower) (ts : List Tower) where
  pub next-hit : i < w.height → next_at i (w ∷ ts) ≡ w.page
  next-hit l = rw (lt-ltb i w.height l)

  pub next-miss : w.height ≤ i → next_at i (w ∷ ts) ≡ next_at i ts
  next-miss l = rw (le-ltb i w.height l)

-- a tower on the span on page p, before the towers ts
abbrev pub raised : (p : ℕ) (ts : List Tower) → Tower → LinkedTower
raised p ts t = record { tower = t; span_page = p; nexts = map (λ i. next_at i ts) (from 0 t.height) }

-- the tower on page n, as its bytes have it
abbrev pub tower_at : (img : List ℕ) (n : ℕ) → Tower
tower_at img n = record { page = n; max_height = be16 (pg img n) 8; height = be16 (pg img n) 10 }

pub tower-bears : (img scr : List ℕ) (n : ℕ) (ts : List Tower) → claimable img scr n 2 ≡ true
    → ((i : ℕ) → i < be16 (pg img n) 10 → entry_at img n i ≡ next_at i ts) → Bears (pg img) (tower (raised (span_under img n) ts (tower_at img n)))
unfolding tower_mark
tower-bears img scr n ts e h =
    record {
      mark = begins-take tower_mark (pg img n) (claimable-open img scr n 2 e).1;
      max_height = refl;
      height = refl;
      span_page = refl;
      nexts = at-entries (pg img n) (λ i. next_at i ts) (be16 (pg img n) 10) h;
    }

-- a column by the page of its span, which is all that towers name of it
abbrev on_page : ℕ → Option Tower → Column
on_page q o = record { span = record { page = q; conts = []; entries = [] }; tower = o }

-- other levels that are the same below the top
pub climb-levels : (img scr : List ℕ) (top p : ℕ) (d e : ℕ → ℕ) (j : ℕ) → ((i : ℕ) → i < top → d i ≡ e i) → (m : ℕ) (out : List ℕ)
    → Climb img scr top p d j m out → Climb img scr top p e j m out
climb-levels img scr top p d e j a m out c =
    let o = c.on in
    record { rest = c.rest; on = record { way = o.way; tall = o.tall; expected = λ i l. sym (a i l) ∙ o.expected i l; found = o.found; total = o.total } }

module _ (img scr : List ℕ) (top : ℕ) (levels : List ℕ) (j m : ℕ) (out : List ℕ) where
  -- spans without towers before
  climb-way : (l : List ℕ) (p q : ℕ) → Way img p q l → Climb img scr top q (level_at levels) j m out → Climb img scr top p (level_at levels) j m out
  climb-way [] p q w c = subst (λ (x : ℕ). Climb img scr top x (level_at levels) j m out) (sym w) c
  climb-way (x ∷ l) p q (e, lo, hi, w) c =
      let d = climb-way l (next_span img x) q w c in
      let o = d.on in
      record { rest = on_page x none ∷ d.rest; on = record { way = (e, lo, hi, o.way); tall = o.tall; expected = o.expected; found = o.found; total = o.total } }

  climb-past : (p : ℕ) (s : Span) (cs : List Column) → ClimbOn img scr top p (level_at levels) j m out (record { span = s; tower = none } ∷ cs)
      → ClimbOn img scr top (next_span img s.page) (level_at levels) j m out cs
  climb-past p s cs o = record { way = o.way.3; tall = o.tall; expected = o.expected; found = o.found; total = o.total }

  -- a tower that is placed, before the others
  climb-to : (mid levels' : List ℕ) (p n k : ℕ) → Placed img scr top levels p n k mid → Followed img n k levels levels'
      → Climb img mid top (next_span img (span_under img n)) (level_at levels') (j + 1) m out → Climb img scr top p (level_at levels) j m out
  climb-to mid levels' p n k x f c =
      let w : Tower = tower_at img n in
      let ts : List Tower = towers_of c.rest in
      let q : ℕ = span_under img n in
      let h : k ≡ w.height = x.found.height in
      let g : k ≤ top = x.found.tall.high in
      let b : Bears (pg img) (tower (raised q ts w))
      = tower-bears img scr n ts x.found.can (λ i l. sym (f.below i (omega arith)) ∙ c.on.expected i (omega arith)) in
      climb-way x.reach.passed p q x.reach.way
      (record {
        rest = on_page q (some w) ∷ c.rest;
        on = record {
          way = (refl, x.reach.low, x.reach.high, c.on.way);
          tall = (subst (Tall 1 top w.max_height) h x.found.tall, c.on.tall);
          expected = λ i l. by_cases (dec_lt i k) (λ a. x.expected i a ∙ sym (next-hit i w ts (omega arith)))
              (λ a. sym (f.above i (omega arith)) ∙ c.on.expected i l ∙ sym (next-miss i w ts (omega arith)));
          found = found-cons img scr (tower (raised q ts w)) n 2 (tower-single img (raised q ts w)) (map tower (link_towers c.rest)) out x.found.can b
              (subst (λ (t : List ℕ). Found img t (map tower (link_towers c.rest)) out) x.found.left c.on.found);
          total = omega (arith, c.on.total);
        };
      })

  -- the first tower of a walk that finds one, and the others
  record First (p n : ℕ) : Type 0 where
    pub height : ℕ
    pub mid : List ℕ
    pub placed : Placed img scr top levels p n height mid
    pub more : (levels' : List ℕ) → Followed img n height levels levels' → Climb img mid top (next_span img (span_under img n)) (level_at levels') (j + 1) m out

  first-here : (p : ℕ) (s : Span) (w : Tower) (cs : List Column)
      → ClimbOn img scr top p (level_at levels) j m out (record { span = s; tower = some w } ∷ cs) → First p w.page
  first-here p s w cs o =
      let ts : List Tower = towers_of cs in
      let x : LinkedTower = raised s.page ts w in
      let ps : List Piece = map tower (link_towers cs) in
      let b : IsTower x (pg img w.page) = o.found.bears.0 in
      let t : Tall 1 top w.max_height w.height = o.tall.0 in
      let q : s.page ≡ span_under img w.page = sym b.span_page in
      record {
        height = w.height;
        mid = claimed scr w.page;
        placed = record {
          found = record {
            can = found-claimable img scr (tower x) w.page 2 (tower-single img x) ps out o.found;
            height = sym b.height;
            tall = subst (λ (y : ℕ). Tall 1 top y w.height) (sym b.max_height) t;
            left = refl;
          };
          reach = record {
            passed = [];
            way = o.way.0 ∙ q;
            low = subst (λ (y : ℕ). 1 ≤ y) q o.way.1;
            high = subst (λ (y : ℕ). 1024 * y ≤ length img) q o.way.2;
          };
          expected = λ i l. o.expected i (omega arith) ∙ next-hit i w ts l;
        };
        more = λ levels' f. record {
          rest = cs;
          on = record {
            way = subst (λ (y : ℕ). Way img (next_span img y) 0 (map (λ z. z.page) (spans_of cs))) q o.way.3;
            tall = o.tall.1;
            expected = λ i l. by_cases (dec_lt i w.height) (λ a. f.below i a ∙ entry-at (pg img w.page) (λ y. next_at y ts) w.height i b.nexts a)
                (λ a. f.above i (omega arith) ∙ o.expected i l ∙ next-miss i w ts (omega arith));
            found = found-rest img scr (tower x) w.page 2 (tower-single img x) ps out o.found;
            total = omega (arith, o.total);
          };
        };
      }

  first_past : (p x n : ℕ) → p ≡ x → 1 ≤ x → 1024 * x ≤ length img → First (next_span img x) n → First p n
  first_past p x n e lo hi f =
      let r : Reach img (next_span img x) (span_under img n) = f.placed.reach in
      record {
        height = f.height;
        mid = f.mid;
        placed = record {
          found = f.placed.found;
          reach = record { passed = x ∷ r.passed; way = (e, lo, hi, r.way); low = r.low; high = r.high };
          expected = f.placed.expected;
        };
        more = f.more;
      }

  module _ (n : ℕ) (is : level_at levels 0 ≡ n) where
    -- where a tower is expected at the lowest level, it is the first
    first-of : (n ≡ 0 → ⊥) → 1 ≤ top → (cs : List Column) (p : ℕ) → ClimbOn img scr top p (level_at levels) j m out cs → First p n
    first-of z low [] p o = absurd (z (sym is ∙ o.expected 0 low))
    first-of z low (c ∷ cs) p o = go c.tower o (first-of z low cs (next_span img c.span.page))
      where
        go : (t : Option Tower) → ClimbOn img scr top p (level_at levels) j m out (record { span = c.span; tower = t } ∷ cs)
            → (ClimbOn img scr top (next_span img c.span.page) (level_at levels) j m out cs → First (next_span img c.span.page) n) → First p n
        go none o ih = first_past p c.span.page n o.way.0 o.way.1 o.way.2 (ih (climb-past p c.span cs o))
        go (some w) o ih =
            let w-is : w.page ≡ n = sym (next-hit 0 w (towers_of cs) o.tall.0.low) ∙ sym (o.expected 0 low) ∙ is in
            subst (First p) w-is (first-here p c.span w cs o)

    -- where none is, there is none
    none_left : n ≡ 0 → (cs : List Column) (p : ℕ) → ClimbOn img scr top p (level_at levels) j m out cs → AllAre levels top 0 × ((j ≡ m) × (scr ≡ out))
    none_left z [] p o = (o.expected, (omega (arith, o.total), sym o.found.left))
    none_left z (c ∷ cs) p o = go c.tower o (none_left z cs (next_span img c.span.page))
      where
        go : (t : Option Tower) → ClimbOn img scr top p (level_at levels) j m out (record { span = c.span; tower = t } ∷ cs)
            → (ClimbOn img scr top (next_span img c.span.page) (level_at levels) j m out cs → AllAre levels top 0 × ((j ≡ m) × (scr ≡ out)))
            → AllAre levels top 0 × ((j ≡ m) × (scr ≡ out))
        go none o ih = ih (climb-past p c.span cs o)
        go (some w) o ih =
            let t : Tall 1 top w.max_height w.height = o.tall.0 in
            let a : Open scr w.page = o.found.fresh.0 in
            absurd (omega (arith, o.expected 0 (omega arith), next-hit 0 w (towers_of cs) t.low))

-- the walk ends where no level expects a tower
climb-end : (img scr : List ℕ) (top : ℕ) (levels : List ℕ) (p j : ℕ) → Linked img p → AllAre levels top 0 → Climb img scr top p (level_at levels) j j scr
climb-end img scr top levels p j k h =
    climb-way img scr top levels j j scr k.passed p 0 k.way
    (record { rest = []; on = record { way = refl; tall = tt; expected = h; found = found_none img scr; total = omega arith } })

-- the loop over the towers: the next one is on page n, its span is p or comes after it, and `count` are found
pub record Climbing (img scr₀ : List ℕ) (head top start : ℕ) (scr levels : List ℕ) (p count n : ℕ) : Type 0 where
  pub long : length scr ≡ length scr₀
  pub lent : Lent img scr
  pub wide : length levels ≡ 1024
  pub lowest : level_at levels 0 ≡ n
  pub topped : (n ≡ 0 → ⊥) → 1 ≤ top
  pub used : count + unclaimed scr ≡ 1 + unclaimed scr₀
  pub linked : Linked img p
  pub same : SameAt (Climb img scr top p (level_at levels) count) (Climb img scr₀ top start (entry_at img head) 1)

pub climbing-start : (img scr : List ℕ) (head top start : ℕ) (levels out : List ℕ) → Lent img scr → Linked img start → length levels ≡ 1024 → level_at levels 0 ≡ 0
    → Followed img head top levels out → (low : ℕ) → low ≡ be32 (pg out 1) 16 → Climbing img scr head top start scr out start 1 low
climbing-start img scr head top start levels out lent k w z f low e =
    record {
      long = refl;
      lent = lent;
      wide = f.long ∙ w;
      lowest = lowest-is out low e;
      topped = λ ne. by_cases (dec_lt 0 top) (λ l. l) (λ l. absurd (ne (sym (lowest-is out low e) ∙ f.above 0 (omega arith) ∙ z)));
      used = refl;
      linked = k;
      same = record {
        to = climb-levels img scr top start (level_at out) (entry_at img head) 1 (λ i l. f.below i l);
        back = climb-levels img scr top start (entry_at img head) (level_at out) 1 (λ i l. sym (f.below i l));
      };
    }

-- what the code needs of a turn that goes on: a tower of height k was claimed on page n
pub record Turn (img scr : List ℕ) (top n k : ℕ) (out : List ℕ) : Type 0 where
  pub low : 1 ≤ n
  pub high : 1024 * n ≤ length img
  pub lent : Lent img out
  pub span_low : 1 ≤ span_under img n
  pub span_high : 1024 * span_under img n ≤ length img
  pub tall : k ≤ top
  pub falls : unclaimed scr ≡ suc (unclaimed out)

-- the tower's fields are in its head, and the span that it names is read there
pub turn-in-head : {img scr : List ℕ} {top n k : ℕ} {out : List ℕ} → Turn img scr top n k out → {o w : ℕ} → o + w ≤ 16 + 4 * (o / 16) → InHead out n o w
turn-in-head t fits = in_head t.lent t.low t.high fits

pub turn-span : {img scr : List ℕ} {top n k : ℕ} {out : List ℕ} → Turn img scr top n k out → {most v : ℕ} → Number (head32 out n 12) most v → v ≡ span_under img n
turn-span t x = (head32-read t.lent (turn-in-head t (omega arith)) (omega arith) x).is

module _ (img scr₀ : List ℕ) (head top start : ℕ) (scr levels : List ℕ) (p count n : ℕ) (v : Climbing img scr₀ head top start scr levels p count n) where
  abbrev ClimbIs : Answer ℕ → List ℕ → Type 0
  ClimbIs r s = FindsAt Some (Climb img scr₀ top start (entry_at img head) 1) r s

  module _ (z : n ≡ 0) (r : Bool) (d : Decides (AllAre levels top 0) r) where
    only : (m : ℕ) (t : List ℕ) → Climb img scr top p (level_at levels) count m t → AllAre levels top 0 × ((count ≡ m) × (scr ≡ t))
    only m t c = none_left img scr top levels count m t n v.lowest z c.rest p c.on

    pub climbing-open : r ≡ false → ClimbIs None scr
    climbing-open e = finds-none v.same (λ m t c. true≢false (sym (d.complete (only m t c).0) ∙ e))

    pub climbing-end : r ≡ true → ClimbIs (Some count) scr
    climbing-end e =
        finds-done v.same count (climb-end img scr top levels p count v.linked (d.sound e)) (λ m t c. (only m t c).1)

  module _ (z : n ≡ 0 → ⊥) (a : Answer ℕ) (s : List ℕ) (b : FindsAt Some (Placed img scr top levels p n) a s) where
    first : (m : ℕ) (t : List ℕ) → Climb img scr top p (level_at levels) count m t → First img scr top levels count m t p n
    first m t c = first-of img scr top levels count m t n v.lowest z (v.topped z) c.rest p c.on

    pub climbing-no : a ≡ None → ClimbIs None s
    climbing-no e =
        finds-none v.same
        (λ m t c. let f = first m t c in none-some f.height (sym e ∙ (b.complete f.height f.mid f.placed).0))

    module _ (k : ℕ) (e : a ≡ Some k) where
      pub climbing-turn : Turn img scr top n k s
      climbing-turn =
          let x = b.sound k e in
          let o = found-open img scr 1 top n k s x.found in
          record {
            low = o.low;
            high = omega (arith, o.high, v.lent.room.size, v.lent.room.whole);
            lent = found-lent img scr 1 top n k s x.found v.lent;
            span_low = x.reach.low;
            span_high = x.reach.high;
            tall = x.found.tall.high;
            falls = unclaimed-claimed scr n o ∙ ap (λ (t : List ℕ). suc (unclaimed t)) (sym x.found.left);
          }

      same_next : (out : List ℕ) → Followed img n k levels out
          → SameAt (Climb img s top (next_span img (span_under img n)) (level_at out) (count + 1)) (Climb img scr top p (level_at levels) count)
      same_next out f =
          record {
            to = λ m t c. climb-to img scr top levels count m t s out p n k (b.sound k e) f c;
            back = λ m t c.
                let x = first m t c in
                let d = b.complete x.height x.mid x.placed in
                let h : k ≡ x.height = same_Some k x.height (sym e ∙ d.0) in
                subst (λ (y : List ℕ). Climb img y top (next_span img (span_under img n)) (level_at out) (count + 1) m t) (sym d.1)
                (x.more out (subst (λ (y : ℕ). Followed img n y levels out) h f));
          }

      pub climbing-next : (out : List ℕ) → Followed img n k levels out → (span next : ℕ) → span ≡ span_under img n → next ≡ head32 s span 12
          → (low : ℕ) → low ≡ be32 (pg img n) 16 → Climbing img scr₀ head top start s out next (count + 1) low
      climbing-next out f span next e₁ e₂ low l =
          let t = climbing-turn in
          let x = b.sound k e in
          rw (e₂, e₁, next-is t.lent (span_under img n) t.span_low t.span_high)
          (record {
            long = ap length x.found.left ∙ length-claimed scr n ∙ v.long;
            lent = t.lent;
            wide = f.long ∙ v.wide;
            lowest = f.below 0 (omega (arith, x.found.tall.low)) ∙ sym l;
            topped = λ _. v.topped z;
            used = omega (arith, t.falls, v.used);
            linked = reach-linked v.lent p (span_under img n) v.linked x.reach;
            same = same_turn (same_next out f) v.same;
          })
