-- The way down the towers: which columns stand ahead on a level, each step, and the walk along the spans behind it.
use Prim.Native.Nat.{ℕ, zero, suc, ◌+◌, ◌*◌, ◌-◌, ◌≤◌, ◌<◌}
use native.Mathlib.Omega.{arith}
use native.Mathlib.Decide.{dec_lt, ℕ_discrete}
use mathlib.Core.Path.{◌≡◌, refl, ap, sym, ◌∙◌, subst}
use mathlib.Core.Logic.{◌⊎◌, inl, inr, by_cases}
use mathlib.Core.Bool.{Bool, true, false, cond, not, true≢false}
use mathlib.Core.Option.{Option, none, some}
use mathlib.Core.List.{List, [], ◌∷◌, ◌++◌, map}
use lib.ListN.{length, get_or, set, take, drop, replicate, length-map, length-append, length-drop, length-replicate, length-set, take-append-drop}
use lib.Seq.{get_or-take, get_or-drop, get_or-set_same, get_or-set_other, ext_get_or, length-take-le}
use lib.Dec.{ltb}
use borrow.Author.Tests.{ltb-true, ltb-false, lt-ltb, le-ltb}
use Rattle.blockfile.specs.Bytes.{pg, be16, be32, Every, from, padded}
use Rattle.blockfile.specs.Layout.{Entry, Span, Tower, Column, spans_of, towers_of, tower_in}
use Rattle.blockfile.specs.WellFormed.{tower, next_at, link_towers}
use Rattle.blockfile.specs.Put.{span_at, last_at}
use Rattle.blockfile.specs.Path.{begun, passed, path}
use Rattle.laws.proofs.Places.{column_at, span-at}
use Rattle.laws.proofs.Paths.{Cut, cut-begun, cut_later, passed-cut, table-cut}
use Rattle.pages.specs.Places.{Inside}
use Rattle.entries.specs.Places.{IsPage}
use Rattle.search.specs.declared.span.Bound.{Bound}
use Rattle.search.specs.declared.table.TableRef.{TableRef}
use Rattle.search.specs.declared.path.Path.{Path}
use Rattle.search.specs.Spans.{FilledBy, Borne, OverOn}
use Rattle.search.specs.Tables.{Reading, ReadingBy}
use Rattle.search.specs.Paths.{Filled, Way, PathIn, Ahead, Refused, Judged, LowestIn}
use Rattle.search.proofs.Tables.{ordered, reading-spans, said_at, reading-filled}
use Rattle.search.proofs.Distinct.{page_at, places}
use Rattle.search.proofs.Towers.{linked, entry_here, AllBorne, towers-from, head-tall, head-borne, reading-head}

-- ---- The next tower on a level, where the columns `todo` and then `far` are ahead

module _ (img : List ℕ) (N F : Column → Type 0) (l : ℕ) (far : List Column) where
  -- it is n, of one of the near columns, whose towers are ts
  record Move (ts : List Tower) (many n : ℕ) : Type 0 where
    column : Column
    own : Tower
    more : List Column
    page : n ≡ own.page
    tall : l < own.height
    on : Borne img (tower (linked own column.span.page (towers_of (more ++ far))))
    rest : AllBorne img (more ++ far)
    this : N column
    near : Every N more
    last : (m p : ℕ) → m < own.height → last_at m p ts ≡ last_at m own.page (towers_of more)
    fewer : length more < many

  -- it is n, of one of the far columns
  record Other (n : ℕ) : Type 0 where
    column : Column
    page : IsPage img n
    on : be32 (pg img n) 12 ≡ column.span.page
    this : F column

  -- none of the near columns has a tower on the level
  record Stay (ts : List Tower) (n : ℕ) : Type 0 where
    last : (m p : ℕ) → l ≤ m → last_at m p ts ≡ p
    other : (n ≡ 0 → ⊥) → Other n

  others : (cs : List Column) → AllBorne img cs → Every F cs → (next_at l (towers_of cs) ≡ 0 → ⊥) → Other (next_at l (towers_of cs))
  others [] b f z = absurd (z refl)
  others (c ∷ cs) b f z = go c.tower b z (others cs)
    where
      go : (o : Option Tower) → Every (λ x. Borne img (tower x)) (map (λ t. linked t c.span.page (towers_of cs)) (tower_in o) ++ link_towers cs)
          → (next_at l (tower_in o ++ towers_of cs) ≡ 0 → ⊥)
          → (AllBorne img cs → Every F cs → (next_at l (towers_of cs) ≡ 0 → ⊥) → Other (next_at l (towers_of cs)))
          → Other (next_at l (tower_in o ++ towers_of cs))
      go none b z ih = ih b f.1 z
      go (some w) b z ih = by (ltb l w.height) z
        where
          by : (v : Bool) → (cond v w.page (next_at l (towers_of cs)) ≡ 0 → ⊥) → Other (cond v w.page (next_at l (towers_of cs)))
          by true z = record { column = c; page = b.0.1.0; on = b.0.0.span_page; this = f.0 }
          by false z = ih b.1 f.1 z

  abbrev Either : (ts : List Tower) (many n : ℕ) → Type 0
  Either ts many n = Move ts many n ⊎ Stay ts n

  -- with one column more before them
  move-on : {ts : List Tower} {many n : ℕ} (us : List Tower) (f : (i p : ℕ) → ℕ) → ((i p : ℕ) → last_at i p us ≡ last_at i (f i p) ts) → Move ts many n → Move us (suc many) n
  move-on us f e m =
      record {
        column = m.column;
        own = m.own;
        more = m.more;
        page = m.page;
        tall = m.tall;
        on = m.on;
        rest = m.rest;
        this = m.this;
        near = m.near;
        last = λ i p h. e i p ∙ m.last i (f i p) h;
        fewer = omega (arith, m.fewer);
      }

  ahead : (todo : List Column) → AllBorne img (todo ++ far) → Every N todo → Every F far → Either (towers_of todo) (length todo) (next_at l (towers_of (todo ++ far)))
  ahead [] b n f = inr (record { last = λ m p h. refl; other = others far b f })
  ahead (c ∷ cs) b n f = go c.tower b (ahead cs)
    where
      go : (o : Option Tower) → Every (λ x. Borne img (tower x)) (map (λ t. linked t c.span.page (towers_of (cs ++ far))) (tower_in o) ++ link_towers (cs ++ far))
          → (AllBorne img (cs ++ far) → Every N cs → Every F far → Either (towers_of cs) (length cs) (next_at l (towers_of (cs ++ far))))
          → Either (tower_in o ++ towers_of cs) (suc (length cs)) (next_at l (tower_in o ++ towers_of (cs ++ far)))
      go none b ih = wider (ih b n.1 f)
        where
          wider : Either (towers_of cs) (length cs) (next_at l (towers_of (cs ++ far))) → Either (towers_of cs) (suc (length cs)) (next_at l (towers_of (cs ++ far)))
          wider (inl m) = inl (move-on (towers_of cs) (λ i p. p) (λ i p. refl) m)
          wider (inr s) = inr s
      go (some w) b ih = by (ltb l w.height) refl
        where
          low : ltb l w.height ≡ false → Either (towers_of cs) (length cs) (next_at l (towers_of (cs ++ far))) → Either (w ∷ towers_of cs) (suc (length cs)) (next_at l (towers_of (cs ++ far)))
          low e (inl m) = inl (move-on (w ∷ towers_of cs) (λ i p. cond (ltb i w.height) w.page p) (λ i p. refl) m)
          low e (inr s) =
              inr (record {
                last = λ m p h. ap (λ (v : Bool). last_at m (cond v w.page p) (towers_of cs)) (le-ltb m w.height (omega (arith, ltb-false l w.height e))) ∙ s.last m p h;
                other = s.other;
              })

          by : (v : Bool) → ltb l w.height ≡ v → Either (w ∷ towers_of cs) (suc (length cs)) (cond v w.page (next_at l (towers_of (cs ++ far))))
          by true e =
              inl (record {
                column = c;
                own = w;
                more = cs;
                page = refl;
                tall = ltb-true l w.height e;
                on = b.0;
                rest = b.1;
                this = n.0;
                near = n.1;
                last = λ m p h. ap (λ (v : Bool). last_at m (cond v w.page p) (towers_of cs)) (lt-ltb m w.height h);
                fewer = omega arith;
              })
          by false e = low e (ih b.1 n.1 f)

-- ---- Zeros and numbers

numbered-at : (f : ℕ → ℕ) (i n l : ℕ) (zs : List ℕ) → l < n → get_or (map f (from i n) ++ zs) l 0 ≡ f (i + l)
numbered-at f i zero l zs h = absurd (omega arith)
numbered-at f i (suc n) zero zs h = let e : i ≡ i + 0 = omega arith in ap f e
numbered-at f i (suc n) (suc l) zs h = let e : suc i + l ≡ i + suc l = omega arith in numbered-at f (suc i) n l zs (omega arith) ∙ ap f e

pub zeros-behind : (ns : List ℕ) (m l : ℕ) → length ns ≤ l → get_or (ns ++ replicate m 0) l 0 ≡ 0
zeros-behind [] zero l h = refl
zeros-behind [] (suc m) zero h = refl
zeros-behind [] (suc m) (suc l) h = zeros-behind [] m l (omega arith)
zeros-behind (n ∷ ns) m zero h = absurd (omega arith)
zeros-behind (n ∷ ns) m (suc l) h = zeros-behind ns m l (omega arith)

length_from : (i n : ℕ) → length (from i n) ≡ n
length_from i zero = refl
length_from i (suc n) = ap suc (length_from (suc i) n)

-- ---- The columns behind the first, cut where their spans no longer begin so

every-known : (R : Column → Type 0) (d : Column) (cs : List Column) → ((i : ℕ) → i < length cs → R (get_or cs i d)) → Every R cs
every-known R d [] h = tt
every-known R d (c ∷ cs) h = (h 0 (omega arith), every-known R d cs (λ i l. h (suc i) (omega arith)))

module _ {img : List ℕ} {d : TableRef} (x : ReadingBy img d) (k : List ℕ) (strict : Bool) where
  abbrev t : Reading img d.root
  t = x.of

  abbrev so : List Entry → Bool
  so = begun strict t.rule k

  abbrev bound : Bound
  bound = record { sort = d.sort; strict = strict }

  abbrev spans : List Span
  spans = spans_of t.table.rest

  abbrev pub goal : ℕ
  goal = (table-cut t.rule (ordered t) k t.table t.readable.ok strict).0

  pub cut : Cut so spans goal
  cut = (table-cut t.rule (ordered t) k t.table t.readable.ok strict).1

  abbrev pub near_of : List Column
  near_of = take goal t.table.rest

  abbrev pub far_of : List Column
  far_of = drop goal t.table.rest

  many : length spans ≡ length t.table.rest
  many = length-map t.table.rest (λ c. c.span)

  goal-most : goal ≤ length t.table.rest
  goal-most = omega (arith, cut.most, many)

  -- a column's span is one of the table's, and b says whether it begins past the bound
  pub record Known (b : Bool) (c : Column) : Type 0 where
    pub place : ℕ
    pub there : suc place < places t
    pub is : c.span.page ≡ page_at t (suc place)
    pub test : not (begun strict t.rule k (span_at t.table (suc place)).entries) ≡ b

  known_at : (b : Bool) (i : ℕ) → suc i < places t → not (begun strict t.rule k (span_at t.table (suc i)).entries) ≡ b → Known b (column_at t.table (suc i))
  known_at b i h e = record { place = i; there = h; is = ap (λ (s : Span). s.page) (sym (span-at t.table (suc i))); test = e }

  over-near : (i : ℕ) → i < goal → not (begun strict t.rule k (span_at t.table (suc i)).entries) ≡ false
  unfolding span_at
  over-near i l = ap not (cut-begun spans goal t.table.first cut i l)

  over-far : (i : ℕ) → suc i < places t → goal ≤ i → not (begun strict t.rule k (span_at t.table (suc i)).entries) ≡ true
  unfolding span_at
  over-far i h l = ap not (cut_later spans goal t.table.first cut i l (omega (arith, many)))

  abbrev first_column : Column
  first_column = record { span = t.table.first; tower = some t.table.head }

  near-known : Every (Known false) near_of
  near-known =
      every-known (Known false) first_column near_of
      (λ i l.
      let h : i < goal = omega (arith, length-take-le goal t.table.rest goal-most) in
      subst (Known false) (sym (get_or-take goal t.table.rest i first_column h)) (known_at false i (omega (arith, goal-most)) (over-near i h)))

  far-known : Every (Known true) far_of
  far-known =
      every-known (Known true) first_column far_of
      (λ i l.
      let h : suc (goal + i) < places t = omega (arith, length-drop goal t.table.rest) in
      subst (Known true) (sym (get_or-drop goal t.table.rest i first_column)) (known_at true (goal + i) h (over-far (goal + i) h (omega arith))))

  -- what is said of every span on the column's page
  known-span : {b : Bool} {c : Column} → Known b c → (n : ℕ) → n ≡ c.span.page → FilledBy img n d.sort
  known-span y n e = reading-filled t y.place y.there n (e ∙ y.is) x.by

  known_over : {b : Bool} {c : Column} → Known b c → (n : ℕ) → n ≡ c.span.page → (v : Bool) → OverOn img n bound k v → v ≡ b
  known_over y n e v o = said_at t (suc y.place) y.there n (e ∙ y.is) x.by (λ r es. v ≡ not (begun strict r k es)) o.is ∙ y.test

  -- ---- The way so far: at a tower of height `level` or more, the columns `todo` being the near ones ahead

  pub record Going (here level left : ℕ) : Type 0 where
    pub own : Tower
    pub span_page : ℕ
    pub todo : List Column
    pub page : here ≡ own.page
    pub high : level ≤ own.height
    pub few : level ≤ 252
    pub on : Borne img (tower (linked own span_page (towers_of (todo ++ far_of))))
    pub rest : AllBorne img (todo ++ far_of)
    pub near : Every (Known false) todo
    pub same : (l : ℕ) → l < level → passed so t.table l ≡ last_at l here (towers_of todo)
    pub count : length todo ≤ left

  split : near_of ++ far_of ≡ t.table.rest
  split = take-append-drop goal t.table.rest

  pub going_start : (here level left : ℕ) → here ≡ be32 (pg img d.root) 12 → level ≡ be16 (pg img here) 10 → left ≡ be32 (pg img d.root) 20 → Going here level left
  going_start here level left e f g =
      let top : here ≡ t.table.head.page = e ∙ reading-head t in
      let tall : level ≡ t.table.head.height = f ∙ ap (λ (p : ℕ). be16 (pg img p) 10) top ∙ (head-borne t).0.height in
      record {
        own = t.table.head;
        span_page = t.table.first.page;
        todo = near_of;
        page = top;
        high = omega (arith, tall);
        few = omega (arith, tall, head-tall t);
        on = subst (λ (cs : List Column). Borne img (tower (linked t.table.head t.table.first.page (towers_of cs)))) (sym split) (head-borne t);
        rest = subst (AllBorne img) (sym split) (towers-from t 1);
        near = near-known;
        same = λ l h. passed-cut so t.table goal cut l ∙ ap (λ (p : ℕ). last_at l p (towers_of near_of)) (sym top);
        count = omega (arith, g, reading-spans t, length-take-le goal t.table.rest goal-most, goal-most);
      }

  -- a page of the image
  pub going-page : {here level left : ℕ} → Going here level left → IsPage img here
  going-page w = subst (IsPage img) (sym w.page) w.on.1.0

  module _ {here level left : ℕ} (w : Going here level left) where
    -- the entry of the level below, as the code counts its offset
    module _ (z : level ≡ 0 → ⊥) where
      below-offset : 12 + 4 * level ≡ 16 + 4 * (level - 1)
      below-offset = omega (arith, z)

      pub entry-below : (next : ℕ) → next ≡ be32 (pg img here) (12 + 4 * level) → next ≡ be32 (pg img here) (16 + 4 * (level - 1))
      entry-below next e = e ∙ ap (be32 (pg img here)) below-offset

      pub inside-below : Inside img here (16 + 4 * (level - 1)) 4 → Inside img here (12 + 4 * level) 4
      inside-below i = subst (λ (o : ℕ). Inside img here o 4) (sym below-offset) i

    -- what is read of level l, below the one where the way is
    module _ (l : ℕ) (m : l < level) where
      pub going-inside : Inside img here (16 + 4 * l) 4
      going-inside = let p : IsPage img here = going-page w in record { small = t.readable.small; low = p.low; high = p.high; fits = omega (arith, w.few) }

      module _ (next : ℕ) (e : next ≡ be32 (pg img here) (16 + 4 * l)) where
        next-is : next ≡ next_at l (towers_of (w.todo ++ far_of))
        next-is =
            e ∙ ap (λ (p : ℕ). be32 (pg img p) (16 + 4 * l)) w.page
            ∙ entry_here img w.own w.span_page (towers_of (w.todo ++ far_of)) w.on l (omega (arith, w.high))

        abbrev Moved : Type 0
        Moved = Move img (Known false) (Known true) l far_of (towers_of w.todo) (length w.todo) next

        abbrev Stayed : Type 0
        Stayed = Stay img (Known false) (Known true) l far_of (towers_of w.todo) next

        which : Moved ⊎ Stayed
        which =
            subst (λ (n : ℕ). Either img (Known false) (Known true) l far_of (towers_of w.todo) (length w.todo) n) (sym next-is)
            (ahead img (Known false) (Known true) l far_of w.todo w.rest w.near far-known)

        moved-names : (m : Moved) → be32 (pg img next) 12 ≡ m.column.span.page
        moved-names m = ap (λ (p : ℕ). be32 (pg img p) 12) m.page ∙ m.on.0.span_page

        pub going-ahead : Ahead img d.sort next
        going-ahead = go which
          where
            inside : IsPage img next → Inside img next 12 4
            inside p = record { small = t.readable.small; low = p.low; high = p.high; fits = omega arith }

            go : Moved ⊎ Stayed → Ahead img d.sort next
            go (inl m) =
                record {
                  inside = λ n. inside (subst (IsPage img) (sym m.page) m.on.1.0);
                  names = λ n. known-span m.this (be32 (pg img next) 12) (moved-names m);
                }
            go (inr s) =
                record {
                  inside = λ n. inside (s.other n).page;
                  names = λ n. known-span (s.other n).this (be32 (pg img next) 12) (s.other n).on;
                }

        stayed : Refused img bound k next → Stayed
        stayed r = go which r
          where
            go : Moved ⊎ Stayed → Refused img bound k next → Stayed
            go (inr s) r = s
            go (inl m) (inl n) = absurd (omega (arith, m.on.1.0.low, m.page))
            go (inl m) (inr o) = absurd (true≢false (known_over m.this (be32 (pg img next) 12) (moved-names m) true o))

        moved : (next ≡ 0 → ⊥) → OverOn img (be32 (pg img next) 12) bound k false → Moved
        moved n o = go which
          where
            go : Moved ⊎ Stayed → Moved
            go (inl m) = m
            go (inr s) = absurd (true≢false (sym (known_over (s.other n).this (be32 (pg img next) 12) (s.other n).on false o)))

        -- a level down: at the levels from l on, the way ends here
        pub going-passed : Refused img bound k next → (i : ℕ) → l ≤ i → i < level → here ≡ passed so t.table i
        going-passed r i a b = sym (w.same i b ∙ (stayed r).last i here a)

        -- a tower on
        module _ (n : next ≡ 0 → ⊥) (o : OverOn img (be32 (pg img next) 12) bound k false) where
          pub going-some : 1 ≤ left
          going-some = omega (arith, (moved n o).fewer, w.count)

          pub going_on : level ≡ suc l → Going next level (left - 1)
          going_on z =
              let y : Moved = moved n o in
              record {
                own = y.own;
                span_page = y.column.span.page;
                todo = y.more;
                page = y.page;
                high = omega (arith, y.tall);
                few = w.few;
                on = y.on;
                rest = y.rest;
                near = y.near;
                same = λ i h. w.same i h ∙ y.last i here (omega (arith, y.tall)) ∙ ap (λ (p : ℕ). last_at i p (towers_of y.more)) (sym y.page);
                count = omega (arith, y.fewer, w.count);
              }

    pub going-down : (l : ℕ) → l ≤ level → Going here l left
    going-down l h =
        record {
          own = w.own;
          span_page = w.span_page;
          todo = w.todo;
          page = w.page;
          high = omega (arith, w.high);
          few = omega (arith, w.few);
          on = w.on;
          rest = w.rest;
          near = w.near;
          same = λ i a. w.same i (omega arith);
          count = w.count;
        }

  -- ---- The pages noted: those of the levels from `level` on

  pub record Noted (height level : ℕ) (pages : List ℕ) : Type 0 where
    pub low : level ≤ height
    pub long : length pages ≡ 252
    pub above : (l : ℕ) → level ≤ l → l < height → get_or pages l 0 ≡ passed so t.table l
    pub none : (l : ℕ) → height ≤ l → get_or pages l 0 ≡ 0

  pub noted-start : (height : ℕ) → Noted height height (replicate 252 0)
  noted-start height =
      record { low = omega arith; long = length-replicate {A = ℕ} 252 0; above = λ l a b. absurd (omega arith); none = λ l a. zeros-behind [] 252 l (omega arith) }

  module _ {height level : ℕ} {pages : List ℕ} (w : Noted height level pages) where
    -- the level below is noted
    pub noted_more : (l : ℕ) → level ≡ suc l → l < 252 → (here : ℕ) → here ≡ passed so t.table l → Noted height l (set pages l here)
    noted_more l z few here e =
        record {
          low = omega (arith, w.low);
          long = length-set pages l here ∙ w.long;
          above = λ i a b. by_cases (ℕ_discrete i l)
              (λ q. ap (λ (j : ℕ). get_or (set pages l here) j 0) q ∙ get_or-set_same pages l here 0 (omega (arith, w.long)) ∙ e ∙ ap (passed so t.table) (sym q))
              (λ q. get_or-set_other pages l i here 0 q ∙ w.above i (omega (arith, q)) b);
          none = λ i a. get_or-set_other pages l i here 0 (omega (arith, w.low)) ∙ w.none i a;
        }

    -- all levels below are
    pub noted-all : (here : ℕ) → ((l : ℕ) → l < level → here ≡ passed so t.table l) → {out : List ℕ} → Filled pages level (λ _. here) out → Noted height 0 out
    noted-all here e f =
        record {
          low = omega arith;
          long = f.long ∙ w.long;
          above = λ l a b. by_cases (dec_lt l level) (λ h. f.below l h ∙ e l h) (λ h. f.above l (omega arith) ∙ w.above l (omega arith) b);
          none = λ l a. f.above l (omega (arith, w.low)) ∙ w.none l a;
        }

  levels-many : length (map (passed so t.table) (from 0 t.table.head.height)) ≡ t.table.head.height
  levels-many = length-map (from 0 t.table.head.height) (passed so t.table) ∙ length_from 0 t.table.head.height

  path-long : length (padded 252 (path so t.table)) ≡ 252
  unfolding path
  path-long =
      let ns : List ℕ = map (passed so t.table) (from 0 t.table.head.height) in
      length-append ns (replicate (252 - length ns) 0) ∙ omega (arith, levels-many, head-tall t, length-replicate {A = ℕ} (252 - length ns) 0)

  path-at : (l : ℕ) → l < t.table.head.height → get_or (padded 252 (path so t.table)) l 0 ≡ passed so t.table l
  unfolding path
  path-at l h =
      let f : ℕ → ℕ = passed so t.table in
      let n : ℕ = t.table.head.height in
      let z : 0 + l ≡ l = omega arith in
      numbered-at f 0 n l (replicate (252 - length (map f (from 0 n))) 0) h ∙ ap f z

  path-none : (l : ℕ) → t.table.head.height ≤ l → get_or (padded 252 (path so t.table)) l 0 ≡ 0
  unfolding path
  path-none l h =
      let ns : List ℕ = map (passed so t.table) (from 0 t.table.head.height) in
      zeros-behind ns (252 - length ns) l (omega (arith, levels-many))

  pub noted-end : {height : ℕ} {pages : List ℕ} → Noted height 0 pages → height ≡ t.table.head.height → Way so t.table (record { pages = pages; height = height })
  noted-end {height} {pages} w e =
      record {
        pages = ext_get_or 0 pages (padded 252 (path so t.table)) (w.long ∙ sym path-long)
            (λ l h. by_cases (dec_lt l height)
            (λ b. w.above l (omega arith) b ∙ sym (path-at l (omega (arith, e))))
            (λ b. w.none l (omega arith) ∙ sym (path-none l (omega (arith, e)))));
        height = e;
      }

  -- ---- What is noted at a level

  pub way_at : (p : Path) → Way so t.table p → (l : ℕ) → l < p.height → get_or p.pages l 0 ≡ passed so t.table l
  way_at p w l h = ap (λ (ns : List ℕ). get_or ns l 0) w.pages ∙ path-at l (omega (arith, w.height))

  pub way-none : (p : Path) → Way so t.table p → (l : ℕ) → p.height ≤ l → get_or p.pages l 0 ≡ 0
  way-none p w l h = ap (λ (ns : List ℕ). get_or ns l 0) w.pages ∙ path-none l (omega (arith, w.height))

  pub way_long : (p : Path) → Way so t.table p → length p.pages ≡ 252
  way_long p w = ap length w.pages ∙ path-long

  -- at the lowest, which is 0 where there are no levels
  lowest : (p : Path) → Way so t.table p → (get_or p.pages 0 0 ≡ 0) ⊎ (get_or p.pages 0 0 ≡ passed so t.table 0)
  lowest p w = by_cases (dec_lt 0 p.height) (λ l. inr (way_at p w 0 l)) (λ l. inl (way-none p w 0 (omega arith)))

-- ---- refuses: its ways out

module _ (img : List ℕ) (bd : Bound) (k : List ℕ) (n : ℕ) where
  pub judged-none : n ≡ 0 → Judged img bd k n true
  judged-none z = record { stop = λ e. inl z; pass = λ e. absurd (true≢false e) }

  pub judged-again : (m : ℕ) → n ≡ m → Refused img bd k m → Judged img bd k n true
  judged-again m e r = record { stop = λ v. subst (Refused img bd k) (sym e) r; pass = λ v. absurd (true≢false v) }

  pub judged-over : (n ≡ 0 → ⊥) → (s : ℕ) → s ≡ be32 (pg img n) 12 → (b : Bool) → OverOn img s bd k b → Judged img bd k n b
  judged-over z s e b o =
      let there : OverOn img (be32 (pg img n) 12) bd k b = subst (λ (p : ℕ). OverOn img p bd k b) e o in
      record {
        stop = λ v. inr (subst (OverOn img (be32 (pg img n) 12) bd k) v there);
        pass = λ v. (z, subst (OverOn img (be32 (pg img n) 12) bd k) v there);
      }

-- ---- The lowest tower of a path

pub lowest-of : {img : List ℕ} {d : TableRef} {k : List ℕ} {strict : Bool} {p : Path} → PathIn img d k strict p → LowestIn img d k (get_or p.pages 0 0)
lowest-of {k = k} {strict = strict} {p = p} h = record { strict = strict; is = λ x. lowest x k strict p (h.is x) }
