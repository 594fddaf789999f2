-- A span's entries shared out over the span and, on a split, a new one; and the drawn pages shared out over both.
use Prim.Native.Nat.{ℕ, suc, ◌+◌, ◌-◌, ◌/◌, ◌≤◌, ◌<◌, min, max}
use native.Mathlib.Omega.{arith}
use mathlib.Core.Path.{◌≡◌, refl, ap, sym, ◌∙◌, subst}
use mathlib.Core.Bool.{Bool, true, false}
use mathlib.Core.List.{List, [], ◌∷◌, ◌++◌, map, append-nil, append_assoc}
use lib.ListN.{length, take, drop, length-take, length-drop, take-append-drop}
use lib.Seq.{take-add}
use lib.Dec.{ltb}
use borrow.Author.Tests.{lt-ltb, le-ltb, ltb-true, ltb-false}
use Rattle.blockfile.specs.Bytes.{Every, gather}
use Rattle.blockfile.specs.Layout.{Entry, Table, columns, spans_of, towers_of, tower_in, reached}
use Rattle.blockfile.specs.Order.{KeyRule, Within}
use Rattle.blockfile.specs.WellFormed.{TableOk}
use Rattle.blockfile.specs.Put.{Parts, new_height, parts, conts_wanted, span_wanted, tower_wanted, wanted_by, Shared, share, new_tower, new_column, new_columns}
use Rattle.laws.proofs.Positions.{reached-one}
use Rattle.laws.proofs.Places.{entries_in}
use Rattle.laws.proofs.Columns.{TowerOk, ColumnOk, head_ok}

-- ---- Parts

module _ (t : Table) (es : List Entry) where
  -- with at most max keys nothing moves
  pub parts-plain : length es ≤ t.span_size → parts t es ≡ record { stay = es; move = []; height = 0 }
  unfolding parts
  parts-plain h = rw (le-ltb t.span_size (length es) h)

  -- with more, the lower half, rounded up, stays
  pub parts-split : t.span_size < length es
      → parts t es
      ≡ record { stay = take ((length es + 1) / 2) es; move = drop ((length es + 1) / 2) es; height = new_height (length (columns t) + 1) t.head.max_height }
  unfolding parts
  parts-split h = rw (lt-ltb t.span_size (length es) h)

  -- a split or none
  pub parts-cases : {X : Type 0} → (length es ≤ t.span_size → X) → (t.span_size < length es → X) → X
  parts-cases {X} f g = go (ltb t.span_size (length es)) refl
    where
      go : (b : Bool) → ltb t.span_size (length es) ≡ b → X
      go true e = g (ltb-true t.span_size (length es) e)
      go false e = f (ltb-false t.span_size (length es) e)

  -- what stays and what moves are the entries
  pub parts_whole : (parts t es).stay ++ (parts t es).move ≡ es
  parts_whole =
      parts-cases (λ h. ap (λ (p : Parts). p.stay ++ p.move) (parts-plain h) ∙ append-nil es)
      (λ h. ap (λ (p : Parts). p.stay ++ p.move) (parts-split h) ∙ take-append-drop ((length es + 1) / 2) es)

-- the sizes of the two halves of n entries, one more than z
pub record Halves (z : ℕ) (p : Parts) : Type 0 where
  pub stay : Within 1 z (length p.stay)
  pub move : Within 1 z (length p.move)

halves : (z : ℕ) (es : List Entry) (h : ℕ) → 2 ≤ z → z < length es → length es ≤ z + 1
    → Halves z (record { stay = take ((length es + 1) / 2) es; move = drop ((length es + 1) / 2) es; height = h })
halves z es h a b c =
    let m : length (take ((length es + 1) / 2) es) ≡ min ((length es + 1) / 2) (length es) = length-take ((length es + 1) / 2) es in
    let d : length (drop ((length es + 1) / 2) es) ≡ length es - (length es + 1) / 2 = length-drop ((length es + 1) / 2) es in
    record { stay = first z (length es) (length (take ((length es + 1) / 2) es)) m a b c; move = second z (length es) (length (drop ((length es + 1) / 2) es)) d a b c }
  where
    first : (z n m : ℕ) → m ≡ min ((n + 1) / 2) n → 2 ≤ z → z < n → n ≤ z + 1 → Within 1 z m
    first z n m e a b c = omega arith

    second : (z n d : ℕ) → d ≡ n - (n + 1) / 2 → 2 ≤ z → z < n → n ≤ z + 1 → Within 1 z d
    second z n d e a b c = omega arith

low-height : (m most : ℕ) → new_height m most ≤ most
unfolding new_height
low-height m most = omega arith

module _ (r : KeyRule) (t : Table) (ok : TableOk r t) (es : List Entry) where
  -- on a split neither part is empty, and each has at most max keys
  pub split-halves : t.span_size < length es → length es ≤ t.span_size + 1 → Halves t.span_size (parts t es)
  split-halves h l = subst (Halves t.span_size) (sym (parts-split t es h)) (halves t.span_size es (new_height (length (columns t) + 1) t.head.max_height) ok.span_size.0 h l)

  -- what stays has at most max keys
  pub stay-fits : length es ≤ t.span_size + 1 → length (parts t es).stay ≤ t.span_size
  stay-fits l = parts-cases t es (λ h. subst (λ (p : Parts). length p.stay ≤ t.span_size) (sym (parts-plain t es h)) h) (λ h. (split-halves h l).stay.1)

  -- and some where there were some
  pub stay-filled : length es ≤ t.span_size + 1 → 1 ≤ length es → 1 ≤ length (parts t es).stay
  stay-filled l f = parts-cases t es (λ h. subst (λ (p : Parts). 1 ≤ length p.stay) (sym (parts-plain t es h)) f) (λ h. (split-halves h l).stay.0)

  -- what moves has at most max keys
  pub move-fits : length es ≤ t.span_size + 1 → length (parts t es).move ≤ t.span_size
  move-fits l = parts-cases t es (λ h. subst (λ (p : Parts). length p.move ≤ t.span_size) (sym (parts-plain t es h)) (omega arith)) (λ h. (split-halves h l).move.1)

  -- the new tower is no higher than the head may be
  pub height-fits : (parts t es).height ≤ t.head.max_height
  height-fits =
      parts-cases t es (λ h. subst (λ (p : Parts). p.height ≤ t.head.max_height) (sym (parts-plain t es h)) (omega arith))
      (λ h. subst (λ (p : Parts). p.height ≤ t.head.max_height) (sym (parts-split t es h)) (low-height (length (columns t) + 1) t.head.max_height))

-- ---- Pages

module _ (p : Parts) (ps : List ℕ) where
  -- the shares one after another are the first pages drawn
  pub share-all : (share p ps).conts ++ ((share p ps).span ++ (share p ps).tower) ≡ take (wanted_by p) ps
  unfolding share wanted_by
  share-all =
      sym (take-add (conts_wanted p + span_wanted p.move) (tower_wanted p) ps
      ∙ ap (λ (l : List ℕ). l ++ take (tower_wanted p) (drop (conts_wanted p + span_wanted p.move) ps)) (take-add (conts_wanted p) (span_wanted p.move) ps)
      ∙ append_assoc (take (conts_wanted p) ps) (take (span_wanted p.move) (drop (conts_wanted p) ps)) (take (tower_wanted p) (drop (conts_wanted p + span_wanted p.move) ps)))

  module _ (enough : wanted_by p ≤ length ps) where
    -- the span gets as many continuation pages as its entries reach
    pub share-conts : 1 + length (share p ps).conts ≡ reached p.stay
    unfolding share wanted_by
    share-conts = simp length-take (let k : 1 ≤ reached p.stay = reached-one p.stay in omega arith)

    -- the new span gets the pages it wants
    pub share-span : length (share p ps).span ≡ span_wanted p.move
    unfolding share wanted_by
    share-span = simp (length-take, length-drop) (omega arith)

    -- and so does its tower
    pub share-tower : length (share p ps).tower ≡ tower_wanted p
    unfolding share wanted_by
    share-tower = simp (length-take, length-drop) (omega arith)

-- a new span has entries, and as many pages as they reach; with no page for it there are none
wanted-some : (m : List Entry) (n : ℕ) → suc n ≡ span_wanted m → (1 ≤ length m) × (1 + n ≡ reached m)
wanted-some [] n e = absurd (omega arith)
wanted-some (x ∷ m) n e = (omega arith, omega arith)

wanted-none : (m : List Entry) → 0 ≡ span_wanted m → m ≡ []
wanted-none [] e = refl
wanted-none (x ∷ m) e = absurd (let k : 1 ≤ reached (x ∷ m) = reached-one (x ∷ m) in omega arith)

module _ (t : Table) (p : Parts) where
  -- the pages of the new span are its share
  pub new-span-pages : (qs ns : List ℕ) → gather (λ s. s.page ∷ s.conts) (spans_of (new_column t p qs ns)) ≡ qs
  new-span-pages [] ns = refl
  new-span-pages (q ∷ qs) ns = append-nil (q ∷ qs)

  -- the page of the new tower is its share
  pub new-tower-pages : (q : ℕ) (qs ns : List ℕ) → length ns ≤ 1 → map (λ w. w.page) (towers_of (new_column t p (q ∷ qs) ns)) ≡ ns
  new-tower-pages q qs [] l = refl
  new-tower-pages q qs (n ∷ []) l = refl
  new-tower-pages q qs (n ∷ m ∷ ns) l = absurd (omega arith)

  -- its entries are those that move
  new-entries : (qs ns : List ℕ) → length qs ≡ span_wanted p.move → entries_in (new_column t p qs ns) ≡ p.move
  new-entries [] ns e = sym (wanted-none p.move e)
  new-entries (q ∷ qs) ns e = append-nil p.move

  new-tower-ok : (ns : List ℕ) → TowerOk t.head → p.height ≤ t.head.max_height → Every TowerOk (tower_in (new_tower t p ns))
  new-tower-ok [] w l = tt
  new-tower-ok (n ∷ ns) w l = ((w.0, l), tt)

  new-tower-height : (h : ℕ) (ns : List ℕ) → length ns ≡ tower_wanted p → p.height ≤ h → Every (λ w. Within 1 h w.height) (tower_in (new_tower t p ns))
  new-tower-height h [] e l = tt
  new-tower-height h (n ∷ ns) e l = ((omega arith, l), tt)

  -- it keeps the rules
  new_ok : (z h : ℕ) (qs ns : List ℕ) → length qs ≡ span_wanted p.move → length ns ≡ tower_wanted p → length p.move ≤ z → TowerOk t.head
      → p.height ≤ t.head.max_height → p.height ≤ h → Every (ColumnOk z h) (new_column t p qs ns)
  new_ok z h [] ns e f l w a b = tt
  new_ok z h (q ∷ qs) ns e f l w a b =
      let s : (1 ≤ length p.move) × (1 + length qs ≡ reached p.move) = wanted-some p.move (length qs) e in (
        record {
          span = record { size = l; reach = s.1 };
          filled = s.0;
          towers = new-tower-ok ns w a;
          heights = new-tower-height h ns f b;
        },
        tt,
      )

-- ---- What the rewriting of a span has to fit

-- of entries in parts and pages shared out: the sizes, the pages and the rules of what is new
pub record Fits (t : Table) (p : Parts) (s : Shared) : Type 0 where
  pub size : length p.stay ≤ t.span_size
  pub reach : 1 + length s.conts ≡ reached p.stay
  pub low : p.height ≤ t.head.max_height
  pub new : Every (ColumnOk t.span_size (max t.head.height p.height)) (new_columns t p s)
  pub moved : entries_in (new_columns t p s) ≡ p.move

-- entries at most one more than max keys, in parts, with enough pages shared out, fit
pub parts-fit : (r : KeyRule) (t : Table) → TableOk r t → (es : List Entry) → length es ≤ t.span_size + 1
    → (ps : List ℕ) → wanted_by (parts t es) ≤ length ps → Fits t (parts t es) (share (parts t es) ps)
parts-fit r t ok es l ps e =
    let p : Parts = parts t es in
    let s : Shared = share p ps in
    record {
      size = stay-fits r t ok es l;
      reach = share-conts p ps e;
      low = height-fits r t ok es;
      new =
          new_ok t p t.span_size (max t.head.height p.height) s.span s.tower (share-span p ps e) (share-tower p ps e) (move-fits r t ok es l) (head_ok r t ok)
          (height-fits r t ok es) (omega arith);
      moved = new-entries t p s.span s.tower (share-span p ps e);
    }

-- with at most max keys there is no new column
pub plain-new : (t : Table) (es : List Entry) → length es ≤ t.span_size → (ps : List ℕ) → new_columns t (parts t es) (share (parts t es) ps) ≡ []
unfolding share
plain-new t es l ps = rw (parts-plain t es l)

-- and only continuation pages are wanted
pub plain-wanted : (t : Table) (es : List Entry) → length es ≤ t.span_size → wanted_by (parts t es) ≡ reached es - 1
unfolding wanted_by
plain-wanted t es l = rw (parts-plain t es l) (omega arith)

-- on a split there is one: its page and its continuation pages are as many as its entries reach
pub record Split (t : Table) (p : Parts) (s : Shared) : Type 0 where
  pub page : ℕ
  pub conts : List ℕ
  pub pages : s.span ≡ page ∷ conts
  pub reach : 1 + length conts ≡ reached p.move
  pub column : new_columns t p s ≡ record { span = record { page = page; conts = conts; entries = p.move }; tower = new_tower t p s.tower } ∷ []

-- a split makes one column
pub split-new : (r : KeyRule) (t : Table) → TableOk r t → (es : List Entry) → t.span_size < length es → length es ≤ t.span_size + 1
    → (ps : List ℕ) → wanted_by (parts t es) ≤ length ps → Split t (parts t es) (share (parts t es) ps)
split-new r t ok es h l ps e = one (share (parts t es) ps).span refl (share-span (parts t es) ps e)
  where
    one : (qs : List ℕ) → (share (parts t es) ps).span ≡ qs → length qs ≡ span_wanted (parts t es).move → Split t (parts t es) (share (parts t es) ps)
    one [] g f =
        absurd
        (let m : Within 1 t.span_size (length (parts t es).move) = (split-halves r t ok es h l).move in
        let z : length (parts t es).move ≡ 0 = ap length (wanted-none (parts t es).move f) in
        omega arith)
    one (q ∷ qs) g f =
        record {
          page = q;
          conts = qs;
          pages = g;
          reach = (wanted-some (parts t es).move (length qs) f).1;
          column = ap (λ (ns : List ℕ). new_column t (parts t es) ns (share (parts t es) ps).tower) g;
        }
