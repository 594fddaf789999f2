-- The tower of a span, by the last towers before it: the next tower is the span's own, or names another span.
use Prim.Native.Nat.{ℕ, suc, ◌+◌, ◌*◌, ◌≤◌, ◌<◌}
use native.Mathlib.Omega.{arith}
use native.Mathlib.Decide.{dec_lt}
use mathlib.Core.Path.{◌≡◌, ap, sym, ◌∙◌, subst}
use mathlib.Core.Logic.{◌≢◌, ◌⊎◌, inl, inr, by_cases}
use mathlib.Core.Bool.{Bool, cond}
use mathlib.Core.Option.{some}
use mathlib.Core.List.{List, [], ◌∷◌, ◌++◌, append-nil}
use lib.ListN.{length, get_or, take, drop, length-drop}
use lib.Seq.{drop-cons, get_or-drop}
use borrow.Author.Tests.{lt-ltb}
use Rattle.std.specs.Prelude.{Some, None}
use Rattle.std.proofs.lemmas.Option.{none-some, same_Some}
use Rattle.blockfile.specs.Bytes.{pg, be16, be32, Every}
use Rattle.blockfile.specs.Layout.{Span, Tower, Column, columns, spans_of, towers_of, tower_in}
use Rattle.blockfile.specs.Order.{Within}
use Rattle.blockfile.specs.WellFormed.{next_at}
use Rattle.blockfile.specs.Put.{span_at}
use Rattle.blockfile.specs.Remove.{towers_at}
use Rattle.laws.proofs.Places.{column_at, span-at, drop-map}
use Rattle.pages.specs.Places.{Inside}
use Rattle.entries.specs.Places.{IsPage}
use Rattle.search.specs.Tables.{Reading}
use Rattle.search.proofs.Distinct.{one_place}
use Rattle.search.proofs.Towers.{AllBorne, entry_here, towers-from, others-from}
use Rattle.links.specs.Levels.{Preceded, TowerHere, TowerAt}
use Rattle.links.proofs.Standing.{Stands, next-stands, Own, own-or-not, before-page}
use Rattle.links.proofs.Behind.{leads}

module _ {img : List ℕ} {root : ℕ} {t : Reading img root} {page k : ℕ} {levels : List ℕ} (a : Preceded t page k levels) where
  abbrev top : ℕ
  top = t.table.head.height

  abbrev here : Column
  here = column_at t.table (suc k)

  abbrev behind : List Column
  behind = drop (suc (suc k)) (columns t.table)

  from-here : drop (suc k) (columns t.table) ≡ here ∷ behind
  from-here = drop-cons (columns t.table) (suc k) (record { span = t.table.first; tower = some t.table.head }) a.at.there

  span-here : page ≡ here.span.page
  span-here = a.at.is ∙ ap (λ (s : Span). s.page) (span-at t.table (suc k))

  towers-here : towers_at t.table (suc k) ≡ tower_in here.tower
  towers-here = ap (λ (cs : List Column). towers_of (take 1 cs)) from-here ∙ append-nil (tower_in here.tower)

  own-here : (tower_in here.tower ≡ []) ⊎ Own img top here behind
  own-here =
      own-or-not img top here behind (subst (AllBorne img) from-here (towers-from t (suc k)))
      (subst (λ (cs : List Column). Every (λ w. Within 1 top w.height) (towers_of cs)) from-here (others-from t k))

  -- ---- No tower

  none-at : tower_in here.tower ≡ [] → TowerAt t (suc k) None
  none-at e =
      record { none = λ _. towers-here ∙ e; some = λ n z. absurd (none-some _ z) }

  -- a path without levels: the head has none, so there is no other tower
  pub flat-none : get_or levels 0 0 ≡ 0 → TowerAt t (suc k) None
  flat-none z = go own-here
    where
      go : (tower_in here.tower ≡ []) ⊎ Own img top here behind → TowerAt t (suc k) None
      go (inl e) = none-at e
      go (inr o) = absurd (omega (arith, z, (before-page t a.path.before 0 (omega (arith, o.range))).low))

  -- ---- The next tower

  module _ (z : get_or levels 0 0 ≡ 0 → ⊥) where
    tall : 0 < top
    tall = by_cases (dec_lt 0 top) (λ l. l) (λ l. absurd (z (a.path.none 0 (omega arith) (omega arith))))

    pub lowest-inside : Inside img (get_or levels 0 0) 16 4
    lowest-inside =
        let p : IsPage img (get_or levels 0 0) = before-page t a.path.before 0 tall in
        record { small = t.readable.small; low = p.low; high = p.high; fits = omega arith }

    module _ (n : ℕ) (e : n ≡ be32 (pg img (get_or levels 0 0)) 16) where
      next_here : n ≡ next_at 0 (tower_in here.tower ++ towers_of behind)
      next_here = e ∙ leads t k a.path.before 0 tall tall ∙ ap (λ (cs : List Column). next_at 0 (towers_of cs)) from-here

      -- the span's own tower is the next one
      own-next : (o : Own img top here behind) → n ≡ o.own.page
      own-next o =
          next_here ∙ ap (λ (ws : List Tower). next_at 0 (ws ++ towers_of behind)) o.has
          ∙ ap (λ (b : Bool). cond b o.own.page (next_at 0 (towers_of behind))) (lt-ltb 0 o.own.height o.range.0)

      own-span : (o : Own img top here behind) → be32 (pg img n) 12 ≡ page
      own-span o = ap (λ (p : ℕ). be32 (pg img p) 12) (own-next o) ∙ o.borne.0.span_page ∙ sym span-here

      none-next : tower_in here.tower ≡ [] → n ≡ next_at 0 (towers_of behind)
      none-next f = next_here ∙ ap (λ (ws : List Tower). next_at 0 (ws ++ towers_of behind)) f

      pub next-inside : (n ≡ 0 → ⊥) → Inside img n 12 4
      next-inside y =
          let from : List Column = drop (suc k) (columns t.table) in
          let is : n ≡ next_at 0 (towers_of from) = next_here ∙ ap (λ (cs : List Column). next_at 0 (towers_of cs)) (sym from-here) in
          let s : Stands img (next_at 0 (towers_of from)) from t.table.first = next-stands img t.table.first from (towers-from t (suc k)) (λ f. y (is ∙ f)) in
          let low : 1 ≤ n = rw is s.page.low in
          let high : 1024 * n ≤ length img = rw is s.page.high in
          record { small = t.readable.small; low = low; high = high; fits = omega arith }

      -- there is none, or it is another span's
      pub next-none : (n ≡ 0) ⊎ (be32 (pg img n) 12 ≢ page) → TowerAt t (suc k) None
      next-none y = go own-here y
        where
          go : (tower_in here.tower ≡ []) ⊎ Own img top here behind → (n ≡ 0) ⊎ (be32 (pg img n) 12 ≢ page) → TowerAt t (suc k) None
          go (inl f) y = none-at f
          go (inr o) (inl y) = absurd (omega (arith, own-next o, o.borne.1.0.low))
          go (inr o) (inr y) = absurd (y (own-span o))

      behind-at : (j : ℕ) → get_or (spans_of behind) j t.table.first ≡ span_at t.table (suc (suc k) + j)
      unfolding span_at
      behind-at j =
          ap (λ (ss : List Span). get_or ss j t.table.first) (sym (drop-map (λ c. c.span) (suc (suc k)) (columns t.table)))
          ∙ get_or-drop (suc (suc k)) (spans_of (columns t.table)) j t.table.first

      -- it is the span's own
      module _ (y : n ≡ 0 → ⊥) (f : be32 (pg img n) 12 ≡ page) where
        -- a tower of a later span names another page
        later : tower_in here.tower ≡ [] → ⊥
        later none =
            let s : Stands img (next_at 0 (towers_of behind)) behind t.table.first
            = next-stands img t.table.first behind (towers-from t (suc (suc k))) (λ g. y (none-next none ∙ g)) in
            let there : suc (suc k) + s.place < length (columns t.table) = omega (arith, s.there, length-drop (suc (suc k)) (columns t.table)) in
            let same : (span_at t.table (suc k)).page ≡ (span_at t.table (suc (suc k) + s.place)).page
            = sym a.at.is ∙ sym f ∙ ap (λ (p : ℕ). be32 (pg img p) 12) (none-next none) ∙ s.on ∙ ap (λ (x : Span). x.page) (behind-at s.place) in
            omega (arith, one_place t (suc k) (suc (suc k) + s.place) a.at.there there same)

        own : Own img top here behind
        own = go own-here
          where
            go : (tower_in here.tower ≡ []) ⊎ Own img top here behind → Own img top here behind
            go (inl none) = absurd (later none)
            go (inr o) = o

        height : be16 (pg img n) 10 ≡ own.own.height
        height = ap (λ (p : ℕ). be16 (pg img p) 10) (own-next own) ∙ own.borne.0.height

        owned : TowerHere t (suc k) n
        owned =
            record {
              page = subst (IsPage img) (sym (own-next own)) own.borne.1.0;
              tower = (own.own, towers-here ∙ own.has, own-next own, height);
              nexts = λ l m. ap (λ (p : ℕ). be32 (pg img p) (16 + 4 * l)) (own-next own)
                  ∙ entry_here img own.own here.span.page (towers_of behind) own.borne l (omega (arith, height));
              low = omega (arith, height, own.range);
            }

        pub next-own : TowerAt t (suc k) (Some n)
        next-own = record { none = λ z. absurd (none-some _ (sym z)); some = λ m z. subst (TowerHere t (suc k)) (same_Some _ _ z) owned }
