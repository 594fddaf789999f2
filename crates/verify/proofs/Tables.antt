-- A table: its spans and its towers joined, and its skip-list page.
use Prim.Native.Nat.{ℕ, suc, ◌≤◌}
use mathlib.Core.Path.{◌≡◌, refl, ap, sym, ◌∙◌, subst}
use mathlib.Core.Bool.{Bool, true, false, true≢false}
use mathlib.Core.Option.{some}
use mathlib.Core.List.{List, ◌∷◌, ◌++◌, map}
use lib.ListN.{length, length-map}
use Rattle.blockfile.specs.Bytes.{pg, be16, be32, Every, gather}
use Rattle.blockfile.specs.Marks.{skip_mark}
use Rattle.blockfile.specs.Layout.{Span, Column, columns, spans_of, towers_of, entries_of}
use Rattle.blockfile.specs.Order.{Within}
use Rattle.blockfile.specs.Fields.{SkipList, IsSkipList}
use Rattle.blockfile.specs.WellFormed.{span, tower, skip_list, pages_of, link_spans, link_towers, spans_in, towers_in, skip_list_of}
use Rattle.heads.specs.Claims.{Lent, claimable, claimed, Claimed}
use Rattle.pages.proofs.Begins.{begins-take, take_begins}
use Rattle.std.proofs.Common.{Option as Answer, Some, None}
use Rattle.std.proofs.lemmas.Option.{none-some, same_Some}
use Rattle.walks.specs.Found.{claims, Found, FindsAt}
use Rattle.walks.proofs.Founds.{same_start, finds-none, finds-done, found-join, found_first, found-second, found-lent, claimable-open}
use Rattle.walks.proofs.Pieces.{Single, found-claimable, found-rest, found-cons, claim-done, claim-not}
use Rattle.spans.specs.declared.Counted.{Counted}
use Rattle.order.specs.declared.sort.Sort.{Sort}
use Rattle.order.specs.Sorts.{rule_as}
use Rattle.spans.specs.Spans.{entries_in, SpansOk, SpansFound}
use Rattle.towers.specs.Towers.{Spanned, HasSpans, TowersFound}
use Rattle.towers.proofs.Heads.{spans-found}
use Rattle.verify.specs.declared.table.Tally.{Tally}
use Rattle.verify.specs.Tables.{CountsAre, TableFound, ColumnsFound}

-- ---- Spans and towers

module _ (sort : Sort) (img scr : List ℕ) (lent : Lent img scr) (root z : ℕ) (range : Within 2 128 z) where
  abbrev Cols : Tally → List ℕ → Type 0
  Cols = ColumnsFound sort img scr root z

  none : (s : List ℕ) → ((a : Tally) (t : List ℕ) → Cols a t → ⊥) → FindsAt Some Cols None s
  none s n = finds-none (same_start Cols) n

  -- the spans of columns that are found
  spans-of : (a : Tally) (t : List ℕ) (c : Cols a t)
      → SpansFound sort img scr z (be32 (pg img root) 8) (record { keys = a.keys; spans = a.spans }) (claims scr (gather pages_of (map span (spans_in c.table))))
  spans-of a t c =
      record {
        first = c.table.first;
        others = spans_of c.table.rest;
        named = sym c.first;
        ok =
            record {
              sizes = subst (λ (n : ℕ). Every (λ (s : Span). length s.entries ≤ n) (spans_of (columns c.table))) c.size c.ok.sizes;
              filled = c.ok.filled;
              reach = c.ok.reach;
              keys = c.ok.keys;
              values = c.ok.values;
              rising = c.ok.rising;
            };
        found = subst (λ (n : ℕ). Found img scr (map span (link_spans n 0 (spans_of (columns c.table)))) (claims scr (gather pages_of (map span (spans_in c.table))))) c.size
            (found_first img scr (map span (spans_in c.table)) (map tower (towers_in c.table)) t c.found);
        keys_are = c.keys_are;
        spans_are = c.spans_are ∙ sym (length-map (columns c.table) (λ (x : Column). x.span));
      }

  module _ (n : ℕ) (is : n ≡ be32 (pg img root) 8) (r : Answer Counted) (s : List ℕ) (f' : FindsAt Some (SpansFound sort img scr z n) r s) where
    f : FindsAt Some (SpansFound sort img scr z (be32 (pg img root) 8)) r s
    f = subst (λ (q : ℕ). FindsAt Some (SpansFound sort img scr z q) r s) is f'

    pub columns-no-spans : r ≡ None → FindsAt Some Cols None s
    columns-no-spans e =
        none s (λ a t c. none-some _ (sym e ∙ (f.complete _ _ (spans-of a t c)).0))

    module _ (k : Counted) (e : r ≡ Some k) where
      found : SpansFound sort img scr z (be32 (pg img root) 8) k s
      found = f.sound k e

      -- what the walk over the towers asks
      pub spans-there : HasSpans img n × Lent img s
      spans-there =
          let x = found in (
            record {
              span_size = z;
              start = x.first;
              others = x.others;
              spanned = spans-found img scr s n z x.first x.others lent x.found (x.named ∙ sym is);
            },
            found-lent lent x.found,
          )

      module _ (hd : ℕ) (on : hd ≡ be32 (pg img root) 12) (w : Answer ℕ) (t : List ℕ)
          (g' : (z : ℕ) (x : Span) (others : List Span) → Spanned img n z x others → FindsAt Some (TowersFound img s hd x others) w t) where
        g : (z : ℕ) (x : Span) (others : List Span) → Spanned img n z x others → FindsAt Some (TowersFound img s (be32 (pg img root) 12) x others) w t
        g z x others h = subst (λ (q : ℕ). FindsAt Some (TowersFound img s q x others) w t) on (g' z x others h)

        -- the towers of columns that are found
        towers-of : (a : Tally) (u : List ℕ) (c : Cols a u) → (s ≡ claims scr (gather pages_of (map span (spans_in c.table))))
            → TowersFound img s (be32 (pg img root) 12) c.table.first (spans_of c.table.rest) a.levels u
        towers-of a u c q =
            record {
              top = c.table.head;
              rest = c.table.rest;
              named = sym c.level;
              stands = refl;
              heights = c.ok.heights;
              lower = c.ok.others;
              found = subst (λ (x : List ℕ). Found img x (map tower (towers_in c.table)) u) (sym q)
                  (found-second img scr (map span (spans_in c.table)) (map tower (towers_in c.table)) u c.found);
              total = c.levels_are;
            }

        towers-at : (a : Tally) (u : List ℕ) (c : Cols a u) → FindsAt Some (TowersFound img s (be32 (pg img root) 12) c.table.first (spans_of c.table.rest)) w t
        unfolding spans-of
        towers-at a u c =
            let x = spans-of a u c in
            g z c.table.first (spans_of c.table.rest)
            (spans-found img scr _ n z x.first x.others lent x.found (x.named ∙ sym is))

        pub columns-no-towers : w ≡ None → FindsAt Some Cols None t
        columns-no-towers h =
            none t (λ a u c. none-some _ (sym h ∙ ((towers-at a u c).complete _ _ (towers-of a u c (f.complete _ _ (spans-of a u c)).1)).0))

        -- both found are the columns
        joined : (m : ℕ) → w ≡ Some m → Cols (record { keys = k.keys; spans = k.spans; levels = m }) t
        joined m h =
            let x = found in
            let y : TowersFound img s (be32 (pg img root) 12) x.first x.others m t
            = (g z x.first x.others
            (spans-found img scr s n z x.first x.others lent x.found (x.named ∙ sym is))).sound m h in
            let o : SpansOk (rule_as sort) z x.first (spans_of y.rest) = subst (SpansOk (rule_as sort) z x.first) (sym y.stands) x.ok in
            record {
              table = record { root = root; span_size = z; first = x.first; head = y.top; rest = y.rest };
              named = refl;
              size = refl;
              first = sym x.named;
              level = sym y.named;
              ok =
                  record {
                    span_size = range;
                    sizes = o.sizes;
                    filled = o.filled;
                    reach = o.reach;
                    keys = o.keys;
                    values = o.values;
                    rising = o.rising;
                    heights = y.heights;
                    others = y.lower;
                  };
              found = found-join img scr (map span (link_spans z 0 (x.first ∷ spans_of y.rest))) (map tower (link_towers (record { span = x.first; tower = some y.top } ∷ y.rest))) s t
                  (subst (λ (ss : List Span). Found img scr (map span (link_spans z 0 (x.first ∷ ss))) s) (sym y.stands) x.found) y.found;
              keys_are = subst (λ (ss : List Span). k.keys ≡ length (entries_in (x.first ∷ ss))) (sym y.stands) x.keys_are;
              spans_are = subst (λ (ss : List Span). k.spans ≡ length (x.first ∷ ss)) (sym y.stands) x.spans_are ∙ ap suc (length-map y.rest (λ (c : Column). c.span));
              levels_are = y.total;
            }

        pub columns-done : (m : ℕ) → w ≡ Some m → FindsAt Some Cols (Some (record { keys = k.keys; spans = k.spans; levels = m })) t
        columns-done m h =
            finds-done (same_start Cols) (record { keys = k.keys; spans = k.spans; levels = m }) (joined m h) only
          where
            only : (a : Tally) (u : List ℕ) → Cols a u → (record { keys = k.keys; spans = k.spans; levels = m } ≡ a) × (t ≡ u)
            only a u c =
                let d = f.complete _ _ (spans-of a u c) in
                let v = (towers-at a u c).complete _ _ (towers-of a u c d.1) in
                let q : k ≡ record { keys = a.keys; spans = a.spans } = same_Some k _ (sym e ∙ d.0) in
                let n : m ≡ a.levels = same_Some m a.levels (sym h ∙ v.0) in
                ((λ j. record { keys = (q j).keys; spans = (q j).spans; levels = n j }), v.1)

-- ---- The skip-list page

skip-single : (img : List ℕ) (k : SkipList) → Single img (skip_list k) k.page 1
unfolding skip_mark
skip-single img k = record { page = refl; mark = λ b. take_begins skip_mark (pg img k.page) b.mark }

module _ (sort : Sort) (img scr : List ℕ) (root : ℕ) where
  abbrev Tab : ℕ → List ℕ → Type 0
  Tab = TableFound sort img scr root

  no_table : (s : List ℕ) → ((m : ℕ) (t : List ℕ) → Tab m t → ⊥) → FindsAt Some Tab None s
  no_table s n = finds-none (same_start Tab) n

  on-root : (m : ℕ) (t : List ℕ) (f : Tab m t) → IsSkipList (skip_list_of f.table) (pg img root)
  on-root m t f = subst (λ (n : ℕ). IsSkipList (skip_list_of f.table) (pg img n)) f.named f.found.bears.0

  root-single : (m : ℕ) (t : List ℕ) (f : Tab m t) → Single img (skip_list (skip_list_of f.table)) root 1
  root-single m t f = subst (λ (n : ℕ). Single img (skip_list (skip_list_of f.table)) n 1) f.named (skip-single img (skip_list_of f.table))

  module _ (b : Bool) (s : List ℕ) (c : Claimed img scr root 1 b s) where
    pub table-no : b ≡ false → FindsAt Some Tab None s
    table-no e =
        no_table s (λ m t f. true≢false
        (sym (found-claimable img scr (skip_list (skip_list_of f.table)) root 1 (root-single m t f) (map span (spans_in f.table) ++ map tower (towers_in f.table)) t f.found)
        ∙ claim-not img scr root 1 b s c e))

    module _ (e : b ≡ true) where
      module _ (z : ℕ) (is : z ≡ be16 (pg img root) 28) (r : Answer Tally) (u : List ℕ)
          (g : FindsAt Some (ColumnsFound sort img s root z) r u) where
        -- the columns of a table that is found
        columns_of : (m : ℕ) (t : List ℕ) (f : Tab m t)
            → ColumnsFound sort img s root z
            (record { keys = length (entries_of f.table); spans = length (columns f.table); levels = length (towers_of (columns f.table)) }) t
        columns_of m t f =
            record {
              table = f.table;
              named = f.named;
              size = sym (on-root m t f).span_size ∙ sym is;
              first = (on-root m t f).first;
              level = (on-root m t f).level;
              ok = f.ok;
              found = subst (λ (x : List ℕ). Found img x (map span (spans_in f.table) ++ map tower (towers_in f.table)) t) (sym (claim-done img scr root 1 b s c e).1)
                  (found-rest img scr (skip_list (skip_list_of f.table)) root 1 (root-single m t f) (map span (spans_in f.table) ++ map tower (towers_in f.table)) t f.found);
              keys_are = refl;
              spans_are = refl;
              levels_are = refl;
            }

        pub table-broken : r ≡ None → FindsAt Some Tab None u
        table-broken h =
            no_table u (λ m t f. none-some _ (sym h ∙ (g.complete _ _ (columns_of m t f)).0))

        module _ (tally : Tally) (h : r ≡ Some tally) where
          -- a table that is found has these counts
          same-tally : (m : ℕ) (t : List ℕ) (f : Tab m t) → (tally.keys ≡ length (entries_of f.table)) × (tally.spans ≡ length (columns f.table)) × (tally.levels ≡ length (towers_of (columns f.table))) × (u ≡ t)
          same-tally m t f =
              let d = g.complete _ _ (columns_of m t f) in
              let q : tally ≡ _ = same_Some tally _ (sym h ∙ d.0) in
              (ap (λ (a : Tally). a.keys) q, ap (λ (a : Tally). a.spans) q, ap (λ (a : Tally). a.levels) q, d.1)

          pub table-miscounted : (CountsAre (pg img root) tally → ⊥) → FindsAt Some Tab None u
          table-miscounted n =
              no_table u (λ m t f.
              let x = same-tally m t f in
              let k = on-root m t f in
              n (record { size_is = k.size ∙ sym x.0; spans_is = k.spans ∙ sym x.1; levels_is = k.levels ∙ sym x.2 }))

          pub table_done : CountsAre (pg img root) tally → FindsAt Some Tab (Some tally.keys) u
          unfolding skip_mark
          table_done k =
              let d : (claimable img scr root 1 ≡ true) × (s ≡ claimed scr root) = claim-done img scr root 1 b s c e in
              let y = g.sound tally h in
              let w : IsSkipList (skip_list_of y.table) (pg img root) =
              record {
                mark = begins-take skip_mark (pg img root) (claimable-open img scr root 1 d.0).1;
                first = y.first;
                level = y.level;
                size = k.size_is ∙ y.keys_are;
                spans = k.spans_is ∙ y.spans_are;
                levels = k.levels_is ∙ y.levels_are;
                span_size = sym is ∙ sym y.size;
              } in
              finds-done (same_start Tab) tally.keys
              (record {
                table = y.table;
                named = y.named;
                ok = y.ok;
                found = found-cons img scr (skip_list (skip_list_of y.table)) root 1
                    (subst (λ (n : ℕ). Single img (skip_list (skip_list_of y.table)) n 1) y.named (skip-single img (skip_list_of y.table)))
                    (map span (spans_in y.table) ++ map tower (towers_in y.table)) u d.0
                    (subst (λ (n : ℕ). IsSkipList (skip_list_of y.table) (pg img n)) (sym y.named) w)
                    (subst (λ (x : List ℕ). Found img x (map span (spans_in y.table) ++ map tower (towers_in y.table)) u) d.1 y.found);
                keys = y.keys_are;
              })
              (λ m t f. let x = same-tally m t f in (x.0 ∙ sym f.keys, x.3))
