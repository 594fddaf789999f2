-- Put on a table: the map gets the key's value, and the table keeps its rules.
use Prim.Native.Nat.{ℕ, suc, ◌+◌, ◌≤◌, ◌<◌}
use native.Mathlib.Omega.{arith}
use mathlib.Core.Path.{◌≡◌, ap, sym, ◌∙◌, subst}
use mathlib.Core.Bool.{Bool, true, false, cond}
use mathlib.Core.List.{List, ◌++◌}
use lib.ListN.{length}
use lib.Dec.{T}
use Rattle.blockfile.specs.Layout.{Entry, Table, columns, entries_of}
use Rattle.blockfile.specs.Order.{KeyRule, find, insert, there}
use Rattle.blockfile.specs.WellFormed.{TableOk}
use Rattle.blockfile.specs.Put.{target, span_at, parts, wanted_by, share, table_after}
use Rattle.blockfile.proofs.Bools.{so}
use Rattle.laws.proofs.Orders.{Ordered}
use Rattle.laws.proofs.Middle.{insert-count, insert-some}
use Rattle.laws.proofs.Places.{entries_before, entries_after}
use Rattle.laws.proofs.Targets.{Target, target_is, find_at, insert-at, span-rising}
use Rattle.laws.proofs.Columns.{EntriesOk, entries-ok, insert-ok, span-ok}
use Rattle.laws.proofs.Splits.{parts_whole, parts-fit, stay-filled}
use Rattle.laws.proofs.Rewritten.{entries-after, after-ok}

-- the table once its span at place i has the entries es, with these pages drawn
abbrev pub table_with : Table → (i : ℕ) (es : List Entry) (drawn : List ℕ) → Table
table_with t i es ps = table_after t i (parts t es) (share (parts t es) ps)

-- at most one entry too many for a span, and pages enough
module _ (r : KeyRule) (t : Table) (ok : TableOk r t) (i : ℕ) (l : i < length (columns t)) (es : List Entry) (few : length es ≤ t.span_size + 1)
    (ps : List ℕ) (enough : wanted_by (parts t es) ≤ length ps) where
  -- its entries
  pub with_entries : entries_of (table_with t i es ps) ≡ entries_before t i ++ (es ++ entries_after t i)
  with_entries =
      entries-after t i (parts t es) (share (parts t es) ps) l (parts-fit r t ok es few ps enough)
      ∙ ap (λ (x : List Entry). entries_before t i ++ (x ++ entries_after t i)) (parts_whole t es)

  -- it keeps the rules, if no span but the first is left empty
  pub with-ok : (1 ≤ i → 1 ≤ length es) → EntriesOk r (entries_before t i ++ (es ++ entries_after t i)) → TableOk r (table_with t i es ps)
  with-ok n e =
      after-ok r t ok (parts t es) (share (parts t es) ps) (parts-fit r t ok es few ps enough) i l (λ h. stay-filled r t ok es few (n h))
      (subst (EntriesOk r) (sym with_entries) e)

-- the target's entries with the key's new value
abbrev pub put_into : KeyRule → Table → (key value : List ℕ) → List Entry
put_into r t k v = insert r k v (span_at t (target r k t)).entries

module _ (r : KeyRule) (o : Ordered r) (t : Table) (ok : TableOk r t) (k v : List ℕ) where
  at : Target r k t (target r k t)
  at = target_is r o k t ok

  counted : length (put_into r t k v) ≡ cond (there (find k (entries_of t))) (length (span_at t (target r k t)).entries) (suc (length (span_at t (target r k t)).entries))
  counted =
      insert-count r o k v (span_at t (target r k t)).entries (span-rising r o k t (target r k t) at ok)
      ∙ ap (λ a. cond (there a) (length (span_at t (target r k t)).entries) (suc (length (span_at t (target r k t)).entries))) (sym (find_at r o k t (target r k t) at))

  -- a value replaced makes the span no longer: never a split, also in a full span
  pub put-replaces : T (there (find k (entries_of t))) → length (put_into r t k v) ≤ t.span_size
  put-replaces h = rw (counted, so (there (find k (entries_of t))) h) (span-ok r t ok (target r k t) at.place).size

  -- a span gets one entry at most
  pub put-few : length (put_into r t k v) ≤ t.span_size + 1
  put-few = rw counted (go (there (find k (entries_of t))))
    where
      go : (b : Bool) → cond b (length (span_at t (target r k t)).entries) (suc (length (span_at t (target r k t)).entries)) ≤ t.span_size + 1
      go true = omega (arith, (span-ok r t ok (target r k t) at.place).size)
      go false = omega (arith, (span-ok r t ok (target r k t) at.place).size)

  -- and has some then
  pub put_some : 1 ≤ length (put_into r t k v)
  put_some = insert-some r k v (span_at t (target r k t)).entries

  module _ (ps : List ℕ) (enough : wanted_by (parts t (put_into r t k v)) ≤ length ps) where
    -- the table's entries are the map with the key's value
    pub put_entries : entries_of (table_with t (target r k t) (put_into r t k v) ps) ≡ insert r k v (entries_of t)
    put_entries = with_entries r t ok (target r k t) at.place (put_into r t k v) put-few ps enough ∙ sym (insert-at r o k t (target r k t) at v)

    -- the table keeps its rules
    pub put-ok : T (r.allowed k) → length v ≤ 65535 → TableOk r (table_with t (target r k t) (put_into r t k v) ps)
    put-ok a b =
        with-ok r t ok (target r k t) at.place (put_into r t k v) put-few ps enough (λ h. put_some)
        (subst (EntriesOk r) (insert-at r o k t (target r k t) at v) (insert-ok r o k (entries_of t) (entries-ok r t ok) v a b))
