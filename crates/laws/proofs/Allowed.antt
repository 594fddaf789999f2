-- What holds where no row of 4 to 9 refuses put, remove and create: name and key allowed, the table there or not, the key there.
use Prim.Native.Nat.{ℕ, ◌≤◌}
use native.Mathlib.Omega.{arith}
use mathlib.Core.Path.{◌≡◌, refl, ap, ◌∙◌, subst}
use mathlib.Core.Bool.{Bool, true, false, not, cond, ◌||◌, true≢false}
use mathlib.Core.List.{List, [], ◌∷◌}
use mathlib.Core.Option.{Option, none, some, map, get_or}
use lib.ListN.{length}
use lib.Dec.{T}
use borrow.Author.Tests.{ltb-false, not-false, not-true}
use Rattle.blockfile.specs.declared.Refusal.{Refusal}
use Rattle.blockfile.specs.Bytes.{Every}
use Rattle.blockfile.specs.Layout.{Entry, Table, Layout, entries_of}
use Rattle.blockfile.specs.Order.{name_rule, key_rule, find, there}
use Rattle.blockfile.specs.Refusals.{Op, put, remove, create, Ledger, ledger_of, map_of, bad_name, bad_key, no_table, rows, lowest, refused}
use Rattle.blockfile.proofs.Bools.{holds}
use Rattle.laws.proofs.Middle.{find-under}

-- no row refuses: no row's test holds
none-holds : (xs : List (Bool × Refusal)) → lowest xs ≡ none → Every (λ (x : Bool × Refusal). x.0 ≡ false) xs
none-holds [] e = tt
none-holds (x ∷ xs) e = go x.0 refl e (none-holds xs)
  where
    go : (b : Bool) → x.0 ≡ b → cond b (some x.1) (lowest xs) ≡ none → (lowest xs ≡ none → Every (λ (x : Bool × Refusal). x.0 ≡ false) xs)
        → Every (λ (x : Bool × Refusal). x.0 ≡ false) (x ∷ xs)
    go true f e ih = absurd (let z : ◌≡◌ {A = ℕ} 0 1 = cc in omega arith)
    go false f e ih = (f, ih e)

-- an unrefused call passes every row
pub rows_pass : (l : Ledger) (op : Op) (room : ℕ) → refused l op room ≡ none → Every (λ (x : Bool × Refusal). x.0 ≡ false) (rows l op room)
unfolding refused
rows_pass l op room e = none-holds (rows l op room) e

neither : (a b : Bool) → (a || b) ≡ false → (a ≡ false) × (b ≡ false)
neither true b e = absurd (true≢false e)
neither false b e = (refl, e)

allowed : (b : Bool) → not b ≡ false → T b
allowed b e = holds b (not-false b e)

-- ---- The ledger's tables are the layout's

-- a name is found in the ledger with the entries of its table
pub ledger-find : (L : Layout) (name : List ℕ) → find name (ledger_of L).tables ≡ map entries_of (find name L.tables)
unfolding ledger_of
ledger-find L name = find-under entries_of name L.tables

-- the map of a name is the entries of its table
pub ledger-map : (L : Layout) (name : List ℕ) (t : Table) → find name L.tables ≡ some t → map_of (ledger_of L) name ≡ entries_of t
ledger-map L name t f = ap (λ (a : Option (List Entry)). get_or a []) (ledger-find L name ∙ ap (map entries_of) f)

-- the table of a name and the key asked of it
pub record OnTable (L : Layout) (name key : List ℕ) : Type 0 where
  pub table : Table
  pub found : find name L.tables ≡ some table
  pub name_ok : T (name_rule.allowed name)
  pub key_ok : T ((key_rule name).allowed key)

there-is : (L : Layout) (name key : List ℕ) → T (name_rule.allowed name) → T ((key_rule name).allowed key) → no_table (ledger_of L) name ≡ false → OnTable L name key
there-is L name key a b e = go (find name L.tables) refl
  where
    go : (o : Option Table) → find name L.tables ≡ o → OnTable L name key
    go none f = absurd (true≢false (subst (λ (x : Option (List Entry)). not (there x) ≡ false) (ledger-find L name ∙ ap (map entries_of) f) e))
    go (some t) f = record { table = t; found = f; name_ok = a; key_ok = b }

-- ---- Put, remove, create

module _ (L : Layout) (room : ℕ) where
  -- an unrefused put
  pub put-allowed : (n k v : List ℕ) → refused (ledger_of L) (put n k v) room ≡ none → OnTable L n k × (length v ≤ 65535)
  put-allowed n k v e =
      let h : Every (λ (x : Bool × Refusal). x.0 ≡ false) (rows (ledger_of L) (put n k v) room) = rows_pass (ledger_of L) (put n k v) room e in
      let b : (bad_name n ≡ false) × (bad_key n k ≡ false) = neither (bad_name n) (bad_key n k) h.0 in
      (there-is L n k (allowed (name_rule.allowed n) b.0) (allowed ((key_rule n).allowed k) b.1) h.1.1.0, ltb-false 65535 (length v) h.1.0)

  -- an unrefused remove
  pub remove-allowed : (n k : List ℕ) → refused (ledger_of L) (remove n k) room ≡ none → (x : OnTable L n k) × T (there (find k (entries_of x.table)))
  remove-allowed n k e =
      let h : Every (λ (x : Bool × Refusal). x.0 ≡ false) (rows (ledger_of L) (remove n k) room) = rows_pass (ledger_of L) (remove n k) room e in
      let b : (bad_name n ≡ false) × (bad_key n k ≡ false) = neither (bad_name n) (bad_key n k) h.0 in
      let x : OnTable L n k = there-is L n k (allowed (name_rule.allowed n) b.0) (allowed ((key_rule n).allowed k) b.1) h.1.0 in
      (x, subst (λ (es : List Entry). T (there (find k es))) (ledger-map L n x.table x.found) (allowed (there (find k (map_of (ledger_of L) n))) h.1.1.0))

  -- an unrefused create
  pub create-allowed : (n : List ℕ) → refused (ledger_of L) (create n) room ≡ none → T (name_rule.allowed n) × (find n L.tables ≡ none)
  create-allowed n e =
      let h : Every (λ (x : Bool × Refusal). x.0 ≡ false) (rows (ledger_of L) (create n) room) = rows_pass (ledger_of L) (create n) room e in
      (allowed (name_rule.allowed n) h.0, absent (find n L.tables) refl (not-true (there (find n (ledger_of L).tables)) (not-false (no_table (ledger_of L) n) h.1.0)))
    where
      absent : (o : Option Table) → find n L.tables ≡ o → there (find n (ledger_of L).tables) ≡ false → find n L.tables ≡ none
      absent none f e = f
      absent (some t) f e = absurd (true≢false (subst (λ (x : Option (List Entry)). there x ≡ false) (ledger-find L n ∙ ap (map entries_of) f) e))
