-- Create: the new table, the metaindex after it, and the list of tables that the metaindex names.
use Prim.Native.Nat.{ℕ, ◌≤◌}
use native.Mathlib.Omega.{arith}
use mathlib.Core.Path.{◌≡◌, refl, ap, sym, ◌∙◌, subst}
use mathlib.Core.List.{List, [], map}
use mathlib.Core.Option
use mathlib.Core.Option.{some}
use lib.ListN.{length}
use lib.Dec.{T}
use Rattle.blockfile.specs.Bytes.{word32, Every}
use Rattle.blockfile.specs.Layout.{Keyed, Entry, Table, Layout, entries_of, reached}
use Rattle.blockfile.specs.Order.{KeyRule, name_rule, key_rule, Within, Rising, find, insert}
use Rattle.blockfile.specs.WellFormed.{TableOk}
use Rattle.blockfile.specs.Put.{target, span_at, parts, wanted_by}
use Rattle.blockfile.specs.Create.{empty_table, meta_with}
use Rattle.laws.proofs.Orders.{names-ordered}
use Rattle.laws.proofs.Middle.{under, find-under, insert-under, rising-under, under-rising, insert-same, every-insert, every-found}
use Rattle.laws.proofs.TablePut.{table_with, put_into, put_entries, put-ok}
use Rattle.laws.proofs.Sizes.{same-pages, insert-sizes}

-- ---- The new table

-- it keeps the rules
pub new_ok : (r : KeyRule) (z a b c : ℕ) → Within 2 128 z → TableOk r (empty_table z a b c)
unfolding reached
new_ok r z a b c h =
    record {
      span_size = h;
      sizes = (omega arith, tt);
      filled = tt;
      reach = (refl, tt);
      keys = tt;
      values = tt;
      rising = tt;
      heights = ((omega arith, omega arith), tt);
      others = tt;
    }

-- it has no entries
pub new-empty : (z a b c : ℕ) → entries_of (empty_table z a b c) ≡ []
new-empty z a b c = refl

-- ---- The tables that a metaindex names

-- a table's entry in the metaindex: its name and its skip-list page
abbrev pub listed : Keyed Table → Entry
listed n = under (λ t. word32 t.root) n

-- every table keeps its rules
abbrev pub TablesOk : List (Keyed Table) → Type 0
TablesOk ns = Every (λ n. TableOk (key_rule n.key) n.value) ns

module _ (ns : List (Keyed Table)) where
  -- the names rise as the metaindex's keys do
  pub names-rising : (meta : Table) → TableOk name_rule meta → entries_of meta ≡ map listed ns → Rising name_rule ns
  names-rising meta ok e = rising-under (λ t. word32 t.root) name_rule ns (subst (Rising name_rule) e ok.rising)

  -- a table under a name is listed under it
  pub listed-insert : (name : List ℕ) (t : Table) → map listed (insert name_rule name t ns) ≡ insert name_rule name (word32 t.root) (map listed ns)
  listed-insert name t = insert-under (λ t. word32 t.root) name_rule name t ns

  -- a table in the place of one with the same skip-list page changes nothing there
  pub listed_same : (name : List ℕ) (t u : Table) → Rising name_rule ns → find name ns ≡ some t → u.root ≡ t.root → map listed (insert name_rule name u ns) ≡ map listed ns
  listed_same name t u h f e =
      listed-insert name u ∙ ap (λ (n : ℕ). insert name_rule name (word32 n) (map listed ns)) e
      ∙ insert-same name_rule names-ordered name (word32 t.root) (map listed ns) (under-rising (λ t. word32 t.root) name_rule ns h)
      (find-under (λ t. word32 t.root) name ns ∙ ap (Option.map (λ t. word32 t.root)) f)

  -- the table found under a name keeps its rules
  pub table-found : (name : List ℕ) (t : Table) → TablesOk ns → find name ns ≡ some t → TableOk (key_rule name) t
  table-found name t h f = every-found (λ (n : Keyed Table). TableOk (key_rule n.key) n.value) name t ns h f

  -- all tables keep their rules with a good one put under a name
  pub tables-insert : (name : List ℕ) (t : Table) → TableOk (key_rule name) t → TablesOk ns → TablesOk (insert name_rule name t ns)
  tables-insert name t ok h = every-insert (λ (n : Keyed Table). TableOk (key_rule n.key) n.value) name_rule name t ns ok h

-- ---- The metaindex

-- four bytes, whatever the page
pub word-length : (n : ℕ) → length (word32 n) ≡ 4
unfolding word32
word-length n = refl

-- the pages wanted for the metaindex do not hang on the new table's page
pub meta-wanted : (L : Layout) (name : List ℕ) (root : ℕ)
    → wanted_by (parts L.meta (meta_with L name (target name_rule name L.meta) 0)) ≡ wanted_by (parts L.meta (put_into name_rule L.meta name (word32 root)))
meta-wanted L name root =
    same-pages L.meta (meta_with L name (target name_rule name L.meta) 0) (put_into name_rule L.meta name (word32 root))
    (insert-sizes name_rule name (word32 0) (word32 root) (span_at L.meta (target name_rule name L.meta)).entries (word-length 0 ∙ sym (word-length root)))

module _ (meta : Table) (ok : TableOk name_rule meta) (name : List ℕ) (root : ℕ) (ps : List ℕ)
    (enough : wanted_by (parts meta (put_into name_rule meta name (word32 root))) ≤ length ps) where
  -- the metaindex with the new name keeps its rules
  pub meta-ok : T (name_rule.allowed name) → TableOk name_rule (table_with meta (target name_rule name meta) (put_into name_rule meta name (word32 root)) ps)
  meta-ok a = put-ok name_rule names-ordered meta ok name (word32 root) ps enough a (omega (arith, word-length root))

  -- it names the tables, the new one among them
  pub meta-lists : (ns : List (Keyed Table)) (t : Table) → t.root ≡ root → entries_of meta ≡ map listed ns
      → entries_of (table_with meta (target name_rule name meta) (put_into name_rule meta name (word32 root)) ps) ≡ map listed (insert name_rule name t ns)
  meta-lists ns t q e =
      put_entries name_rule names-ordered meta ok name (word32 root) ps enough ∙ ap (insert name_rule name (word32 root)) e
      ∙ ap (λ (n : ℕ). insert name_rule name (word32 n) (map listed ns)) (sym q) ∙ sym (listed-insert ns name t)
