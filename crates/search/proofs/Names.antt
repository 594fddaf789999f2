-- The ways through `find_table`: the metaindex's value under a name is the number of the table's skip-list page.
use Prim.Native.Nat.{ℕ, ◌<◌}
use native.Mathlib.Omega.{arith}
use mathlib.Core.Path.{◌≡◌, refl, ap, sym, ◌∙◌}
use mathlib.Core.List.{List}
use mathlib.Core.Option.{Option as TextOption, none, some, map}
use lib.ListN.{length, take}
use lib.Seq.{get_or-take, length-take-le}
use Rattle.blockfile.specs.Bytes.{be32, word32}
use Rattle.blockfile.specs.Layout.{Table, Layout, entries_of}
use Rattle.blockfile.specs.Order.{find}
use Rattle.blockfile.specs.WellFormed.{WellFormed}
use Rattle.laws.proofs.Numbers.{be32-agree, be32-word32, length-word32}
use Rattle.laws.proofs.Middle.{find-under}
use Rattle.entries.specs.Places.{Enough, Numbered}
use Rattle.std.specs.Prelude.{Option, Some, None}
use Rattle.std.proofs.lemmas.Option.{none-some, same_Some}
use Rattle.search.specs.declared.span.Extent.{Extent}
use Rattle.search.specs.Spans.{BytesAt, Answered}
use Rattle.search.specs.Tables.{metaindex, FoundIn, NamedIn}
use Rattle.search.proofs.Readables.{table-readable, meta_by}

module _ (img : List ℕ) (L : Layout) (w : WellFormed img L) (name : List ℕ) where
  abbrev root_bytes : Table → List ℕ
  root_bytes t = word32 t.root

  -- the metaindex has the tables' pages under their names
  meta-find : find name (entries_of L.meta) ≡ map root_bytes (find name L.tables)
  meta-find = ap (find name) w.meta_entries ∙ find-under root_bytes name L.tables

  -- a table of the name, whose page these bytes are
  record Under (v : List ℕ) : Type 0 where
    table : Table
    is : find name L.tables ≡ some table
    bytes : v ≡ word32 table.root

  under : (v : List ℕ) → find name (entries_of L.meta) ≡ some v → Under v
  under v e = go (find name L.tables) refl (sym meta-find ∙ e)
    where
      go : (o : TextOption Table) → find name L.tables ≡ o → map root_bytes o ≡ some v → Under v
      go none q f = absurd (let z : ◌≡◌ {A = ℕ} 0 1 = cc in omega arith)
      go (some t) q f = record { table = t; is = q; bytes = (cc) }

  unknown : find name (entries_of L.meta) ≡ none → find name L.tables ≡ none
  unknown e = go (find name L.tables) (sym meta-find ∙ e)
    where
      go : (o : TextOption Table) → map root_bytes o ≡ none → o ≡ none
      go none f = refl
      go (some t) f = absurd (let z : ◌≡◌ {A = ℕ} 0 1 = cc in omega arith)

  module _ (a : Option Extent) (f : FoundIn img metaindex name a) where
    there : Answered img (find name (entries_of L.meta)) a
    there = f.is (meta_by img L w)

    pub named_none : a ≡ None → NamedIn L name None
    named_none e =
        record { root = λ p q. absurd (none-some p q); unknown = λ q. unknown (there.missing e) }

    module _ (x : Extent) (e : a ≡ Some x) where
      value : (v : List ℕ) × (find name (entries_of L.meta) ≡ some v) × BytesAt img x.at x.length v
      value = there.found x e

      named : Under value.0
      named = under value.0 value.1

      four : x.length ≡ 4
      four =
          omega (arith, length-word32 named.table.root, ap length named.bytes, ap length value.2.is, length-take-le x.length value.2.bytes value.2.long)

      pub named-enough : Enough img x.at 4
      named-enough = record { bytes = value.2.bytes; rest = value.2.rest; long = omega (arith, four, value.2.long) }

      small-root : named.table.root < 4294967296
      small-root =
          let r = table-readable img L w name named.table named.is in
          omega (arith, r.small, r.borne.0.1.0.high)

      pub named-root : (r : ℕ) → Numbered img x.at r → NamedIn L name (Some r)
      named-root r h =
          let bs : List ℕ = value.2.bytes in
          let first : be32 bs 0 ≡ be32 (take x.length bs) 0 = be32-agree bs 0 (take x.length bs) 0 (λ k l. sym (get_or-take x.length bs _ 0 (omega (arith, four)))) in
          let is : r ≡ named.table.root
          = h.is bs value.2.rest ∙ first ∙ ap (λ (b : List ℕ). be32 b 0) (sym value.2.is ∙ named.bytes) ∙ be32-word32 named.table.root small-root in
          record {
            root = λ p q. (named.table, named.is, sym is ∙ same_Some r p q);
            unknown = λ q. absurd (none-some r (sym q));
          }
