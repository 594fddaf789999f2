-- The tables of a well-formed image are finite maps, and its towers are chained.
use Prim.Native.Nat.{ℕ}
use mathlib.Core.List.{List, [], ◌∷◌, ◌++◌, map}
use Rattle.blockfile.specs.Bytes.{pg, Every, gather}
use Rattle.blockfile.specs.Layout.{Keyed, Entry, Table, entries_of}
use Rattle.blockfile.specs.Order.{KeyRule, name_rule, key_rule, Rising}
use Rattle.blockfile.specs.WellFormed.{Piece, span, tower, Bears, spans_in, towers_in, table_pieces, free_pieces, TableOk}
use Rattle.blockfile.specs.Refusals.{ledger_of}
use Rattle.blockfile.proofs.Every.{every-left, every-right}
use Rattle.laws.proofs.Orders.{Ordered, names-ordered, keys-ordered}
use Rattle.laws.proofs.Maps.{Least, insert-found, insert-others, insert-rising, erase-found, erase-others, erase-rising, above-some, above-none}
use Rattle.laws.proofs.Chains.{chain}
use Rattle.laws.proofs.Middle.{under, under-rising}
use Rattle.laws.proofs.TableCreate.{names-rising}
use Rattle.history.specs.Tables.{FiniteMaps, TablesAreMaps, TablesRise, Chained, TowersChained}

maps : (A : Type 0) (r : KeyRule) → Ordered r → FiniteMaps A r
maps A r o =
    record {
      given = insert-found r o;
      given_others = insert-others r o;
      given_rises = insert-rising r o;
      dropped = erase-found r o;
      dropped_others = erase-others r o;
      dropped_rises = erase-rising r o;
      next_key = λ k j m h e. (let l : Least r o k j m = above-some r o k j m h e in record { present = l.present; asked = l.asked; least = l.least });
      no_next = above-none r o;
    }

pub tables-are-maps : TablesAreMaps
unfolding TablesAreMaps
tables-are-maps = (maps (List Entry) name_rule names-ordered, λ name. maps (List ℕ) (key_rule name) (keys-ordered name))

-- ---- Rising

keys-rise : (ns : List (Keyed Table)) → Every (λ n. TableOk (key_rule n.key) n.value) ns
    → Every (λ n. Rising (key_rule n.key) n.value) (map (under entries_of) ns)
keys-rise [] h = tt
keys-rise (n ∷ ns) h = (h.0.rising, keys-rise ns h.1)

pub tables-rise : TablesRise
unfolding TablesRise ledger_of
tables-rise img L w =
    record {
      names = under-rising entries_of name_rule L.tables (names-rising L.tables L.meta w.meta_ok w.meta_entries);
      keys = keys-rise L.tables w.tables_ok;
    }

-- ---- Chains

-- a table whose pieces the image bears
table-chained : (img : List ℕ) (t : Table) → Every (Bears (pg img)) (table_pieces t) → Chained img t
table-chained img t h = chain (pg img) t (every-right (Bears (pg img)) (map span (spans_in t)) (map tower (towers_in t)) h.1)

named-chained : (img : List ℕ) (ns : List (Keyed Table)) → Every (Bears (pg img)) (gather (λ n. table_pieces n.value) ns) → Every (Chained img) (map (λ n. n.value) ns)
named-chained img [] h = tt
named-chained img (n ∷ ns) h =
    let R : Piece → Type 0 = Bears (pg img) in
    let rest : List Piece = gather (λ n. table_pieces n.value) ns in
    (table-chained img n.value (every-left R (table_pieces n.value) rest h), named-chained img ns (every-right R (table_pieces n.value) rest h))

pub towers-chained : TowersChained
unfolding TowersChained
towers-chained img L w =
    let R : Piece → Type 0 = Bears (pg img) in
    let named : List Piece = gather (λ n. table_pieces n.value) L.tables in
    let b : Every R (table_pieces L.meta ++ (named ++ free_pieces L.free)) = w.bears.1 in (
      table-chained img L.meta (every-left R (table_pieces L.meta) (named ++ free_pieces L.free) b),
      named-chained img L.tables (every-left R named (free_pieces L.free) (every-right R (table_pieces L.meta) (named ++ free_pieces L.free) b)),
    )
