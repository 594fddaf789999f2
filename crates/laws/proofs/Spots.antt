-- A table among all tables: what is held by the tables before it, by it, and by those after it.
use Prim.Native.Nat.{ℕ}
use mathlib.Core.Path.{◌≡◌, refl, ap}
use mathlib.Core.Bool.{Bool, true, false, cond}
use mathlib.Core.Option.{none, some}
use mathlib.Core.List.{List, [], ◌∷◌, ◌++◌, map, map-append}
use lib.Dec.{T}
use Rattle.blockfile.specs.Bytes.{gather}
use Rattle.blockfile.specs.Layout.{Keyed, Table, Block}
use Rattle.blockfile.specs.Order.{name_rule, same, Rising, find, insert}
use Rattle.blockfile.specs.Fields.{SkipList, LinkedSpan, LinkedTower}
use Rattle.blockfile.specs.WellFormed.{skip_list_of, spans_in, towers_in}
use Rattle.blockfile.proofs.Bools.{holds}
use Rattle.blockfile.proofs.Every.{every-so}
use Rattle.laws.specs.Owned.{in_option}
use Rattle.laws.proofs.Orders.{names-ordered}
use Rattle.laws.proofs.Maps.{find-low}
use Rattle.laws.proofs.Places.{gather_append}
use Rattle.laws.proofs.State.{Held}
use Rattle.laws.proofs.Opens.{held}

-- what tables hold, with a free list and pages in hand
abbrev pub tables_held : List Table → List Block → (spare : List ℕ) → Held
tables_held ts bs sp = held (map skip_list_of ts) (gather spans_in ts) (gather towers_in ts) bs sp

-- what is around one table
pub record Around : Type 0 where
  pub skips_before : List SkipList
  pub skips_after : List SkipList
  pub spans_before : List LinkedSpan
  pub spans_after : List LinkedSpan
  pub towers_first : List LinkedTower
  pub towers_last : List LinkedTower

-- a table in the midst of it
abbrev pub among : Around → Table → List Block → (spare : List ℕ) → Held
among o t bs sp =
    held (o.skips_before ++ skip_list_of t ∷ o.skips_after) (o.spans_before ++ (spans_in t ++ o.spans_after)) (o.towers_first ++ (towers_in t ++ o.towers_last)) bs sp

-- what other tables hold
abbrev pub surrounds : (pre post : List Table) → Around
surrounds pre post =
    record {
      skips_before = map skip_list_of pre;
      skips_after = map skip_list_of post;
      spans_before = gather spans_in pre;
      spans_after = gather spans_in post;
      towers_first = gather towers_in pre;
      towers_last = gather towers_in post;
    }

-- what tables hold, seen at one of them
pub held_at : (pre post : List Table) (t : Table) (bs : List Block) (sp : List ℕ) → tables_held (pre ++ t ∷ post) bs sp ≡ among (surrounds pre post) t bs sp
held_at pre post t bs sp = simp (map-append, gather_append)

-- and between two of them
pub held-gap : (pre post : List Table) (bs : List Block) (sp : List ℕ)
    → tables_held (pre ++ post) bs sp ≡ held (map skip_list_of pre ++ map skip_list_of post) (gather spans_in pre ++ gather spans_in post) (gather towers_in pre ++ gather towers_in post) bs sp
held-gap pre post bs sp = simp (map-append, gather_append)

-- ---- The place of a name

-- the tables under their names
abbrev pub values : List (Keyed Table) → List Table
values ns = map (λ n. n.value) ns

-- the tables before the name's and after it; here is the name's table, if there is one
pub record Spot (name : List ℕ) (ns : List (Keyed Table)) (here : List Table) : Type 0 where
  pub before : List Table
  pub behind : List Table
  pub now : values ns ≡ before ++ (here ++ behind)
  pub made : (u : Table) → values (insert name_rule name u ns) ≡ before ++ u ∷ behind

-- a table under a name takes the place of the one there, if there is one, and changes no other
pub spot : (name : List ℕ) (ns : List (Keyed Table)) → Rising name_rule ns → Spot name ns (in_option (find name ns))
spot name [] h = record { before = []; behind = []; now = refl; made = λ u. refl }
spot name (x ∷ xs) h = go (same name x.key) refl (name_rule.below name x.key) refl (spot name xs h.1)
  where
    go : (b : Bool) → same name x.key ≡ b → (c : Bool) → name_rule.below name x.key ≡ c → Spot name xs (in_option (find name xs))
        → Spot name (x ∷ xs) (in_option (cond b (some x.value) (find name xs)))
    go true e c f s = record { before = []; behind = values xs; now = refl; made = λ u. rw e }
    go false e true f s =
        let t : T (name_rule.below name x.key) = holds (name_rule.below name x.key) f in
        let m : find name xs ≡ none
        = find-low name_rule names-ordered name xs (every-so (λ (y : Keyed Table). T (name_rule.below x.key y.key)) (λ y. names-ordered.trans name x.key y.key t) xs h.0) in
        record { before = []; behind = values (x ∷ xs); now = rw m; made = λ u. rw (e, f) }
    go false e false f s =
        record {
          before = x.value ∷ s.before;
          behind = s.behind;
          now = ap (λ (ts : List Table). x.value ∷ ts) s.now;
          made = λ u. rw (e, f) (ap (λ (ts : List Table). x.value ∷ ts) (s.made u));
        }
