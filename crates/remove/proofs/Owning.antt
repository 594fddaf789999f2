-- The ways through `find_tower`: the tower of a span, and the towers around it.
use Prim.Native.Nat.{ℕ, suc, ◌+◌, ◌*◌, ◌≤◌}
use native.Mathlib.Omega.{arith}
use mathlib.Core.Path.{◌≡◌, refl, ap, sym, ◌∙◌, subst}
use mathlib.Core.List.{List, [], ◌∷◌, map}
use lib.ListN.{length, length-replicate, replicate}
use Rattle.std.specs.Prelude.{Option, Some, None}
use Rattle.std.proofs.lemmas.Option.{none-some, same_Some}
use Rattle.blockfile.specs.Bytes.{pg, be16, be32}
use Rattle.blockfile.specs.Layout.{Tower}
use Rattle.pages.specs.Places.{Inside}
use Rattle.entries.specs.Places.{IsPage}
use Rattle.search.specs.Tables.{Reading}
use Rattle.search.proofs.Towers.{head-tall}
use Rattle.search.specs.Paths.{Filled}
use Rattle.links.specs.Levels.{Preceded, TowerHere, TowerAt, TowerOn}
use Rattle.remove.specs.Towers.{TowerFor}

module _ {img : List ℕ} {root page : ℕ} (t : Reading img root) (k : ℕ) {path : List ℕ} (a : Preceded t page k path) {found : Option ℕ} (o : TowerOn img page path found) where
  abbrev own : TowerAt t (suc k) found
  own = o.is root t k a

  -- no tower
  pub tower-none : found ≡ None → TowerFor img t.table k path (record { page = None; height = 0; after = replicate 252 0 })
  tower-none z =
      record {
        before = a.path;
        after = record { long = length-replicate {A = ℕ} 252 0; next = λ l m. absurd (omega arith) };
        inside = λ n e. absurd (none-some _ e);
        pages = ap (map (λ (w : Tower). w.page)) (own.none z);
        heights = ap (map (λ (w : Tower). w.height)) (own.none z);
        flat = λ _. refl;
        low = omega arith;
      }

  module _ (tower : ℕ) (z : found ≡ Some tower) where
    abbrev here : TowerHere t (suc k) tower
    here = own.some tower z

    pub own-inside : (s n : ℕ) → s + n ≤ 1024 → Inside img tower s n
    own-inside s n f = record { small = t.readable.small; low = here.page.low; high = here.page.high; fits = f }

    -- its height and entries were read
    module _ {height : ℕ} (e : height ≡ be16 (pg img tower) 10) where
      pub own-low : height ≤ 252
      own-low = omega (arith, here.low, head-tall t)

      pub tower-some : {old after : List ℕ} → length old ≡ 252 → Filled old height (λ l. be32 (pg img tower) (16 + 4 * l)) after
          → TowerFor img t.table k path (record { page = Some tower; height = height; after = after })
      tower-some long f =
          let s = here.tower in
          record {
            before = a.path;
            after = record { long = f.long ∙ long; next = λ l m. f.below l m ∙ here.nexts l (omega arith) };
            inside = λ n q. subst (IsPage img) (same_Some _ _ q) here.page;
            pages = ap (map (λ (w : Tower). w.page)) s.1 ∙ ap (λ (n : ℕ). n ∷ []) (sym s.2);
            heights = ap (map (λ (w : Tower). w.height)) s.1 ∙ ap (λ (n : ℕ). n ∷ []) (sym s.3 ∙ sym e);
            flat = λ y. absurd (none-some _ (sym y));
            low = own-low;
          }
