-- A new tower written: the ways through `link_tower` and `write_tower`.
use Prim.Native.Nat.{ℕ, zero, suc, ◌+◌, ◌*◌, ◌≤◌, ◌<◌}
use native.Mathlib.Omega.{arith}
use mathlib.Core.Path.{◌≡◌, refl, ap, sym, ◌∙◌}
use mathlib.Core.List.{List, [], ◌∷◌, ◌++◌}
use lib.ListN.{length, get_or, take, replicate}
use lib.Seq.{length-take-le}
use borrow.Author.Tests.{lt-ltb, le-ltb}
use Rattle.blockfile.specs.Bytes.{Write, on, word16, word32, write, apply}
use Rattle.blockfile.specs.Encode.{whole_tower}
use Rattle.laws.proofs.Writes.{apply-append}
use Rattle.laws.proofs.TowerLinks.{map-from}
use Rattle.entries.specs.Places.{IsPage}
use Rattle.links.specs.Links.{link_writes, Linkable, levels_below, tower_as}
use Rattle.links.proofs.Written.{levels-taken}
use Rattle.edit.specs.declared.tower.NewTower.{NewTower}
use Rattle.edit.specs.Cuts.{links_on, tower_writes}
use Rattle.edit.specs.Towers.{rise_of}

-- the links with one page at each level
pub links-on : (before : List ℕ) (n h : ℕ) → h ≤ 252 → link_writes before (replicate 252 n) h ≡ links_on before n h
links-on before n h few =
    map-from (λ l. on (get_or before l 0) (16 + 4 * l) (word32 (get_or (replicate 252 n) l 0))) (λ l. on (get_or before l 0) (16 + 4 * l) (word32 n)) 0 h
    (λ l a b. ap (λ (v : ℕ). on (get_or before l 0) (16 + 4 * l) (word32 v)) (same_at 252 l (omega arith)))
  where
    same_at : (m l : ℕ) → l < m → get_or (replicate m n) l 0 ≡ n
    same_at zero l h = absurd (omega arith)
    same_at (suc m) zero h = refl
    same_at (suc m) (suc l) h = same_at m l (omega arith)

-- pages of an image are pages of another one of the same length
pub page-of : {img : List ℕ} {n : ℕ} (out : List ℕ) → length out ≡ length img → IsPage img n → IsPage out n
page-of out e p = record { low = p.low; high = omega (arith, p.high) }

pub linkable-in : {img before : List ℕ} {h : ℕ} (out : List ℕ) → length out ≡ length img → Linkable img before h → Linkable out before h
linkable-in out e l = record { small = omega (arith, l.small); few = l.few; pages = λ i b. page-of out e (l.pages i b) }

-- the tower whole, then the links to it, then the head, where it rises
module _ (x : NewTower) (before after img a b : List ℕ)
    (high : x.height ≤ length after)
    (one : a ≡ apply (whole_tower (tower_as x.page x.max (length (take x.height after)) x.span (take x.height after))) img)
    (two : b ≡ apply (links_on before x.page x.height) a) where
  abbrev whole : List Write
  whole = whole_tower (tower_as x.page x.max x.height x.span (levels_below after x.height))

  abbrev links : List Write
  links = links_on before x.page x.height

  taken : whole_tower (tower_as x.page x.max (length (take x.height after)) x.span (take x.height after)) ≡ whole
  taken = λ j. whole_tower (tower_as x.page x.max (length-take-le x.height after high j) x.span (levels-taken after x.height high j))

  then-more : (us : List Write) → apply us b ≡ apply (whole ++ (links ++ us)) img
  then-more us = ap (apply us) two ∙ sym (apply-append links us a) ∙ ap (apply (links ++ us)) (one ∙ ap (λ (ws : List Write). apply ws img) taken) ∙ sym (apply-append whole (links ++ us) img)

  pub head-rises : x.top < x.height → (out : List ℕ) → out ≡ write b x.head 10 (word16 x.height) → out ≡ apply (tower_writes (rise_of x before after) (x.page ∷ [])) img
  head-rises l out e = e ∙ then-more (on x.head 10 (word16 x.height) ∷ []) ∙ rw (lt-ltb x.top x.height l)

  pub head-stays : x.height ≤ x.top → b ≡ apply (tower_writes (rise_of x before after) (x.page ∷ [])) img
  head-stays l = then-more [] ∙ rw (le-ltb x.top x.height l)
