-- What put and remove write of towers is the text's, with the levels read from the image before the call.
use Prim.Native.Nat.{ℕ, suc, ◌+◌, ◌*◌, ◌≤◌, ◌<◌}
use native.Mathlib.Omega.{arith}
use mathlib.Core.Path.{◌≡◌, refl, ap, ap₂, sym, ◌∙◌}
use mathlib.Core.List.{List, [], ◌∷◌, ◌++◌}
use lib.ListN.{length, get_or, take, drop}
use Rattle.blockfile.specs.Bytes.{on, word32, write, apply, gather}
use Rattle.blockfile.specs.Layout.{Tower, Column, Table, columns, towers_of, entries_of}
use Rattle.blockfile.specs.WellFormed.{next_at, towers_in}
use Rattle.blockfile.specs.Encode.{whole_tower, counts}
use Rattle.blockfile.specs.Put.{counts_on, last_at, relink}
use Rattle.blockfile.specs.Remove.{without}
use Rattle.blockfile.specs.Create.{empty_table}
use Rattle.laws.proofs.TowerLinks.{map-from}
use Rattle.laws.proofs.TableTowers.{take_rest, behind-gone}
use Rattle.entries.specs.Places.{IsPage}
use Rattle.search.specs.Tables.{Reading}
use Rattle.links.specs.Links.{link_writes, Linkable, tower_as}
use Rattle.links.specs.Levels.{Before, After}
use Rattle.search.proofs.Towers.{last-first}
use Rattle.links.proofs.Standing.{before-page}

-- ---- For any table after a call

-- its levels before a place, where it has the head's page and the towers up to there of the table before; the head may be higher
pub before-as : {t a : Table} (i : ℕ) {h : ℕ} {levels : List ℕ} → a.head.page ≡ t.head.page → towers_of (take i a.rest) ≡ towers_of (take i t.rest) → Before t (suc i) h levels
    → Before a (suc i) h levels
before-as {t} {a} i e f b =
    record {
      long = b.long;
      last = λ l m. b.last l m ∙ last-first l t.head (towers_of (take i t.rest)) ∙ ap₂ (λ (p : ℕ) (ts : List Tower). last_at l p ts) (sym e) (sym f)
          ∙ sym (last-first l a.head (towers_of (take i a.rest)));
    }

-- at fewer levels
pub before-less : {t : Table} {j h m : ℕ} {levels : List ℕ} → h ≤ m → Before t j m levels → Before t j h levels
before-less l b = record { long = b.long; last = λ i k. b.last i (omega arith) }

-- the links, where each level below h has the next tower from place j on
pub links-relink : (a : Table) (j h : ℕ) (before values : List ℕ) → Before a j h before → ((l : ℕ) → l < h → get_or values l 0 ≡ next_at l (towers_of (drop j (columns a))))
    → link_writes before values h ≡ relink a j h
unfolding relink
links-relink a j h before values b v =
    map-from (λ l. on (get_or before l 0) (16 + 4 * l) (word32 (get_or values l 0)))
    (λ l. on (last_at l a.head.page (towers_of (take j (columns a)))) (16 + 4 * l) (word32 (next_at l (towers_of (drop j (columns a)))))) 0 h
    (λ l _ k. ap₂ (λ (p n : ℕ). on p (16 + 4 * l) (word32 n)) (b.last l (omega arith)) (v l (omega arith)))

-- the pages that they are on, in an image as long as the one before the call
pub before-linkable : {img : List ℕ} {root : ℕ} (t : Reading img root) (j h : ℕ) {levels : List ℕ} → h ≤ 252 → Before t.table j h levels
    → (now : List ℕ) → length now ≡ length img → Linkable now levels h
before-linkable {img} t j h {levels} few b now e =
    record { small = omega (arith, t.readable.small); few = few; pages = λ l k. page l k }
  where
    page : (l : ℕ) → l < h → IsPage now (get_or levels l 0)
    page l k = let p : IsPage img (get_or levels l 0) = before-page t b l k in record { low = p.low; high = omega (arith, p.high) }

-- ---- Remove, where the span at place k + 1 goes with a tower of height h

pub gone-links : (t : Table) (k : ℕ) → suc k < length (columns t) → (h : ℕ) (before values : List ℕ) → Before t (suc k) h before → After t (suc (suc k)) h values
    → link_writes before values h ≡ relink (without t (suc k)) (suc k) h
gone-links t k inside h before values b v =
    links-relink (without t (suc k)) (suc k) h before values (before-as k refl (ap towers_of (take_rest k t.rest (omega arith))) b)
    (λ l m. v.next l m ∙ ap (λ (cs : List Column). next_at l (towers_of cs)) (sym (behind-gone t k inside)))

-- ---- The counts of a table

pub counts-written : (t : Table) (img : List ℕ)
    → apply (counts_on t ∷ []) img ≡ write img t.root 16 (word32 (length (entries_of t)) ++ (word32 (length (columns t)) ++ word32 (length (towers_of (columns t)))))
unfolding counts
counts-written t img = refl

-- ---- Create: the head of a new table

module _ (span_size root span head : ℕ) where
  pub new-head : gather whole_tower (towers_in (empty_table span_size root span head)) ≡ whole_tower (tower_as head 12 0 span [])
  unfolding whole_tower
  new-head = refl
