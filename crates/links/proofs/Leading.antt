-- The path to a key has the last towers up to the span where the key belongs; the strict path has those before the span that begins with
-- the key.
use Prim.Native.Nat.{ℕ, zero, suc, ◌≤◌, ◌<◌}
use native.Mathlib.Omega.{arith}
use native.Mathlib.Decide.{dec_lt}
use mathlib.Core.Path.{◌≡◌, refl, ap, sym, ◌∙◌, subst}
use mathlib.Core.Logic.{by_cases}
use mathlib.Core.Bool.{Bool, true, false, cond}
use mathlib.Core.List.{List, [], ◌∷◌}
use lib.ListN.{length, get_or, take, drop, get_or-eq_default}
use borrow.Author.Tests.{le-ltb}
use Rattle.blockfile.specs.Bytes.{Every}
use Rattle.blockfile.specs.Layout.{Entry, Tower, columns, spans_of, towers_of}
use Rattle.blockfile.specs.Order.{Within}
use Rattle.blockfile.specs.Put.{target, span_at, last_at}
use Rattle.blockfile.specs.Path.{begun}
use Rattle.blockfile.proofs.Every.{every-left}
use Rattle.laws.proofs.Relinks.{towers-cut}
use Rattle.laws.proofs.Paths.{Cut, BeginsWith, passed-cut, target-cut, strict-cut}
use Rattle.search.specs.declared.table.TableRef.{TableRef}
use Rattle.search.specs.declared.path.Path.{Path}
use Rattle.search.specs.Tables.{Reading, ReadingBy}
use Rattle.search.specs.Paths.{PathIn}
use Rattle.search.proofs.Tables.{ordered}
use Rattle.search.proofs.Towers.{last-first}
use Rattle.search.proofs.Descents.{way_long, way_at, way-none}
use Rattle.search.specs.Paths.{Filled}
use Rattle.links.specs.Levels.{Before, PathAt, Pages, page_or_head}
use Rattle.links.proofs.Standing.{before-page}

-- ---- From the path to the towers before a place

module _ {img : List ℕ} {d : TableRef} (x : ReadingBy img d) (k : List ℕ) {strict : Bool} {p : Path} (h : PathIn img d k strict p) where
  path-cut : (n : ℕ) → Cut (begun strict x.of.rule k) (spans_of x.of.table.rest) n → PathAt x.of.table (suc n) p.pages
  path-cut n c =
      let t = x.of.table in
      let so : List Entry → Bool = begun strict x.of.rule k in
      record {
        before = record {
          long = way_long x k strict p (h.is x);
          last = λ l m. way_at x k strict p (h.is x) l (omega (arith, (h.is x).height)) ∙ passed-cut so t n c l ∙ sym (last-first l t.head (towers_of (take n t.rest)));
        };
        none = λ l m _. way-none x k strict p (h.is x) l (omega (arith, (h.is x).height));
      }

pub path-target : {img : List ℕ} {d : TableRef} (x : ReadingBy img d) (k : List ℕ) {p : Path} → PathIn img d k false p
    → PathAt x.of.table (suc (target x.of.rule k x.of.table)) p.pages
path-target x k h = path-cut x k h (target x.of.rule k x.of.table) (target-cut x.of.rule (ordered x.of) k x.of.table x.of.readable.ok)

pub path-strict : {img : List ℕ} {d : TableRef} (x : ReadingBy img d) (k : List ℕ) {p : Path} → PathIn img d k true p
    → (j : ℕ) → suc j < length (columns x.of.table) → BeginsWith k (span_at x.of.table (suc j)).entries → PathAt x.of.table (suc j) p.pages
path-strict x k h j l b = path-cut x k h j (strict-cut x.of.rule (ordered x.of) k x.of.table x.of.readable.ok j l b)

-- ---- The head above the path

-- no tower reaches above the level
last-low : (l m p : ℕ) (ts : List Tower) → Every (λ w. Within 1 m w.height) ts → m ≤ l → last_at l p ts ≡ p
last-low l m p [] h k = refl
last-low l m p (w ∷ ts) h k = ap (λ (b : Bool). last_at l (cond b w.page p) ts) (le-ltb l w.height (omega (arith, h.0.1))) ∙ last-low l m p ts h.1 k

pub or-none : (head n r : ℕ) → n ≡ 0 → r ≡ head → r ≡ page_or_head head n
or-none head zero r z e = e
or-none head (suc n) r z e = absurd (omega arith)

pub or_some : (head n r : ℕ) → (n ≡ 0 → ⊥) → r ≡ n → r ≡ page_or_head head n
or_some head zero r z e = absurd (z refl)
or_some head (suc n) r z e = e

module _ {img : List ℕ} {root : ℕ} (t : Reading img root) (j : ℕ) where
  -- the path has pages of the image, or 0
  pub path-pages : {path : List ℕ} → PathAt t.table (suc j) path → Pages path
  path-pages {path} p = record { long = p.before.long; small = small }
    where
      small : (l : ℕ) → get_or path l 0 ≤ 4096
      small l =
          by_cases (dec_lt l t.table.head.height) (λ b. omega (arith, (before-page t p.before l b).high, t.readable.small))
          (λ b. by_cases (dec_lt l 252) (λ c. omega (arith, p.none l (omega arith) c)) (λ c. omega (arith, get_or-eq_default path 0 {n = l} (omega (arith, p.before.long)))))

  head-last : (l : ℕ) → t.table.head.height ≤ l → last_at l t.table.head.page (towers_of (take (suc j) (columns t.table))) ≡ t.table.head.page
  head-last l h =
      last-first l t.table.head (towers_of (take j t.table.rest))
      ∙ last-low l t.table.head.height t.table.head.page (towers_of (take j t.table.rest))
      (every-left (λ (w : Tower). Within 1 t.table.head.height w.height) (towers_of (take j t.table.rest)) (towers_of (drop j t.table.rest))
      (subst (Every (λ (w : Tower). Within 1 t.table.head.height w.height)) (towers-cut j t.table.rest) t.readable.ok.others))
      h

  -- at every level, where the head fills the path
  pub before-all : {head : ℕ} {path old out : List ℕ} → head ≡ t.table.head.page → length old ≡ 252 → PathAt t.table (suc j) path
      → Filled old 252 (λ l. page_or_head head (get_or path l 0)) out → Before t.table (suc j) 252 out
  before-all {head} {path} e long p f =
      record {
        long = f.long ∙ long;
        last = λ l m. f.below l m ∙ by_cases (dec_lt l t.table.head.height)
            (λ b. let low : 1 ≤ get_or path l 0 = (before-page t p.before l b).low in sym (or_some head (get_or path l 0) (get_or path l 0) (λ z. omega arith) refl) ∙ p.before.last l b)
            (λ b. sym (or-none head (get_or path l 0) head (p.none l (omega arith) m) refl) ∙ e ∙ sym (head-last l (omega arith)));
      }
