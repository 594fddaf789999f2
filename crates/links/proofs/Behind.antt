-- The levels of `towers_after`: each of the last towers leads to the next one.
use Prim.Native.Nat.{ℕ, suc, ◌+◌, ◌*◌, ◌<◌}
use native.Mathlib.Omega.{arith}
use native.Mathlib.Decide.{dec_lt}
use mathlib.Core.Path.{◌≡◌, ap, sym, ◌∙◌, subst}
use mathlib.Core.Logic.{by_cases}
use mathlib.Core.List.{List, [], ◌++◌}
use lib.ListN.{length, get_or, take, drop, replicate, take-append-drop, length-replicate}
use Rattle.blockfile.specs.Bytes.{pg, be32}
use Rattle.blockfile.specs.Layout.{Column, towers_of}
use Rattle.blockfile.specs.WellFormed.{next_at}
use Rattle.pages.specs.Places.{Inside}
use Rattle.entries.specs.Places.{IsPage}
use Rattle.search.specs.Tables.{Reading}
use Rattle.search.specs.Paths.{Filled}
use Rattle.links.specs.Levels.{Before, After}
use Rattle.search.proofs.Towers.{AllBorne, last-first, entry_here, towers-from, head-tall, above-head, head-borne}
use Rattle.search.proofs.Descents.{zeros-behind}
use Rattle.links.proofs.Standing.{last-leads, before-page}

-- entry l of the tower that the levels have there
abbrev pub entry_of : (img levels : List ℕ) (l : ℕ) → ℕ
entry_of img levels l = be32 (pg img (get_or levels l 0)) (16 + 4 * l)

module _ {img : List ℕ} {root : ℕ} (t : Reading img root) where
  module _ (i : ℕ) {m : ℕ} {levels : List ℕ} (b : Before t.table (suc i) m levels) (l : ℕ) (k : l < m) (h : l < t.table.head.height) where
    pub leads : entry_of img levels l ≡ next_at l (towers_of (drop i t.table.rest))
    leads =
        let rest : List Column = t.table.rest in
        let split : take i rest ++ drop i rest ≡ rest = take-append-drop i rest in
        let p : ℕ = t.table.head.page in
        ap (λ (n : ℕ). be32 (pg img n) (16 + 4 * l)) (b.last l k ∙ last-first l t.table.head (towers_of (take i rest)))
        ∙ last-leads img l (drop i rest) p (take i rest) (subst (AllBorne img) (sym split) (towers-from t 1))
        (entry_here img t.table.head t.table.first.page (towers_of rest) (head-borne t) l h ∙ ap (λ (cs : List Column). next_at l (towers_of cs)) (sym split))

    pub level-inside : Inside img (get_or levels l 0) (16 + 4 * l) 4
    level-inside =
        let p : IsPage img (get_or levels l 0) = before-page t b l k in
        record { small = t.readable.small; low = p.low; high = p.high; fits = omega (arith, head-tall t) }

  -- the entries of the last towers below the head's height, and 0 from there on
  pub after_is : (i height : ℕ) {levels old out : List ℕ} → height ≡ t.table.head.height → old ≡ replicate 252 0
      → Filled old height (entry_of img levels) out → Before t.table (suc i) 252 levels → After t.table (suc i) 252 out
  after_is i height e z f b =
      record {
        long = f.long ∙ ap length z ∙ length-replicate {A = ℕ} 252 0;
        next = λ l m. by_cases (dec_lt l height)
            (λ k. f.below l k ∙ leads i b l m (omega arith))
            (λ k. f.above l (omega arith) ∙ ap (λ (ns : List ℕ). get_or ns l 0) z ∙ zeros-behind [] 252 l (omega arith) ∙ sym (above-head t i l (omega arith)));
      }
