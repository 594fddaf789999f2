-- Old continuation pages kept, page by page.
use Prim.Native.Nat.{ℕ, ◌+◌, ◌*◌, ◌<◌, ◌≤◌}
use native.Mathlib.Omega.{arith}
use native.Mathlib.Numerals.{add-one}
use native.Mathlib.Decide.{dec_lt}
use mathlib.Core.Path.{◌≡◌, ap, sym, ◌∙◌}
use mathlib.Core.Logic.{by_cases}
use mathlib.Core.List.{List, [], ◌∷◌}
use lib.ListN.{length, get_or, take, drop, length-take, drop_of_length-le}
use lib.Seq.{sets, length-sets, take-suc, take_all, drop-cons}
use Rattle.blockfile.specs.Bytes.{pg, be32, word32, first_of}
use Rattle.pages.specs.Places.{Inside}
use Rattle.draw.specs.Hands.{Chained, stored, Keeps, KeptFor}
use Rattle.draw.proofs.Chains.{conts-link, first_some, chain-inside}
use Rattle.draw.proofs.Listings.{stored-append, stored_one}

-- to keep all that there are is to keep as many as are wanted
same_parts : (old : List ℕ) (wanted count : ℕ) → count ≤ wanted → (count < wanted → length old ≤ count)
    → (take count old ≡ take wanted old) × (drop count old ≡ drop wanted old)
same_parts old wanted count m end =
    by_cases (dec_lt count wanted)
    (λ l. let o : length old ≤ count = end l in
    let o' : length old ≤ wanted = omega arith in
    (take_all count old o ∙ sym (take_all wanted old o'), drop_of_length-le old o ∙ sym (drop_of_length-le old o')))
    (λ l. let e : count ≡ wanted = omega arith in (ap (λ (k : ℕ). take k old) e, ap (λ (k : ℕ). drop k old) e))

-- so many of the pages `old` are kept, and the chain goes on from `next`
pub record Part (old : List ℕ) (wanted : ℕ) (numbers₀ : List ℕ) (at : ℕ) (numbers : List ℕ) (next count : ℕ) : Type 0 where
  pub most : count ≤ wanted
  pub all : count ≤ length old
  pub page : next ≡ first_of (drop count old)
  pub listed : numbers ≡ stored numbers₀ at (take count old)

pub record Keeping (img : List ℕ) (start wanted : ℕ) (numbers₀ : List ℕ) (at : ℕ) (numbers : List ℕ) (next count : ℕ) : Type 0 where
  pub size : length numbers ≡ length numbers₀
  pub is : (c : Chained img start) → Part c.old wanted numbers₀ at numbers next count

module _ (img : List ℕ) (start wanted : ℕ) (numbers₀ : List ℕ) (at : ℕ) where
  module _ (numbers : List ℕ) (next count : ℕ) (v : Keeping img start wanted numbers₀ at numbers next count) where
    there : (c : Chained img start) → (next ≡ 0 → ⊥) → count < length c.old
    there c some = first_some count c.old (λ z. some ((v.is c).page ∙ z))

    pub keeping-inside : Chained img start → (next ≡ 0 → ⊥) → Inside img next 4 4
    keeping-inside c some = rw (v.is c).page (chain-inside c count 4 4 (there c some) (omega arith))

    pub keeping-next : count < wanted → (next ≡ 0 → ⊥) → (numbers' : List ℕ) → numbers' ≡ sets numbers (4 * (at + count)) (word32 next)
        → (next' : ℕ) → next' ≡ be32 (pg img next) 4 → Keeping img start wanted numbers₀ at numbers' next' (count + 1)
    keeping-next l some numbers' e next' f =
        record { size = ap length e ∙ length-sets numbers (4 * (at + count)) (word32 next) ∙ v.size; is = turn }
      where
        turn : (c : Chained img start) → Part c.old wanted numbers₀ at numbers' next' (count + 1)
        turn c =
            let k : count < length c.old = there c some in
            let n : length (take count c.old) ≡ count = rw length-take (omega arith) in
            let here : next ≡ get_or c.old count 0 = (v.is c).page ∙ ap first_of (drop-cons c.old count 0 k) in
            record {
              most = omega arith;
              all = omega arith;
              page = rw (f, (v.is c).page, add-one count) (conts-link (pg img) count c.old k c.linked);
              listed = e ∙ stored_one numbers (at + count) next
                  ∙ rw (add-one count, take-suc c.old count 0 k, (v.is c).listed, ← here) (rw n at (sym (stored-append numbers₀ at (take count c.old) (next ∷ []))));
            }

    -- at the end of the chain all pages are kept
    over : (c : Chained img start) → next ≡ 0 → length c.old ≤ count
    over c z =
        by_cases (dec_lt count (length c.old))
        (λ k. absurd (omega (arith, (chain-inside c count 0 0 k (omega arith)).low, (v.is c).page)))
        (λ k. omega arith)

    pub keeping-end : (count < wanted → next ≡ 0) → KeptFor img start wanted numbers₀ at (record { count = count; next = next }) numbers
    keeping-end end = record { is = done }
      where
        done : (c : Chained img start) → Keeps c.old wanted numbers₀ at (record { count = count; next = next }) numbers
        done c =
            let w : Part c.old wanted numbers₀ at numbers next count = v.is c in
            let e : (take count c.old ≡ take wanted c.old) × (drop count c.old ≡ drop wanted c.old)
            = same_parts c.old wanted count w.most (λ l. over c (end l)) in
            record {
              count = rw (← e.0, length-take) (omega (arith, w.all));
              next = w.page ∙ ap first_of e.1;
              listed = w.listed ∙ ap (stored numbers₀ at) e.0;
            }
