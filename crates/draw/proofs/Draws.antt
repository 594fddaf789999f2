-- Pages drawn: old pages kept, the others taken, and the old pages that are left over given back.
use Prim.Native.Nat.{ℕ, ◌+◌, ◌*◌, ◌-◌, ◌<◌, ◌≤◌, min}
use native.Mathlib.Omega.{arith}
use native.Mathlib.Decide.{dec_lt}
use mathlib.Core.Path.{◌≡◌, ap, sym, ◌∙◌, subst}
use mathlib.Core.Logic.{by_cases}
use mathlib.Core.List.{List, [], ◌++◌, map, append-nil}
use lib.ListN.{length, take, drop, length-take, length-drop, take-append-drop, drop_of_length-le}
use Rattle.blockfile.specs.Bytes.{pg, apply, Every}
use Rattle.blockfile.specs.Fields.{Numbers, AreConts}
use Rattle.blockfile.specs.WellFormed.{count}
use Rattle.blockfile.specs.Free.{Drawn, take_many, give_many, draw}
use Rattle.blockfile.proofs.Count.{count-append}
use Rattle.laws.proofs.Writes.{apply-append}
use Rattle.laws.proofs.Steps.{Holds, in_hand, hand-small}
use Rattle.laws.proofs.Opens.{all_pieces}
use Rattle.laws.proofs.Draws.{take-many, few-taken, none-given, length-drawn}
use Rattle.draw.specs.declared.draw.Kept.{Kept}
use Rattle.draw.specs.Hands.{InHand, Chained, stored, Keeps, KeptFor, Stocked, TookAll, GaveChain, Drawable, drawn, Drew}
use Rattle.draw.proofs.Chains.{conts-drop}
use Rattle.draw.proofs.Listings.{stored-append, stored-stand}

-- ---- The pages in hand, parted

count-parts : (m w : ℕ) (ns : List ℕ) → count m ns ≡ count m (take w ns) + count m (drop w ns)
count-parts m w ns = ap (count m) (sym (take-append-drop w ns)) ∙ count-append m (take w ns) (drop w ns)

module _ (m w : ℕ) (old taken sp : List ℕ) where
  parted : count m (drop w old ++ (take w old ++ (taken ++ sp))) ≡ count m (taken ++ (old ++ sp))
  parted = simp count-append (omega (arith, count-parts m w old))

  among : count m (take w old ++ taken) ≤ count m (taken ++ (old ++ sp))
  among = simp count-append (omega (arith, count-parts m w old))

-- ---- The three steps

module _ {img : List ℕ} {start wanted : ℕ} {numbers : List ℕ} {at : ℕ} {r : Kept} {list : List ℕ} (kept : KeptFor img start wanted numbers at r list) where
  kept-count : (c : Chained img start) → r.count ≡ min wanted (length c.old)
  kept-count c = (kept.is c).count ∙ length-take wanted c.old

  pub kept-most : Chained img start → r.count ≤ wanted
  kept-most c = omega (arith, kept-count c)

  kept-rest : (c : Chained img start) → wanted - r.count ≡ wanted - length c.old
  kept-rest c = omega (arith, kept-count c)

  -- the other pages can be taken
  pub rest-stocked : Drawable img start wanted → Stocked img (wanted - r.count)
  rest-stocked d =
      let h : InHand img d.chain.old = d.chain.hand in
      record {
        hand = record {
          pages = h.pages;
          span_size = h.span_size;
          things = h.things;
          free = h.free;
          spare = d.chain.old ++ h.spare;
          holds = h.holds;
          few = h.few;
        };
        enough = omega (arith, kept-rest d.chain, d.enough);
      }

  module _ {out₁ list₁ : List ℕ} (took : TookAll img (wanted - r.count) list (at + r.count) out₁ list₁) where
    module _ (d : Drawable img start wanted) where
      abbrev others : Drawn
      others = take_many (wanted - length d.chain.old) d.chain.hand.free

      took-image : out₁ ≡ apply others.writes img
      unfolding rest-stocked
      took-image = took.image (rest-stocked d) ∙ ap (λ (k : ℕ). apply (take_many k d.chain.hand.free).writes img) (kept-rest d.chain)

      took-list : list₁ ≡ stored list (at + r.count) others.pages
      unfolding rest-stocked
      took-list = took.listed (rest-stocked d) ∙ ap (λ (k : ℕ). stored list (at + r.count) (take_many k d.chain.hand.free).pages) (kept-rest d.chain)

      took-holds : let h = d.chain.hand in
          Holds h.pages out₁ (all_pieces h.pages h.span_size h.things others.free) (others.pages ++ (d.chain.old ++ h.spare))
      took-holds =
          let h = d.chain.hand in
          rw took-image (take-many h.pages h.span_size h.things (wanted - length d.chain.old) img (d.chain.old ++ h.spare) h.free h.few (omega (arith, d.enough)) h.holds)

      -- pages are left over only where none was taken, so that their links are as they were
      left-linked : AreConts (drop wanted d.chain.old) (map (pg out₁) (drop wanted d.chain.old))
      left-linked =
          let old : List ℕ = d.chain.old in
          by_cases (dec_lt wanted (length old))
          (λ l. let z : wanted - length old ≡ 0 = omega arith in
          let e : out₁ ≡ img = took-image ∙ ap (λ (k : ℕ). apply (take_many k d.chain.hand.free).writes img) z in
          rw e (conts-drop (pg img) wanted old d.chain.linked))
          (λ l. let o : length old ≤ wanted = omega arith in subst (λ (ns : List ℕ). AreConts ns (map (pg out₁) ns)) (sym (drop_of_length-le old o)) tt)

      -- the pages that are left over can be given back
      pub left-chained : Chained out₁ r.next
      left-chained =
          let old : List ℕ = d.chain.old in
          let h : InHand img old = d.chain.hand in
          record {
            old = drop wanted old;
            hand = record {
              pages = h.pages;
              span_size = h.span_size;
              things = h.things;
              free = others.free;
              spare = take wanted old ++ (others.pages ++ h.spare);
              holds = in_hand (drop wanted old ++ (take wanted old ++ (others.pages ++ h.spare))) (λ m. parted m wanted old others.pages h.spare) took-holds;
              few = few-taken (wanted - length old) h.free h.few;
            };
            first = (kept.is d.chain).next;
            linked = left-linked;
          }

      drawn-pages : (drawn d).pages ≡ take wanted d.chain.old ++ others.pages
      unfolding draw
      drawn-pages =
          let old : List ℕ = d.chain.old in
          ap (λ (l : List ℕ). take wanted old ++ (others.pages ++ l)) (none-given (drop wanted old ++ []) others.free)
          ∙ ap (λ (l : List ℕ). take wanted old ++ l) (append-nil others.pages)

      drawn-list : list₁ ≡ stored numbers at (drawn d).pages
      drawn-list =
          let old : List ℕ = d.chain.old in
          let k : Keeps old wanted numbers at r list = kept.is d.chain in
          took-list ∙ ap (λ (l : List ℕ). stored l (at + r.count) others.pages) k.listed
          ∙ ap (λ (n : ℕ). stored (stored numbers at (take wanted old)) (at + n) others.pages) k.count
          ∙ sym (stored-append numbers at (take wanted old) others.pages) ∙ ap (stored numbers at) (sym drawn-pages)

      drawn-stand : 4 * (at + wanted) ≤ length numbers → Numbers list₁ (4 * at) (drawn d).pages
      drawn-stand room =
          let old : List ℕ = d.chain.old in
          let h : InHand img old = d.chain.hand in
          rw drawn-list
          (stored-stand numbers at (drawn d).pages (omega (arith, length-drawn old wanted [] h.free d.enough))
          (subst (Every (λ n. n < 4294967296)) (sym drawn-pages) (hand-small took-holds (take wanted old ++ others.pages) (λ m. among m wanted old others.pages h.spare))))

      drawn-image : (out : List ℕ) → out ≡ apply (give_many (drop wanted d.chain.old) others.free).writes out₁ → out ≡ apply (drawn d).writes img
      unfolding draw
      drawn-image out e =
          let left : List ℕ = drop wanted d.chain.old in
          e ∙ ap (apply (give_many left others.free).writes) took-image ∙ sym (apply-append others.writes (give_many left others.free).writes img)
          ∙ ap (λ (l : List ℕ). apply (others.writes ++ (give_many l others.free).writes) img) (sym (append-nil left))

    pub drew : {n : ℕ} {out : List ℕ} → 4 * (at + wanted) ≤ length numbers → GaveChain out₁ r.next n out → Drew img start wanted numbers at n out list₁
    unfolding left-chained
    drew {n} {out} room gave =
        record {
          image = λ d. drawn-image d out (gave.image (left-chained d));
          listed = drawn-list;
          stand = λ d. drawn-stand d room;
          given = λ d. gave.given (left-chained d) ∙ length-drop wanted d.chain.old;
        }
