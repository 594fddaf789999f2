-- Pages given back: only their first bytes are written, the free mark or, where one becomes a block, what a block holds.
use Prim.Native.Nat.{ℕ, ◌+◌, ◌-◌, ◌≤◌}
use native.Mathlib.Omega.{arith}
use mathlib.Core.Path.{◌≡◌, sym}
use mathlib.Core.Logic.{◌≢◌}
use mathlib.Core.Bool.{Bool, true, false, cond}
use mathlib.Core.List.{List, [], ◌∷◌, ◌++◌, map}
use lib.ListN.{length, drop, length-append}
use lib.Dec.{ltb}
use Rattle.blockfile.specs.Bytes.{Write, word32, Every}
use Rattle.blockfile.specs.Marks.{block_mark, free_mark}
use Rattle.blockfile.specs.Layout.{Block}
use Rattle.blockfile.specs.WellFormed.{count}
use Rattle.blockfile.specs.Free.{Drawn, list_page, new_block, give_page, take_many, give_many, draw}
use Rattle.blockfile.proofs.Every.{every-join}
use Rattle.blockfile.proofs.Count.{not_first}
use Rattle.laws.specs.Owned.{Bounded}
use Rattle.laws.proofs.Numbers.{length-word32}
use Rattle.laws.proofs.Touches.{BlockHas, pages-taken}

module _ (n m : ℕ) where
  -- a write on page n ends at m or before
  abbrev pub Ends : Write → Type 0
  Ends w = n ≡ w.page → w.offset + length w.bytes ≤ m

  -- no block on page n
  pub bounded-none : (bs : List Block) → count n (map (λ b. b.page) bs) ≡ 0 → Bounded n m bs
  bounded-none [] z = tt
  bounded-none (b ∷ bs) z = ((λ e. absurd (not_first n b.page (map (λ c. c.page) bs) z (sym e))), bounded-none bs (omega arith))

  -- blocks list no fewer pages after giving back
  bounded-one : (x : ℕ) (bs : List Block) → Bounded n m (give_page x bs).free → Bounded n m bs
  bounded-one x [] h = tt
  bounded-one x (b ∷ bs) h = go (ltb (length b.listed) 252) h
    where
      go : (t : Bool) → Bounded n m (cond t (list_page x b bs) (new_block x (b ∷ bs))).free → Bounded n m (b ∷ bs)
      go true h = ((λ e. omega (arith, h.0 e, length-append b.listed (x ∷ []))), h.1)
      go false h = h.1

  bounded-before : (xs : List ℕ) (bs : List Block) → Bounded n m (give_many xs bs).free → Bounded n m bs
  bounded-before [] bs h = h
  bounded-before (x ∷ xs) bs h = bounded-one x bs (bounded-before xs (give_page x bs).free h)

  module _ (other : n ≢ 1) (low : 8 ≤ m) where
    new-ends : (x : ℕ) (bs : List Block) → Bounded n m (new_block x bs).free → Every Ends (new_block x bs).writes
    unfolding block_mark word32
    new-ends x bs h = ((λ e. h.0 e), ((λ e. absurd (other e)), tt))

    give-ends : (x : ℕ) (bs : List Block) → Bounded n m (give_page x bs).free → Every Ends (give_page x bs).writes
    give-ends x [] h = new-ends x [] h
    give-ends x (b ∷ bs) h = go (ltb (length b.listed) 252) h
      where
        go : (t : Bool) → Bounded n m (cond t (list_page x b bs) (new_block x (b ∷ bs))).free → Every Ends (cond t (list_page x b bs) (new_block x (b ∷ bs))).writes
        go true h = (
          λ e. unfold free_mark in (omega arith),
          (
            λ e. omega (arith, h.0 e, length-append b.listed (x ∷ []), length-word32 x),
            ((λ e. omega (arith, h.0 e, length-word32 (length b.listed + 1))), tt),
          ),
        )
        go false h = new-ends x (b ∷ bs) h

    gives-end : (xs : List ℕ) (bs : List Block) → Bounded n m (give_many xs bs).free → Every Ends (give_many xs bs).writes
    gives-end [] bs h = tt
    gives-end (x ∷ xs) bs h =
        every-join Ends (give_page x bs).writes (give_many xs (give_page x bs).free).writes (give-ends x bs (bounded-before xs (give_page x bs).free h)) (gives-end xs (give_page x bs).free h)

    -- what drawing writes on a page that is not a block before it
    pub draw-ends : (old : List ℕ) (wanted : ℕ) (gone : List ℕ) (bs : List Block) → count n (map (λ b. b.page) bs) ≡ 0 → Bounded n m (draw old wanted gone bs).free
        → Every Ends (draw old wanted gone bs).writes
    unfolding draw
    draw-ends old wanted gone bs z h =
        let t : Drawn = take_many (wanted - length old) bs in
        every-join Ends t.writes (give_many (drop wanted old ++ gone) t.free).writes
        (pages-taken Ends (λ cs l e. absurd (other e)) (wanted - length old) bs (not-blocks bs z)).writes
        (gives-end (drop wanted old ++ gone) t.free h)
      where
        not-blocks : (cs : List Block) → count n (map (λ b. b.page) cs) ≡ 0 → Every (λ b. BlockHas Ends b.page) cs
        not-blocks [] z = tt
        not-blocks (b ∷ cs) z =
            let apart : n ≡ b.page → ⊥ = λ e. not_first n b.page (map (λ b. b.page) cs) z (sym e) in
            (record { count = λ ds l e. absurd (apart e); listed = λ i k ds l e. absurd (apart e) }, not-blocks cs (omega arith))
