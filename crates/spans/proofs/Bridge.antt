-- A run over what is left of a stream is a list of entries at positions of the stream, as the text has them.
use Prim.Native.Nat.{ℕ, zero, suc, ◌+◌, ◌*◌, ◌-◌, ◌≤◌}
use native.Mathlib.Omega.{arith}
use native.Mathlib.Nat.{add-zero, add_assoc}
use mathlib.Core.Path.{◌≡◌, refl, ap, sym, ◌∙◌, subst}
use mathlib.Core.List.{List, [], ◌∷◌}
use lib.ListN.{length, take, drop, get_or, length-drop}
use lib.Seq.{drop-drop, take-nil, get_or-drop, slice, length-take-le}
use lib.Dec.{T}
use Rattle.blockfile.specs.Bytes.{be16, Every}
use Rattle.blockfile.specs.Layout.{Entry, lens_start, entry_end, entries_end}
use Rattle.blockfile.specs.Fields.{EntriesAt}
use Rattle.laws.proofs.Numbers.{be16-agree}
use Rattle.laws.proofs.Positions.{lens-cases, entries-after}
use Rattle.order.specs.declared.sort.Sort.{Sort}
use Rattle.order.specs.Sorts.{rule_as}
use Rattle.spans.specs.Entries.{fits, Above, last_key, skip, key_length, value_length, key_of, taken, Run}
use Rattle.spans.proofs.Runs.{skip-cases}

be16-drop : (k : ℕ) (l : List ℕ) (i : ℕ) → be16 (drop k l) i ≡ be16 l (k + i)
be16-drop k l i = be16-agree (drop k l) i l (k + i) (λ j q. get_or-drop k l (i + j) 0 ∙ ap (λ (x : ℕ). get_or l x 0) (sym (add_assoc k i j)))

slice-take : (f n : ℕ) (l : List ℕ) → slice f (f + n) l ≡ take n (drop f l)
slice-take zero n l = let e : 0 + n ≡ n = omega arith in rw e
slice-take (suc f) n [] = let e : suc f + n ≡ suc (f + n) = omega arith in rw e (sym (take-nil n))
slice-take (suc f) n (x ∷ l) = let e : suc f + n ≡ suc (f + n) = omega arith in rw e (slice-take f n l)

module _ (sort : Sort) (st : List ℕ) (K : ℕ) (whole : length st ≡ 1016 * K) where
  lens-skip : (v : ℕ) → v ≤ length st → lens_start v ≡ v + skip (drop v st)
  lens-skip v h =
      let n : length (drop v st) + v ≡ 1016 * K = rw length-drop (omega arith) in
      lens-cases v
      (λ l e. skip-cases (drop v st) (λ m f. omega arith) (λ m f. omega arith))
      (λ l e. skip-cases (drop v st) (λ m f. omega arith) (λ m f. omega arith))

  -- the entry that follows position v
  abbrev entry_at : ℕ → Entry
  entry_at v = record { key = key_of (drop v st); value = take (value_length (drop v st)) (drop (skip (drop v st) + 4 + key_length (drop v st)) (drop v st)) }

  module _ (v : ℕ) (h : v ≤ length st) where
    k-at : key_length (drop v st) ≡ be16 st (lens_start v)
    unfolding key_length
    k-at = rw (be16-drop (skip (drop v st)) (drop v st) 0, be16-drop v st (skip (drop v st) + 0), lens-skip v h, add-zero (skip (drop v st)))

    v-at : value_length (drop v st) ≡ be16 st (lens_start v + 2)
    unfolding value_length
    v-at =
        let e : v + (skip (drop v st) + 2) ≡ v + skip (drop v st) + 2 = omega arith in
        rw (be16-drop (skip (drop v st)) (drop v st) 2, be16-drop v st (skip (drop v st) + 2), lens-skip v h, e)

    key-at : key_of (drop v st) ≡ take (key_length (drop v st)) (drop (lens_start v + 4) st)
    unfolding key_of
    key-at =
        let e : v + (skip (drop v st) + 4) ≡ lens_start v + 4 = omega (arith, lens-skip v h) in
        ap (take (key_length (drop v st))) (drop-drop (skip (drop v st) + 4) v st ∙ ap (λ (x : ℕ). drop x st) e)

    value-at : (entry_at v).value ≡ take (value_length (drop v st)) (drop (lens_start v + 4 + key_length (drop v st)) st)
    value-at =
        let e : v + (skip (drop v st) + 4 + key_length (drop v st)) ≡ lens_start v + 4 + key_length (drop v st) = omega (arith, lens-skip v h) in
        ap (take (value_length (drop v st))) (drop-drop (skip (drop v st) + 4 + key_length (drop v st)) v st ∙ ap (λ (x : ℕ). drop x st) e)

  -- n entries from position v on; t is what is left after them and hi the last key
  pub record Listed (v : ℕ) (low : List ℕ) (n : ℕ) (t hi : List ℕ) : Type 0 where
    pub es : List Entry
    pub count : length es ≡ n
    pub entries : EntriesAt st v es
    pub above : Above sort low es
    pub fine : Every (λ e. T (fits sort e.key (length e.value))) es
    pub end : entries_end v es ≤ length st
    pub left : t ≡ drop (entries_end v es) st
    pub last : hi ≡ last_key low es

  -- one entry more
  module _ (n v : ℕ) (low t hi : List ℕ) (h : v ≤ length st) (r : Run sort (drop v st) low (suc n) t hi) where
    room : taken (drop v st) ≤ length st - v
    room = subst (λ (x : ℕ). taken (drop v st) ≤ x) (length-drop v st) r.0

    kl : length (entry_at v).key ≡ key_length (drop v st)
    unfolding taken key_of
    kl = length-take-le (key_length (drop v st)) (drop (skip (drop v st) + 4) (drop v st)) (simp length-drop (omega (arith, room)))

    vl : length (entry_at v).value ≡ value_length (drop v st)
    unfolding taken
    vl = length-take-le (value_length (drop v st)) (drop (skip (drop v st) + 4 + key_length (drop v st)) (drop v st)) (simp length-drop (omega (arith, room)))

    end_is : v + taken (drop v st) ≡ entry_end v (entry_at v)
    unfolding taken entry_end
    end_is = omega (arith, kl, vl, lens-skip v h)

    one_more : ((w : ℕ) (low t hi : List ℕ) → w ≤ length st → Run sort (drop w st) low n t hi → Listed w low n t hi) → Listed v low (suc n) t hi
    unfolding entry_end
    one_more ih =
        let x : Listed (entry_end v (entry_at v)) (entry_at v).key n t hi
        = ih (entry_end v (entry_at v)) (entry_at v).key t hi (omega (arith, end_is, room))
        (subst (λ (y : ℕ). Run sort (drop y st) (key_of (drop v st)) n t hi) end_is (rw (← drop-drop (taken (drop v st)) v st) r.2)) in
        record {
          es = entry_at v ∷ x.es;
          count = ap suc x.count;
          entries = (
            sym (k-at v h) ∙ sym kl,
            sym (v-at v h) ∙ sym vl,
            slice-take (lens_start v + 4) (length (entry_at v).key) st ∙ rw kl (sym (key-at v h)),
            slice-take (lens_start v + 4 + length (entry_at v).key) (length (entry_at v).value) st ∙ rw (kl, vl) (sym (value-at v h)),
            x.entries,
          );
          above = (r.1.0, x.above);
          fine = (subst (λ (y : ℕ). T (fits sort (key_of (drop v st)) y)) (sym vl) r.1.1, x.fine);
          end = x.end;
          left = x.left;
          last = x.last;
        }

  pub run-listed : (n v : ℕ) (low t hi : List ℕ) → v ≤ length st → Run sort (drop v st) low n t hi → Listed v low n t hi
  run-listed zero v low t hi h r = record { es = []; count = refl; entries = tt; above = tt; fine = tt; end = h; left = sym r.0; last = sym r.1 }
  run-listed (suc n) v low t hi h r = one_more n v low t hi h r (run-listed n)

  -- and back
  module _ (e : Entry) (es : List Entry) (v : ℕ) (low : List ℕ) (h : v ≤ length st) (a : EntriesAt st v (e ∷ es)) (end : entries_end v (e ∷ es) ≤ length st) where
    k-is : key_length (drop v st) ≡ length e.key
    k-is = k-at v h ∙ a.0

    v-is : value_length (drop v st) ≡ length e.value
    v-is = v-at v h ∙ a.1

    key-is : key_of (drop v st) ≡ e.key
    key-is = key-at v h ∙ rw k-is (sym (slice-take (lens_start v + 4) (length e.key) st)) ∙ a.2

    to_end : v + taken (drop v st) ≡ entry_end v e
    unfolding taken entry_end
    to_end = omega (arith, k-is, v-is, lens-skip v h)

    one-back : T ((rule_as sort).below low e.key) → T (fits sort e.key (length e.value))
        → Run sort (drop (entry_end v e) st) e.key (length es) (drop (entries_end (entry_end v e) es) st) (last_key e.key es)
        → Run sort (drop v st) low (suc (length es)) (drop (entries_end (entry_end v e) es) st) (last_key e.key es)
    one-back b ok ih = (
      rw length-drop (omega (arith, to_end, entries-after (entry_end v e) es, end)),
      (subst (λ (k : List ℕ). T ((rule_as sort).below low k)) (sym key-is) b, rw (key-is, v-is) ok),
      subst (λ (k : List ℕ). Run sort (drop (taken (drop v st)) (drop v st)) k (length es) (drop (entries_end (entry_end v e) es) st) (last_key e.key es)) (sym key-is)
          (rw (drop-drop (taken (drop v st)) v st, to_end) ih),
    )

  pub listed-run : (es : List Entry) (v : ℕ) (low : List ℕ) → v ≤ length st → EntriesAt st v es → Above sort low es → Every (λ e. T (fits sort e.key (length e.value))) es
      → entries_end v es ≤ length st → Run sort (drop v st) low (length es) (drop (entries_end v es) st) (last_key low es)
  listed-run [] v low h a b ok c = (refl, refl)
  listed-run (e ∷ es) v low h a b ok c =
      one-back e es v low h a c b.0 ok.0 (listed-run es (entry_end v e) e.key (omega (arith, entries-after (entry_end v e) es, c)) a.4 b.1 ok.1 c)
