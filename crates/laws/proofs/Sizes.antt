-- How far entries reach hangs on their sizes alone, and a shorter value never makes them reach further.
use Prim.Native.Nat.{ℕ, ◌+◌, ◌/◌, ◌≤◌}
use native.Mathlib.Omega.{arith}
use mathlib.Core.Path.{◌≡◌, refl, ap, sym, ◌∙◌}
use mathlib.Core.Bool.{Bool, true, false, cond}
use mathlib.Core.List.{List, [], ◌∷◌, map}
use mathlib.Core.Option.{none, some}
use lib.ListN.{length, take, drop, length-map}
use lib.Dec.{T}
use Rattle.blockfile.specs.Layout.{Entry, Table, columns, entries_from, lens_start, entry_end, entries_end, reached}
use Rattle.blockfile.specs.Order.{KeyRule, same, Rising, find, insert}
use Rattle.blockfile.specs.Put.{Parts, parts, new_height, span_wanted, wanted_by}
use Rattle.blockfile.proofs.Bools.{holds, same-eq}
use Rattle.blockfile.proofs.Every.{every-so}
use Rattle.laws.proofs.Orders.{Ordered}
use Rattle.laws.proofs.Maps.{find-low}
use Rattle.laws.proofs.Positions.{entries-mono}
use Rattle.laws.proofs.Places.{take-map, drop-map}
use Rattle.laws.proofs.Splits.{parts-cases, parts-plain, parts-split}

-- the bytes of key and value of each entry
abbrev pub sizes : List Entry → List ℕ
sizes es = map (λ e. length e.key + length e.value) es

abbrev end_from : (v : ℕ) → List ℕ → ℕ
end_from v [] = v
end_from v (n ∷ ns) = end_from (lens_start v + 4 + n) ns

end-sizes : (v : ℕ) (es : List Entry) → entries_end v es ≡ end_from v (sizes es)
unfolding entry_end
end-sizes v [] = refl
end-sizes v (e ∷ es) =
    let q : lens_start v + 4 + length e.key + length e.value ≡ lens_start v + 4 + (length e.key + length e.value) = omega arith in
    ap (λ (w : ℕ). entries_end w es) q ∙ end-sizes (lens_start v + 4 + (length e.key + length e.value)) es

-- entries of the same sizes are as many
pub same_length : (es fs : List Entry) → sizes es ≡ sizes fs → length es ≡ length fs
same_length es fs q = sym (length-map es (λ e. length e.key + length e.value)) ∙ ap length q ∙ length-map fs (λ e. length e.key + length e.value)

-- they reach as far
pub same-reached : (es fs : List Entry) → sizes es ≡ sizes fs → reached es ≡ reached fs
unfolding reached
same-reached es fs q = ap (λ (n : ℕ). (n + 1015) / 1016) (end-sizes entries_from es ∙ ap (end_from entries_from) q ∙ sym (end-sizes entries_from fs))

same-wanted : (es fs : List Entry) → sizes es ≡ sizes fs → span_wanted es ≡ span_wanted fs
same-wanted [] [] q = refl
same-wanted [] (f ∷ fs) q = absurd (omega (arith, same_length [] (f ∷ fs) q))
same-wanted (e ∷ es) [] q = absurd (omega (arith, same_length (e ∷ es) [] q))
same-wanted (e ∷ es) (f ∷ fs) q = same-reached (e ∷ es) (f ∷ fs) q

same_parts : (p q : Parts) → sizes p.stay ≡ sizes q.stay → sizes p.move ≡ sizes q.move → p.height ≡ q.height → wanted_by p ≡ wanted_by q
unfolding wanted_by
same_parts p q a b c =
    let x : reached p.stay ≡ reached q.stay = same-reached p.stay q.stay a in
    let y : span_wanted p.move ≡ span_wanted q.move = same-wanted p.move q.move b in
    cc

-- and want as many pages
pub same-pages : (t : Table) (es fs : List Entry) → sizes es ≡ sizes fs → wanted_by (parts t es) ≡ wanted_by (parts t fs)
same-pages t es fs q =
    let n : length es ≡ length fs = same_length es fs q in
    parts-cases t es
    (λ h. ap wanted_by (parts-plain t es h)
    ∙ same_parts (record { stay = es; move = []; height = 0 }) (record { stay = fs; move = []; height = 0 }) q refl refl
    ∙ sym (ap wanted_by (parts-plain t fs (omega arith))))
    (λ h. ap wanted_by (parts-split t es h)
    ∙ ap (λ (m : ℕ). wanted_by (halved m es)) (ap (λ (k : ℕ). (k + 1) / 2) n)
    ∙ same_parts (halved ((length fs + 1) / 2) es) (halved ((length fs + 1) / 2) fs) (front ((length fs + 1) / 2)) (back ((length fs + 1) / 2)) refl
    ∙ sym (ap wanted_by (parts-split t fs (omega arith))))
  where
    halved : ℕ → List Entry → Parts
    halved m xs = record { stay = take m xs; move = drop m xs; height = new_height (length (columns t) + 1) t.head.max_height }

    size : Entry → ℕ
    size e = length e.key + length e.value

    front : (m : ℕ) → sizes (take m es) ≡ sizes (take m fs)
    front m = sym (take-map size m es) ∙ ap (take m) q ∙ take-map size m fs

    back : (m : ℕ) → sizes (drop m es) ≡ sizes (drop m fs)
    back m = sym (drop-map size m es) ∙ ap (drop m) q ∙ drop-map size m fs

-- a key gets a value of as many bytes as another
pub insert-sizes : (r : KeyRule) (k v w : List ℕ) (es : List Entry) → length v ≡ length w → sizes (insert r k v es) ≡ sizes (insert r k w es)
insert-sizes r k v w [] q = ap (λ (n : ℕ). (length k + n) ∷ []) q
insert-sizes r k v w (e ∷ es) q = go (same k e.key) (r.below k e.key) (insert-sizes r k v w es q)
  where
    go : (b c : Bool) → sizes (insert r k v es) ≡ sizes (insert r k w es)
        → sizes (cond b (record { key = k; value = v } ∷ es) (cond c (record { key = k; value = v } ∷ e ∷ es) (e ∷ insert r k v es)))
        ≡ sizes (cond b (record { key = k; value = w } ∷ es) (cond c (record { key = k; value = w } ∷ e ∷ es) (e ∷ insert r k w es)))
    go true c ih = ap (λ (n : ℕ). (length k + n) ∷ sizes es) q
    go false true ih = ap (λ (n : ℕ). (length k + n) ∷ sizes (e ∷ es)) q
    go false false ih = ap (λ (ns : List ℕ). (length e.key + length e.value) ∷ ns) ih

-- ---- A value replaced by one that is no longer

shorter : (n : ℕ) (e f : Entry) → length e.key ≡ length f.key → length e.value ≤ length f.value → entry_end n e ≤ entry_end n f
unfolding entry_end
shorter n e f p q = omega arith

insert-end : (r : KeyRule) (o : Ordered r) (k v : List ℕ) (old : List ℕ) → length v ≤ length old → (n : ℕ) (es : List Entry) → Rising r es → find k es ≡ some old
    → entries_end n (insert r k v es) ≤ entries_end n es
insert-end r o k v old l n [] h f = absurd (let z : ◌≡◌ {A = ℕ} 0 1 = cc in omega arith)
insert-end r o k v old l n (e ∷ es) h f = go (same k e.key) refl (r.below k e.key) refl f (insert-end r o k v old l (entry_end n e) es h.1)
  where
    go : (b : Bool) → same k e.key ≡ b → (c : Bool) → r.below k e.key ≡ c → cond b (some e.value) (find k es) ≡ some old
        → (find k es ≡ some old → entries_end (entry_end n e) (insert r k v es) ≤ entries_end (entry_end n e) es)
        → entries_end n (cond b (record { key = k; value = v } ∷ es) (cond c (record { key = k; value = v } ∷ e ∷ es) (e ∷ insert r k v es))) ≤ entries_end n (e ∷ es)
    go true s c g f ih =
        let q : e.value ≡ old = cc in
        entries-mono (entry_end n (record { key = k; value = v })) (entry_end n e) es
        (shorter n (record { key = k; value = v }) e (ap length (same-eq k e.key (holds (same k e.key) s))) (rw q l))
    go false s true g f ih =
        let t : T (r.below k e.key) = holds (r.below k e.key) g in
        let m : find k es ≡ none = find-low r o k es (every-so (λ (y : Entry). T (r.below e.key y.key)) (λ y. o.trans k e.key y.key t) es h.0) in
        absurd (let z : ◌≡◌ {A = ℕ} 0 1 = cc in omega arith)
    go false s false g f ih = ih f

-- the entries reach no further
pub insert-reached : (r : KeyRule) (o : Ordered r) (k v : List ℕ) (old : List ℕ) → length v ≤ length old → (es : List Entry) → Rising r es → find k es ≡ some old
    → reached (insert r k v es) ≤ reached es
unfolding reached
insert-reached r o k v old l es h f = less (entries_end entries_from (insert r k v es)) (entries_end entries_from es) (insert-end r o k v old l entries_from es h f)
  where
    less : (a b : ℕ) → a ≤ b → (a + 1015) / 1016 ≤ (b + 1015) / 1016
    less a b h = omega arith
