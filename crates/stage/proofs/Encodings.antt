-- The ways through `put_lengths`, `put_new` and `put_old`: stores one behind another.
use Prim.Native.Nat.{ℕ, ◌+◌, ◌-◌, ◌≤◌}
use native.Mathlib.Omega.{arith}
use mathlib.Core.Path.{◌≡◌, refl, ap, sym, ◌∙◌}
use mathlib.Core.List.{List, [], ◌∷◌, ◌++◌, append_assoc, append-nil}
use lib.ListN.{length, take, drop, replicate, length-append, length-replicate, length-drop, drop_of_length-le, replicate-append-replicate}
use lib.Seq.{sets, sets-eq, take_at, take_all, drop-drop}
use Rattle.blockfile.specs.Bytes.{word16}
use Rattle.blockfile.specs.Layout.{Entry, lens_start, entry_end}
use Rattle.blockfile.specs.Encode.{entries_bytes}
use Rattle.laws.proofs.Lists.{sets-append}
use Rattle.laws.proofs.Numbers.{length-word16}
use Rattle.laws.proofs.Positions.{lens-after}
use Rattle.entries.specs.declared.place.Sizes.{Sizes}
use Rattle.entries.specs.Places.{Copied}
use Rattle.search.specs.Spans.{EntryAt}
use Rattle.search.proofs.Entries.{bytes-copied, bytes-length}
use Rattle.stage.specs.Parts.{length_bytes, Lengthened, EntryPut, Copyable}
use Rattle.stage.proofs.Sections.{entry-sized, sized-end}

-- ---- put_lengths

abbrev zeros : ℕ → List ℕ
zeros n = replicate n 0

take-zeros : (n m : ℕ) → n ≤ m → take n (zeros m) ≡ zeros n
take-zeros n m h =
    let sum : n + (m - n) ≡ m = omega arith in
    ap (λ (k : ℕ). take n (zeros k)) (sym sum) ∙ ap (take n) (sym (replicate-append-replicate n (m - n) 0)) ∙ take_at (zeros n) (zeros (m - n)) n (length-replicate n 0)

pub lengths-put : (old : List ℕ) (end lens key value : ℕ) {l1 l2 l3 : List ℕ} → lens ≡ lens_start end → lens ≤ end + 3
    → l1 ≡ sets old end (take (lens - end) (zeros 3)) → l2 ≡ sets l1 lens (word16 key) → l3 ≡ sets l2 (lens + 2) (word16 value)
    → Lengthened old end key value l3 (lens + 4)
lengths-put old end lens key value e near e1 e2 e3 =
    let from : end ≤ lens = omega (arith, lens-after end) in
    let zs : List ℕ = zeros (lens - end) in
    let sum : end + length zs ≡ lens = omega (arith, length-replicate {A = ℕ} (lens - end) 0) in
    let two : lens + length (word16 key) ≡ lens + 2 = omega (arith, length-word16 key) in
    let first : sets old end (take (lens - end) (zeros 3)) ≡ sets old end zs = ap (sets old end) (take-zeros (lens - end) 3 (omega arith)) in
    let all : sets old end (zs ++ (word16 key ++ word16 value)) ≡ sets (sets (sets old end zs) lens (word16 key)) (lens + 2) (word16 value)
    = sets-append zs (word16 key ++ word16 value) old end
    ∙ ap (λ (i : ℕ). sets (sets old end zs) i (word16 key ++ word16 value)) sum
    ∙ sets-append (word16 key) (word16 value) (sets old end zs) lens
    ∙ ap (λ (i : ℕ). sets (sets (sets old end zs) lens (word16 key)) i (word16 value)) two in
    record {
      is = e3
          ∙ ap (λ (x : List ℕ). sets x (lens + 2) (word16 value)) (e2 ∙ ap (λ (x : List ℕ). sets x lens (word16 key)) (e1 ∙ first))
          ∙ sym all ∙ ap (λ (i : ℕ). sets old end (zeros (i - end) ++ (word16 key ++ word16 value))) e;
      first = ap (λ (i : ℕ). i + 4) e;
    }

-- ---- an entry: its lengths, and its key and value behind them

-- what room for an entry says
pub new-room : (end : ℕ) (e : Entry) {n : ℕ} → entry_end end e ≤ n → lens_start end + 4 + length e.key + length e.value ≤ n
unfolding entry_end
new-room end e h = h

pub copy-room : {img : List ℕ} {g : Sizes} {stream : List ℕ} {end : ℕ} → Copyable img g stream end → lens_start end + 4 + (g.key + g.value) ≤ length stream
copy-room {end = end} c = omega (arith, entry-sized c.at, new-room end c.entry c.room)

length-lengths : (end key value : ℕ) → end + length (length_bytes end key value) ≡ lens_start end + 4
length-lengths end key value =
    let a : length (length_bytes end key value) ≡ length (zeros (lens_start end - end)) + length (word16 key ++ word16 value) = length-append (zeros (lens_start end - end)) (word16 key ++ word16 value) in
    let b : length (word16 key ++ word16 value) ≡ 4 = length-append (word16 key) (word16 value) ∙ omega (arith, length-word16 key, length-word16 value) in
    omega (arith, lens-after end, length-replicate {A = ℕ} (lens_start end - end) 0)

entry-bytes : (end : ℕ) (e : Entry) → entries_bytes end (e ∷ []) ≡ length_bytes end (length e.key) (length e.value) ++ (e.key ++ e.value)
entry-bytes end e = simp (append_assoc, append-nil)

module _ {old mid : List ℕ} {end key value first : ℕ} (t : Lengthened old end key value mid first) (e : Entry) (k : key ≡ length e.key) (v : value ≡ length e.value) where
  -- key and value stored as one run of bytes
  run-put : sets mid first (e.key ++ e.value) ≡ sets old end (entries_bytes end (e ∷ []))
  run-put =
      sym
      (ap (sets old end) (entry-bytes end e)
      ∙ sets-append (length_bytes end (length e.key) (length e.value)) (e.key ++ e.value) old end
      ∙ rw (length-lengths end (length e.key) (length e.value), ← t.first, ← k, ← v, ← t.is))

pub new-put : {old mid l2 l3 : List ℕ} {end first second : ℕ} (e : Entry) → Lengthened old end (length e.key) (length e.value) mid first
    → l2 ≡ sets mid first e.key → second ≡ first + length e.key → l3 ≡ sets l2 second e.value → EntryPut old end e l3 (second + length e.value)
unfolding entry_end
new-put {mid = mid} {first = first} {second = second} e t e2 q e3 =
    record {
      is = e3
          ∙ ap (λ (x : List ℕ). sets x second e.value) e2
          ∙ ap (λ (i : ℕ). sets (sets mid first e.key) i e.value) q
          ∙ sym (sets-append e.key e.value mid first) ∙ run-put t e refl refl;
      ends = omega (arith, t.first);
    }

pub old-put : {img : List ℕ} {g : Sizes} {e : Entry} {es : List Entry} {old mid copied : List ℕ} {end first : ℕ} → EntryAt img g e es
    → Lengthened old end g.key g.value mid first → first + (g.key + g.value) ≤ length mid
    → Copied img g.after (g.key + g.value) (take (length mid - first) (drop first mid)) copied
    → EntryPut old end e (take first mid ++ (copied ++ drop (length mid - first) (drop first mid))) (first + (g.key + g.value))
old-put {g = g} {e = e} {mid = mid} {copied = copied} {end = end} {first = first} a t room c =
    let n : ℕ = g.key + g.value in
    let run : List ℕ = e.key ++ e.value in
    let long : length run ≡ n = bytes-length a.both in
    let keys : length e.key ≡ g.key = bytes-length a.key in
    let both : length e.key + length e.value ≡ n = entry-sized a in
    let left : length (drop first mid) ≤ length mid - first = rw length-drop (omega arith) in
    let part : take (length mid - first) (drop first mid) ≡ drop first mid = take_all (length mid - first) (drop first mid) left in
    let none : drop (length mid - first) (drop first mid) ≡ [] = drop_of_length-le (drop first mid) left in
    let filled : copied ≡ run ++ drop (first + n) mid
    = bytes-copied a.both (take (length mid - first) (drop first mid)) copied c ∙ ap (λ (l : List ℕ). run ++ drop n l) part ∙ ap (λ (l : List ℕ). run ++ l) (drop-drop n first mid) in
    let whole : sets mid first run ≡ take first mid ++ (run ++ drop (first + n) mid)
    = sets-eq run mid first (omega arith) ∙ append_assoc (take first mid) run (drop (first + length run) mid)
    ∙ ap (λ (k : ℕ). take first mid ++ (run ++ drop (first + k) mid)) long in
    record {
      is = ap (λ (l : List ℕ). take first mid ++ (copied ++ l)) none ∙ ap (λ (l : List ℕ). take first mid ++ l) (append-nil copied ∙ filled) ∙ sym whole
          ∙ run-put t e (sym keys) (omega arith);
      ends = ap (λ (i : ℕ). i + n) t.first ∙ sized-end end (lens_start end) n e refl both;
    }
