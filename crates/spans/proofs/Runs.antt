-- The ways through `verify_entry` and `verify_entries`: one entry, and a run of entries.
use Prim.Native.Nat.{ℕ, zero, suc, ◌+◌, ◌*◌, ◌-◌, ◌%◌, ◌≤◌, ◌<◌}
use native.Mathlib.Omega.{arith}
use native.Mathlib.Decide.{dec_lt}
use mathlib.Core.Path.{◌≡◌, refl, ap, ap₂, sym, ◌∙◌, subst}
use mathlib.Core.Logic.{by_cases}
use mathlib.Core.Bool.{Bool, true, false, cond, ◌&&◌}
use mathlib.Core.List.{List, [], ◌∷◌}
use lib.ListN.{length, take, drop, get_or, length-drop}
use lib.Seq.{drop-drop}
use lib.Dec.{T, ltb, eqb→eq}
use borrow.Author.Tests.{ltb-true, ltb-false, eq-eqb}
use Rattle.std.proofs.Common.{Option, Some, None}
use Rattle.blockfile.specs.Bytes.{pg, be16, be32}
use Rattle.blockfile.specs.Order.{bytes_below, numbers_below}
use Rattle.blockfile.proofs.Bools.{so, not_so, and_both, both-and}
use Rattle.pages.specs.Places.{Number}
use Rattle.entries.specs.declared.place.Place.{Place}
use Rattle.entries.specs.declared.place.Sizes.{Sizes}
use Rattle.std.specs.declared.cmp.Ordering.{Ordering}
use Rattle.std.specs.declared.cmp.Ordering.TheVariants.{Less, Equal, Greater}
use Rattle.std.specs.Ordering.{is_lt}
use Rattle.order.specs.declared.sort.Sort.{Sort}
use Rattle.order.specs.declared.sort.Sort.TheVariants.{Bytes, Numbers}
use Rattle.order.specs.declared.sort.Lengths.{Lengths}
use Rattle.order.specs.Sorts.{rule_as, turned, LengthsAre}
use Rattle.order.proofs.Orders.{less-below, below_less}
use Rattle.order.proofs.Sorts.{some_below}
use Rattle.order.proofs.Numbers.{numbers-turned, rank_below}
use Rattle.entries.specs.Places.{Rest, Enough, Moved, gap, Measured, Numbered}
use Rattle.entries.specs.Keys.{KeyAt, Key, Compared}
use Rattle.entries.specs.Sorted.{Ranked, RankMost}
use Rattle.entries.proofs.Rests.{rest-one, rest-length, rest_in}
use Rattle.entries.proofs.Places.{gap-next, gap_here, settle-here, lengths-done}
use Rattle.entries.proofs.Keys.{key_one, key-length}
use Rattle.entries.proofs.Prefixes.{key-bytes-are, rank-itself}
use Rattle.spans.specs.declared.entry.Last.{Last}
use Rattle.spans.specs.declared.entry.Position.{Position}
use Rattle.spans.specs.declared.entry.Tried.{Tried}
use Rattle.spans.specs.declared.entry.Passed.{Passed}
use Rattle.spans.specs.Entries.{fits, four_as, LastIs, Met, IsAbove, skip, key_length, value_length, key_of, taken, Run, Ready, Ended, Ends, position, Entering, on_page, last_at, ReadOnPage, Tries, Skimming}
use Rattle.spans.proofs.Sorts.{fits-key, both-fit}
use Rattle.spans.proofs.Rules.{allowed-four, four-allowed, lengths-allow}

-- length bytes are moved past what is left on the page where that is 1 to 3 bytes
pub skip-cases : (s : List ℕ) {X : Type 0} → (length s % 1016 < 4 → skip s ≡ length s % 1016 → X) → (4 ≤ length s % 1016 → skip s ≡ 0 → X) → X
unfolding skip
skip-cases s {X} f g = go (ltb (length s % 1016) 4) refl f g
  where
    go : (b : Bool) → ltb (length s % 1016) 4 ≡ b → (length s % 1016 < 4 → cond b (length s % 1016) 0 ≡ length s % 1016 → X) → (4 ≤ length s % 1016 → cond b (length s % 1016) 0 ≡ 0 → X) → X
    go true e f g = f (ltb-true (length s % 1016) 4 e) refl
    go false e f g = g (ltb-false (length s % 1016) 4 e) refl

gap-skip : (img : List ℕ) (at : Place) (s : List ℕ) → Rest img at s → gap at.offset 4 ≡ skip s
gap-skip img at s r =
    let o : ℕ = at.offset in
    let n : length s ≡ 1024 - at.offset + 1016 * length r.more = rest-length img at s r in
    let low : 8 ≤ at.offset = r.low in
    let high : at.offset ≤ 1024 = r.high in
    by_cases (dec_lt 1024 (at.offset + 4))
    (λ h. let g : gap at.offset 4 ≡ 1024 - at.offset = gap-next at.offset 4 h in skip-cases s (λ l e. omega arith) (λ l e. omega arith))
    (λ h. let k : at.offset + 4 ≤ 1024 = omega arith in let g : gap at.offset 4 ≡ 0 = gap_here at.offset 4 k in skip-cases s (λ l e. omega arith) (λ l e. omega arith))

-- the number of four bytes goes by these alone
four-taken : (s : List ℕ) → 4 ≤ length s → be32 s 0 ≡ be32 (take 4 s) 0
unfolding be32 be16
four-taken [] h = refl
four-taken (a ∷ []) h = refl
four-taken (a ∷ b ∷ []) h = refl
four-taken (a ∷ b ∷ c ∷ []) h = refl
four-taken (a ∷ b ∷ c ∷ d ∷ s) h = refl

-- ---- a key and the last key met

-- by bytes
module _ {img : List ℕ} {l : Last} {at : Place} {n : ℕ} where
  not-above : {o : Ordering} → Compared img l.at l.length at n o → (o ≡ Less → ⊥) → IsAbove Bytes img l at n false
  not-above c d = record { is = λ low k u v. sym (not_so (bytes_below low k) (λ h. d (c.is low k u.there v ∙ below_less low k h))) }

  pub bytes-above : (o : Ordering) → Compared img l.at l.length at n o → IsAbove Bytes img l at n (is_lt o)
  bytes-above Less c = record { is = λ low k u v. sym (so (bytes_below low k) (less-below low k (sym (c.is low k u.there v)))) }
  bytes-above Equal c = not-above c (λ e. let z : ◌≡◌ {A = ℕ} 0 1 = cc in omega arith)
  bytes-above Greater c = not-above c (λ e. let z : ◌≡◌ {A = ℕ} 0 1 = cc in omega arith)

last-four : {img : List ℕ} {l : Last} → Met Numbers img l → (l.length ≡ 0 → ⊥) → l.length ≡ 4
last-four {l = l} m some = eqb→eq l.length 4 (m.key.four (omega (arith, some)))

-- the number of four bytes is that of a key there
number_is : {img : List ℕ} {p : Place} {n r : ℕ} → Numbered img p r → n ≡ 4 → (k : List ℕ) → KeyAt img p n k → r ≡ be32 k 0
number_is {n = n} c e k v =
    c.is v.bytes (v.rest (omega arith)) ∙ four-taken v.bytes (omega (arith, v.long)) ∙ ap (λ (t : List ℕ). be32 t 0) (sym (v.is ∙ ap (λ (m : ℕ). take m v.bytes) e))

nothing : (x : List ℕ) → length x ≡ 0 → x ≡ []
nothing [] e = refl
nothing (y ∷ x) e = absurd (omega arith)

module _ {img : List ℕ} {l : Last} {at : Place} {n : ℕ} where
  module _ (bytes : (i : ℕ) → get_or img i 0 < 256) (four : n ≡ 4) (m : Met Numbers img l) (some : l.length ≡ 0 → ⊥) {x y : ℕ} (a : Numbered img l.at x)
      (b : Numbered img at y) where
    numbers-order : (low k : List ℕ) → LastIs Numbers img l low → KeyAt img at n k → numbers_below low k ≡ ltb (turned x) (turned y)
    numbers-order low k u v =
        numbers-turned low k (key-length u.there ∙ last-four m some) (key-length v ∙ four) (key-bytes-are bytes low u.there) (key-bytes-are bytes k v)
        ∙ sym (ap₂ (λ (p q : ℕ). ltb (turned p) (turned q)) (number_is a (last-four m some) low u.there) (number_is b four k v))

    pub number-above : {p q : ℕ} → p ≡ turned x → q ≡ turned y → IsAbove Numbers img l at n (ltb p q)
    number-above e f = record { is = λ low k u v. rw (eq-eqb n 4 four, numbers-order low k u v, e, f) }

-- by the sort
module _ {img : List ℕ} {l : Last} {at : Place} {n : ℕ} {r : Bool} where
  pub above_as : (s : Sort) {t : Sort} → s ≡ t → IsAbove t img l at n r → IsAbove s img l at n r
  above_as s e c = subst (λ (x : Sort). IsAbove x img l at n r) (sym e) c

-- by the rank
pub rank-is-above : {sort : Sort} {img : List ℕ} (bytes : (i : ℕ) → get_or img i 0 < 256) {l : Last} {at : Place} {n p : ℕ} → 0 < n → T (four_as sort n)
    → Ranked sort img at n p → l.rank < p → IsAbove sort img l at n true
rank-is-above {sort} bytes {n = n} some four e h =
    record {
      is = λ low k u v.
          let t = rank_below sort low k (key-bytes-are bytes low u.there) (key-bytes-are bytes k v) (omega (arith, key-length v)) (omega (arith, u.most, e.is k v)) in
          rw (so (four_as sort n) four, so ((rule_as sort).below low k) t);
    }

-- ---- one entry

module _ {sort : Sort} {img : List ℕ} {at : Place} {left : ℕ} {l : Last} (r : Ready sort img at left l) where
  -- what is shown of one rest and one last key is shown of all
  all_of : (n : ℕ) (a : Option Position) → Ends sort img r.bytes r.low n a → Entering sort img at l n a
  all_of n a e = record {
    is = λ s low u v.
        subst (λ (k : List ℕ). Ends sort img s k n a) (key_one img l.at l.length r.low low r.key.there v.there)
        (subst (λ (b : List ℕ). Ends sort img b r.low n a) (rest-one img at r.bytes r.rest s u) e);
  }

  module _ {g : ℕ} (is : g ≡ gap at.offset 4) where
    g-is : g ≡ skip r.bytes
    g-is = is ∙ gap-skip img at r.bytes r.rest

    pub entry-short : left < g + 4 → Entering sort img at l 1 None
    unfolding taken
    entry-short h = all_of 1 None (λ t hi x. omega (arith, x.0, g-is, r.long))

    module _ {z : Sizes} (m : Measured img at z) (room : g + 4 ≤ left) where
      k-is : z.key ≡ key_length r.bytes
      unfolding key_length
      k-is = m.key r.bytes r.rest ∙ rw (sym is ∙ g-is)

      v-is : z.value ≡ value_length r.bytes
      unfolding value_length
      v-is = m.value r.bytes r.rest ∙ rw (sym is ∙ g-is)

      pub entry-over : left - g - 4 < z.key + z.value → Entering sort img at l 1 None
      unfolding taken
      entry-over h = all_of 1 None (λ t hi x. omega (arith, x.0, g-is, k-is, v-is, r.long))

      module _ (inside : z.key + z.value ≤ left - g - 4) where
        there : Rest img z.after (drop (skip r.bytes + 4) r.bytes)
        there = rw (sym is ∙ g-is) at (m.moved.to r.bytes r.rest)

        entry_key : KeyAt img z.after z.key (key_of r.bytes)
        unfolding key_of
        entry_key = record { bytes = drop (skip r.bytes + 4) r.bytes; rest = λ h. there; long = rw length-drop (omega (arith, g-is, r.long)); is = rw k-is }

        pub entry-keys : Met sort img l × Key img z.after z.key
        entry-keys = (record { low = r.low; key = r.key }, record { key = key_of r.bytes; there = entry_key })

        module _ {a : Bool} (c : IsAbove sort img l z.after z.key a) where
          a-is : a ≡ (four_as sort z.key && (rule_as sort).below r.low (key_of r.bytes))
          a-is = c.is r.low (key_of r.bytes) r.key entry_key

          pub entry-not : a ≡ false → Entering sort img at l 1 None
          entry-not e =
              all_of 1 None (λ t hi x.
              let four : T (four_as sort z.key) = subst (λ (n : ℕ). T (four_as sort n)) (key-length entry_key) (allowed-four sort (key_of r.bytes) (fits-key sort (key_of r.bytes) (value_length r.bytes) x.1.1)) in
              subst T (sym a-is ∙ e) (both-and (four_as sort z.key) ((rule_as sort).below r.low (key_of r.bytes)) four x.1.0))

          module _ (up : a ≡ true) where
            both : T (four_as sort z.key) × T ((rule_as sort).below r.low (key_of r.bytes))
            both = and_both (four_as sort z.key) ((rule_as sort).below r.low (key_of r.bytes)) (subst T (sym up ∙ a-is) tt)

            pub entry-some : 1 ≤ z.key
            entry-some = omega (arith, some_below sort r.low (key_of r.bytes) both.1, key-length entry_key)

            fine : T (fits sort (key_of r.bytes) (value_length r.bytes))
            fine =
                let long = key-length entry_key in
                both-fit sort (key_of r.bytes) (value_length r.bytes)
                (four-allowed sort (key_of r.bytes) (subst (λ (n : ℕ). T (four_as sort n)) (sym long) both.0) (omega (arith, entry-some, long)) (omega (arith, m.key_below, long)))
                (omega (arith, m.value_below, v-is))

            pub entry_done : {p : Place} → Moved img z.after (z.key + z.value) p → {q : ℕ} → RankMost sort img z.after z.key q
                → {rest : ℕ} → rest ≡ left - g - 4 - (z.key + z.value) → Entering sort img at l 1 (Some (position p rest (record { at = z.after; length = z.key; rank = q })))
            unfolding taken
            entry_done {p} v {q} most {rest} e =
                let sum : taken r.bytes ≡ skip r.bytes + 4 + (z.key + z.value) = omega (arith, k-is, v-is) in
                all_of 1 (Some (position p rest (record { at = z.after; length = z.key; rank = q }))) (record {
                  bytes = drop (taken r.bytes) r.bytes;
                  hi = key_of r.bytes;
                  run = (omega (arith, sum, g-is, r.long), (both.1, fine), (refl, refl));
                  rest = rw (sum, ← drop-drop (z.key + z.value) (skip r.bytes + 4) r.bytes) (v.to (drop (skip r.bytes + 4) r.bytes) there);
                  long = rw length-drop (omega (arith, sum, g-is, r.long));
                  key = record { there = entry_key; most = most.most (key_of r.bytes) entry_key; four = λ h. both.0 };
                })

-- ---- an entry that lies on one page, with eight bytes from the start of its key on

module _ {img : List ℕ} {at : Place} (e : Enough img at 0) (eight : at.offset + 12 ≤ 1024) {k v : ℕ}
    (a : Number (be16 (pg img at.page) at.offset) 65536 k) (b : Number (be16 (pg img at.page) (at.offset + 2)) 65536 v)
    (inside : at.offset + 4 + k + v ≤ 1024) where
  none : 0 ≡ gap at.offset 4
  none = sym (gap_here at.offset 4 (omega arith))

  measured : Measured img at (record { key = k; value = v; after = on_page at (at.offset + 4) })
  measured =
      let room : Enough img at (gap at.offset 4 + 4) = record { bytes = e.bytes; rest = e.rest; long = omega (arith, none, rest-length img at e.bytes e.rest) } in
      lengths-done (settle-here 4 room (omega arith)) a b

  pub here-key : Key img (on_page at (at.offset + 4)) k
  here-key =
      record {
        key = take k (drop 4 e.bytes);
        there = record {
          bytes = drop 4 e.bytes;
          rest = λ h. rest_in img at e.bytes e.rest 4 (omega arith);
          long = rw length-drop (omega (arith, rest-length img at e.bytes e.rest));
          is = refl;
        };
      }

  module _ {sort : Sort} {z : Lengths} (are : LengthsAre sort z) (least : z.least ≤ k) (most : k ≤ z.most) where
    pub here-some : 1 ≤ k
    here-some = omega (arith, are.some)

    here-four : T (four_as sort k)
    here-four =
        let q = here-key in
        let long = key-length q.there in
        subst (λ (n : ℕ). T (four_as sort n)) long (allowed-four sort q.key (lengths-allow are q.key (omega (arith, long)) (omega (arith, long))))

    pub here-read : ((i : ℕ) → get_or img i 0 < 256) → {high p : ℕ} → Ranked sort img (on_page at (at.offset + 4)) k p → high < p → ReadOnPage sort img at high (at.offset + 4 + k + v) p
    here-read bytes {high} {p} ranked h =
        record {
          some = omega arith;
          inside = inside;
          read = λ left l r eq.
              let long : left ≡ 1024 - at.offset + 1016 * length r.rest.more = r.long ∙ rest-length img at r.bytes r.rest in
              let up = rank-is-above bytes {l = l} here-some here-four ranked (omega (arith, eq)) in
              let sum : at.offset + 4 + (k + v) ≡ at.offset + 4 + k + v = omega arith in
              let moved : Moved img (on_page at (at.offset + 4)) (k + v) (on_page at (at.offset + 4 + k + v))
              = record { to = λ s t. subst (λ (o : ℕ). Rest img (on_page at o) (drop (k + v) s)) sum (rest_in img (on_page at (at.offset + 4)) s t (k + v) (omega arith)) } in
              subst (λ (n : ℕ). Entering sort img at l 1 (Some (position (on_page at (at.offset + 4 + k + v)) (left - (at.offset + 4 + k + v - at.offset)) (record { at = on_page at (at.offset + 4); length = n; rank = p })))) a.is
              (entry_done r none measured (omega arith) (omega arith) up refl moved (rank-itself ranked) (omega arith));
        }

-- ---- runs one after another

module _ (sort : Sort) where
  run_join : (n m : ℕ) (s low t hi u top : List ℕ) → Run sort s low n t hi → Run sort t hi m u top → Run sort s low (n + m) u top
  run_join zero m s low t hi u top x y =
      let e : 0 + m ≡ m = omega arith in
      rw (e, x.0, x.1) y
  run_join (suc n) m s low t hi u top x y =
      let e : suc n + m ≡ suc (n + m) = omega arith in
      rw e (x.0, x.1, run_join n m (drop (taken s) s) (key_of s) t hi u top x.2 y)

  run-split : (n m : ℕ) (s low t hi u top : List ℕ) → Run sort s low n t hi → Run sort s low (n + m) u top → Run sort t hi m u top
  run-split zero m s low t hi u top x y =
      let e : 0 + m ≡ m = omega arith in
      rw (← x.0, ← x.1) (rw e at y)
  run-split (suc n) m s low t hi u top x y =
      let e : suc n + m ≡ suc (n + m) = omega arith in
      run-split n m (drop (taken s) s) (key_of s) t hi u top x.2 (rw e at y).2

  run-head : (n m : ℕ) (s low u top : List ℕ) → Run sort s low (n + m) u top → ((t hi : List ℕ) → Run sort s low n t hi → ⊥) → ⊥
  run-head zero m s low u top y f = f s low (refl, refl)
  run-head (suc n) m s low u top y f =
      let e : suc n + m ≡ suc (n + m) = omega arith in
      let z = rw e at y in
      run-head n m (drop (taken s) s) (key_of s) u top z.2 (λ t hi x. f t hi (z.0, z.1, x))

-- ---- a walk: i entries from the start on have been read

pub record Walking (sort : Sort) (img : List ℕ) (from : Place) (last : Last) (at : Place) (left : ℕ) (l : Last) (i : ℕ) : Type 0 where
  pub all : ℕ
  pub start : Ready sort img from all last
  pub read : Ended sort img start.bytes start.low i at left l

pub walking_start : (sort : Sort) {img : List ℕ} {at : Place} {left : ℕ} {l : Last} → Ready sort img at left l → Walking sort img at l at left l 0
walking_start sort {left = left} r =
    record { all = left; start = r; read = record { bytes = r.bytes; hi = r.low; run = (refl, refl); rest = r.rest; long = r.long; key = r.key } }

module _ {sort : Sort} {img : List ℕ} {from : Place} {last : Last} {at : Place} {left : ℕ} {l : Last} {i : ℕ} (w : Walking sort img from last at left l i) where
  pub walking-ready : Ready sort img at left l
  walking-ready = record { bytes = w.read.bytes; rest = w.read.rest; long = w.read.long; low = w.read.hi; key = w.read.key }

  pub walking-end : {n : ℕ} → i ≡ n → Entering sort img from last n (Some (position at left l))
  walking-end {n} e = rw (← e) (all_of w.start i (Some (position at left l)) w.read)

  module _ {n : ℕ} {a : Option Position} (e : Entering sort img at l n a) where
    pub walking-no : a ≡ None → {size : ℕ} → i + n ≤ size → Entering sort img from last size None
    walking-no is {size} few =
        let s : List ℕ = w.start.bytes in
        let low : List ℕ = w.start.low in
        let all : size ≡ i + (n + (size - i - n)) = omega arith in
        all_of w.start size None (λ t hi x.
        run-head sort n (size - i - n) w.read.bytes w.read.hi t hi
        (run-split sort i (n + (size - i - n)) s low w.read.bytes w.read.hi t hi w.read.run (rw all at x))
        ((subst (Entering sort img at l n) is e).is w.read.bytes w.read.hi w.read.rest w.read.key))

    pub walking-more : {p : Position} → a ≡ Some p → {j : ℕ} → j ≡ i + n → Walking sort img from last p.at p.left p.last j
    walking-more is {j} sum =
        let d = (subst (Entering sort img at l n) is e).is w.read.bytes w.read.hi w.read.rest w.read.key in
        rw sum (record {
          all = w.all;
          start = w.start;
          read = record {
            bytes = d.bytes;
            hi = d.hi;
            run = run_join sort i n w.start.bytes w.start.low w.read.bytes w.read.hi d.bytes d.hi w.read.run d.run;
            rest = d.rest;
            long = d.long;
            key = d.key;
          };
        })

-- ---- entries passed on one page

-- none yet
pub skimming-start : {sort : Sort} {img : List ℕ} {at : Place} {left : ℕ} {l : Last} → Ready sort img at left l
    → Skimming sort img at left l (record { count = 0; before = at.offset; end = at.offset; rank = l.rank })
skimming-start {sort} {img} {at} {left} {l} r =
    let same : left - (at.offset - at.offset) ≡ left = omega arith in
    record {
      start = r;
      key = l;
      read = rw same (walking-end (walking_start sort r) refl);
      ranked = refl;
      low = omega arith;
      high = r.rest.high;
      none = λ e. (refl, refl);
      some = λ h. absurd (omega arith);
    }

module _ {sort : Sort} {img : List ℕ} {at : Place} {left : ℕ} {last : Last} {p : Passed} (w : Skimming sort img at left last p) where
  skimming-walk : Walking sort img at last (on_page at p.end) (left - (p.end - at.offset)) w.key p.count
  skimming-walk = record { all = left; start = w.start; read = w.read.is w.start.bytes w.start.low w.start.rest w.start.key }

  pub skimming-enough : Enough img (on_page at p.end) 0
  skimming-enough = let r = walking-ready skimming-walk in record { bytes = r.bytes; rest = r.rest; long = omega arith }

  -- one more
  pub skimming-more : {a : Option Tried} → Tries sort img (on_page at p.end) p.rank a → {x : Tried} → a ≡ Some x
      → Skimming sort img at left last (record { count = p.count + 1; before = p.end; end = x.end; rank = x.rank })
  skimming-more t {x} is =
      let o : ReadOnPage sort img (on_page at p.end) p.rank x.end x.rank = (subst (Tries sort img (on_page at p.end) p.rank) is t).is in
      let less : left - (p.end - at.offset) - (x.end - p.end) ≡ left - (x.end - at.offset) = omega (arith, o.some, w.low) in
      let read = walking-more skimming-walk (o.read (left - (p.end - at.offset)) w.key (walking-ready skimming-walk) w.ranked) refl refl in
      record {
        start = w.start;
        key = last_at img (on_page at p.end) x.rank;
        read = subst (λ (n : ℕ). Entering sort img at last (p.count + 1) (Some (position (on_page at x.end) n (last_at img (on_page at p.end) x.rank)))) less (walking-end read refl);
        ranked = refl;
        low = omega (arith, o.some, w.low);
        high = o.inside;
        none = λ z. absurd (omega arith);
        some = λ z. (w.low, o.some, refl);
      }

-- what is told of them
module _ {sort : Sort} {img : List ℕ} {at : Place} {left : ℕ} {last : Last} {p : Passed} (w : Skimming sort img at left last p) where
  pub skims-left : p.end - at.offset ≤ left
  skims-left = omega (arith, w.high, w.start.long, rest-length img at w.start.bytes w.start.rest)
