-- Entries from place to place: the gap before an entry's lengths is the text's, and each entry leaves the rest of the list.
use Prim.Native.Nat.{ℕ, ◌+◌, ◌*◌, ◌-◌, ◌/◌, ◌≤◌}
use native.Mathlib.Omega.{arith}
use native.Mathlib.Decide.{dec_lt}
use native.Mathlib.Nat.{add-zero, add_assoc}
use mathlib.Core.Path.{◌≡◌, refl, ap, ap₂, sym, ◌∙◌, subst}
use mathlib.Core.Logic.{by_cases}
use mathlib.Core.List.{List, ◌∷◌, ◌++◌}
use lib.ListN.{length, take, drop, get_or, length-drop}
use lib.Seq.{slice, drop-drop, drop_at, get_or-drop, take-add, length-take-le}
use Rattle.blockfile.specs.Bytes.{be16}
use Rattle.blockfile.specs.Layout.{Entry, entries_from, lens_start, entry_end, entries_end, reached}
use Rattle.blockfile.specs.Order.{KeyRule}
use Rattle.blockfile.specs.Fields.{LinkedSpan}
use Rattle.blockfile.specs.WellFormed.{span}
use Rattle.laws.proofs.Numbers.{be16-agree}
use Rattle.laws.proofs.Positions.{lens-cases, lens-after, entries-after}
use Rattle.entries.specs.declared.place.Place.{Place}
use Rattle.entries.specs.declared.place.Sizes.{Sizes}
use Rattle.entries.specs.Places.{stream_of, Rest, Enough, Moved, Copied, gap, Measured}
use Rattle.entries.specs.Keys.{KeyAt, Key}
use Rattle.entries.proofs.Rests.{length-stream, rest-length, rest_in}
use Rattle.entries.proofs.Places.{gap-next, gap_here}
use Rattle.search.specs.Spans.{Borne, Spanned, BytesAt, Along, EntryAt}

-- ---- Bytes at a place

module _ {img : List ℕ} {at : Place} {n : ℕ} {v : List ℕ} (b : BytesAt img at n v) where
  pub bytes-key : KeyAt img at n v
  bytes-key = record { bytes = b.bytes; rest = λ h. b.rest; long = b.long; is = b.is }

  pub bytes-enough : Enough img at n
  bytes-enough = record { bytes = b.bytes; rest = b.rest; long = b.long }

  pub bytes-length : length v ≡ n
  bytes-length = ap length b.is ∙ length-take-le n b.bytes b.long

  -- what a copy of them leaves
  pub bytes-copied : (old new : List ℕ) → Copied img at n old new → new ≡ v ++ drop n old
  bytes-copied old new c = c.is b.bytes b.rest ∙ ap (λ (x : List ℕ). x ++ drop n old) (sym b.is)

-- ---- The gap

-- over plain numbers: a place at offset o, which is position v, of a stream of whole pages
lens-gap : (o v len more pages : ℕ) → len ≡ 1016 * pages → v ≤ len → 8 ≤ o → o ≤ 1024 → len - v ≡ 1024 - o + 1016 * more → v + gap o 4 ≡ lens_start v
lens-gap o v len more pages w f l h e =
    by_cases (dec_lt 1024 (o + 4))
    (λ g. lens-cases v (λ a b. omega (arith, gap-next o 4 g)) (λ a b. omega (arith, gap-next o 4 g)))
    (λ g. let k : o + 4 ≤ 1024 = omega arith in lens-cases v (λ a b. omega (arith, gap_here o 4 k)) (λ a b. omega (arith, gap_here o 4 k)))

be16-drop : (s : List ℕ) (n i : ℕ) → be16 (drop n s) i ≡ be16 s (n + i)
be16-drop s n i = be16-agree (drop n s) i s (n + i) (λ k h. get_or-drop n s (i + k) 0 ∙ ap (λ (j : ℕ). get_or s j 0) (sym (add_assoc n i k)))

-- a part of a list, said by its end and by its length
slice-take : (a n : ℕ) (s : List ℕ) → a ≤ length s → slice a (a + n) s ≡ take n (drop a s)
slice-take a n s h = ap (drop a) (take-add a n s) ∙ drop_at (take a s) (take n (drop a s)) a (length-take-le a s h)

-- ---- An entry and those that follow it

module _ {img : List ℕ} {at : Place} {e : Entry} {es : List Entry} (a : Along img at (e ∷ es)) where
  -- the position of the lengths
  abbrev lens : ℕ
  lens = lens_start a.position

  within : lens + 4 + length e.key + length e.value ≤ length a.stream
  unfolding entry_end
  within = omega (arith, entries-after (entry_end a.position e) es, a.fits)

  gap_is : a.position + gap at.offset 4 ≡ lens
  gap_is =
      lens-gap at.offset a.position (length a.stream) (length a.rest.more) a.pages a.whole (omega (arith, lens-after a.position, within))
      a.rest.low a.rest.high (sym (length-drop a.position a.stream) ∙ rest-length img at (drop a.position a.stream) a.rest)

  pub along-enough : Enough img at (gap at.offset 4 + 4)
  along-enough = record { bytes = drop a.position a.stream; rest = a.rest; long = rw length-drop (omega (arith, gap_is, within)) }

  module _ (g : Sizes) (m : Measured img at g) where
    -- the bytes from the lengths on
    from-lens : drop (gap at.offset 4) (drop a.position a.stream) ≡ drop lens a.stream
    from-lens = drop-drop (gap at.offset 4) a.position a.stream ∙ ap (λ (n : ℕ). drop n a.stream) gap_is

    key-long : g.key ≡ length e.key
    key-long =
        m.key (drop a.position a.stream) a.rest ∙ ap (λ (s : List ℕ). be16 s 0) from-lens ∙ be16-drop a.stream lens 0
        ∙ ap (be16 a.stream) (add-zero lens) ∙ a.are.0

    value-long : g.value ≡ length e.value
    value-long = m.value (drop a.position a.stream) a.rest ∙ ap (λ (s : List ℕ). be16 s 2) from-lens ∙ be16-drop a.stream lens 2 ∙ a.are.1

    -- from the key on
    from_key : Rest img g.after (drop (lens + 4) a.stream)
    from_key =
        let sum : a.position + (gap at.offset 4 + 4) ≡ lens + 4 = omega (arith, gap_is) in
        subst (Rest img g.after) (drop-drop (gap at.offset 4 + 4) a.position a.stream ∙ ap (λ (n : ℕ). drop n a.stream) sum)
        (m.moved.to (drop a.position a.stream) a.rest)

    -- n bytes on from there
    moved_on : (n : ℕ) (p : Place) → Moved img g.after n p → Rest img p (drop (lens + 4 + n) a.stream)
    moved_on n p t = subst (Rest img p) (drop-drop n (lens + 4) a.stream) (t.to (drop (lens + 4) a.stream) from_key)

    key-is : e.key ≡ take g.key (drop (lens + 4) a.stream)
    key-is = sym a.are.2 ∙ slice-take (lens + 4) (length e.key) a.stream (omega (arith, within)) ∙ rw key-long

    value_is : e.value ≡ take g.value (drop (lens + 4 + g.key) a.stream)
    unfolding entry_end
    value_is = sym a.are.3 ∙ slice-take (lens + 4 + length e.key) (length e.value) a.stream (omega (arith, within)) ∙ rw (key-long, value-long)

    -- the key and the value are one run of bytes
    both-are : e.key ++ e.value ≡ take (g.key + g.value) (drop (lens + 4) a.stream)
    both-are =
        ap₂ (λ (k v : List ℕ). k ++ v) key-is (value_is ∙ ap (take g.value) (sym (drop-drop g.key (lens + 4) a.stream)))
        ∙ sym (take-add g.key g.value (drop (lens + 4) a.stream))

    both_long : g.key + g.value ≤ length (drop (lens + 4) a.stream)
    both_long = rw length-drop (omega (arith, within, key-long, value-long))

    pub along-entry : EntryAt img g e es
    unfolding entry_end
    along-entry =
        record {
          key_small = m.key_below;
          value_small = m.value_below;
          enough = record { bytes = drop (lens + 4) a.stream; rest = from_key; long = both_long };
          key = record {
            bytes = drop (lens + 4) a.stream;
            rest = from_key;
            long = rw length-drop (omega (arith, within, key-long));
            is = key-is;
          };
          value = λ p t. record {
            bytes = drop (lens + 4 + g.key) a.stream;
            rest = moved_on g.key p t;
            long = rw length-drop (omega (arith, within, key-long, value-long));
            is = value_is;
          };
          both = record { bytes = drop (lens + 4) a.stream; rest = from_key; long = both_long; is = both-are };
          next = λ p t.
              let sum : lens + 4 + (g.key + g.value) ≡ lens + 4 + length e.key + length e.value = omega (arith, key-long, value-long) in
              record {
                stream = a.stream;
                pages = a.pages;
                position = entry_end a.position e;
                whole = a.whole;
                rest = rw sum at (moved_on (g.key + g.value) p t);
                fits = a.fits;
                are = a.are.4;
              };
        }

module _ {img : List ℕ} {g : Sizes} {e : Entry} {es : List Entry} (h : EntryAt img g e es) where
  pub entry_key : Key img g.after g.key
  entry_key = record { key = e.key; there = bytes-key h.key }

-- ---- From offset 20 of a span's page on

reached-fits : (end pages : ℕ) → pages ≡ (end + 1015) / 1016 → end ≤ 1016 * pages
reached-fits end pages e = omega arith

module _ {img : List ℕ} {x : LinkedSpan} (small : length img ≤ 4194304) (borne : Borne img (span x)) (reach : 1 + length x.span.conts ≡ reached x.span.entries) where
  pub borne-along : Along img (record { page = x.span.page; offset = 20 }) x.span.entries
  unfolding reached
  borne-along =
      let ps : List ℕ = x.span.page ∷ x.span.conts in
      let w : length (stream_of img ps) ≡ 1016 * length ps = length-stream img ps borne.1 in
      let all : Rest img (record { page = x.span.page; offset = 8 }) (stream_of img ps)
      = record {
        small = small;
        page = borne.1.0;
        low = omega arith;
        high = omega arith;
        more = x.span.conts;
        linked = borne.0.cont;
        conts = borne.0.conts;
        inside = borne.1.1;
        is = refl;
      } in
      record {
        stream = stream_of img ps;
        pages = length ps;
        position = entries_from;
        whole = w;
        rest = rest_in img (record { page = x.span.page; offset = 8 }) (stream_of img ps) all 12 (omega arith);
        fits = rw w (reached-fits (entries_end entries_from x.span.entries) (length ps) (omega (arith, reach)));
        are = borne.0.entries;
      }

pub span-along : {img : List ℕ} {r : KeyRule} {x : LinkedSpan} → Spanned img r x → Along img (record { page = x.span.page; offset = 20 }) x.span.entries
span-along s = borne-along s.small s.borne s.reach
