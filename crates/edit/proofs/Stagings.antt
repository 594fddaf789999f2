-- A span in a buffer, written: its header stored before its entries makes the stream that the text writes.
use Prim.Native.Nat.{ℕ, suc, ◌+◌, ◌*◌, ◌-◌, ◌/◌, ◌%◌, ◌≤◌, ◌<◌}
use native.Mathlib.Omega.{arith}
use mathlib.Core.Path.{◌≡◌, refl, ap, sym, ◌∙◌}
use mathlib.Core.Logic.{inl}
use mathlib.Core.List.{List, [], ◌∷◌, ◌++◌, append_assoc}
use lib.ListN.{length, take, drop, set, length-append, length-take, length-drop}
use lib.Seq.{sets, sets-eq, length-sets, drop-set-lt, take-take, take_at, drop-drop, take-add, take-append_seam, drop-append_seam, drop_at}
use Rattle.blockfile.specs.Marks.{span_mark}
use Rattle.blockfile.specs.Bytes.{Write, word16, word32, apply, first_of}
use Rattle.blockfile.specs.Layout.{Entry, entries_from, entries_end, reached}
use Rattle.blockfile.specs.Fields.{Numbers}
use Rattle.blockfile.specs.Encode.{entries_bytes, stream_pages, whole_span}
use Rattle.laws.proofs.Lists.{sets-append, agree-off}
use Rattle.laws.proofs.Numbers.{be32-agree, length-word16, length-word32}
use Rattle.laws.proofs.Positions.{entries-after, reached-one}
use Rattle.laws.proofs.Encodes.{length-entries}
use Rattle.laws.proofs.Written.{drop-take}
use Rattle.draw.specs.Writing.{Writable, WroteChain}
use Rattle.edit.specs.declared.span.Part.{Part}
use Rattle.edit.specs.Staged.{stream_in, header, Staged, PartOf, span_of}

-- two numbers of two bytes are one of four
two-numbers : (x y : ℕ) → y < 65536 → word32 (x * 65536 + y) ≡ word16 x ++ word16 y
unfolding word32 word16
two-numbers x y l =
    λ j. first j ∷ second j ∷ third j ∷ fourth j ∷ []
  where
    first : (x * 65536 + y) / 16777216 % 256 ≡ x / 256 % 256
    first = omega arith

    second : (x * 65536 + y) / 65536 % 256 ≡ x % 256
    second = omega arith

    third : (x * 65536 + y) / 256 % 256 ≡ y / 256 % 256
    third = omega arith

    fourth : (x * 65536 + y) % 256 ≡ y % 256
    fourth = omega arith

-- a header has 12 bytes
pub length-header : (prev next most size : ℕ) → length (header prev next most size) ≡ 12
length-header prev next most size = simp length-append (omega (arith, length-word32 prev, length-word32 next, length-word16 most, length-word16 size))

-- its three words stored one after another
pub header-stored : (b : List ℕ) (w prev next most size : ℕ) → size < 65536
    → sets (sets (sets b (4 * w) (word32 prev)) (4 * (w + 1)) (word32 next)) (4 * (w + 2)) (word32 (most * 65536 + size)) ≡ sets b (4 * w) (header prev next most size)
header-stored b w prev next most size l =
    let one : 4 * (w + 1) ≡ 4 * w + length (word32 prev) = omega (arith, length-word32 prev) in
    let two : 4 * (w + 2) ≡ 4 * w + length (word32 prev) + length (word32 next) = omega (arith, length-word32 prev, length-word32 next) in
    sym
    (sets-append (word32 prev) (word32 next ++ (word16 most ++ word16 size)) b (4 * w)
    ∙ sets-append (word32 next) (word16 most ++ word16 size) (sets b (4 * w) (word32 prev)) (4 * w + length (word32 prev))
    ∙ (λ j. sets (sets (sets b (4 * w) (word32 prev)) (sym one j) (word32 next)) (sym two j) (sym (two-numbers most size l) j)))

-- ---- The stream

take_more : (xs ys : List ℕ) (n : ℕ) → take (length xs + n) (xs ++ ys) ≡ xs ++ take n ys
take_more xs ys n =
    take-add (length xs) n (xs ++ ys) ∙ ap (λ (l : List ℕ). l ++ take n (drop (length xs) (xs ++ ys))) (take-append_seam xs ys)
    ∙ ap (λ (l : List ℕ). xs ++ take n l) (drop-append_seam xs ys)

-- numbers before a run of stores stay
pub numbers-kept : (vs b : List ℕ) (o k : ℕ) (ns : List ℕ) → k + 4 * length ns ≤ o → Numbers b k ns → Numbers (sets b o vs) k ns
numbers-kept vs b o k [] l h = tt
numbers-kept vs b o k (n ∷ ns) l h =
    (be32-agree (sets b o vs) k b k (agree-off 4 vs b o k (inl (omega arith))) ∙ h.0, numbers-kept vs b o (k + 4) ns (omega arith) h.1)

drop_past : (vs l : List ℕ) (i n : ℕ) → i + length vs ≤ n → drop n (sets l i vs) ≡ drop n l
drop_past [] l i n h = refl
drop_past (v ∷ vs) l i n h = drop_past vs (set l i v) (suc i) n (omega arith) ∙ drop-set-lt n l i v (omega arith)

-- entries behind a run of stores stay
pub staged-kept : {b : List ℕ} {at : ℕ} {es : List Entry} (o : ℕ) (vs : List ℕ) → o + length vs ≤ at + 12 → Staged b at es → Staged (sets b o vs) at es
staged-kept {b} {at} {es} o vs l s =
    record {
      inside = simp length-sets s.inside;
      is = ap (take (entries_end entries_from es - 12)) (drop_past vs b o (at + 12) l) ∙ s.is;
    }

-- entries before a place up to which nothing changed stay
pub staged-before : {b : List ℕ} {at : ℕ} {es : List Entry} (n : ℕ) (out : List ℕ) → at + entries_end entries_from es ≤ n → length out ≡ length b → take n out ≡ take n b
    → Staged b at es → Staged out at es
staged-before {b} {at} {es} n out far e t s =
    record {
      inside = omega (arith, s.inside);
      is = seen out ∙ ap (drop (at + 12)) (sym (first out) ∙ ap (take (at + 12 + k)) t ∙ first b) ∙ sym (seen b) ∙ s.is;
    }
  where
    k : ℕ
    k = entries_end entries_from es - 12

    -- only the first n bytes are looked at
    seen : (l : List ℕ) → take k (drop (at + 12) l) ≡ drop (at + 12) (take (at + 12 + k) l)
    seen l = sym (drop-take (at + 12) k l)

    first : (l : List ℕ) → take (at + 12 + k) (take n l) ≡ take (at + 12 + k) l
    first l = take-take (at + 12 + k) n l (omega (arith, entries-after entries_from es))

-- entries encoded in a part of the buffer that was lent
module _ (b : List ℕ) (from : ℕ) (es : List Entry) (room : from + entries_end entries_from es ≤ length b) (rest : List ℕ) where
  abbrev pub old : List ℕ
  old = take (entries_end entries_from es) (drop from b)

  abbrev pub lent : List ℕ
  lent = take from b ++ ((take entries_from old ++ entries_bytes entries_from es) ++ rest)

  pub staged-lent : length lent ≡ length b → Staged lent from es
  staged-lent e =
      record {
        inside = omega arith;
        is = ap (take (entries_end entries_from es - 12)) behind
            ∙ take_at (entries_bytes entries_from es) rest (entries_end entries_from es - 12) (omega (arith, length-entries es entries_from));
      }
    where
      start : length (take from b) ≡ from
      start = simp length-take (omega arith)

      twelve : length (take entries_from old) ≡ 12
      twelve = simp (length-take, length-drop) (omega (arith, entries-after entries_from es))

      behind : drop (from + 12) (take from b ++ ((take entries_from old ++ entries_bytes entries_from es) ++ rest)) ≡ entries_bytes entries_from es ++ rest
      behind =
          sym (drop-drop 12 from _)
          ∙ ap (drop 12) (drop_at (take from b) _ from start)
          ∙ ap (drop 12) (append_assoc (take entries_from old) (entries_bytes entries_from es) rest)
          ∙ drop_at (take entries_from old) (entries_bytes entries_from es ++ rest) 12 twelve

module _ {b : List ℕ} {at : ℕ} {es : List Entry} (s : Staged b at es) (prev next most size : ℕ) where
  abbrev top : List ℕ
  top = header prev next most size

  beyond : 12 ≤ entries_end entries_from es
  beyond = entries-after entries_from es

  -- the header stored, then the entries
  pub stream-is : stream_in (sets b at top) at (at + entries_end entries_from es) ≡ top ++ entries_bytes entries_from es
  stream-is =
      let h : length top ≡ 12 = length-header prev next most size in
      let e : entries_end entries_from es ≡ length top + (entries_end entries_from es - 12) = omega (arith, beyond) in
      let a : length (take at b) ≡ at = simp length-take (omega (arith, s.inside)) in
      let z : at + entries_end entries_from es - at ≡ entries_end entries_from es = omega arith in
      ap (λ (l : List ℕ). take (at + entries_end entries_from es - at) (drop at l)) (sets-eq top b at (omega (arith, s.inside, beyond)) ∙ append_assoc (take at b) top (drop (at + length top) b))
      ∙ ap (take (at + entries_end entries_from es - at)) (drop_at (take at b) (top ++ drop (at + length top) b) at a)
      ∙ ap (λ (n : ℕ). take n (top ++ drop (at + length top) b)) (z ∙ e)
      ∙ take_more top (drop (at + length top) b) (entries_end entries_from es - 12)
      ∙ ap (λ (n : ℕ). top ++ take (entries_end entries_from es - 12) (drop (at + n) b)) h
      ∙ ap (λ (l : List ℕ). top ++ l) s.is

-- ---- The span

-- the buffer with the header of the part stored
abbrev pub headed : (b : List ℕ) → Part → List ℕ
headed b x = sets b (4 * x.word) (header x.top.prev x.top.next x.top.most x.top.size)

-- a span's stream fills all its pages but the last
reached-long : (es : List Entry) → 1016 * (reached es - 1) ≤ entries_end entries_from es
unfolding reached
reached-long es = omega arith

module _ {img b : List ℕ} {x : Part} {ps : List ℕ} {es : List Entry} (p : PartOf img b x ps es) where
  part-stream : stream_in (headed b x) (4 * x.word) x.end ≡ header x.top.prev x.top.next x.top.most x.top.size ++ entries_bytes entries_from es
  part-stream =
      ap (stream_in (headed b x) (4 * x.word)) p.end ∙ stream-is p.staged x.top.prev x.top.next x.top.most x.top.size

  pub header-fits : 4 * x.word + 12 ≤ length b
  header-fits = omega (arith, p.staged.inside, entries-after entries_from es)

  pub stream-ends : (4 * x.word ≤ x.end) × (x.end ≤ length b)
  stream-ends = (omega (arith, p.end), omega (arith, p.end, p.staged.inside))

  pub part-writable : length img ≤ 4194304 → Writable img (headed b x) x.at x.count (stream_in (headed b x) (4 * x.word) x.end)
  part-writable small =
      record {
        pages = ps;
        stand = numbers-kept (header x.top.prev x.top.next x.top.most x.top.size) b (4 * x.word) (4 * x.at) ps (omega (arith, p.many, p.apart)) p.stand;
        many = p.many;
        each = p.each;
        small = small;
        room = simp length-sets (omega (arith, p.apart, header-fits));
        long = rw part-stream
            (omega (
              arith,
              length-append (header x.top.prev x.top.next x.top.most x.top.size) (entries_bytes entries_from es),
              length-header x.top.prev x.top.next x.top.most x.top.size,
              length-entries es entries_from,
              reached-long es,
              p.reach,
            ));
      }

  -- the chain written is the span
  chain-span : stream_pages span_mark ps (stream_in (headed b x) (4 * x.word) x.end) ≡ whole_span (span_of x ps es)
  unfolding whole_span
  chain-span =
      λ j. stream_pages span_mark (listed ps (omega (arith, p.many, p.reach, reached-one es)) j) (stream j)
    where
      listed : (ns : List ℕ) → 1 ≤ length ns → ns ≡ first_of ns ∷ drop 1 ns
      listed [] l = absurd (omega arith)
      listed (n ∷ ns) l = refl

      joined : header x.top.prev x.top.next x.top.most (length es) ++ entries_bytes entries_from es
          ≡ word32 x.top.prev ++ (word32 x.top.next ++ (word16 x.top.most ++ (word16 (length es) ++ entries_bytes entries_from es)))
      joined = simp append_assoc

      stream : stream_in (headed b x) (4 * x.word) x.end
          ≡ word32 x.top.prev ++ (word32 x.top.next ++ (word16 x.top.most ++ (word16 (length es) ++ entries_bytes entries_from es)))
      stream = part-stream ∙ ap (λ (k : ℕ). header x.top.prev x.top.next x.top.most k ++ entries_bytes entries_from es) p.size ∙ joined

  pub part-wrote : length img ≤ 4194304 → (out : List ℕ)
      → WroteChain img (headed b x) x.at x.count (stream_in (headed b x) (4 * x.word) x.end) out → out ≡ apply (whole_span (span_of x ps es)) img
  unfolding part-writable
  part-wrote small out w = w.image (part-writable small) ∙ ap (λ (ws : List Write). apply ws img) chain-span
