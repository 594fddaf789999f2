-- Pages written whole: what is encoded is read back.
use Prim.Native.Nat.{ℕ, suc, ◌+◌, ◌*◌, ◌-◌, ◌/◌, ◌<◌, ◌≤◌}
use native.Mathlib.Omega.{arith}
use native.Mathlib.Nat.{add-zero}
use native.Mathlib.Decide.{dec_lt}
use mathlib.Core.Path.{◌≡◌, refl, ap, ap₂, sym, ◌∙◌, subst, subst₂}
use mathlib.Core.Logic.{by_cases}
use mathlib.Core.List.{List, [], ◌∷◌, ◌++◌, map, append_assoc, append-nil, head-eq_of_cons-eq, tail-eq_of_cons-eq}
use lib.ListN.{length, take, drop, replicate, length-append, length-replicate, length-take, length-drop, take-append-drop, drop_of_length-le, replicate-append-replicate}
use lib.Seq.{slice, take_at, drop_at, take_all}
use lib.Dec.{lit<}
use Rattle.blockfile.specs.Bytes.{pg, write, be16, be32, word16, word32, Write, apply, Every, gather, first_of, padded}
use Rattle.blockfile.specs.Marks.{skip_mark, tower_mark, span_mark, cont_mark}
use Rattle.blockfile.specs.Layout.{Entry, Block, entries_from, lens_start, entry_end, entries_end, reached}
use Rattle.blockfile.specs.Fields.{SkipList, LinkedSpan, LinkedTower, IsSkipList, IsTower, IsSpan, Numbers, EntriesAt, AreConts}
use Rattle.blockfile.specs.WellFormed.{Piece, skip_list, tower, span, count}
use Rattle.blockfile.specs.Encode.{entries_bytes, stream_pages, whole_span, whole_tower, counts, whole_skip_list}
use Rattle.blockfile.proofs.Count.{count-here, count-append, not_first}
use Rattle.laws.proofs.Numbers.{be16-left, be32-left, be16-right, be32-right, be16-word16, be32-word32, length-word16, length-word32}
use Rattle.laws.proofs.Pages.{pg-write-whole, pg-write-other, length-padded}
use Rattle.laws.proofs.Positions.{lens-after}
use Rattle.laws.proofs.State.{Shows}
use Rattle.laws.proofs.Steps.{Holds, in-range, lies_in, at-most-once, hand-small, claim, scribble, adopt}
use Rattle.laws.proofs.Opens.{held}
use Rattle.laws.proofs.Edits.{before_span, after_span, before_tower, after_tower, before_skip, after_skip, open-spans, close-spans, open-towers, close-towers, open-skips, close-skips}

-- ---- In the middle of a list

be16-mid : (p q : List ℕ) (k n : ℕ) → length p ≡ k → n < 65536 → be16 (p ++ (word16 n ++ q)) k ≡ n
be16-mid p q k n e h =
    rw add-zero at (be16-right p (word16 n ++ q) k 0 e) ∙ be16-left (word16 n) q 0 (omega (arith, length-word16 n)) ∙ be16-word16 n h

be32-mid : (p q : List ℕ) (k n : ℕ) → length p ≡ k → n < 4294967296 → be32 (p ++ (word32 n ++ q)) k ≡ n
be32-mid p q k n e h =
    rw add-zero at (be32-right p (word32 n ++ q) k 0 e) ∙ be32-left (word32 n) q 0 (omega (arith, length-word32 n)) ∙ be32-word32 n h

slice-mid : (p m q : List ℕ) (f t : ℕ) → length p ≡ f → f + length m ≡ t → slice f t (p ++ (m ++ q)) ≡ m
slice-mid p m q f t e g =
    ap (drop f) (ap (take t) (sym (append_assoc p m q)) ∙ take_at (p ++ m) q t (length-append p m ∙ ap (λ (k : ℕ). k + length m) e ∙ g)) ∙ drop_at p m f e

-- numbers one after another
pub numbers-mid : (ns p q : List ℕ) (k : ℕ) → length p ≡ k → Every (λ n. n < 4294967296) ns → Numbers (p ++ (gather word32 ns ++ q)) k ns
numbers-mid [] p q k e h = tt
numbers-mid (n ∷ ns) p q k e h =
    let w : p ++ ((word32 n ++ gather word32 ns) ++ q) ≡ p ++ (word32 n ++ (gather word32 ns ++ q)) = ap (λ (l : List ℕ). p ++ l) (append_assoc (word32 n) (gather word32 ns) q) in (
      ap (λ (l : List ℕ). be32 l k) w ∙ be32-mid p (gather word32 ns ++ q) k n e h.0,
      subst (λ (l : List ℕ). Numbers l (k + 4) ns) (sym (w ∙ sym (append_assoc p (word32 n) (gather word32 ns ++ q))))
          (numbers-mid ns (p ++ word32 n) q (k + 4) (length-append p (word32 n) ∙ omega (arith, length-word32 n)) h.1),
    )

pub length-numbers32 : (ns : List ℕ) → length (gather word32 ns) ≡ 4 * length ns
length-numbers32 [] = refl
length-numbers32 (n ∷ ns) = length-append (word32 n) (gather word32 ns) ∙ omega (arith, length-word32 n, length-numbers32 ns)

-- ---- Entries

-- keys and values that a stream can hold
abbrev pub Small : List Entry → Type 0
Small es = Every (λ e. (length e.key ≤ 65535) × (length e.value ≤ 65535)) es

-- what is encoded stands there
encode-read : (es : List Entry) (v : ℕ) (p q : List ℕ) → length p ≡ v → Small es → EntriesAt (p ++ (entries_bytes v es ++ q)) v es
unfolding entry_end
encode-read [] v p q e o = tt
encode-read (x ∷ xs) v p q e o = (
  ap (λ (s : List ℕ). be16 s (lens_start v)) w1 ∙ be16-mid p1 (vl ++ (x.key ++ (x.value ++ more))) (lens_start v) (length x.key) n1 (omega (arith, o.0.0)),
  ap (λ (s : List ℕ). be16 s (lens_start v + 2)) w2 ∙ be16-mid p2 (x.key ++ (x.value ++ more)) (lens_start v + 2) (length x.value) n2 (omega (arith, o.0.1)),
  ap (slice (lens_start v + 4) (lens_start v + 4 + length x.key)) w3
      ∙ slice-mid p3 x.key (x.value ++ more) (lens_start v + 4) (lens_start v + 4 + length x.key) n3 refl,
  ap (slice (lens_start v + 4 + length x.key) (entry_end v x)) w4 ∙ slice-mid p4 x.value more (lens_start v + 4 + length x.key) (entry_end v x) n4 refl,
  subst (λ (s : List ℕ). EntriesAt s (entry_end v x) xs) (sym w5) (encode-read xs (entry_end v x) p5 q n5 o.1),
)
  where
    kl : List ℕ
    kl = word16 (length x.key)

    vl : List ℕ
    vl = word16 (length x.value)

    more : List ℕ
    more = entries_bytes (entry_end v x) xs ++ q

    p1 : List ℕ
    p1 = p ++ replicate (lens_start v - v) 0

    p2 : List ℕ
    p2 = p1 ++ kl

    p3 : List ℕ
    p3 = p2 ++ vl

    p4 : List ℕ
    p4 = p3 ++ x.key

    p5 : List ℕ
    p5 = p4 ++ x.value

    s : List ℕ
    s = p ++ (entries_bytes v (x ∷ xs) ++ q)

    w1 : s ≡ p1 ++ (kl ++ (vl ++ (x.key ++ (x.value ++ more))))
    w1 = simp append_assoc

    w2 : s ≡ p2 ++ (vl ++ (x.key ++ (x.value ++ more)))
    w2 = simp append_assoc

    w3 : s ≡ p3 ++ (x.key ++ (x.value ++ more))
    w3 = simp append_assoc

    w4 : s ≡ p4 ++ (x.value ++ more)
    w4 = simp append_assoc

    w5 : s ≡ p5 ++ more
    w5 = simp append_assoc

    n1 : length p1 ≡ lens_start v
    n1 = simp (length-append, length-replicate, e) (omega (arith, lens-after v))

    n2 : length p2 ≡ lens_start v + 2
    n2 = length-append p1 kl ∙ omega (arith, n1, length-word16 (length x.key))

    n3 : length p3 ≡ lens_start v + 4
    n3 = length-append p2 vl ∙ omega (arith, n2, length-word16 (length x.value))

    n4 : length p4 ≡ lens_start v + 4 + length x.key
    n4 = length-append p3 x.key ∙ ap (λ (k : ℕ). k + length x.key) n3

    n5 : length p5 ≡ entry_end v x
    n5 = length-append p4 x.value ∙ ap (λ (k : ℕ). k + length x.value) n4

-- the bytes of entries end where the entries end
pub length-entries : (es : List Entry) (v : ℕ) → v + length (entries_bytes v es) ≡ entries_end v es
unfolding entry_end word16
length-entries [] v = omega arith
length-entries (e ∷ es) v =
    let h : entry_end v e + length (entries_bytes (entry_end v e) es) ≡ entries_end (entry_end v e) es = length-entries es (entry_end v e) in
    simp (length-append, length-replicate) (omega (arith, lens-after v))

-- ---- The pages of a stream

abbrev pub page_bytes : (mark : List ℕ) (next : ℕ) (stream : List ℕ) → List ℕ
page_bytes mark n s = mark ++ (word32 n ++ padded 1016 (take 1016 s))

abbrev stream_bytes : (mark pages stream : List ℕ) → List (List ℕ)
stream_bytes mark [] s = []
stream_bytes mark (n ∷ ns) s = page_bytes mark (first_of ns) s ∷ stream_bytes cont_mark ns (drop 1016 s)

pub length-page : (mark : List ℕ) (n : ℕ) (s : List ℕ) → length mark ≡ 4 → length (page_bytes mark n s) ≡ 1024
length-page mark n s e =
    let t : length (padded 1016 (take 1016 s)) ≡ 1016 = length-padded 1016 (take 1016 s) (rw length-take (omega arith)) in
    length-append mark (word32 n ++ padded 1016 (take 1016 s))
    ∙ ap (λ (k : ℕ). length mark + k) (length-append (word32 n) (padded 1016 (take 1016 s))) ∙ omega (arith, length-word32 n)

drop-page : (mark : List ℕ) (n : ℕ) (s : List ℕ) → length mark ≡ 4 → drop 8 (page_bytes mark n s) ≡ padded 1016 (take 1016 s)
drop-page mark n s e =
    ap (drop 8) (sym (append_assoc mark (word32 n) (padded 1016 (take 1016 s))))
    ∙ drop_at (mark ++ word32 n) (padded 1016 (take 1016 s)) 8 (length-append mark (word32 n) ∙ omega (arith, length-word32 n))

-- one page and the rest of the stream, padded, are the stream padded
join-page : (s : List ℕ) (m : ℕ) → length s ≤ 1016 * suc m
    → padded 1016 (take 1016 s) ++ padded (1016 * m) (drop 1016 s) ≡ padded (1016 * suc m) s
join-page s m h = by_cases (dec_lt (length s) 1016) short long
  where
    short : length s < 1016 → padded 1016 (take 1016 s) ++ padded (1016 * m) (drop 1016 s) ≡ padded (1016 * suc m) s
    short l =
        let t : take 1016 s ≡ s = take_all 1016 s (omega arith) in
        let d : drop 1016 s ≡ [] = drop_of_length-le s {i = 1016} (omega arith) in
        let q : (1016 - length s) + (1016 * m - 0) ≡ 1016 * suc m - length s = omega arith in
        ap₂ (λ (a b : List ℕ). padded 1016 a ++ padded (1016 * m) b) t d
        ∙ append_assoc s (replicate (1016 - length s) 0) (replicate (1016 * m - 0) 0)
        ∙ ap (λ (r : List ℕ). s ++ r) (replicate-append-replicate (1016 - length s) (1016 * m - 0) 0 ∙ ap (λ (k : ℕ). replicate k 0) q)

    long : (length s < 1016 → ⊥) → padded 1016 (take 1016 s) ++ padded (1016 * m) (drop 1016 s) ≡ padded (1016 * suc m) s
    long l =
        let t : length (take 1016 s) ≡ 1016 = rw length-take (omega (arith, l)) in
        let z : 1016 - length (take 1016 s) ≡ 0 = omega arith in
        let q : 1016 * m - length (drop 1016 s) ≡ 1016 * suc m - length s = omega (arith, length-drop 1016 s) in
        ap₂ (λ (a b : ℕ). (take 1016 s ++ replicate a 0) ++ (drop 1016 s ++ replicate b 0)) z q
        ∙ ap (λ (r : List ℕ). r ++ (drop 1016 s ++ replicate (1016 * suc m - length s) 0)) (append-nil (take 1016 s))
        ∙ sym (append_assoc (take 1016 s) (drop 1016 s) (replicate (1016 * suc m - length s) 0))
        ∙ ap (λ (r : List ℕ). r ++ replicate (1016 * suc m - length s) 0) (take-append-drop 1016 s)

-- the pages, joined again
join-stream : (mark ns s : List ℕ) → length mark ≡ 4 → length s ≤ 1016 * length ns
    → gather (λ c. drop 8 c) (stream_bytes mark ns s) ≡ padded (1016 * length ns) s
join-stream mark [] [] e h = refl
join-stream mark [] (x ∷ s) e h = absurd (omega arith)
join-stream mark (n ∷ ns) s e h =
    ap₂ (λ (a b : List ℕ). a ++ b) (drop-page mark (first_of ns) s e)
    (join-stream cont_mark ns (drop 1016 s) (unfold cont_mark in refl) (simp length-drop (omega arith)))
    ∙ join-page s (length ns) h

page-next : (mark : List ℕ) (n : ℕ) (s : List ℕ) → length mark ≡ 4 → n < 4294967296 → be32 (page_bytes mark n s) 4 ≡ n
page-next mark n s e h = be32-mid mark (padded 1016 (take 1016 s)) 4 n e h

first_small_lem : (ns : List ℕ) → Every (λ n. n < 4294967296) ns → first_of ns < 4294967296
first_small_lem [] o = lit< tt
first_small_lem (n ∷ ns) o = o.0

conts-borne : (ns s : List ℕ) → Every (λ n. n < 4294967296) ns → AreConts ns (stream_bytes cont_mark ns s)
unfolding cont_mark
conts-borne [] s o = tt
conts-borne (n ∷ ns) s o = (refl, page-next cont_mark (first_of ns) s refl (first_small_lem ns o.1), conts-borne ns (drop 1016 s) o.1)

-- ---- A span

-- what a span's page can hold
pub record SpanFits (x : LinkedSpan) : Type 0 where
  pub reach : 1 + length x.span.conts ≡ reached x.span.entries
  pub prev_small : x.prev < 4294967296
  pub next_small : x.next < 4294967296
  pub keys_small : x.max_keys < 65536
  pub size_small : length x.span.entries ≤ 65535
  pub entries_small : Small x.span.entries

abbrev pub span_stream : LinkedSpan → List ℕ
span_stream x =
    word32 x.prev ++ (word32 x.next ++ (word16 x.max_keys ++ (word16 (length x.span.entries) ++ entries_bytes entries_from x.span.entries)))

reach-end : (x k : ℕ) → 1 + k ≡ (x + 1015) / 1016 → x ≤ 1016 * suc k
reach-end x k e = omega arith

module _ (x : LinkedSpan) (fits : SpanFits x) (small : Every (λ n. n < 4294967296) x.span.conts) where
  length-stream : length (span_stream x) ≤ 1016 * suc (length x.span.conts)
  unfolding word32 word16 reached
  length-stream =
      let l : 12 + length (entries_bytes 12 x.span.entries) ≡ entries_end 12 x.span.entries = length-entries x.span.entries 12 in
      let m : entries_end 12 x.span.entries ≤ 1016 * suc (length x.span.conts) = reach-end (entries_end 12 x.span.entries) (length x.span.conts) fits.reach in
      omega arith

  -- the pages that are written bear the span
  span-borne : IsSpan x (page_bytes span_mark (first_of x.span.conts) (span_stream x)) (stream_bytes cont_mark x.span.conts (drop 1016 (span_stream x)))
  unfolding span_mark word32 word16 be32 be16
  span-borne =
      record {
        mark = refl;
        cont = be32-word32 (first_of x.span.conts) (first_small_lem x.span.conts small);
        prev = be32-word32 x.prev fits.prev_small;
        next = be32-word32 x.next fits.next_small;
        max_keys = be16-word16 x.max_keys fits.keys_small;
        size = be16-word16 (length x.span.entries) (omega (arith, fits.size_small));
        conts = conts-borne x.span.conts (drop 1016 (span_stream x)) small;
        entries = subst (λ (s : List ℕ). EntriesAt s 12 x.span.entries)
            (sym (join-stream span_mark (x.span.page ∷ x.span.conts) (span_stream x) refl length-stream))
            (encode-read x.span.entries 12 (word32 x.prev ++ (word32 x.next ++ (word16 x.max_keys ++ word16 (length x.span.entries))))
            (replicate (1016 * suc (length x.span.conts) - length (span_stream x)) 0) refl fits.entries_small);
      }

-- ---- Pages in hand are written, one after another

record Wrote (p : ℕ) (img : List ℕ) (qs : List Piece) (sp : List ℕ) (ws : List Write) (ns : List ℕ) (bs : List (List ℕ)) : Type 0 where
  pub holds : Holds p (apply ws img) qs sp
  pub bytes : map (pg (apply ws img)) ns ≡ bs
  pub other : (m : ℕ) → count m ns ≡ 0 → pg (apply ws img) m ≡ pg img m

wrote : {p : ℕ} (img : List ℕ) (qs : List Piece) (sp mark ns s : List ℕ) → length mark ≡ 4 → ((m : ℕ) → count m ns ≤ count m sp) → Holds p img qs sp
    → Wrote p img qs sp (stream_pages mark ns s) ns (stream_bytes mark ns s)
wrote img qs sp mark [] s l c h = record { holds = h; bytes = refl; other = λ m e. refl }
wrote {p} img qs sp mark (n ∷ ns) s l c h =
    let b : List ℕ = page_bytes mark (first_of ns) s in
    let lb : length b ≡ 1024 = length-page mark (first_of ns) s l in
    let cn : count n (n ∷ ns) ≤ count n sp = c n in
    let here : count n (n ∷ ns) ≡ 1 + count n ns = count-here n ns in
    let r : (1 ≤ n) × (n ≤ p) = in-range h n (omega arith) in
    let once : _ ≤ 1 = at-most-once h n in
    let w : Wrote p (write img n 0 b) qs sp (stream_pages cont_mark ns (drop 1016 s)) ns (stream_bytes cont_mark ns (drop 1016 s))
    = wrote (write img n 0 b) qs sp cont_mark ns (drop 1016 s) (unfold cont_mark in refl) (λ m. (let d : count m (n ∷ ns) ≤ count m sp = c m in omega arith))
    (scribble qs sp n 0 b (omega arith) (omega arith) h) in
    let e : pg (write img n 0 b) n ≡ b = pg-write-whole img n b r.0 (lies_in h n (omega arith)) lb in
    record {
      holds = w.holds;
      bytes = ap₂ {C = List (List ℕ)} (λ y ys. y ∷ ys) (w.other n (omega arith) ∙ e) w.bytes;
      other = λ m q. w.other m (omega arith) ∙ pg-write-other img n m 0 b (λ g. not_first m n ns q (sym g)) (omega arith);
    }

-- A span is written whole to pages in hand
pub whole-span : {p z : ℕ} {img : List ℕ} {ks : List SkipList} {ts : List LinkedTower} {bs : List Block} {sp : List ℕ} (xs ys : List LinkedSpan) (x : LinkedSpan)
    → SpanFits x → Shows p z img (held ks (xs ++ ys) ts bs (x.span.page ∷ (x.span.conts ++ sp)))
    → Shows p z (apply (whole_span x) img) (held ks (xs ++ x ∷ ys) ts bs sp)
unfolding whole_span
whole-span {p} {z} {img} {ks} {ts} {bs} {sp} xs ys x f s =
    let ns : List ℕ = x.span.page ∷ x.span.conts in
    let qs : List Piece = before_span p z bs ks xs ++ after_span ts bs ys in
    let h : Holds p img qs (ns ++ sp) = open-spans img (ns ++ sp) xs [] ys s in
    let inside : (m : ℕ) → count m ns ≤ count m (ns ++ sp) = λ m. (let e : count m (ns ++ sp) ≡ count m ns + count m sp = count-append m ns sp in omega arith) in
    let w : Wrote p img qs (ns ++ sp) (whole_span x) ns (stream_bytes span_mark ns (span_stream x))
    = wrote img qs (ns ++ sp) span_mark ns (span_stream x) (unfold span_mark in refl) inside h in
    let small : Every (λ n. n < 4294967296) ns = hand-small h ns inside in
    close-spans (apply (whole_span x) img) sp xs (x ∷ []) ys
    (claim (before_span p z bs ks xs) (after_span ts bs ys) (span x) sp
    (subst₂ (IsSpan x) (sym (head-eq_of_cons-eq w.bytes)) (sym (tail-eq_of_cons-eq w.bytes)) (span-borne x f small.1))
    w.holds)

-- ---- A tower

-- what a tower's page can hold
pub record TowerFits (x : LinkedTower) : Type 0 where
  pub max_small : x.tower.max_height < 65536
  pub height_small : x.tower.height < 65536
  pub span_small : x.span_page < 4294967296
  pub few : length x.nexts ≤ 252
  pub nexts_small : Every (λ n. n < 4294967296) x.nexts

abbrev pub tower_bytes : LinkedTower → List ℕ
tower_bytes x = tower_mark ++ (word16 x.tower.max_height ++ (word16 x.tower.height ++ (word32 x.span_page ++ gather word32 x.nexts)))

pub length-tower : (x : LinkedTower) → length (tower_bytes x) ≡ 16 + 4 * length x.nexts
unfolding tower_mark word16
length-tower x = simp length-append (omega (arith, length-word32 x.span_page, length-numbers32 x.nexts))

tower-borne : (x : LinkedTower) → TowerFits x → IsTower x (padded 1024 (tower_bytes x))
unfolding tower_mark word16 word32 be16 be32
tower-borne x f =
    record {
      mark = refl;
      max_height = be16-word16 x.tower.max_height f.max_small;
      height = be16-word16 x.tower.height f.height_small;
      span_page = be32-word32 x.span_page f.span_small;
      nexts = numbers-mid x.nexts (tower_mark ++ (word16 x.tower.max_height ++ (word16 x.tower.height ++ word32 x.span_page)))
          (replicate (1024 - length (tower_bytes x)) 0) 16 refl f.nexts_small;
    }

-- A tower is written whole to a page in hand
pub whole-tower : {p z : ℕ} {img : List ℕ} {ks : List SkipList} {xs : List LinkedSpan} {bs : List Block} {sp : List ℕ} (ts us : List LinkedTower) (t : LinkedTower)
    → TowerFits t → Shows p z img (held ks xs (ts ++ us) bs (t.tower.page ∷ sp))
    → Shows p z (apply (whole_tower t) img) (held ks xs (ts ++ t ∷ us) bs sp)
unfolding whole_tower
whole-tower {p} {z} {img} {ks} {xs} {bs} {sp} ts us t f s =
    let n : ℕ = t.tower.page in
    let w : List ℕ = padded 1024 (tower_bytes t) in
    let l : length w ≡ 1024 = length-padded 1024 (tower_bytes t) (omega (arith, length-tower t, f.few)) in
    close-towers (write img n 0 w) sp ts (t ∷ []) us
    (adopt (before_tower p z bs ks xs ts) (after_tower bs us) (tower t) sp n w (omega arith) refl
    (λ pos there. subst (IsTower t) (sym (pg-write-whole img n w pos there l)) (tower-borne t f))
    (open-towers img (n ∷ sp) ts [] us s))

-- ---- A skip list

-- what a skip list's page can hold
pub record SkipFits (k : SkipList) : Type 0 where
  pub first_small : k.first < 4294967296
  pub level_small : k.level < 4294967296
  pub size_small : k.size < 4294967296
  pub spans_small : k.spans < 4294967296
  pub levels_small : k.levels < 4294967296
  pub span_size_small : k.span_size < 65536

abbrev pub skip_bytes : SkipList → List ℕ
skip_bytes k = skip_mark ++ (word32 k.first ++ (word32 k.level ++ (counts k ++ word16 k.span_size)))

pub length-skip : (k : SkipList) → length (skip_bytes k) ≡ 30
unfolding skip_mark counts word16 word32
length-skip k = refl

skip-borne : (k : SkipList) → SkipFits k → IsSkipList k (padded 1024 (skip_bytes k))
unfolding skip_mark counts word16 word32 be16 be32
skip-borne k f =
    record {
      mark = refl;
      first = be32-word32 k.first f.first_small;
      level = be32-word32 k.level f.level_small;
      size = be32-word32 k.size f.size_small;
      spans = be32-word32 k.spans f.spans_small;
      levels = be32-word32 k.levels f.levels_small;
      span_size = be16-word16 k.span_size f.span_size_small;
    }

-- A skip list is written whole to a page in hand
pub whole-skip-list : {p z : ℕ} {img : List ℕ} {xs : List LinkedSpan} {ts : List LinkedTower} {bs : List Block} {sp : List ℕ} (ks js : List SkipList) (k : SkipList)
    → SkipFits k → Shows p z img (held (ks ++ js) xs ts bs (k.page ∷ sp)) → Shows p z (apply (whole_skip_list k) img) (held (ks ++ k ∷ js) xs ts bs sp)
unfolding whole_skip_list
whole-skip-list {p} {z} {img} {xs} {ts} {bs} {sp} ks js k f s =
    let w : List ℕ = padded 1024 (skip_bytes k) in
    let l : length w ≡ 1024 = length-padded 1024 (skip_bytes k) (omega (arith, length-skip k)) in
    close-skips (write img k.page 0 w) sp ks (k ∷ []) js
    (adopt (before_skip p z bs ks) (after_skip xs ts bs js) (skip_list k) sp k.page w (omega arith) refl
    (λ pos there. subst (IsSkipList k) (sym (pg-write-whole img k.page w pos there l)) (skip-borne k f))
    (open-skips img (k.page ∷ sp) ks [] js s))
