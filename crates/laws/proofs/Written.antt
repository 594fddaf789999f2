-- A field of a page is written: what the page bears then.
use Prim.Native.Nat.{ℕ, zero, suc, ◌+◌, ◌*◌, ◌-◌, ◌<◌, ◌≤◌}
use native.Mathlib.Omega.{arith}
use native.Mathlib.Nat.{zero-add, suc-add}
use native.Mathlib.Decide.{ℕ_discrete, dec_lt}
use mathlib.Core.Path.{◌≡◌, refl, ap, ap₂, sym, ◌∙◌, subst}
use mathlib.Core.Logic.{◌⊎◌, inl, inr, by_cases}
use mathlib.Core.List.{List, [], ◌∷◌, ◌++◌}
use lib.ListN.{length, get_or, take, drop, set, length-append, length-drop, length-set}
use lib.Seq.{sets, slice, drop-set-lt, drop-append-le, drop-drop, take-nil, get_or-drop, get_or-set_same, get_or-set_other, length-sets}
use lib.Dec.{lit<, lit≤}
use Rattle.blockfile.specs.Bytes.{pg, write, be16, be32, word16, word32, gather}
use Rattle.blockfile.specs.Marks.{block_mark, free_mark}
use Rattle.blockfile.specs.Layout.{Entry, lens_start, entry_end}
use Rattle.blockfile.specs.Fields.{SkipList, LinkedTower, LinkedSpan, IsSuperblock, IsSkipList, IsTower, IsSpan, IsBlock, IsFree, Numbers, EntriesAt}
use Rattle.blockfile.specs.Encode.{counts}
use Rattle.laws.specs.Lists.{Apart}
use Rattle.laws.proofs.Lists.{take-sets-before, take-sets-start}
use Rattle.laws.proofs.Numbers.{be64-agree, be32-word32, be32-left, be32-right, length-word16, length-word32}
use Rattle.laws.proofs.Pages.{length-pg, pg-write-same, agree-write-off, be16-write-off, be32-write-off, be32-write-in, be16-write-same, be32-write-same}
use Rattle.laws.proofs.FreeRead.{numbers-at}
use Rattle.laws.proofs.Positions.{lens-after}

-- ---- Numbers, one after another

-- numbers by their places
pub numbers-from : (b : List ℕ) (o : ℕ) (ns : List ℕ) → ((i : ℕ) → i < length ns → be32 b (o + 4 * i) ≡ get_or ns i 0) → Numbers b o ns
numbers-from b o [] f = tt
numbers-from b o (n ∷ ns) f =
    let z : o + 4 * 0 ≡ o = omega arith in
    (rw z at (f 0 (omega arith)), numbers-from b (o + 4) ns (λ i l. (let e : o + 4 + 4 * i ≡ o + 4 * suc i = omega arith in rw e (f (suc i) (omega arith)))))

-- the first ones of two lists
pub numbers-left : (b : List ℕ) (o : ℕ) (ns ms : List ℕ) → Numbers b o (ns ++ ms) → Numbers b o ns
numbers-left b o [] ms h = tt
numbers-left b o (n ∷ ns) ms h = (h.0, numbers-left b (o + 4) ns ms h.1)

-- two lists, one after the other
pub numbers-join : (b : List ℕ) (o : ℕ) (ns ms : List ℕ) → Numbers b o ns → Numbers b (o + 4 * length ns) ms → Numbers b o (ns ++ ms)
numbers-join b o [] ms h k = let e : o + 4 * 0 ≡ o = omega arith in rw e at k
numbers-join b o (n ∷ ns) ms h k =
    let e : o + 4 * suc (length ns) ≡ o + 4 + 4 * length ns = omega arith in
    (h.0, numbers-join b (o + 4) ns ms h.1 (rw e at k))

-- the k numbers from offset o on
abbrev pub numbers_of : (b : List ℕ) (o k : ℕ) → List ℕ
numbers_of b o zero = []
numbers_of b o (suc k) = be32 b o ∷ numbers_of b (o + 4) k

-- they are k numbers
pub length-numbers : (b : List ℕ) (o k : ℕ) → length (numbers_of b o k) ≡ k
length-numbers b o zero = refl
length-numbers b o (suc k) = ap suc (length-numbers b (o + 4) k)

-- and they stand there
pub are-numbers : (b : List ℕ) (o k : ℕ) → Numbers b o (numbers_of b o k)
are-numbers b o zero = tt
are-numbers b o (suc k) = (refl, are-numbers b (o + 4) k)

-- ---- Bytes off a write

drop-sets-after : (vs l : List ℕ) (i n : ℕ) → i + length vs ≤ n → drop n (sets l i vs) ≡ drop n l
drop-sets-after [] l i n h = refl
drop-sets-after (v ∷ vs) l i n h = drop-sets-after vs (set l i v) (suc i) n (omega arith) ∙ drop-set-lt n l i v (omega arith)

module _ (img : List ℕ) (n o : ℕ) (bs : List ℕ) (pos : 1 ≤ n) (fits : o + length bs ≤ 1024) where
  -- the start of a page, before a write
  pub take-write-off : (k : ℕ) → k ≤ o → take k (pg (write img n o bs) n) ≡ take k (pg img n)
  take-write-off k h = ap (take k) (pg-write-same img n o bs pos fits) ∙ take-sets-before bs (pg img n) o k h

  -- the end of a page, after a write
  pub drop-write-off : (k : ℕ) → o + length bs ≤ k → drop k (pg (write img n o bs) n) ≡ drop k (pg img n)
  drop-write-off k h = ap (drop k) (pg-write-same img n o bs pos fits) ∙ drop-sets-after bs (pg img n) o k h

  -- numbers that a write does not meet
  pub numbers-write-off : (a : ℕ) (ns : List ℕ) → Apart a (4 * length ns) o (length bs) → Numbers (pg img n) a ns → Numbers (pg (write img n o bs) n) a ns
  numbers-write-off a ns r h =
      numbers-from (pg (write img n o bs) n) a ns
      (λ i l. be32-write-off img n o bs pos fits (a + 4 * i) (off i l r) ∙ numbers-at (pg img n) a ns i h l)
    where
      off : (i : ℕ) → i < length ns → Apart a (4 * length ns) o (length bs) → Apart (a + 4 * i) 4 o (length bs)
      off i l (inl q) = inl (omega arith)
      off i l (inr q) = inr (omega arith)

-- ---- Entries do not see what stands before position 12

-- bytes in the middle of a list
pub drop-take : (n m : ℕ) (l : List ℕ) → drop n (take (n + m) l) ≡ take m (drop n l)
drop-take zero m l = rw zero-add
drop-take (suc n) m [] = rw (take-nil {A = ℕ} (suc n + m), take-nil {A = ℕ} m)
drop-take (suc n) m (x ∷ xs) = rw suc-add (drop-take n m xs)

module _ (s s' : List ℕ) (e : drop 12 s ≡ drop 12 s') where
  get_d_tail : (o : ℕ) → 12 ≤ o → get_or s o 0 ≡ get_or s' o 0
  get_d_tail o h =
      let q : 12 + (o - 12) ≡ o = omega arith in
      ap (λ (i : ℕ). get_or s i 0) (sym q) ∙ sym (get_or-drop 12 s (o - 12) 0) ∙ ap (λ (r : List ℕ). get_or r (o - 12) 0) e ∙ get_or-drop 12 s' (o - 12) 0
      ∙ ap (λ (i : ℕ). get_or s' i 0) q

  be16-tail : (o : ℕ) → 12 ≤ o → be16 s' o ≡ be16 s o
  unfolding be16
  be16-tail o h = sym (ap₂ (λ (a b : ℕ). a * 256 + b) (get_d_tail o h) (get_d_tail (o + 1) (omega arith)))

  slice-part : (r : List ℕ) (f t : ℕ) → 12 ≤ f → f ≤ t → slice f t r ≡ drop (f - 12) (take (t - 12) (drop 12 r))
  slice-part r f t h g =
      let p : f ≡ 12 + (f - 12) = omega arith in
      let q : t ≡ 12 + (t - 12) = omega arith in
      ap₂ (λ (i j : ℕ). drop i (take j r)) p q ∙ sym (drop-drop (f - 12) 12 (take (12 + (t - 12)) r)) ∙ ap (drop (f - 12)) (drop-take 12 (t - 12) r)

  slice-tail : (f t : ℕ) → 12 ≤ f → f ≤ t → slice f t s' ≡ slice f t s
  slice-tail f t h g = slice-part s' f t h g ∙ ap (λ (r : List ℕ). drop (f - 12) (take (t - 12) r)) (sym e) ∙ sym (slice-part s f t h g)

  entries-tail : (v : ℕ) (es : List Entry) → 12 ≤ v → EntriesAt s v es → EntriesAt s' v es
  unfolding entry_end
  entries-tail v [] h k = tt
  entries-tail v (x ∷ xs) h k =
      let g : v ≤ lens_start v = lens-after v in
      let a : ℕ = lens_start v in (
        be16-tail a (omega arith) ∙ k.0,
        be16-tail (a + 2) (omega arith) ∙ k.1,
        slice-tail (a + 4) (a + 4 + length x.key) (omega arith) (omega arith) ∙ k.2,
        slice-tail (a + 4 + length x.key) (entry_end v x) (omega arith) (omega arith) ∙ k.3,
        entries-tail (entry_end v x) xs (omega arith) k.4,
      )

-- the tail of a stream is that of the first page
stream-tail : (b b' r : List ℕ) → drop 20 b ≡ drop 20 b' → length b ≡ 1024 → length b' ≡ 1024 → drop 12 (drop 8 b ++ r) ≡ drop 12 (drop 8 b' ++ r)
stream-tail b b' r e l l' =
    drop-append-le 12 (drop 8 b) r (simp length-drop (omega arith)) ∙ ap (λ (t : List ℕ). t ++ r) (drop-drop 12 8 b ∙ e ∙ sym (drop-drop 12 8 b'))
    ∙ sym (drop-append-le 12 (drop 8 b') r (simp length-drop (omega arith)))

-- ---- Fields

-- a span with another previous link
abbrev pub with_prev : ℕ → LinkedSpan → LinkedSpan
with_prev v x = record { span = x.span; prev = v; next = x.next; max_keys = x.max_keys }

-- a span with another next link
abbrev pub with_next : ℕ → LinkedSpan → LinkedSpan
with_next v x = record { span = x.span; prev = x.prev; next = v; max_keys = x.max_keys }

-- a skip list with other counts
abbrev pub with_counts : (size spans levels : ℕ) → SkipList → SkipList
with_counts a m l k = record { page = k.page; first = k.first; level = k.level; size = a; spans = m; levels = l; span_size = k.span_size }

-- a tower with other entries
abbrev pub with_nexts : List ℕ → LinkedTower → LinkedTower
with_nexts ns x = record { tower = x.tower; span_page = x.span_page; nexts = ns }

-- a tower with another current height
abbrev pub with_height : ℕ → LinkedTower → LinkedTower
with_height v x = record { tower = record { page = x.tower.page; max_height = x.tower.max_height; height = v }; span_page = x.span_page; nexts = x.nexts }

module _ (img : List ℕ) (n : ℕ) (pos : 1 ≤ n) (there : 1024 * n ≤ length img) where
  -- a word written on the superblock, before byte 20 or from byte 28 on
  module _ (o v : ℕ) (low : 16 ≤ o) (high : o + 4 ≤ 1024) (side : (28 ≤ o) ⊎ (o + 4 ≤ 20)) where
    long : length (word32 v) ≡ 4
    long = length-word32 v

    fits : o + length (word32 v) ≤ 1024
    fits = omega (arith, long)

    -- bytes 20 to 27 are not in it
    away : (a w : ℕ) → 20 ≤ a → a + w ≤ 28 → (a + w ≤ o) ⊎ (o + length (word32 v) ≤ a)
    away a w from to = go side
      where
        go : (28 ≤ o) ⊎ (o + 4 ≤ 20) → (a + w ≤ o) ⊎ (o + length (word32 v) ≤ a)
        go (inl h) = inl (omega arith)
        go (inr h) = inr (omega (arith, long))

    super-word : {p f g z : ℕ} → be32 (pg (write img n o (word32 v)) n) 16 ≡ g → IsSuperblock p f z (pg img n) → IsSuperblock p g z (pg (write img n o (word32 v)) n)
    super-word first k =
        record {
          mark = take-write-off img n o (word32 v) pos fits 6 (omega arith) ∙ k.mark;
          major = agree-write-off img n o (word32 v) pos fits 1 6 (inl (omega arith)) 0 (lit< tt) ∙ k.major;
          minor = agree-write-off img n o (word32 v) pos fits 1 7 (inl (omega arith)) 0 (lit< tt) ∙ k.minor;
          file_length = be64-agree (pg (write img n o (word32 v)) n) 8 (pg img n) 8 (agree-write-off img n o (word32 v) pos fits 8 8 (inl (omega arith))) ∙ k.file_length;
          free = first;
          mounted = subst (λ (m : ℕ). m ≤ 1) (sym (be16-write-off img n o (word32 v) pos fits 20 (away 20 2 (lit≤ tt) (lit≤ tt)))) k.mounted;
          span_size = be16-write-off img n o (word32 v) pos fits 22 (away 22 2 (lit≤ tt) (lit≤ tt)) ∙ k.span_size;
          page_size = be32-write-off img n o (word32 v) pos fits 24 (away 24 4 (lit≤ tt) (lit≤ tt)) ∙ k.page_size;
        }

  -- the superblock's first free-list page
  pub super-free : {p f z : ℕ} (v : ℕ) → v < 4294967296 → IsSuperblock p f z (pg img n) → IsSuperblock p v z (pg (write img n 16 (word32 v)) n)
  super-free v h k = super-word 16 v (lit≤ tt) (lit≤ tt) (inr (lit≤ tt)) (be32-write-same img n 16 v pos there (lit≤ tt) h) k

  -- its count of free pages, which is none of the fields
  pub super-kept : {p f z : ℕ} (v : ℕ) → IsSuperblock p f z (pg img n) → IsSuperblock p f z (pg (write img n 28 (word32 v)) n)
  super-kept v k =
      super-word 28 v (lit≤ tt) (lit≤ tt) (inl (lit≤ tt)) (be32-write-off img n 28 (word32 v) pos (omega (arith, length-word32 v)) 16 (inl (lit≤ tt)) ∙ k.free) k

  -- the three counts of a skip list
  pub skip-counts : {k : SkipList} (a m l : ℕ) → a < 4294967296 → m < 4294967296 → l < 4294967296 → IsSkipList k (pg img n)
      → IsSkipList (with_counts a m l k) (pg (write img n 16 (counts (with_counts a m l k))) n)
  unfolding counts
  skip-counts {k} a m l ha hm hl t =
      let w : List ℕ = word32 a ++ (word32 m ++ word32 l) in
      let la : length (word32 a) ≡ 4 = length-word32 a in
      let lm : length (word32 m) ≡ 4 = length-word32 m in
      let ll : length (word32 l) ≡ 4 = length-word32 l in
      let lw : length w ≡ 12 = simp length-append (omega arith) in
      let fits : 16 + length w ≤ 1024 = omega arith in
      record {
        mark = take-write-off img n 16 w pos fits 8 (lit≤ tt) ∙ t.mark;
        first = be32-write-off img n 16 w pos fits 8 (inl (lit≤ tt)) ∙ t.first;
        level = be32-write-off img n 16 w pos fits 12 (inl (lit≤ tt)) ∙ t.level;
        size = be32-write-in img n 16 w pos fits there 0 (omega arith) ∙ be32-left (word32 a) (word32 m ++ word32 l) 0 (omega arith) ∙ be32-word32 a ha;
        spans = be32-write-in img n 16 w pos fits there 4 (omega arith) ∙ be32-right (word32 a) (word32 m ++ word32 l) 4 0 la
            ∙ be32-left (word32 m) (word32 l) 0 (omega arith) ∙ be32-word32 m hm;
        levels = be32-write-in img n 16 w pos fits there 8 (omega arith) ∙ be32-right (word32 a) (word32 m ++ word32 l) 4 4 la
            ∙ be32-right (word32 m) (word32 l) 4 0 lm ∙ be32-word32 l hl;
        span_size = be16-write-off img n 16 w pos fits 28 (inr (omega arith)) ∙ t.span_size;
      }

  -- a field of a span's page before its entries leaves the entries
  span-field : {x : LinkedSpan} {cs : List (List ℕ)} (o : ℕ) (w : List ℕ) → o + length w ≤ 20 → IsSpan x (pg img n) cs
      → EntriesAt (gather (λ c. drop 8 c) (pg (write img n o w) n ∷ cs)) 12 x.span.entries
  span-field {x} {cs} o w h k =
      let fits : o + length w ≤ 1024 = omega arith in
      let r : List ℕ = gather (λ c. drop 8 c) cs in
      entries-tail (drop 8 (pg img n) ++ r) (drop 8 (pg (write img n o w) n) ++ r)
      (stream-tail (pg img n) (pg (write img n o w) n) r (sym (drop-write-off img n o w pos fits 20 h)) (length-pg img n pos there)
      (ap length (pg-write-same img n o w pos fits) ∙ length-sets (pg img n) o w ∙ length-pg img n pos there))
      12 x.span.entries (lit≤ tt) k.entries

  -- a span's previous link
  pub span-prev : {x : LinkedSpan} {cs : List (List ℕ)} (v : ℕ) → v < 4294967296 → IsSpan x (pg img n) cs
      → IsSpan (with_prev v x) (pg (write img n 8 (word32 v)) n) cs
  span-prev v h k =
      let l : length (word32 v) ≡ 4 = length-word32 v in
      let fits : 8 + length (word32 v) ≤ 1024 = omega arith in
      record {
        mark = take-write-off img n 8 (word32 v) pos fits 4 (lit≤ tt) ∙ k.mark;
        cont = be32-write-off img n 8 (word32 v) pos fits 4 (inl (lit≤ tt)) ∙ k.cont;
        prev = be32-write-same img n 8 v pos there (lit≤ tt) h;
        next = be32-write-off img n 8 (word32 v) pos fits 12 (inr (omega arith)) ∙ k.next;
        max_keys = be16-write-off img n 8 (word32 v) pos fits 16 (inr (omega arith)) ∙ k.max_keys;
        size = be16-write-off img n 8 (word32 v) pos fits 18 (inr (omega arith)) ∙ k.size;
        conts = k.conts;
        entries = span-field 8 (word32 v) (omega arith) k;
      }

  -- a span's next link
  pub span-next : {x : LinkedSpan} {cs : List (List ℕ)} (v : ℕ) → v < 4294967296 → IsSpan x (pg img n) cs
      → IsSpan (with_next v x) (pg (write img n 12 (word32 v)) n) cs
  span-next v h k =
      let l : length (word32 v) ≡ 4 = length-word32 v in
      let fits : 12 + length (word32 v) ≤ 1024 = omega arith in
      record {
        mark = take-write-off img n 12 (word32 v) pos fits 4 (lit≤ tt) ∙ k.mark;
        cont = be32-write-off img n 12 (word32 v) pos fits 4 (inl (lit≤ tt)) ∙ k.cont;
        prev = be32-write-off img n 12 (word32 v) pos fits 8 (inl (lit≤ tt)) ∙ k.prev;
        next = be32-write-same img n 12 v pos there (lit≤ tt) h;
        max_keys = be16-write-off img n 12 (word32 v) pos fits 16 (inr (omega arith)) ∙ k.max_keys;
        size = be16-write-off img n 12 (word32 v) pos fits 18 (inr (omega arith)) ∙ k.size;
        conts = k.conts;
        entries = span-field 12 (word32 v) (omega arith) k;
      }

  -- entry i of a tower
  pub tower-entry : {x : LinkedTower} (i v : ℕ) → i < length x.nexts → 16 + 4 * i + 4 ≤ 1024 → v < 4294967296 → IsTower x (pg img n)
      → IsTower (with_nexts (set x.nexts i v) x) (pg (write img n (16 + 4 * i) (word32 v)) n)
  tower-entry {x} i v low room h k =
      let l : length (word32 v) ≡ 4 = length-word32 v in
      let o : ℕ = 16 + 4 * i in
      let fits : o + length (word32 v) ≤ 1024 = omega arith in
      record {
        mark = take-write-off img n o (word32 v) pos fits 8 (omega arith) ∙ k.mark;
        max_height = be16-write-off img n o (word32 v) pos fits 8 (inl (omega arith)) ∙ k.max_height;
        height = be16-write-off img n o (word32 v) pos fits 10 (inl (omega arith)) ∙ k.height;
        span_page = be32-write-off img n o (word32 v) pos fits 12 (inl (omega arith)) ∙ k.span_page;
        nexts = numbers-from (pg (write img n o (word32 v)) n) 16 (set x.nexts i v)
            (λ j q. at j (omega (arith, length-set x.nexts i v)) (ℕ_discrete j i));
      }
    where
      at : (j : ℕ) → j < length x.nexts → Dec (j ≡ i) → be32 (pg (write img n (16 + 4 * i) (word32 v)) n) (16 + 4 * j) ≡ get_or (set x.nexts i v) j 0
      at j q (yes e) =
          rw e (be32-write-same img n (16 + 4 * i) v pos there room h ∙ sym (get_or-set_same x.nexts i v 0 low))
      at j q (no e) =
          let l : length (word32 v) ≡ 4 = length-word32 v in
          be32-write-off img n (16 + 4 * i) (word32 v) pos (omega arith) (16 + 4 * j) (by_cases (dec_lt j i) (λ g. inl (omega arith)) (λ g. inr (omega (arith, e))))
          ∙ numbers-at (pg img n) 16 x.nexts j k.nexts q ∙ sym (get_or-set_other x.nexts i j v 0 e)

  -- a tower's current height
  pub tower-height : {x : LinkedTower} (v : ℕ) → v < 65536 → IsTower x (pg img n) → IsTower (with_height v x) (pg (write img n 10 (word16 v)) n)
  tower-height {x} v h k =
      let l : length (word16 v) ≡ 2 = length-word16 v in
      let fits : 10 + length (word16 v) ≤ 1024 = omega arith in
      record {
        mark = take-write-off img n 10 (word16 v) pos fits 8 (lit≤ tt) ∙ k.mark;
        max_height = be16-write-off img n 10 (word16 v) pos fits 8 (inl (lit≤ tt)) ∙ k.max_height;
        height = be16-write-same img n 10 v pos there (lit≤ tt) h;
        span_page = be32-write-off img n 10 (word16 v) pos fits 12 (inr (omega arith)) ∙ k.span_page;
        nexts = numbers-write-off img n 10 (word16 v) pos fits 16 x.nexts (inr (omega arith)) k.nexts;
      }

  -- a block lists one page less
  pub block-less : {m : ℕ} (ws : List ℕ) (x : ℕ) → length ws < 4294967296 → IsBlock (ws ++ x ∷ []) m (pg img n)
      → IsBlock ws m (pg (write img n 12 (word32 (length ws))) n)
  block-less ws x h k =
      let w : List ℕ = word32 (length ws) in
      let l : length w ≡ 4 = length-word32 (length ws) in
      let fits : 12 + length w ≤ 1024 = omega arith in
      record {
        mark = take-write-off img n 12 w pos fits 8 (lit≤ tt) ∙ k.mark;
        next = be32-write-off img n 12 w pos fits 8 (inl (lit≤ tt)) ∙ k.next;
        count = be32-write-same img n 12 (length ws) pos there (lit≤ tt) h;
        listed = numbers-write-off img n 12 w pos fits 16 ws (inr (omega arith)) (numbers-left (pg img n) 16 ws (x ∷ []) k.listed);
      }

  -- a number past those that a block lists
  pub block-beyond : {m : ℕ} (ws : List ℕ) (x : ℕ) → 16 + 4 * length ws + 4 ≤ 1024 → IsBlock ws m (pg img n)
      → IsBlock ws m (pg (write img n (16 + 4 * length ws) (word32 x)) n)
  block-beyond ws x room k =
      let o : ℕ = 16 + 4 * length ws in
      let l : length (word32 x) ≡ 4 = length-word32 x in
      let fits : o + length (word32 x) ≤ 1024 = omega arith in
      record {
        mark = take-write-off img n o (word32 x) pos fits 8 (omega arith) ∙ k.mark;
        next = be32-write-off img n o (word32 x) pos fits 8 (inl (omega arith)) ∙ k.next;
        count = be32-write-off img n o (word32 x) pos fits 12 (inl (omega arith)) ∙ k.count;
        listed = numbers-write-off img n o (word32 x) pos fits 16 ws (inl (omega arith)) k.listed;
      }

  -- a block lists one page more, whose number stands there
  pub block_more : {m : ℕ} (ws : List ℕ) (x : ℕ) → length ws + 1 < 4294967296 → be32 (pg img n) (16 + 4 * length ws) ≡ x → IsBlock ws m (pg img n)
      → IsBlock (ws ++ x ∷ []) m (pg (write img n 12 (word32 (length ws + 1))) n)
  block_more ws x h e k =
      let w : List ℕ = word32 (length ws + 1) in
      let l : length w ≡ 4 = length-word32 (length ws + 1) in
      let fits : 12 + length w ≤ 1024 = omega arith in
      record {
        mark = take-write-off img n 12 w pos fits 8 (lit≤ tt) ∙ k.mark;
        next = be32-write-off img n 12 w pos fits 8 (inl (lit≤ tt)) ∙ k.next;
        count = be32-write-same img n 12 (length ws + 1) pos there (lit≤ tt) h ∙ sym (length-append ws (x ∷ []));
        listed = numbers-write-off img n 12 w pos fits 16 (ws ++ x ∷ []) (inr (omega arith))
            (numbers-join (pg img n) 16 ws (x ∷ []) k.listed (e, tt));
      }

  -- a mark at the start of a page
  mark-written : (m bs : List ℕ) (k : ℕ) → k ≤ length bs → length bs ≤ 1024 → take k bs ≡ m → take k (pg (write img n 0 bs) n) ≡ m
  mark-written m bs k h g e =
      ap (take k) (pg-write-same img n 0 bs pos (omega arith))
      ∙ take-sets-start bs (pg img n) k h (omega (arith, length-pg img n pos there)) ∙ e

  -- a block that lists none
  pub block_new : (f : ℕ) → f < 4294967296 → IsBlock [] f (pg (write img n 0 (block_mark ++ (word32 f ++ word32 0))) n)
  unfolding block_mark
  block_new f h =
      let w : List ℕ = block_mark ++ (word32 f ++ word32 0) in
      let lf : length (word32 f) ≡ 4 = length-word32 f in
      let l0 : length (word32 0) ≡ 4 = length-word32 0 in
      let lw : length w ≡ 16 = simp length-append (omega arith) in
      let fits : 0 + length w ≤ 1024 = omega arith in
      record {
        mark = mark-written block_mark w 8 (omega arith) (omega arith) refl;
        next = be32-write-in img n 0 w pos fits there 8 (omega arith) ∙ be32-right block_mark (word32 f ++ word32 0) 8 0 refl
            ∙ be32-left (word32 f) (word32 0) 0 (omega arith) ∙ be32-word32 f h;
        count = be32-write-in img n 0 w pos fits there 12 (omega arith) ∙ be32-right block_mark (word32 f ++ word32 0) 8 4 refl
            ∙ be32-right (word32 f) (word32 0) 4 0 lf ∙ be32-word32 0 (lit< tt);
        listed = tt;
      }

  -- a page marked free
  pub free_new : IsFree (pg (write img n 0 free_mark) n)
  unfolding free_mark
  free_new = mark-written free_mark free_mark 8 (lit≤ tt) (lit≤ tt) refl
