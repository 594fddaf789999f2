-- Well-formed as a test on an image and a layout, with a verdict on each rule.
use Prim.Native.Nat.{ℕ, zero, suc, ◌+◌, ◌*◌, ◌<◌, ◌≤◌}
use native.Mathlib.Omega.{arith}
use native.Mathlib.Decide.{dec_le}
use mathlib.Core.Path.{◌≡◌, refl, ap, ap₂, sym, ◌∙◌, subst}
use mathlib.Core.Logic.{◌⊎◌, inl, inr}
use mathlib.Core.List.{List, [], ◌∷◌, ◌++◌, map, head-eq_of_cons-eq, tail-eq_of_cons-eq, nil≢cons, cons≢nil}
use mathlib.Core.Bool.{Bool, true, false, cond, ◌&&◌, ◌||◌}
use lib.ListN.{length, get_or, take, drop}
use lib.Seq.{slice}
use lib.Dec.{T, eqb, leb, eqb→eq, eqb_refl, leb→le, le→leb}
use Rattle.blockfile.specs.Bytes.{pg, be16, be32, be64, word32, Every, gather, from, first_of}
use Rattle.blockfile.specs.Marks.{super_mark, skip_mark, tower_mark, span_mark, cont_mark, block_mark, free_mark}
use Rattle.blockfile.specs.Layout.{Entry, Table, Layout, columns, spans_of, towers_of, entries_of, entries_from, lens_start, entry_end, free_count, reached}
use Rattle.blockfile.specs.Order.{KeyRule, name_rule, key_rule, Within, within, same, Rising}
use Rattle.blockfile.specs.Fields.{SkipList, LinkedSpan, LinkedTower, IsSuperblock, IsSkipList, IsTower, IsSpan, IsBlock, Numbers, EntriesAt, AreConts}
use Rattle.blockfile.specs.WellFormed.{Piece, superblock, skip_list, tower, span, block, free_page, pages_of, Bears, pieces, TableOk, count, KeptCount, WellFormed}
use Rattle.blockfile.proofs.Bools.{and_both, both-and, or-either, or_left, or_right, same_refl, same-eq}
use Rattle.blockfile.proofs.Count.{every-counted}

-- ---- A test that holds exactly where A does

pub record Tested (A : Type 0) : Type 0 where
  pub test : Bool
  pub sound : T test → A
  pub complete : A → T test

abbrev pub t_self : (b : Bool) → Tested (T b)
t_self b = record { test = b; sound = λ h. h; complete = λ h. h }

abbrev t_as : {A B : Type 0} → Tested A → (A → B) → (B → A) → Tested B
t_as p f g = record { test = p.test; sound = λ h. f (p.sound h); complete = λ h. p.complete (g h) }

abbrev pub t_and : {A B : Type 0} → Tested A → Tested B → Tested (A × B)
t_and p q =
    record {
      test = p.test && q.test;
      sound = λ h. (p.sound (and_both p.test q.test h).0, q.sound (and_both p.test q.test h).1);
      complete = λ h. both-and p.test q.test (p.complete h.0) (q.complete h.1);
    }

abbrev t_or : {A B : Type 0} → Tested A → Tested B → Tested (A ⊎ B)
t_or {A} {B} p q = record { test = p.test || q.test; sound = λ h. found (or-either p.test q.test h); complete = told }
  where
    found : T p.test ⊎ T q.test → A ⊎ B
    found (inl h) = inl (p.sound h)
    found (inr h) = inr (q.sound h)

    told : A ⊎ B → T (p.test || q.test)
    told (inl a) = or_left p.test q.test (p.complete a)
    told (inr b) = or_right p.test q.test (q.complete b)

abbrev pub t_every : {A : Type 0} {R : A → Type 0} → ((x : A) → Tested (R x)) → (xs : List A) → Tested (Every R xs)
t_every p [] = t_self true
t_every p (x ∷ xs) = t_and (p x) (t_every p xs)

abbrev pub t_eq : (m n : ℕ) → Tested (m ≡ n)
t_eq m n = record { test = eqb m n; sound = eqb→eq m n; complete = λ e. subst (λ (k : ℕ). T (eqb m k)) e (eqb_refl m) }

abbrev t_le : (m n : ℕ) → Tested (m ≤ n)
t_le m n = record { test = leb m n; sound = leb→le m n; complete = le→leb m n }

abbrev t_within : (lo hi n : ℕ) → Tested (Within lo hi n)
t_within lo hi n = t_and (t_le lo n) (t_le n hi)

abbrev t_same : (xs ys : List ℕ) → Tested (xs ≡ ys)
t_same xs ys = record { test = same xs ys; sound = same-eq xs ys; complete = λ e. subst (λ (zs : List ℕ). T (same xs zs)) e (same_refl xs) }

-- what is read, beside what it has to be
abbrev t_fields : (ps : List (ℕ × ℕ)) → Tested (Every (λ p. p.0 ≡ p.1) ps)
t_fields ps = t_every (λ p. t_eq p.0 p.1) ps

-- ---- The fields of each kind of page

abbrev t_super : (p f z : ℕ) (b : List ℕ) → Tested (IsSuperblock p f z b)
t_super p f z b =
    t_as
    (t_and (t_same (take 6 b) super_mark)
    (t_and (t_le (be16 b 20) 1)
    (t_fields ((get_or b 6 0, 1) ∷ (get_or b 7 0, 2) ∷ (be64 b 8, 1024 * p) ∷ (be32 b 16, f) ∷ (be16 b 22, z) ∷ (be32 b 24, 1024) ∷ []))))
    (λ h. let (m, (u, (a, (i, (l, (r, (s, (g, e)))))))) = h in
    record { mark = m; major = a; minor = i; file_length = l; free = r; mounted = u; span_size = s; page_size = g })
    (λ s. (s.mark, (s.mounted, (s.major, (s.minor, (s.file_length, (s.free, (s.span_size, (s.page_size, tt)))))))))

abbrev t_skip : (k : SkipList) (b : List ℕ) → Tested (IsSkipList k b)
t_skip k b =
    t_as
    (t_and (t_same (take 8 b) skip_mark)
    (t_fields
    ((be32 b 8, k.first) ∷ (be32 b 12, k.level) ∷ (be32 b 16, k.size) ∷ (be32 b 20, k.spans) ∷ (be32 b 24, k.levels) ∷ (be16 b 28, k.span_size) ∷ [])))
    (λ h. let (m, (f, (l, (i, (s, (v, (z, e))))))) = h in
    record { mark = m; first = f; level = l; size = i; spans = s; levels = v; span_size = z })
    (λ s. (s.mark, (s.first, (s.level, (s.size, (s.spans, (s.levels, (s.span_size, tt))))))))

abbrev t_numbers : (b : List ℕ) (o : ℕ) (ns : List ℕ) → Tested (Numbers b o ns)
t_numbers b o [] = t_self true
t_numbers b o (n ∷ ns) = t_and (t_eq (be32 b o) n) (t_numbers b (o + 4) ns)

abbrev t_tower : (x : LinkedTower) (b : List ℕ) → Tested (IsTower x b)
t_tower x b =
    t_as
    (t_and (t_same (take 8 b) tower_mark)
    (t_and (t_numbers b 16 x.nexts) (t_fields ((be16 b 8, x.tower.max_height) ∷ (be16 b 10, x.tower.height) ∷ (be32 b 12, x.span_page) ∷ []))))
    (λ h. let (m, (n, (a, (c, (s, e))))) = h in record { mark = m; max_height = a; height = c; span_page = s; nexts = n })
    (λ s. (s.mark, (s.nexts, (s.max_height, (s.height, (s.span_page, tt))))))

abbrev t_entries : (s : List ℕ) (v : ℕ) (es : List Entry) → Tested (EntriesAt s v es)
t_entries s v [] = t_self true
t_entries s v (e ∷ es) =
    t_as
    (t_and (t_fields ((be16 s (lens_start v), length e.key) ∷ (be16 s (lens_start v + 2), length e.value) ∷ []))
    (t_and (t_same (slice (lens_start v + 4) (lens_start v + 4 + length e.key) s) e.key)
    (t_and (t_same (slice (lens_start v + 4 + length e.key) (entry_end v e) s) e.value) (t_entries s (entry_end v e) es))))
    (λ h. (h.0.0, h.0.1.0, h.1.0, h.1.1.0, h.1.1.1))
    (λ h. ((h.0, (h.1, tt)), (h.2, (h.3, h.4))))

abbrev t_conts : (ns : List ℕ) (bs : List (List ℕ)) → Tested (AreConts ns bs)
t_conts [] [] = t_self true
t_conts [] (b ∷ bs) = t_self false
t_conts (n ∷ ns) [] = t_self false
t_conts (n ∷ ns) (b ∷ bs) =
    t_as (t_and (t_same (take 4 b) cont_mark) (t_and (t_eq (be32 b 4) (first_of ns)) (t_conts ns bs))) (λ h. (h.0, h.1.0, h.1.1)) (λ h. (h.0, (h.1, h.2)))

abbrev t_span : (x : LinkedSpan) (b : List ℕ) (cs : List (List ℕ)) → Tested (IsSpan x b cs)
t_span x b cs =
    t_as
    (t_and (t_same (take 4 b) span_mark)
    (t_and (t_conts x.span.conts cs)
    (t_and (t_entries (gather (λ c. drop 8 c) (b ∷ cs)) entries_from x.span.entries)
    (t_fields
    ((be32 b 4, first_of x.span.conts) ∷ (be32 b 8, x.prev) ∷ (be32 b 12, x.next) ∷ (be16 b 16, x.max_keys) ∷ (be16 b 18, length x.span.entries) ∷ [])))))
    (λ h. let (m, (c, (e, (t, (p, (n, (k, (s, u)))))))) = h in
    record { mark = m; cont = t; prev = p; next = n; max_keys = k; size = s; conts = c; entries = e })
    (λ s. (s.mark, (s.conts, (s.entries, (s.cont, (s.prev, (s.next, (s.max_keys, (s.size, tt)))))))))

abbrev t_block : (ns : List ℕ) (n : ℕ) (b : List ℕ) → Tested (IsBlock ns n b)
t_block ns n b =
    t_as (t_and (t_same (take 8 b) block_mark) (t_and (t_numbers b 16 ns) (t_fields ((be32 b 8, n) ∷ (be32 b 12, length ns) ∷ []))))
    (λ h. let (m, (l, (x, (c, e)))) = h in record { mark = m; next = x; count = c; listed = l })
    (λ s. (s.mark, (s.listed, (s.next, (s.count, tt)))))

-- ---- The rules, and verdicts that all hold exactly where A does

pub data Rule : Type 0 where
  length_rule meta_rule names_rule listed_rule kept_rule once_rule : Rule
  super_rule skip_rule tower_rule span_rule block_rule free_rule : Rule
  span_size_rule size_rule filled_rule reach_rule allowed_rule value_rule rising_rule height_rule other_rule : Rule

abbrev pub Passed : List (Rule × Bool) → Type 0
Passed vs = Every (λ v. T v.1) vs

pub record Judged (A : Type 0) : Type 0 where
  pub verdicts : List (Rule × Bool)
  pub sound : Passed verdicts → A
  pub complete : A → Passed verdicts

abbrev j_one : {A : Type 0} → Rule → Tested A → Judged A
j_one r p = record { verdicts = (r, p.test) ∷ []; sound = λ h. p.sound h.0; complete = λ h. (p.complete h, tt) }

abbrev j_as : {A B : Type 0} → Judged A → (A → B) → (B → A) → Judged B
j_as p f g = record { verdicts = p.verdicts; sound = λ h. f (p.sound h); complete = λ h. p.complete (g h) }

pub passed-both : (vs ws : List (Rule × Bool)) → Passed (vs ++ ws) → Passed vs × Passed ws
passed-both [] ws h = (tt, h)
passed-both (v ∷ vs) ws h = let k : Passed vs × Passed ws = passed-both vs ws h.1 in ((h.0, k.0), k.1)

pub passed-join : (vs ws : List (Rule × Bool)) → Passed vs → Passed ws → Passed (vs ++ ws)
passed-join [] ws h k = k
passed-join (v ∷ vs) ws h k = (h.0, passed-join vs ws h.1 k)

abbrev j_and : {A B : Type 0} → Judged A → Judged B → Judged (A × B)
j_and p q =
    record {
      verdicts = p.verdicts ++ q.verdicts;
      sound = λ h. (p.sound (passed-both p.verdicts q.verdicts h).0, q.sound (passed-both p.verdicts q.verdicts h).1);
      complete = λ h. passed-join p.verdicts q.verdicts (p.complete h.0) (q.complete h.1);
    }

abbrev j_every : {A : Type 0} {R : A → Type 0} → ((x : A) → Judged (R x)) → (xs : List A) → Judged (Every R xs)
j_every p [] = record { verdicts = []; sound = λ h. tt; complete = λ h. tt }
j_every p (x ∷ xs) = j_and (p x) (j_every p xs)

-- what the pages of a piece bear
abbrev j_bears : (g : ℕ → List ℕ) (p : Piece) → Judged (Bears g p)
j_bears g (superblock p f z) = j_one super_rule (t_super p f z (g 1))
j_bears g (skip_list k) = j_one skip_rule (t_skip k (g k.page))
j_bears g (tower x) = j_one tower_rule (t_tower x (g x.tower.page))
j_bears g (span x) = j_one span_rule (t_span x (g x.span.page) (map g x.span.conts))
j_bears g (block b n) = j_one block_rule (t_block b.listed n (g b.page))
j_bears g (free_page n) = j_one free_rule (t_same (take 8 (g n)) free_mark)

-- rules for a table
abbrev t_rising : (r : KeyRule) (es : List Entry) → Tested (Rising r es)
t_rising r [] = t_self true
t_rising r (x ∷ xs) = t_and (t_every (λ y. t_self (r.below x.key y.key)) xs) (t_rising r xs)

abbrev j_table : (r : KeyRule) (t : Table) → Judged (TableOk r t)
j_table r t =
    j_as
    (j_and (j_one span_size_rule (t_within 2 128 t.span_size))
    (j_and (j_one size_rule (t_every (λ s. t_le (length s.entries) t.span_size) (spans_of (columns t))))
    (j_and (j_one filled_rule (t_every (λ s. t_le 1 (length s.entries)) (spans_of t.rest)))
    (j_and (j_one reach_rule (t_every (λ s. t_eq (1 + length s.conts) (reached s.entries)) (spans_of (columns t))))
    (j_and (j_one allowed_rule (t_every (λ e. t_self (r.allowed e.key)) (entries_of t)))
    (j_and (j_one value_rule (t_every (λ e. t_le (length e.value) 65535) (entries_of t)))
    (j_and (j_one rising_rule (t_rising r (entries_of t)))
    (j_and (j_one height_rule (t_every (λ w. t_and (t_within 1 252 w.max_height) (t_le w.height w.max_height)) (towers_of (columns t))))
    (j_one other_rule (t_every (λ w. t_within 1 t.head.height w.height) (towers_of t.rest)))))))))))
    (λ h. let (z, (s, (f, (n, (k, (v, (u, (m, o)))))))) = h in
    record { span_size = z; sizes = s; filled = f; reach = n; keys = k; values = v; rising = u; heights = m; others = o })
    (λ o. (o.span_size, (o.sizes, (o.filled, (o.reach, (o.keys, (o.values, (o.rising, (o.heights, o.others)))))))))

-- ---- The image

-- entries
abbrev t_entry : (x y : Entry) → Tested (x ≡ y)
t_entry x y =
    t_as (t_and (t_same x.key y.key) (t_same x.value y.value)) (λ h i. record { key = h.0 i; value = h.1 i })
    (λ e. (ap (λ (z : Entry). z.key) e, ap (λ (z : Entry). z.value) e))

abbrev t_list : (xs ys : List Entry) → Tested (xs ≡ ys)
t_list [] [] = t_as (t_self true) (λ h. refl) (λ e. tt)
t_list [] (y ∷ ys) = t_as (t_self false) (λ h. absurd h) (λ e. absurd (nil≢cons e))
t_list (x ∷ xs) [] = t_as (t_self false) (λ h. absurd h) (λ e. absurd (cons≢nil e))
t_list (x ∷ xs) (y ∷ ys) =
    t_as (t_and (t_entry x y) (t_list xs ys)) (λ h. ap₂ (λ (z : Entry) (zs : List Entry). z ∷ zs) h.0 h.1)
    (λ e. (head-eq_of_cons-eq e, tail-eq_of_cons-eq e))

-- each page once: the pages up to P are count-here, and all are at most P
every-from : (R : ℕ → Type 0) (i k : ℕ) → Every R (from i k) → (n : ℕ) → i ≤ n → n < i + k → R n
every-from R i zero h n l u = absurd (omega arith)
every-from R i (suc k) h n l u = go (dec_le (suc i) n) (every-from R (suc i) k h.1 n)
  where
    go : Dec (suc i ≤ n) → (suc i ≤ n → n < suc i + k → R n) → R n
    go (yes x) ih = ih x (omega arith)
    go (no x) ih = subst R (let e : i ≡ n = omega arith in e) h.0

pub every_of : (R : ℕ → Type 0) → ((n : ℕ) → R n) → (ns : List ℕ) → Every R ns
every_of R f [] = tt
every_of R f (n ∷ ns) = (f n, every_of R f ns)

count-big : (p n : ℕ) (ms : List ℕ) → p < n → Every (λ m. m ≤ p) ms → count n ms ≡ 0
count-big p n [] l e = refl
count-big p n (m ∷ ms) l e = go (eqb n m) refl (count-big p n ms l e.1)
  where
    go : (b : Bool) → eqb n m ≡ b → count n ms ≡ 0 → cond b 1 0 + count n ms ≡ 0
    go true q h = absurd (let x : n ≡ m = eqb→eq n m (subst T (sym q) tt) in let y : m ≤ p = e.0 in omega arith)
    go false q h = omega arith

beyond : (p n : ℕ) → p < n → ◌≡◌ {A = ℕ} (cond (within 1 p n) 1 0) 0
beyond p n l = go (within 1 p n) refl
  where
    go : (b : Bool) → within 1 p n ≡ b → ◌≡◌ {A = ℕ} (cond b 1 0) 0
    go true q = absurd (let x : n ≤ p = leb→le n p (and_both (leb 1 n) (leb n p) (subst T (sym q) tt)).1 in omega arith)
    go false q = refl

inside : (p n : ℕ) → 1 ≤ cond (within 1 p n) 1 0 → n ≤ p
inside p n h = go (within 1 p n) refl h
  where
    go : (b : Bool) → within 1 p n ≡ b → 1 ≤ cond b 1 0 → n ≤ p
    go true q h = leb→le n p (and_both (leb 1 n) (leb n p) (subst T (sym q) tt)).1
    go false q h = absurd (omega arith)

abbrev pub Once : ℕ → List ℕ → Type 0
Once p ms = (n : ℕ) → count n ms ≡ cond (within 1 p n) 1 0

pub once-all : (p : ℕ) (ms : List ℕ) → Every (λ n. count n ms ≡ cond (within 1 p n) 1 0) (from 0 (suc p)) → Every (λ m. m ≤ p) ms → Once p ms
once-all p ms h k n = go (dec_le n p)
  where
    go : Dec (n ≤ p) → count n ms ≡ cond (within 1 p n) 1 0
    go (yes l) = every-from (λ n. count n ms ≡ cond (within 1 p n) 1 0) 0 (suc p) h n (omega arith) (omega arith)
    go (no l) = count-big p n ms (omega arith) k ∙ sym (beyond p n (omega arith))

pub once-small : (p : ℕ) (ms : List ℕ) → Once p ms → Every (λ m. m ≤ p) ms
once-small p ms w = every-counted (λ m. m ≤ p) ms (λ n l. inside p n (subst (λ (k : ℕ). 1 ≤ k) (w n) l))

abbrev t_once : (p : ℕ) (ms : List ℕ) → Tested (Once p ms)
t_once p ms =
    t_as (t_and (t_every (λ n. t_eq (count n ms) (cond (within 1 p n) 1 0)) (from 0 (suc p))) (t_every (λ m. t_le m p) ms))
    (λ h. once-all p ms h.0 h.1) (λ w. (every_of (λ n. count n ms ≡ cond (within 1 p n) 1 0) w (from 0 (suc p)), once-small p ms w))

-- well-formed on the bytes g of the pages and the image's length n
abbrev pub WellOn : (g : ℕ → List ℕ) (n : ℕ) → Layout → Type 0
WellOn g n L =
    (Within 4 4096 L.pages × (n ≡ 1024 * L.pages))
    × (Within 2 128 L.span_size
    × ((L.meta.root ≡ 2)
    × (TableOk name_rule L.meta
    × ((entries_of L.meta ≡ map (λ n. record { key = n.key; value = word32 n.value.root }) L.tables)
    × (Every (λ n. TableOk (key_rule n.key) n.value) L.tables
    × (Every (λ b. length b.listed ≤ 252) L.free
    × (KeptCount (free_count L.free) (be32 (g 1) 28) × (Every (Bears g) (pieces L) × Once L.pages (gather pages_of (pieces L))))))))))

abbrev pub j_well : (g : ℕ → List ℕ) (n : ℕ) (L : Layout) → Judged (WellOn g n L)
j_well g n L =
    j_and (j_one length_rule (t_and (t_within 4 4096 L.pages) (t_eq n (1024 * L.pages))))
    (j_and (j_one span_size_rule (t_within 2 128 L.span_size))
    (j_and (j_one meta_rule (t_eq L.meta.root 2))
    (j_and (j_table name_rule L.meta)
    (j_and (j_one names_rule (t_list (entries_of L.meta) (map (λ n. record { key = n.key; value = word32 n.value.root }) L.tables)))
    (j_and (j_every (λ n. j_table (key_rule n.key) n.value) L.tables)
    (j_and (j_one listed_rule (t_every (λ b. t_le (length b.listed) 252) L.free))
    (j_and (j_one kept_rule (t_or (t_eq (be32 (g 1) 28) 0) (t_eq (be32 (g 1) 28) (free_count L.free + 1))))
    (j_and (j_every (j_bears g) (pieces L)) (j_one once_rule (t_once L.pages (gather pages_of (pieces L))))))))))))

abbrev pub j_image : (img : List ℕ) (L : Layout) → Judged (WellFormed img L)
j_image img L =
    j_as (j_well (pg img) (length img) L)
    (λ h. let ((p, l), (z, (m, (o, (e, (t, (b, (q, (r, u))))))))) = h in
    record { pages = p; size = l; span_size = z; meta_page = m; meta_ok = o; meta_entries = e; tables_ok = t; blocks_ok = b; kept = q; bears = r; once = u })
    (λ w. ((w.pages, w.size), (w.span_size, (w.meta_page, (w.meta_ok, (w.meta_entries, (w.tables_ok, (w.blocks_ok, (w.kept, (w.bears, w.once))))))))))

module _ {A : Type 0} where
  abbrev pub all : (A → Bool) → List A → Bool
  all f [] = true
  all f (x ∷ xs) = f x && all f xs

  abbrev pub null : List A → Bool
  null [] = true
  null (x ∷ xs) = false

-- the rules that a layout breaks
abbrev pub failed : List (Rule × Bool) → List Rule
failed [] = []
failed (v ∷ vs) = cond v.1 [] (v.0 ∷ []) ++ failed vs

abbrev pub passes : List (Rule × Bool) → Bool
passes vs = all (λ v. v.1) vs

pub passed : (vs : List (Rule × Bool)) → T (passes vs) → Passed vs
passed [] h = tt
passed (v ∷ vs) h = ((and_both v.1 (passes vs) h).0, passed vs (and_both v.1 (passes vs) h).1)

pub tested : (img : List ℕ) (L : Layout) → T (passes (j_image img L).verdicts) → WellFormed img L
tested img L h = (j_image img L).sound (passed (j_image img L).verdicts h)
