-- The tables that the metaindex names, found one after another.
use Prim.Native.Nat.{ℕ, suc, ◌+◌, ◌*◌, ◌-◌, ◌/◌, ◌%◌, ◌≤◌, ◌<◌}
use native.Mathlib.Omega.{arith}
use native.Mathlib.Decide.{ℕ_discrete}
use mathlib.Core.Logic.{by_cases}
use mathlib.Core.Path.{◌≡◌, refl, ap, ap₂, sym, ◌∙◌, subst}
use mathlib.Core.Bool.{Bool, true, false, true≢false}
use mathlib.Core.List.{List, [], ◌∷◌, ◌++◌, map, map-append, head-eq_of_cons-eq, tail-eq_of_cons-eq, nil≢cons, cons≢nil}
use lib.ListN.{length, drop, get_or, length-append, length-map, take-append-drop}
use lib.Dec.{T, eqb, eqb→eq}
use borrow.Author.Tests.{eq-eqb, le-leb, lt-leb, ne_eqb}
use Rattle.blockfile.specs.Bytes.{pg, be16, be32, word32, Every, gather, first_of}
use Rattle.blockfile.specs.Layout.{Keyed, Entry, Span, Table, columns, spans_of, entries_of, reached}
use Rattle.blockfile.specs.Order.{KeyRule, name_rule, bytes_rule, key_rule}
use Rattle.blockfile.specs.Fields.{IsSkipList}
use Rattle.blockfile.specs.WellFormed.{Piece, span, tower, link_spans, spans_in, towers_in, skip_list_of, TableOk, table_pieces}
use Rattle.blockfile.proofs.Bools.{so, holds, and_both, both-and, within-is}
use Rattle.blockfile.proofs.Every.{every-left, every-right, every-join, every-so}
use Rattle.blockfile.proofs.Owned.{owned_by, owned-append}
use Rattle.laws.proofs.Numbers.{be32-agree, be32-below, be32-word32}
use Rattle.laws.proofs.Lists.{agree_left}
use Rattle.laws.proofs.Places.{gather_append}
use Rattle.laws.proofs.Fitting.{many-entries}
use Rattle.heads.specs.Claims.{Lent}
use Rattle.std.proofs.Common.{Option as Answer, Some, None}
use Rattle.std.proofs.lemmas.Option.{none-some, same_Some}
use Rattle.walks.specs.Found.{Open, claims, unclaimed, Found, FindsAt}
use Rattle.walks.proofs.Founds.{SameAt, same_start, same_turn, finds-none, finds-done, found_none, found-join, found_first, found-second, found-lent, unclaimed-claims, length-claims}
use Rattle.entries.specs.declared.place.Place.{Place}
use Rattle.entries.specs.declared.place.Sizes.{Sizes}
use Rattle.entries.specs.Places.{IsPage, Enough, Moved, gap, Measured, Numbered}
use Rattle.pages.proofs.Words.{Byte, bytes-at, bytes_take}
use Rattle.entries.proofs.Octets.{bytes_rest}
use Rattle.search.specs.Spans.{Borne, BytesAt, Along, EntryAt}
use Rattle.entries.specs.Keys.{Key, Printed}
use Rattle.entries.proofs.Keys.{key-length}
use Rattle.search.proofs.Entries.{bytes-key, bytes-enough, bytes-length, along-enough, along-entry, entry_key, borne-along}
use Rattle.order.specs.declared.sort.Sort.{Sort}
use Rattle.order.specs.Sorts.{table_sort, rule_as}
use Rattle.order.proofs.Sorts.{rule-by}
use Rattle.entries.specs.Sorted.{SortAt}
use Rattle.spans.specs.Spans.{entries_in}
use Rattle.towers.proofs.Heads.{span-few}
use Rattle.verify.specs.Tables.{is_name, NameAt, TableFound, listing, keys_of, TablesFound, NamesOn, MetaOn}

-- ---- Four bytes and their number

digits : (a b c d : ℕ) → Byte a → Byte b → Byte c → Byte d → word32 ((a * 256 + b) * 65536 + (c * 256 + d)) ≡ a ∷ b ∷ c ∷ d ∷ []
unfolding word32
digits a b c d ha hb hc hd =
    let n : ℕ = (a * 256 + b) * 65536 + (c * 256 + d) in
    let e0 : n / 16777216 % 256 ≡ a = omega arith in
    let e1 : n / 65536 % 256 ≡ b = omega arith in
    let e2 : n / 256 % 256 ≡ c = omega arith in
    let e3 : n % 256 ≡ d = omega arith in
    rw (e0, e1, e2, e3)

word_of : (v : List ℕ) → length v ≡ 4 → Every Byte v → word32 (be32 v 0) ≡ v
unfolding be32 be16
word_of [] e h = absurd (omega arith)
word_of (a ∷ []) e h = absurd (omega arith)
word_of (a ∷ (b ∷ [])) e h = absurd (omega arith)
word_of (a ∷ (b ∷ (c ∷ []))) e h = absurd (omega arith)
word_of (a ∷ (b ∷ (c ∷ (d ∷ [])))) e h = digits a b c d h.0 h.1.0 h.1.1.0 h.1.1.1.0
word_of (a ∷ (b ∷ (c ∷ (d ∷ (x ∷ v))))) e h = absurd (omega arith)

-- a value of four bytes is its number's
module _ (img : List ℕ) (bytes : (i : ℕ) → get_or img i 0 < 256) (p : Place) (n : ℕ) (v : List ℕ) (b : BytesAt img p n v) (four : length v ≡ 4) (r : ℕ) (is : Numbered img p r) where
  all : Every Byte v
  all = subst (Every Byte) (sym b.is) (bytes_take n b.bytes (bytes_rest img bytes p b.bytes b.rest))

  number_of : r ≡ be32 v 0
  number_of =
      is.is b.bytes b.rest ∙ ap (λ (s : List ℕ). be32 s 0) (sym (take-append-drop n b.bytes) ∙ ap (λ (s : List ℕ). s ++ drop n b.bytes) (sym b.is))
      ∙ be32-agree (v ++ drop n b.bytes) 0 v 0 (agree_left 4 v (drop n b.bytes) 0 (omega arith))

  pub value-word : v ≡ word32 r
  value-word = sym (ap word32 number_of ∙ word_of v four all)

  pub value-below : r < 4294967296
  value-below = subst (λ (x : ℕ). x < 4294967296) (sym number_of) (be32-below v (bytes-at v all) 0)

word-injective : (a b : ℕ) → a < 4294967296 → b < 4294967296 → word32 a ≡ word32 b → a ≡ b
word-injective a b ha hb e = sym (be32-word32 a ha) ∙ ap (λ (w : List ℕ). be32 w 0) e ∙ be32-word32 b hb

-- ---- How many keys tables can have

table-few : {r : KeyRule} (t : Table) → TableOk r t → length (entries_of t) ≤ 128 * length (owned_by (table_pieces t))
table-few t ok =
    let a : length (entries_of t) ≤ 128 * length (spans_of (columns t)) = many-entries t.span_size ok.span_size.1 (spans_of (columns t)) ok.sizes in
    let b : length (spans_of (columns t)) ≤ length (owned_by (map span (spans_in t))) = span-few t.span_size 0 (spans_of (columns t)) in
    let c : length (owned_by (map span (spans_in t) ++ map tower (towers_in t))) ≡ length (owned_by (map span (spans_in t))) + length (owned_by (map tower (towers_in t)))
    = ap length (owned-append (map span (spans_in t)) (map tower (towers_in t))) ∙ length-append (owned_by (map span (spans_in t))) (owned_by (map tower (towers_in t))) in
    omega arith

abbrev named : List (Keyed Table) → List Piece
named ns = gather (λ x. table_pieces x.value) ns

named-few : (ns : List (Keyed Table)) → Every (λ x. TableOk (key_rule x.key) x.value) ns → keys_of ns ≤ 128 * length (owned_by (named ns))
named-few [] h = omega arith
named-few (n ∷ ns) h =
    let a : length (owned_by (named (n ∷ ns))) ≡ length (owned_by (table_pieces n.value)) + length (owned_by (named ns))
    = ap length (owned-append (table_pieces n.value) (named ns)) ∙ length-append (owned_by (table_pieces n.value)) (owned_by (named ns)) in
    omega (arith, table-few n.value h.0, named-few ns h.1)

pub tables-few : (img scr : List ℕ) (es : List Entry) (n m : ℕ) (out : List ℕ) → TablesFound img scr es n m out → m + 128 * unclaimed out ≤ n + 128 * unclaimed scr
tables-few img scr es n m out f =
    let z : unclaimed scr ≡ length (owned_by (named f.tables)) + unclaimed (claims scr (owned_by (named f.tables))) = unclaimed-claims scr (owned_by (named f.tables)) f.found.fresh in
    let o : unclaimed out ≡ unclaimed (claims scr (owned_by (named f.tables))) = ap unclaimed f.found.left in
    omega (arith, named-few f.tables f.ok, f.keys)

pub table-fewer : {sort : Sort} (img scr : List ℕ) (root k : ℕ) (out : List ℕ) → TableFound sort img scr root k out → (k + 128 * unclaimed out ≤ 128 * unclaimed scr) × (length out ≡ length scr)
table-fewer img scr root k out f =
    let z : unclaimed scr ≡ length (owned_by (table_pieces f.table)) + unclaimed (claims scr (owned_by (table_pieces f.table))) = unclaimed-claims scr (owned_by (table_pieces f.table)) f.found.fresh in
    let o : unclaimed out ≡ unclaimed (claims scr (owned_by (table_pieces f.table))) = ap unclaimed f.found.left in
    (omega (arith, table-few f.table f.ok, f.keys), ap length f.found.left ∙ length-claims scr (owned_by (table_pieces f.table)))

-- ---- One table after another

key-some : (k : List ℕ) → T (bytes_rule.allowed k) → 1 ≤ length k
key-some k h = (within-is 1 65535 (length k) h).0

-- ---- The test of a name

module _ (img : List ℕ) (at : Place) (n v : ℕ) (low : 1 ≤ n) where
  pub name_not : {r : Bool} → r ≡ false → (v ≡ 4 → 255 < n) → NameAt img at n v r
  unfolding name_rule
  name_not e h =
      record {
        is = λ k a.
            let some : 1 ≤ length k = omega (arith, key-length a) in
            by_cases (ℕ_discrete v 4)
            (λ four. let w : 255 < length k = omega (arith, key-length a, h four) in rw (e, eq-eqb v 4 four, le-leb 1 (length k) some, lt-leb (length k) 255 w))
            (λ other. rw (e, ne_eqb v 4 other));
      }

  pub name_printed : v ≡ 4 → n ≤ 255 → (r : Bool) → Printed img at n r → NameAt img at n v r
  unfolding name_rule
  name_printed four h r p =
      record {
        is = λ k a.
            let some : 1 ≤ length k = omega (arith, key-length a) in
            let w : length k ≤ 255 = omega (arith, key-length a) in
            rw (eq-eqb v 4 four, le-leb 1 (length k) some, le-leb (length k) 255 w) (p.is k a);
      }

-- the first of the entries that name tables passes the test
listing-fits : (e : Entry) (es : List Entry) (ts : List (Keyed Table)) → T (name_rule.allowed e.key) → e ∷ es ≡ map listing ts → is_name e.key (length e.value) ≡ true
unfolding word32
listing-fits e es [] a q = absurd (cons≢nil q)
listing-fits e es (t ∷ ts) a q =
    let four : length e.value ≡ 4 = ap (λ (x : Entry). length x.value) (head-eq_of_cons-eq q) in
    so _ (both-and (eqb (length e.value) 4) (name_rule.allowed e.key) (holds _ (eq-eqb (length e.value) 4 four)) a)

module _ (img scr : List ℕ) (lent : Lent img scr) (e : Entry) (es : List Entry) (n root : ℕ) (name : T (name_rule.allowed e.key)) (word : e.value ≡ word32 root) (small : root < 4294967296)
    (sort : Sort) (by : sort ≡ table_sort e.key) where
  -- the rule of the first table is its name's
  rule-of : key_rule e.key ≡ rule_as sort
  rule-of = sym (rule-by e.key by)

  -- the first table, and the others after it
  record Parted (m : ℕ) (out : List ℕ) : Type 0 where
    keys : ℕ
    mid : List ℕ
    first : TableFound sort img scr root keys mid
    rest : TablesFound img mid es (n + keys) m out

  part : (m : ℕ) (out : List ℕ) (ts : List (Keyed Table)) → Every (λ x. T (name_rule.allowed x.key)) es → e ∷ es ≡ map listing ts
      → Every (λ x. TableOk (key_rule x.key) x.value) ts → Found img scr (named ts) out → m ≡ n + keys_of ts → Parted m out
  part m out [] a q ok f k = absurd (cons≢nil q)
  part m out (t ∷ ts) a q ok f k =
      let o : Open scr t.value.root = f.fresh.0 in
      let h : e ≡ listing t = head-eq_of_cons-eq q in
      let is : t.value.root ≡ root = word-injective t.value.root root (omega (arith, o.high, lent.room.whole, lent.room.most)) small (ap (λ (x : Entry). x.value) (sym h) ∙ word) in
      record {
        keys = length (entries_of t.value);
        mid = claims scr (owned_by (table_pieces t.value));
        first = record {
          table = t.value;
          named = is;
          ok = subst (λ r. TableOk r t.value) (ap (λ (x : Entry). key_rule x.key) (sym h) ∙ rule-of) ok.0;
          found = found_first img scr (table_pieces t.value) (named ts) out f;
          keys = refl;
        };
        rest = record {
          names = a;
          tables = ts;
          named = tail-eq_of_cons-eq q;
          ok = ok.1;
          found = found-second img scr (table_pieces t.value) (named ts) out f;
          keys = omega arith;
        };
      }

  parted : (m : ℕ) (out : List ℕ) → TablesFound img scr (e ∷ es) n m out → Parted m out
  parted m out f = part m out f.tables f.names.1 f.named f.ok f.found f.keys

  joined : (k : ℕ) (mid : List ℕ) (m : ℕ) (out : List ℕ) → TableFound sort img scr root k mid → TablesFound img mid es (n + k) m out
      → TablesFound img scr (e ∷ es) n m out
  joined k mid m out t f =
      record {
        names = (name, f.names);
        tables = record { key = e.key; value = t.table } ∷ f.tables;
        named = ap₂ (λ (x : Entry) (xs : List Entry). x ∷ xs) (λ i. record { key = e.key; value = (word ∙ ap word32 (sym t.named)) i }) f.named;
        ok = (subst (λ r. TableOk r t.table) (sym rule-of) t.ok, f.ok);
        found = found-join img scr (table_pieces t.table) (named f.tables) mid out t.found f.found;
        keys = omega (arith, f.keys, t.keys);
      }

  module _ (r : Answer ℕ) (s : List ℕ) (f : FindsAt Some (TableFound sort img scr root) r s) where
    pub name-no : r ≡ None → (m : ℕ) (out : List ℕ) → TablesFound img scr (e ∷ es) n m out → ⊥
    name-no q m out x = none-some _ (sym q ∙ (f.complete _ _ (parted m out x).first).0)

    pub name-next : (k : ℕ) → r ≡ Some k → SameAt (TablesFound img s es (n + k)) (TablesFound img scr (e ∷ es) n)
    name-next k q =
        record {
          to = λ m out x. joined k s m out (f.sound k q) x;
          back = λ m out x.
              let p : Parted m out = parted m out x in
              let d = f.complete _ _ p.first in
              let i : k ≡ p.keys = same_Some k p.keys (sym q ∙ d.0) in
              subst (λ (j : ℕ). TablesFound img s es (n + j) m out) (sym i) (subst (λ (u : List ℕ). TablesFound img u es (n + p.keys) m out) (sym d.1) p.rest);
        }

-- ---- The loop over the entries of a span

no_names : (img scr : List ℕ) (n : ℕ) → TablesFound img scr [] n n scr
no_names img scr n = record { names = tt; tables = []; named = refl; ok = tt; found = found_none img scr; keys = omega arith }

only_none : (img scr : List ℕ) (n m : ℕ) (out : List ℕ) (ts : List (Keyed Table)) → [] ≡ map listing ts → Found img scr (named ts) out → m ≡ n + keys_of ts
    → (n ≡ m) × (scr ≡ out)
only_none img scr n m out [] q f k = (omega arith, sym f.left)
only_none img scr n m out (t ∷ ts) q f k = absurd (nil≢cons q)

-- with no entry left, the walk is done
names-end : (img scr : List ℕ) (n : ℕ) (G : ℕ → List ℕ → Type 0) → SameAt (TablesFound img scr [] n) G → FindsAt Some G (Some n) scr
names-end img scr n G same =
    finds-done same n (no_names img scr n) (λ m t f. only_none img scr n m t f.tables f.named f.found f.keys)

pub record Naming (img scr₀ : List ℕ) (es : List Entry) (before : ℕ) (scr : List ℕ) (at : Place) (left keys : ℕ) : Type 0 where
  pub rest : List Entry
  pub along : Along img at rest
  pub count : left ≡ length rest
  pub some : Every (λ e. 1 ≤ length e.key) rest
  pub long : length scr ≡ length scr₀
  pub lent : Lent img scr
  pub few : keys + 128 * unclaimed scr ≤ before + 128 * unclaimed scr₀
  pub same : SameAt (TablesFound img scr rest keys) (TablesFound img scr₀ es before)

module _ {img scr₀ : List ℕ} {es : List Entry} {before : ℕ} {scr : List ℕ} {at : Place} {left keys : ℕ} (v : Naming img scr₀ es before scr at left keys) where
  pub naming-end : left ≡ 0 → FindsAt Some (TablesFound img scr₀ es before) (Some keys) scr
  naming-end z = go v.rest v.count v.same
    where
      go : (rest : List Entry) → left ≡ length rest → SameAt (TablesFound img scr rest keys) (TablesFound img scr₀ es before)
          → FindsAt Some (TablesFound img scr₀ es before) (Some keys) scr
      go [] c same = names-end img scr keys (TablesFound img scr₀ es before) same
      go (e ∷ rest) c same = absurd (omega arith)

  -- the entry at the place, and those after it
  record Turn : Type 0 where
    first : Entry
    more : List Entry
    along : Along img at (first ∷ more)
    count : left ≡ suc (length more)
    filled : 1 ≤ length first.key
    some : Every (λ e. 1 ≤ length e.key) more
    same : SameAt (TablesFound img scr (first ∷ more) keys) (TablesFound img scr₀ es before)

  module _ (some : left ≡ 0 → ⊥) where
    turn : Turn
    turn = go v.rest v.along v.count v.some v.same
      where
        go : (rest : List Entry) → Along img at rest → left ≡ length rest → Every (λ e. 1 ≤ length e.key) rest
            → SameAt (TablesFound img scr rest keys) (TablesFound img scr₀ es before) → Turn
        go [] a c f s = absurd (some c)
        go (e ∷ rest) a c f s = record { first = e; more = rest; along = a; count = c; filled = f.0; some = f.1; same = s }

    pub naming-lengths : Enough img at (gap at.offset 4 + 4)
    naming-lengths = along-enough turn.along

    module _ (g : Sizes) (m : Measured img at g) where
      entry : EntryAt img g turn.first turn.more
      entry = along-entry turn.along g m

      pub naming-key : Enough img g.after g.key
      naming-key = bytes-enough entry.key

      pub naming-past : Enough img g.after (g.key + g.value)
      naming-past = entry.enough

      -- what the test of the name asks
      pub naming-name : Key img g.after g.key × (1 ≤ g.key)
      naming-name = (entry_key entry, omega (arith, bytes-length entry.key, turn.filled))

      value-long : length turn.first.value ≡ g.value
      value-long = omega (arith, bytes-length entry.key, simp length-append at (bytes-length entry.both))

      module _ (legal : Bool) (a : NameAt img g.after g.key g.value legal) where
        fit : legal ≡ is_name turn.first.key (length turn.first.value)
        fit = a.is turn.first.key (bytes-key entry.key) ∙ ap (is_name turn.first.key) (sym value-long)

        pub naming-unnamed : legal ≡ false → FindsAt Some (TablesFound img scr₀ es before) None scr
        naming-unnamed e =
            finds-none turn.same
            (λ m out f. true≢false (sym (listing-fits turn.first turn.more f.tables f.names.0 f.named) ∙ (sym fit ∙ e)))

        module _ (passed : legal ≡ true) where
          parts : T (eqb (length turn.first.value) 4) × T (name_rule.allowed turn.first.key)
          parts = and_both (eqb (length turn.first.value) 4) (name_rule.allowed turn.first.key) (holds _ (sym fit ∙ passed))

          four : length turn.first.value ≡ 4
          four = eqb→eq (length turn.first.value) 4 parts.0

          module _ (p : Place) (to : Moved img g.after g.key p) where
            value : BytesAt img p g.value turn.first.value
            value = entry.value p to

            pub naming-value : Enough img p 4
            naming-value =
                let v : BytesAt img p g.value turn.first.value = value in
                record { bytes = v.bytes; rest = v.rest; long = omega (arith, v.long, value-long, four) }

            module _ (bytes : (i : ℕ) → get_or img i 0 < 256) (root : ℕ) (is : Numbered img p root) (sort : Sort) (by : SortAt img g.after g.key sort) (r : Answer ℕ) (s : List ℕ)
                (f : FindsAt Some (TableFound sort img scr root) r s) where
              word : turn.first.value ≡ word32 root
              word = value-word img bytes p g.value turn.first.value value four root is

              sorted : sort ≡ table_sort turn.first.key
              sorted = by.is turn.first.key (bytes-key entry.key)

              small : root < 4294967296
              small = value-below img bytes p g.value turn.first.value value four root is

              pub naming-no : r ≡ None → FindsAt Some (TablesFound img scr₀ es before) None s
              naming-no e =
                  finds-none turn.same
                  (name-no img scr v.lent turn.first turn.more keys root parts.1 word small sort sorted r s f e)

              pub naming-next : (k : ℕ) → r ≡ Some k → (q : Place) → Moved img g.after (g.key + g.value) q → {other : ℕ} → other ≡ left - 1 → Naming img scr₀ es before s q other (keys + k)
              naming-next k e q on less =
                  let b : (k + 128 * unclaimed s ≤ 128 * unclaimed scr) × (length s ≡ length scr) = table-fewer img scr root k s (f.sound k e) in
                  record {
                    rest = turn.more;
                    along = entry.next q on;
                    count = omega (arith, turn.count);
                    some = turn.some;
                    long = b.1 ∙ v.long;
                    lent = found-lent v.lent (f.sound k e).found;
                    few = omega (arith, b.0, v.few);
                    same = same_turn (name-next img scr v.lent turn.first turn.more keys root parts.1 word small sort sorted r s f k e) turn.same;
                  }

-- ---- The entries of one span after those of another

keys-append : (us vs : List (Keyed Table)) → keys_of (us ++ vs) ≡ keys_of us + keys_of vs
keys-append [] vs = omega arith
keys-append (u ∷ us) vs = omega (arith, keys-append us vs)

-- the tables whose entries are es, and those whose entries are fs
record Split (es fs : List Entry) (ts : List (Keyed Table)) : Type 0 where
  left : List (Keyed Table)
  right : List (Keyed Table)
  all : ts ≡ left ++ right
  first : es ≡ map listing left
  second : fs ≡ map listing right

split : (es fs : List Entry) (ts : List (Keyed Table)) → es ++ fs ≡ map listing ts → Split es fs ts
split [] fs ts q = record { left = []; right = ts; all = refl; first = refl; second = q }
split (e ∷ es) fs [] q = absurd (cons≢nil q)
split (e ∷ es) fs (t ∷ ts) q =
    let s : Split es fs ts = split es fs ts (tail-eq_of_cons-eq q) in
    record {
      left = t ∷ s.left;
      right = s.right;
      all = ap (λ (xs : List (Keyed Table)). t ∷ xs) s.all;
      first = ap₂ (λ (x : Entry) (xs : List Entry). x ∷ xs) (head-eq_of_cons-eq q) s.first;
      second = s.second;
    }

module _ (img scr : List ℕ) (es fs : List Entry) (n : ℕ) where
  abbrev Ok : Keyed Table → Type 0
  Ok x = TableOk (key_rule x.key) x.value

  record Halves (m : ℕ) (out : List ℕ) : Type 0 where
    keys : ℕ
    mid : List ℕ
    first : TablesFound img scr es n keys mid
    rest : TablesFound img mid fs keys m out

  halves : (m : ℕ) (out : List ℕ) → TablesFound img scr (es ++ fs) n m out → Halves m out
  halves m out f =
      let s : Split es fs f.tables = split es fs f.tables f.named in
      let ok : Every Ok (s.left ++ s.right) = subst (Every Ok) s.all f.ok in
      let found : Found img scr (named s.left ++ named s.right) out
      = subst (λ (ps : List Piece). Found img scr ps out) (ap named s.all ∙ gather_append (λ (x : Keyed Table). table_pieces x.value) s.left s.right) f.found in
      let k : keys_of f.tables ≡ keys_of s.left + keys_of s.right = ap keys_of s.all ∙ keys-append s.left s.right in
      record {
        keys = n + keys_of s.left;
        mid = claims scr (owned_by (named s.left));
        first = record {
          names = every-left (λ (e : Entry). T (name_rule.allowed e.key)) es fs f.names;
          tables = s.left;
          named = s.first;
          ok = every-left Ok s.left s.right ok;
          found = found_first img scr (named s.left) (named s.right) out found;
          keys = refl;
        };
        rest = record {
          names = every-right (λ (e : Entry). T (name_rule.allowed e.key)) es fs f.names;
          tables = s.right;
          named = s.second;
          ok = every-right Ok s.left s.right ok;
          found = found-second img scr (named s.left) (named s.right) out found;
          keys = omega (arith, f.keys);
        };
      }

  whole : (k : ℕ) (mid : List ℕ) (m : ℕ) (out : List ℕ) → TablesFound img scr es n k mid → TablesFound img mid fs k m out → TablesFound img scr (es ++ fs) n m out
  whole k mid m out x y =
      record {
        names = every-join (λ (e : Entry). T (name_rule.allowed e.key)) es fs x.names y.names;
        tables = x.tables ++ y.tables;
        named = ap₂ (λ (xs ys : List Entry). xs ++ ys) x.named y.named ∙ sym (map-append listing x.tables y.tables);
        ok = every-join Ok x.tables y.tables x.ok y.ok;
        found = subst (λ (ps : List Piece). Found img scr ps out) (sym (gather_append (λ (t : Keyed Table). table_pieces t.value) x.tables y.tables))
            (found-join img scr (named x.tables) (named y.tables) mid out x.found y.found);
        keys = omega (arith, x.keys, y.keys, keys-append x.tables y.tables);
      }

  module _ (r : Answer ℕ) (s : List ℕ) (f : FindsAt Some (TablesFound img scr es n) r s) where
    names-no : r ≡ None → (m : ℕ) (out : List ℕ) → TablesFound img scr (es ++ fs) n m out → ⊥
    names-no q m out x = none-some _ (sym q ∙ (f.complete _ _ (halves m out x).first).0)

    names-next : (k : ℕ) → r ≡ Some k → SameAt (TablesFound img s fs k) (TablesFound img scr (es ++ fs) n)
    names-next k q =
        record {
          to = λ m out x. whole k s m out (f.sound k q) x;
          back = λ m out x.
              let h : Halves m out = halves m out x in
              let d = f.complete _ _ h.first in
              let i : k ≡ h.keys = same_Some k h.keys (sym q ∙ d.0) in
              subst (λ (j : ℕ). TablesFound img s fs j m out) (sym i) (subst (λ (u : List ℕ). TablesFound img u fs h.keys m out) (sym d.1) h.rest);
        }

-- ---- The loop over the spans of the metaindex

pub record Tabling (img scr₀ : List ℕ) (meta : Table) (scr : List ℕ) (page left keys : ℕ) : Type 0 where
  pub small : length img ≤ 4194304
  pub prev : ℕ
  pub rest : List Span
  pub borne : Every (Borne img) (map span (link_spans meta.span_size prev rest))
  pub reach : Every (λ s. 1 + length s.conts ≡ reached s.entries) rest
  pub some : Every (λ e. 1 ≤ length e.key) (entries_in rest)
  pub starts : page ≡ first_of (map (λ s. s.page) rest)
  pub count : left ≡ length rest
  pub long : length scr ≡ length scr₀
  pub lent : Lent img scr
  pub few : keys + 128 * unclaimed scr ≤ 128 * unclaimed scr₀
  pub same : SameAt (TablesFound img scr (entries_in rest) keys) (TablesFound img scr₀ (entries_of meta) 0)

module _ (img scr : List ℕ) (meta : Table) (h : MetaOn img meta) where
  pub meta-inside : IsPage img 2
  meta-inside = subst (IsPage img) h.page h.borne.0.1.0

  pub tabling-start : Lent img scr → (page left : ℕ) → page ≡ be32 (pg img 2) 8 → left ≡ be32 (pg img 2) 20 → Tabling img scr meta scr page left 0
  tabling-start lent page left p l =
      let k : IsSkipList (skip_list_of meta) (pg img 2) = subst (λ (n : ℕ). IsSkipList (skip_list_of meta) (pg img n)) h.page h.borne.0.0 in
      record {
        small = h.small;
        prev = 0;
        rest = spans_of (columns meta);
        borne = every-left (Borne img) (map span (spans_in meta)) (map tower (towers_in meta)) h.borne.1;
        reach = h.ok.reach;
        some = every-so (λ (e : Entry). T (bytes_rule.allowed e.key)) (λ e. key-some e.key) (entries_of meta) h.ok.keys;
        starts = p ∙ k.first;
        count = l ∙ k.spans ∙ sym (length-map (columns meta) (λ c. c.span));
        long = refl;
        lent = lent;
        few = omega arith;
        same = same_start (TablesFound img scr (entries_of meta) 0);
      }

module _ {img scr₀ : List ℕ} {meta : Table} {scr : List ℕ} {page left keys : ℕ} (v : Tabling img scr₀ meta scr page left keys) where
  pub tabling-end : left ≡ 0 → FindsAt Some (TablesFound img scr₀ (entries_of meta) 0) (Some keys) scr
  tabling-end z = go v.rest v.count v.same
    where
      go : (rest : List Span) → left ≡ length rest → SameAt (TablesFound img scr (entries_in rest) keys) (TablesFound img scr₀ (entries_of meta) 0)
          → FindsAt Some (TablesFound img scr₀ (entries_of meta) 0) (Some keys) scr
      go [] c same = names-end img scr keys (TablesFound img scr₀ (entries_of meta) 0) same
      go (s ∷ rest) c same = absurd (omega arith)

  -- the span on the page, and those after it
  record Ahead : Type 0 where
    first : Span
    more : List Span
    on : page ≡ first.page
    count : left ≡ suc (length more)
    names : NamesOn img page first.entries
    next : be32 (pg img page) 12 ≡ first_of (map (λ s. s.page) more)
    borne : Every (Borne img) (map span (link_spans meta.span_size first.page more))
    reach : Every (λ s. 1 + length s.conts ≡ reached s.entries) more
    some : Every (λ e. 1 ≤ length e.key) (entries_in more)
    same : SameAt (TablesFound img scr (first.entries ++ entries_in more) keys) (TablesFound img scr₀ (entries_of meta) 0)

  module _ (some : left ≡ 0 → ⊥) where
    ahead : Ahead
    ahead = go v.rest v.borne v.reach v.some v.starts v.count v.same
      where
        go : (rest : List Span) → Every (Borne img) (map span (link_spans meta.span_size v.prev rest)) → Every (λ s. 1 + length s.conts ≡ reached s.entries) rest
            → Every (λ e. 1 ≤ length e.key) (entries_in rest) → page ≡ first_of (map (λ s. s.page) rest) → left ≡ length rest
            → SameAt (TablesFound img scr (entries_in rest) keys) (TablesFound img scr₀ (entries_of meta) 0) → Ahead
        go [] b h f p c e = absurd (some c)
        go (s ∷ rest) b h f p c e =
            record {
              first = s;
              more = rest;
              on = p;
              count = c;
              names = subst (λ (n : ℕ). NamesOn img n s.entries) (sym p)
                  (record {
                    small = v.small;
                    inside = b.0.1.0;
                    count = b.0.0.size;
                    along = borne-along v.small b.0 h.0;
                    some = every-left (λ (x : Entry). 1 ≤ length x.key) s.entries (entries_in rest) f;
                  });
              next = ap (λ (n : ℕ). be32 (pg img n) 12) p ∙ b.0.0.next;
              borne = b.1;
              reach = h.1;
              some = every-right (λ (x : Entry). 1 ≤ length x.key) s.entries (entries_in rest) f;
              same = e;
            }

    pub tabling-names : (es : List Entry) × NamesOn img page es
    tabling-names = (ahead.first.entries, ahead.names)

    module _ (r : Answer ℕ) (s : List ℕ) (f : (es : List Entry) → NamesOn img page es → FindsAt Some (TablesFound img scr es keys) r s) where
      here : FindsAt Some (TablesFound img scr ahead.first.entries keys) r s
      here = f ahead.first.entries ahead.names

      pub tabling-no : r ≡ None → FindsAt Some (TablesFound img scr₀ (entries_of meta) 0) None s
      tabling-no e =
          finds-none ahead.same (names-no img scr ahead.first.entries (entries_in ahead.more) keys r s here e)

      pub tabling-next : (k : ℕ) → r ≡ Some k → length s ≡ length scr → (n : ℕ) → n ≡ be32 (pg img page) 12 → {other : ℕ} → other ≡ left - 1 → Tabling img scr₀ meta s n other k
      tabling-next k e l n q less =
          record {
            small = v.small;
            prev = ahead.first.page;
            rest = ahead.more;
            borne = ahead.borne;
            reach = ahead.reach;
            some = ahead.some;
            starts = q ∙ ahead.next;
            count = omega (arith, ahead.count);
            long = l ∙ v.long;
            lent = found-lent v.lent (here.sound k e).found;
            few = omega (arith, tables-few img scr ahead.first.entries keys k s (here.sound k e), v.few);
            same = same_turn (names-next img scr ahead.first.entries (entries_in ahead.more) keys r s here k e) ahead.same;
          }
