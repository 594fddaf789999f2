-- The ways through `walk_spans`.
use Prim.Native.Nat.{ℕ, ◌+◌, ◌*◌, ◌≤◌}
use native.Mathlib.Omega.{arith}
use mathlib.Core.Path.{◌≡◌, refl, sym, ◌∙◌}
use mathlib.Core.List.{List, [], ◌∷◌}
use lib.ListN.{length, length-append}
use Rattle.std.proofs.Common.{Option, Some, None}
use Rattle.blockfile.specs.Bytes.{Every}
use Rattle.blockfile.specs.Layout.{Entry, Span}
use Rattle.blockfile.proofs.Every.{every-so}
use Rattle.heads.specs.Claims.{Lent}
use Rattle.walks.specs.Found.{unclaimed, FindsAt}
use Rattle.walks.proofs.Founds.{found_none, SameAt, finds-none, finds-done}
use Rattle.spans.specs.declared.entry.Last.{Last}
use Rattle.spans.specs.declared.span.Spanned.{Spanned}
use Rattle.spans.specs.declared.Counted.{Counted}
use Rattle.spans.specs.Spans.{entries_in, SpansFound}
use Rattle.order.specs.declared.sort.Sort.{Sort}
use Rattle.spans.specs.Entries.{LastIs, Met}
use Rattle.spans.specs.Parts.{Verified, VerifiedAll, ChainFound, SpansFrom}
use Rattle.order.specs.Sorts.{turn}
use Rattle.order.proofs.Numbers.{rank-none}
use Rattle.spans.proofs.Sorts.{above-rising, rising-all, fits-key, fits-value, every-fits}
use Rattle.spans.proofs.Chains.{Fine, chain-join, chain-not, told, hi, onward, Fell, fell}

-- no last key: a key of no bytes, wherever
pub none-met : (sort : Sort) (img : List ℕ) (l : Last) → l.length ≡ 0 → turn sort ≤ l.rank → LastIs sort img l []
none-met sort img l e h =
    record {
      there = record { bytes = []; rest = λ h. absurd (omega arith); long = omega arith; is = rw e };
      most = omega (arith, rank-none sort);
      four = λ some. absurd (omega arith);
    }

-- ---- a chain from above no key on is a table's spans

module _ {sort : Sort} {img scr : List ℕ} {z p : ℕ} {a : Counted} {s : List ℕ} where
  found_of : SpansFrom sort img scr z p 0 [] 0 0 a s → SpansFound sort img scr z p a s
  found_of x =
      let es : List Entry = entries_in (x.here ∷ x.others) in
      record {
        first = x.here;
        others = x.others;
        named = x.chain.named;
        ok = record {
          sizes = x.chain.sizes;
          filled = x.filled;
          reach = x.chain.reach;
          keys = every-so (Fine sort) (λ e. fits-key sort e.key (length e.value)) es x.chain.fine;
          values = every-so (Fine sort) (λ e. fits-value sort e.key (length e.value)) es x.chain.fine;
          rising = above-rising sort [] es x.chain.above;
        };
        found = x.chain.found;
        keys_are = omega (arith, x.keys_are);
        spans_are = omega (arith, x.spans_are);
      }

  of-found : SpansFound sort img scr z p a s → SpansFrom sort img scr z p 0 [] 0 0 a s
  of-found x =
      let es : List Entry = entries_in (x.first ∷ x.others) in
      record {
        here = x.first;
        others = x.others;
        chain = record {
          named = x.named;
          sizes = x.ok.sizes;
          reach = x.ok.reach;
          above = rising-all sort es x.ok.keys x.ok.rising;
          fine = every-fits sort es x.ok.keys x.ok.values;
          found = x.found;
        };
        some = λ h. absurd (omega arith);
        filled = x.ok.filled;
        keys_are = omega (arith, x.keys_are);
        spans_are = omega (arith, x.spans_are);
      }

-- ---- a walk over the spans

-- keys and spans have been counted, and the next span is on page p
pub record Counting (sort : Sort) (img : List ℕ) (z : ℕ) (scr₀ : List ℕ) (start : ℕ) (scr : List ℕ) (p prev : ℕ) (l : Last) (keys spans : ℕ) : Type 0 where
  pub met : Met sort img l
  pub lent : Lent img scr
  pub kept : length scr ≡ length scr₀
  pub few : spans + unclaimed scr ≤ unclaimed scr₀
  pub small : keys ≤ 128 * spans
  pub same : SameAt (SpansFrom sort img scr z p prev met.low keys spans) (SpansFound sort img scr₀ z start)

pub counting-start : (sort : Sort) {img : List ℕ} (z : ℕ) (scr : List ℕ) (start : ℕ) (l : Last) → l.length ≡ 0 → turn sort ≤ l.rank → Lent img scr → Counting sort img z scr start scr start 0 l 0 0
counting-start sort {img} z scr start l none least lent =
    record {
      met = record { low = []; key = none-met sort img l none least };
      lent = lent;
      kept = refl;
      few = omega arith;
      small = omega arith;
      same = record { to = λ a s. found_of; back = λ a s. of-found };
    }

module _ {sort : Sort} {img : List ℕ} {z : ℕ} {scr₀ : List ℕ} {start : ℕ} {scr : List ℕ} {p prev : ℕ} {l : Last} {keys spans : ℕ}
    (w : Counting sort img z scr₀ start scr p prev l keys spans) {a : Option Spanned} {s : List ℕ} (va : VerifiedAll sort img scr p prev z l a s) where
  v : Verified sort img scr p prev z w.met.low a s
  v = va.is w.met.low w.met.key

  broken : ((b : Counted) (t : List ℕ) → SpansFrom sort img scr z p prev w.met.low keys spans b t → ⊥) → FindsAt Some (SpansFound sort img scr₀ z start) None s
  broken never = finds-none w.same never

  pub counting-wrong : a ≡ None → FindsAt Some (SpansFound sort img scr₀ z start) None s
  counting-wrong e = broken (λ b t x. chain-not v e x.chain)

  module _ {y : Spanned} (e : a ≡ Some y) where
    pub counting-empty : y.size ≡ 0 → 1 ≤ spans → FindsAt Some (SpansFound sort img scr₀ z start) None s
    counting-empty h m = broken (λ b t x. omega (arith, (onward v e x.chain).count, x.some m))

    pub counting-fell : z ≤ 128 → Fell y.size scr s
    counting-fell = fell v e

    module _ (ok : 1 ≤ spans → y.size ≡ 0 → ⊥) where
      some : 1 ≤ spans → 1 ≤ length (told v e).sp.entries
      some h = let t = told v e in let d = ok h in omega (arith, t.count)

      pub counting-end : y.next ≡ 0 → FindsAt Some (SpansFound sort img scr₀ z start) (Some (record { keys = keys + y.size; spans = spans + 1 })) s
      counting-end h =
          let t = told v e in
          finds-done w.same (record { keys = keys + y.size; spans = spans + 1 })
          (record {
            here = t.sp;
            others = [];
            chain = chain-join t.found (record { named = sym h; sizes = tt; reach = tt; above = tt; fine = tt; found = found_none img s });
            some = some;
            filled = tt;
            keys_are = omega (arith, t.count, length-append t.sp.entries []);
            spans_are = refl;
          })
          (λ b u x. only b u x.here x.others (onward v e x.chain).count (onward v e x.chain).chain x.keys_are x.spans_are)
        where
          only : (b : Counted) (u : List ℕ) (sp : Span) (ss : List Span) → y.size ≡ length sp.entries → ChainFound sort img s z y.next p (hi v e) ss u
              → b.keys ≡ keys + length (entries_in (sp ∷ ss)) → b.spans ≡ spans + length (sp ∷ ss)
              → (◌≡◌ {A = Counted} (record { keys = keys + y.size; spans = spans + 1 }) b) × (s ≡ u)
          only b u sp [] n c i j =
              let x : keys + y.size ≡ b.keys = omega (arith, length-append sp.entries []) in
              let m : spans + 1 ≡ b.spans = omega arith in
              ((λ k. record { keys = x k; spans = m k }), sym c.found.left)
          only b u sp (q ∷ ss) n c i j = absurd (omega (arith, c.named, c.found.fresh.0.low))

      pub counting-next : (y.next ≡ 0 → ⊥) → z ≤ 128 → Counting sort img z scr₀ start s y.next p y.last (keys + y.size) (spans + 1)
      counting-next nz most =
          let t = told v e in
          let u = counting-fell most in
          record {
            met = record { low = hi v e; key = t.key };
            lent = u.lent w.lent;
            kept = u.kept ∙ w.kept;
            few = omega (arith, w.few, u.less);
            small = omega (arith, w.small, u.few);
            same = record {
              to = λ b out x. w.same.to b out (record {
                here = t.sp;
                others = x.here ∷ x.others;
                chain = chain-join t.found x.chain;
                some = some;
                filled = (x.some (omega arith), x.filled);
                keys_are = omega (arith, x.keys_are, t.count, length-append t.sp.entries (entries_in (x.here ∷ x.others)));
                spans_are = omega (arith, x.spans_are);
              });
              back = λ b out x. let g = w.same.back b out x in let o = onward v e g.chain in on b out g.here g.others o.count o.chain g.filled g.keys_are g.spans_are;
            };
          }
        where
          on : (b : Counted) (out : List ℕ) (sp : Span) (ss : List Span) → y.size ≡ length sp.entries → ChainFound sort img s z y.next p (hi v e) ss out → Every (λ x. 1 ≤ length x.entries) ss
              → b.keys ≡ keys + length (entries_in (sp ∷ ss)) → b.spans ≡ spans + length (sp ∷ ss) → SpansFrom sort img s z y.next p (hi v e) (keys + y.size) (spans + 1) b out
          on b out sp [] m c f i j = absurd (nz (sym c.named))
          on b out sp (q ∷ ss) m c f i j =
              record {
                here = q;
                others = ss;
                chain = c;
                some = λ h. f.0;
                filled = f.1;
                keys_are = omega (arith, i, m, length-append sp.entries (entries_in (q ∷ ss)));
                spans_are = omega (arith, j);
              }
