-- Spans one after another: the ways through `verify_others`.
use Prim.Native.Nat.{ℕ, ◌≤◌, ◌<◌}
use native.Mathlib.Omega.{arith}
use mathlib.Core.Path.{◌≡◌, refl, ap, sym, ◌∙◌, subst}
use mathlib.Core.List.{List, [], ◌∷◌, map}
use lib.ListN.{length}
use lib.Dec.{T}
use Rattle.std.proofs.Common.{Option, Some, None}
use Rattle.std.proofs.lemmas.Option.{none-some, same_Some}
use Rattle.blockfile.specs.Bytes.{first_of}
use Rattle.blockfile.specs.Layout.{Entry, Span}
use Rattle.blockfile.specs.WellFormed.{Piece, span, link_spans}
use Rattle.blockfile.proofs.Every.{every-left, every-right, every-join}
use Rattle.blockfile.proofs.Owned.{owned_by}
use Rattle.heads.specs.Claims.{Lent}
use Rattle.walks.specs.Found.{claims, unclaimed, Found}
use Rattle.walks.proofs.Founds.{lent-claims, length-claims, unclaimed-claims, found-join, found_first, found-second}
use Rattle.entries.proofs.Keys.{key_one}
use Rattle.spans.specs.declared.entry.Last.{Last}
use Rattle.spans.specs.declared.span.Spanned.{Spanned}
use Rattle.spans.specs.Spans.{entries_in}
use Rattle.order.specs.declared.sort.Sort.{Sort}
use Rattle.spans.specs.Entries.{fits, last_key, LastIs}
use Rattle.spans.specs.Parts.{with_links, SpanFound, Told, Answered, Verified, ChainFound}
use Rattle.spans.proofs.Sorts.{above_join, above-left, above-right}
use Rattle.spans.proofs.Spans.{found-fresh, found_left}

abbrev pub Fine : Sort → Entry → Type 0
Fine sort e = T (fits sort e.key (length e.value))

-- the page that a chain of spans starts on
abbrev pub start_of : List Span → ℕ
start_of ss = first_of (map (λ x. x.page) ss)

-- a span by itself, linked to those after it
abbrev pub alone : (z prev : ℕ) (sp : Span) (ss : List Span) → List Piece
alone z prev sp ss = span (with_links sp prev (start_of ss) z) ∷ []

-- ---- a span and the spans after it

module _ {sort : Sort} {img scr : List ℕ} {z p prev : ℕ} {low : List ℕ} {sp : Span} {ss : List Span} {s : List ℕ} where
  pub chain-join : {next : ℕ} {mid : List ℕ} → SpanFound sort img scr p prev z low sp next mid → ChainFound sort img mid z next p (last_key low sp.entries) ss s
      → ChainFound sort img scr z p prev low (sp ∷ ss) s
  chain-join {next} {mid} f c =
      record {
        named = f.named;
        sizes = (f.ok.size, c.sizes);
        reach = (f.ok.reach, c.reach);
        above = above_join sort low sp.entries (entries_in ss) f.ok.above c.above;
        fine = every-join (Fine sort) sp.entries (entries_in ss) f.ok.fine c.fine;
        found = subst (λ (q : ℕ). Found img scr (span (with_links sp prev (start_of ss) z) ∷ map span (link_spans z q ss)) s) (sym f.named)
            (subst (λ (q : ℕ). Found img scr (span (with_links sp prev q z) ∷ map span (link_spans z p ss)) s) (sym c.named)
            (found-join img scr (span (with_links sp prev next z) ∷ []) (map span (link_spans z p ss)) mid s f.found c.found));
      }

  -- the first span, and the scratch after it
  module _ (c : ChainFound sort img scr z p prev low (sp ∷ ss) s) where
    pub chain_first : SpanFound sort img scr p prev z low sp (start_of ss) (claims scr (owned_by (alone z prev sp ss)))
    chain_first =
        record {
          named = c.named;
          ok = record {
            size = c.sizes.0;
            reach = c.reach.0;
            above = above-left sort low sp.entries (entries_in ss) c.above;
            fine = every-left (Fine sort) sp.entries (entries_in ss) c.fine;
          };
          found = found_first img scr (alone z prev sp ss) (map span (link_spans z sp.page ss)) s c.found;
        }

    pub chain-rest : ChainFound sort img (claims scr (owned_by (alone z prev sp ss))) z (start_of ss) p (last_key low sp.entries) ss s
    chain-rest =
        record {
          named = refl;
          sizes = c.sizes.1;
          reach = c.reach.1;
          above = above-right sort low sp.entries (entries_in ss) c.above;
          fine = every-right (Fine sort) sp.entries (entries_in ss) c.fine;
          found = subst (λ (q : ℕ). Found img (claims scr (owned_by (alone z prev sp ss))) (map span (link_spans z q ss)) s) c.named
              (found-second img scr (alone z prev sp ss) (map span (link_spans z sp.page ss)) s c.found);
        }

-- ---- the span that an answer tells, and the spans after it

-- what the code needs of a span: few keys, and fewer pages unclaimed
pub record Fell (n : ℕ) (scr s : List ℕ) : Type 0 where
  pub few : n ≤ 128
  pub kept : length s ≡ length scr
  pub less : unclaimed s < unclaimed scr
  pub lent : {img : List ℕ} → Lent img scr → Lent img s

module _ {sort : Sort} {img scr : List ℕ} {z p prev : ℕ} {low : List ℕ} {a : Option Spanned} {s : List ℕ} (v : Verified sort img scr p prev z low a s) where
  -- a chain that starts with a span starts where the answer is right, and goes on as the answer says
  pub chain-not : a ≡ None → {sp : Span} {ss : List Span} {t : List ℕ} → ChainFound sort img scr z p prev low (sp ∷ ss) t → ⊥
  chain-not e {sp} {ss} c =
      let d : Answered sort img low sp (start_of ss) (claims scr (owned_by (alone z prev sp ss))) a s = v.complete sp (start_of ss) (claims scr (owned_by (alone z prev sp ss))) (chain_first c) in
      none-some _ (sym e ∙ d.is)

  module _ {x : Spanned} (e : a ≡ Some x) where
    pub told : Told sort img scr p prev z low x s
    told = v.sound x e

    abbrev pub hi : List ℕ
    hi = last_key low told.sp.entries

    -- a chain from here
    pub record Onward (sp : Span) (ss : List Span) (t : List ℕ) : Type 0 where
      pub count : x.size ≡ length sp.entries
      pub chain : ChainFound sort img s z x.next p hi ss t

    pub onward : {sp : Span} {ss : List Span} {t : List ℕ} → ChainFound sort img scr z p prev low (sp ∷ ss) t → Onward sp ss t
    onward {sp} {ss} {t} c =
        let d : Answered sort img low sp (start_of ss) (claims scr (owned_by (alone z prev sp ss))) a s = v.complete sp (start_of ss) (claims scr (owned_by (alone z prev sp ss))) (chain_first c) in
        let same : record { size = length sp.entries; next = start_of ss; last = d.last } ≡ x = same_Some _ _ (sym d.is ∙ e) in
        let last : d.last ≡ x.last = ap (λ (y : Spanned). y.last) same in
        let there : LastIs sort img x.last (last_key low sp.entries) = subst (λ (k : Last). LastIs sort img k (last_key low sp.entries)) last d.key in
        let only : last_key low sp.entries ≡ hi = key_one img x.last.at x.last.length (last_key low sp.entries) hi there.there told.key.there in
        record {
          count = ap (λ (y : Spanned). y.size) (sym same);
          chain = subst (λ (k : List ℕ). ChainFound sort img s z x.next p k ss t) only
              (subst (λ (q : ℕ). ChainFound sort img s z q p (last_key low sp.entries) ss t) (ap (λ (y : Spanned). y.next) same)
              (subst (λ (m : List ℕ). ChainFound sort img m z (start_of ss) p (last_key low sp.entries) ss t) (sym d.left) (chain-rest c)));
        }

    pub fell : z ≤ 128 → Fell x.size scr s
    fell h =
        let t : Told sort img scr p prev z low x s = told in
        let pages : List ℕ = t.sp.page ∷ t.sp.conts in
        let left : s ≡ claims scr pages = found_left t.found.found in
        record {
          few = omega (arith, t.count, t.found.ok.size);
          kept = ap length left ∙ length-claims scr pages;
          less = omega (arith, ap unclaimed left, unclaimed-claims scr pages (found-fresh t.found.found));
          lent = λ {img} h. subst (Lent img) (sym left) (lent-claims pages (found-fresh t.found.found) h);
        }
