-- A span's pages written one after another.
use Prim.Native.Nat.{ℕ, ◌+◌, ◌*◌, ◌<◌}
use native.Mathlib.Omega.{arith}
use mathlib.Core.Path.{◌≡◌, refl, ap, ◌∙◌, subst}
use mathlib.Core.List.{List, [], ◌∷◌, ◌++◌}
use lib.ListN.{length, get_or, take, drop}
use lib.Seq.{drop-drop}
use Rattle.blockfile.specs.Bytes.{word32, write, apply, Every, first_of, padded}
use Rattle.blockfile.specs.Marks.{marks, span_mark, cont_mark}
use Rattle.blockfile.specs.Fields.{Numbers}
use Rattle.blockfile.specs.Encode.{stream_pages}
use Rattle.laws.proofs.Pages.{length-write}
use Rattle.pages.specs.Places.{Inside}
use Rattle.pages.specs.Kinds.{kind_at}
use Rattle.pages.specs.declared.mark.Kind.{Kind}
use Rattle.pages.specs.declared.mark.Kind.TheVariants.{Span, Continuation}
use Rattle.draw.specs.Writing.{FirstAt, PageOf, Writable}

-- ---- The first number of a part of the list

-- ---- The loop

-- a kind of page of a stream, and its mark
abbrev mark_of : Kind → List ℕ
mark_of kind = get_or marks (kind_at kind) []

-- i pages are written, which left img: the pages that are left, the first of them with the mark of the kind, make it up to
-- what is to be written to img₀
pub record Left (img₀ numbers : List ℕ) (at count : ℕ) (stream : List ℕ) (goal img : List ℕ) (kind : Kind) (page i : ℕ) : Type 0 where
  pub rest : List ℕ
  pub stand : Numbers numbers (4 * (at + i)) rest
  pub many : i + length rest ≡ count
  pub each : Every (PageOf (length img₀)) rest
  pub first : page ≡ first_of rest
  pub same : apply (stream_pages (mark_of kind) rest (drop (1016 * i) stream)) img ≡ goal

pub record Writing (img₀ numbers : List ℕ) (at count : ℕ) (stream img : List ℕ) (kind : Kind) (page i : ℕ) : Type 0 where
  pub size : length img ≡ length img₀
  pub four : length (mark_of kind) ≡ 4
  pub left : (w : Writable img₀ numbers at count stream) → Left img₀ numbers at count stream (apply (stream_pages span_mark w.pages stream) img₀) img kind page i

module _ (img₀ numbers : List ℕ) (at count : ℕ) (stream : List ℕ) where
  pub writing_start : (page : ℕ) → FirstAt numbers at (at + count) page → Writing img₀ numbers at count stream img₀ Span page 0
  writing_start page f = record {
    size = refl;
    four = unfold span_mark in refl;
    left = λ w. record {
      rest = w.pages;
      stand = let e : at + 0 ≡ at = omega arith in rw e w.stand;
      many = omega (arith, w.many);
      each = w.each;
      first = f.is w.pages w.stand (omega (arith, w.many));
      same = refl;
    };
  }

  module _ (img : List ℕ) (kind : Kind) (page i : ℕ) (v : Writing img₀ numbers at count stream img kind page i) where
    pub writing-inside : Writable img₀ numbers at count stream → i < count → Inside img page 0 1024
    writing-inside w l = go (v.left w).rest (v.left w).many (v.left w).each (v.left w).first
      where
        go : (ns : List ℕ) → i + length ns ≡ count → Every (PageOf (length img₀)) ns → page ≡ first_of ns → Inside img page 0 1024
        go [] m e f = absurd (omega arith)
        go (n ∷ ns) m e f = record { small = omega (arith, v.size, w.small); low = omega (arith, e.0); high = omega (arith, e.0, v.size); fits = omega arith }

    pub writing-next : i < count → (next : ℕ) → FirstAt numbers (at + i + 1) (at + count) next → (img' : List ℕ)
        → img' ≡ write img page 0 (mark_of kind ++ (word32 next ++ padded 1016 (take 1016 (drop (1016 * i) stream))))
        → Writing img₀ numbers at count stream img' Continuation next (i + 1)
    writing-next l next f img' e = record {
      size = ap length e ∙ length-write img page 0 (mark_of kind ++ (word32 next ++ padded 1016 (take 1016 (drop (1016 * i) stream)))) ∙ v.size;
      four = unfold cont_mark in refl;
      left = λ w. turn (apply (stream_pages span_mark w.pages stream) img₀) (v.left w).rest (v.left w).stand (v.left w).many (v.left w).each (v.left w).first (v.left w).same;
    }
      where
        turn : (goal ns : List ℕ) → Numbers numbers (4 * (at + i)) ns → i + length ns ≡ count → Every (PageOf (length img₀)) ns → page ≡ first_of ns
            → apply (stream_pages (mark_of kind) ns (drop (1016 * i) stream)) img ≡ goal
            → Left img₀ numbers at count stream goal img' Continuation next (i + 1)
        turn goal [] s m p q g = absurd (omega arith)
        turn goal (n ∷ ns) s m p q g =
            let o : 4 * (at + i) + 4 ≡ 4 * (at + (i + 1)) = omega arith in
            let o' : 4 * (at + i) + 4 ≡ 4 * (at + i + 1) = omega arith in
            let d : 1016 * i + 1016 ≡ 1016 * (i + 1) = omega arith in
            let link : next ≡ first_of ns = f.is ns (subst (λ (k : ℕ). Numbers numbers k ns) o' s.1) (omega arith) in
            record {
              rest = ns;
              stand = subst (λ (k : ℕ). Numbers numbers k ns) o s.1;
              many = omega arith;
              each = p.1;
              first = link;
              same = rw (e, q, link, ← d, ← drop-drop 1016 (1016 * i) stream) g;
            }
