-- The towers of a table, as their walk finds them after the spans.
use Rattle.std.specs.Prelude.{ℕ, ◌*◌, ◌≤◌, ◌≡◌, List, ◌∷◌, map, length}
use Rattle.std.proofs.Math.Option.{some}
use Rattle.blockfile.specs.Bytes.{pg, Every}
use Rattle.blockfile.specs.Layout.{Span, Tower, Column, spans_of, towers_of}
use Rattle.blockfile.specs.Order.{Within}
use Rattle.blockfile.specs.WellFormed.{Bears, span, tower, link_spans, link_towers}
use Rattle.walks.specs.Found.{Found}

-- s, on page p, and the others are the spans of a table: linked, on pages of the image, and no more than it has pages
pub record Spanned (img : List ℕ) (p z : ℕ) (s : Span) (others : List Span) : Type 0 where
  pub here : s.page ≡ p
  pub bears : Every (Bears (pg img)) (map span (link_spans z 0 (s ∷ others)))
  pub inside : Every (λ x. (1 ≤ x.page) × (1024 * x.page ≤ length img)) (s ∷ others)
  pub few : 1024 * length (s ∷ others) ≤ length img

-- there are such spans
pub record HasSpans (img : List ℕ) (p : ℕ) : Type 0 where
  pub span_size : ℕ
  pub start : Span
  pub others : List Span
  pub spanned : Spanned img p span_size start others

-- the head on page `head` and the towers of the other spans, m in all
pub record TowersFound (img scr : List ℕ) (head : ℕ) (s : Span) (others : List Span) (m : ℕ) (out : List ℕ) : Type 0 where
  pub top : Tower
  pub rest : List Column
  pub named : top.page ≡ head
  pub stands : spans_of rest ≡ others
  pub heights : Every (λ w. Within 1 252 w.max_height × (w.height ≤ w.max_height)) (top ∷ towers_of rest)
  pub lower : Every (λ w. Within 1 top.height w.height) (towers_of rest)
  pub found : Found img scr (map tower (link_towers (record { span = s; tower = some top } ∷ rest))) out
  pub total : m ≡ length (top ∷ towers_of rest)
