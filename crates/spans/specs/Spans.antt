-- The spans of a table that a walk finds: the text's rules on spans, and the pages they own.
use Rattle.std.specs.Prelude.{ℕ, ◌+◌, ◌≤◌, ◌≡◌, List, ◌∷◌, map, length, T}
use Rattle.blockfile.specs.Bytes.{Every, gather}
use Rattle.blockfile.specs.Layout.{Entry, Span, reached}
use Rattle.blockfile.specs.Order.{KeyRule, Rising}
use Rattle.blockfile.specs.WellFormed.{span, link_spans}
use Rattle.walks.specs.Found.{Found}
use Rattle.order.specs.declared.sort.Sort.{Sort}
use Rattle.order.specs.Sorts.{rule_as}
use Rattle.spans.specs.declared.Counted.{Counted}

abbrev pub entries_in : List Span → List Entry
entries_in ss = gather (λ s. s.entries) ss

-- the text's rules on the spans of a table of span size z
pub record SpansOk (r : KeyRule) (z : ℕ) (first : Span) (others : List Span) : Type 0 where
  -- size at most max keys; only the first span may be empty; as many continuation pages as the entries reach
  pub sizes : Every (λ s. length s.entries ≤ z) (first ∷ others)
  pub filled : Every (λ s. 1 ≤ length s.entries) others
  pub reach : Every (λ s. 1 + length s.conts ≡ reached s.entries) (first ∷ others)
  -- keys as the rule has them, values at most 65,535 bytes; keys increase strictly through the whole table
  pub keys : Every (λ e. T (r.allowed e.key)) (entries_in (first ∷ others))
  pub values : Every (λ e. length e.value ≤ 65535) (entries_in (first ∷ others))
  pub rising : Rising r (entries_in (first ∷ others))

-- from page p on stand spans of span size z that keep the rules of keys that sort so; their pages can be claimed, and s is the scratch then
pub record SpansFound (sort : Sort) (img scr : List ℕ) (z p : ℕ) (a : Counted) (s : List ℕ) : Type 0 where
  pub first : Span
  pub others : List Span
  pub named : first.page ≡ p
  pub ok : SpansOk (rule_as sort) z first others
  pub found : Found img scr (map span (link_spans z 0 (first ∷ others))) s
  pub keys_are : a.keys ≡ length (entries_in (first ∷ others))
  pub spans_are : a.spans ≡ length (first ∷ others)
