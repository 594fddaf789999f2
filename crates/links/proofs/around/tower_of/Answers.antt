-- `links::around::tower_of` meets its contract: the next tower behind those before a span is its own or names another.
use mathlib.Core.Path.{sym, ◌∙◌}
use mathlib.Core.Logic.{inl, inr}
use Rattle.links.proofs.Owner.{flat-none, lowest-inside, next-inside, next-none, next-own}
use Rattle.links.proofs.around.tower_of.Goals as goal

pub returns-then-lowest-eq0 : goal.returns-then-lowest-eq0
returns-then-lowest-eq0 c = record { is = λ root t k a. flat-none a c.if-lowest-eq0.true }

pub get-next-requires : goal.get-next-requires
get-next-requires c = lowest-inside c.requires.is c.if-lowest-eq0.false

pub returns-then-next-eq0 : goal.returns-then-next-eq0
returns-then-next-eq0 c = record { is = λ root t k a. next-none a c.if-lowest-eq0.false _ c.get-next.ensures.is (inl c.if-next-eq0.true) }

pub get-requires : goal.get-requires
get-requires c = next-inside c.requires.is c.if-lowest-eq0.false _ c.get-next.ensures.is c.if-next-eq0.false

pub returns-then-get-page : goal.returns-then-get-page
returns-then-get-page c = record {
  is = λ root t k a.
      next-none a c.if-lowest-eq0.false _ c.get-next.ensures.is (inr (λ e. c.if-get-page.true (c.get.ensures.is ∙ e)));
}

pub returns : goal.returns
returns c = record {
  is = λ root t k a.
      next-own a c.if-lowest-eq0.false _ c.get-next.ensures.is c.if-next-eq0.false (sym c.get.ensures.is ∙ c.if-get-page.false);
}
