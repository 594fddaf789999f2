-- `search::span::begins_past` meets its contract.
use Rattle.search.proofs.Entries.{along-enough, along-entry, entry_key}
use Rattle.search.proofs.Seeks.{span-entry, not-empty, begins-greater, begins-less, begins-equal}
use Rattle.search.proofs.span.begins_past.Goals as goal

pub lengths-g-requires : goal.lengths-g-requires
lengths-g-requires c = let x = c.requires.span.on in along-enough (span-entry x ((not-empty x c.requires.some))).along

pub compare_as-requires : goal.compare_as-requires
compare_as-requires c =
    let x = c.requires.span.on in
    entry_key (along-entry (span-entry x ((not-empty x c.requires.some))).along _ c.lengths-g.ensures)

pub returns-in-Greater : goal.returns-in-Greater
returns-in-Greater c = record {
  is = λ x.
      begins-greater x.on ((not-empty x.on c.requires.some)) _ _ c.lengths-g.ensures x.by _ c.compare_as.ensures c.args.bound.strict c.in-Greater.is;
}

pub returns-in-Less : goal.returns-in-Less
returns-in-Less c = record {
  is = λ x.
      begins-less x.on ((not-empty x.on c.requires.some)) _ _ c.lengths-g.ensures x.by _ c.compare_as.ensures c.args.bound.strict c.in-Less.is;
}

pub returns-in-Equal : goal.returns-in-Equal
returns-in-Equal c = record {
  is = λ x.
      begins-equal x.on ((not-empty x.on c.requires.some)) _ _ c.lengths-g.ensures x.by _ c.compare_as.ensures c.args.bound.strict c.in-Equal.is;
}
