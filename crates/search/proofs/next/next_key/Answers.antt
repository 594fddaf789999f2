-- `search::next::next_key` meets its contract.
use native.Mathlib.Omega.{arith}
use Rattle.search.proofs.Seeks.{span-inside}
use Rattle.search.proofs.Tables.{target-span}
use Rattle.search.proofs.Nexts.{next_here, next-none, next-there, next-is}
use Rattle.search.proofs.next.next_key.Goals as goal

pub key_above-requires : goal.key_above-requires
key_above-requires c = target-span c.requires _ _ c.find_by_towers-page.ensures

pub returns-in-Some : goal.returns-in-Some
returns-in-Some c = record {
  is = λ t. next_here t _ _ c.find_by_towers-page.ensures _ c.key_above.ensures _ c.in-Some.is;
}

pub get-next-requires : goal.get-next-requires
get-next-requires c = span-inside (target-span c.requires _ _ c.find_by_towers-page.ensures).on _ _ (omega arith)

pub returns-then-next-eq0 : goal.returns-then-next-eq0
returns-then-next-eq0 c = record {
  is = λ t.
      next-none t _ _ c.find_by_towers-page.ensures _ c.key_above.ensures c.in_default.is _ c.get-next.ensures.is c.if-next-eq0.true;
}

pub key_of-requires : goal.key_of-requires
key_of-requires c =
    next-there c.requires _ _ c.find_by_towers-page.ensures _ c.key_above.ensures
    c.in_default.is _ c.get-next.ensures.is c.if-next-eq0.false

pub returns : goal.returns
returns c = record {
  is = λ t.
      next-is t _ _ c.find_by_towers-page.ensures _ c.key_above.ensures c.in_default.is _ c.get-next.ensures.is c.if-next-eq0.false _ c.key_of.ensures;
}
