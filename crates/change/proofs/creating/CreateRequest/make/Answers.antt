use mathlib.Core.Path.{sym, ◌∙◌}
use Rattle.change.proofs.Settles.{settleable, settled}
use Rattle.change.proofs.Creates.{name-refused, table-exists, create-ready, create-tried}
use Rattle.change.proofs.creating.CreateRequest.make.Goals as goal

pub returns-then-not-is_name : goal.returns-then-not-is_name
returns-then-not-is_name c = name-refused c.requires _ (sym c.is_name.ensures ∙ c.if-not-is_name.true)

pub returns-in-Some : goal.returns-in-Some
returns-in-Some c = table-exists c.requires _ (sym c.is_name.ensures ∙ c.if-not-is_name.false) c.find_table.ensures _ c.in-Some.is

pub create-left-requires : goal.create-left-requires
create-left-requires c = create-ready c.requires _ (sym c.is_name.ensures ∙ c.if-not-is_name.false) c.find_table.ensures c.in_default.is

pub settle-requires : goal.settle-requires
settle-requires c = settleable c.requires.well (create-tried c.requires _ (sym c.is_name.ensures ∙ c.if-not-is_name.false) c.find_table.ensures c.in_default.is c.create-left.ensures)

pub returns : goal.returns
returns c =
    settled c.requires.well (create-tried c.requires _ (sym c.is_name.ensures ∙ c.if-not-is_name.false) c.find_table.ensures c.in_default.is c.create-left.ensures) c.settle.ensures
