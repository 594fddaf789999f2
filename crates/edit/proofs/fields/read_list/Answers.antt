use native.Mathlib.Omega.{arith}
use Rattle.edit.proofs.FieldsRead.{head-inside, list_of}
use Rattle.edit.proofs.fields.read_list.Goals as goal

-- the head's page
pub get-max-requires : goal.get-max-requires
get-max-requires c = head-inside c.requires _ c.get-head.ensures.is 8 2 (omega arith)

pub get-top-requires : goal.get-top-requires
get-top-requires c = head-inside c.requires _ c.get-head.ensures.is 10 2 (omega arith)

pub returns : goal.returns
returns c =
    record {
      is = λ t.
          list_of t _ c.get-head.ensures.is c.get-size.ensures.is c.get-spans.ensures.is c.get-levels.ensures.is c.get-most.ensures.is c.get-max.ensures.is
          c.get-top.ensures.is;
    }
