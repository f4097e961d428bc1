-- `operators::has_attribute` meets its contract. Assumes nothing.
use Rattle.operands.proofs.Standing.{row_stands}
use Rattle.operators.proofs.OperatorLaws.{has_is}
use Rattle.operators.proofs.has_attribute.Goals as goal

pub attribute_value-requires : goal.attribute_value-requires
attribute_value-requires c = c.requires.lies

pub returns : goal.returns
returns c = λ action. has_is _ _ _ _ (row_stands c.args.row.now.stands) action _ _ c.requires c.attribute_value.ensures _ c.is_present.ensures
