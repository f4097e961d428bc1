-- `operands::Row::operand_value` meets its contract. Assumes nothing.
use Rattle.operands.proofs.OperandLaws.{path_placed, literal_placed, read_attribute, read_literal}
use mathlib.Core.Path.{◌∙◌}
use Rattle.operands.proofs.Row.operand_value.Goals as goal

pub attribute_value-requires : goal.attribute_value-requires
attribute_value-requires c = (path_placed _ _ c.if-o-le-ACTION.true c.requires).lies

pub returns-then-o-le-ACTION : goal.returns-then-o-le-ACTION
returns-then-o-le-ACTION c = c.attribute_value.ensures ∙ read_attribute _ _ _ _ _ c.if-o-le-ACTION.true

pub literal_value-requires : goal.literal_value-requires
literal_value-requires c = literal_placed _ _ c.if-o-le-ACTION.false c.requires

pub returns-else-o-le-ACTION : goal.returns-else-o-le-ACTION
returns-else-o-le-ACTION c = c.literal_value.ensures ∙ read_literal _ _ _ _ _ c.if-o-le-ACTION.false
