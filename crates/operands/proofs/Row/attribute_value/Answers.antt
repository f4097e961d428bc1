-- `operands::Row::attribute_value` meets its contract. Assumes nothing.
use Rattle.operands.proofs.OperandLaws.{read_bag, read_action}
use Rattle.operands.proofs.Standing.{row_stands}
use mathlib.Core.Path.{sym, ◌∙◌}
use native.Mathlib.Omega.{arith}
use Rattle.operands.proofs.Row.attribute_value.Goals as goal

pub slice_bounds-path-count : goal.slice_bounds-path-count
slice_bounds-path-count c = omega (arith, c.requires.some)

pub slice_bounds-path-end : goal.slice_bounds-path-end
slice_bounds-path-end c = omega (arith, c.requires.some, c.requires.high)

pub attribute-k-requires : goal.attribute-k-requires
attribute-k-requires c = row_stands c.args.self.now.stands

pub value_at-requires : goal.value_at-requires
value_at-requires c = c.attribute-k.ensures.valued

pub returns-then-not-of_bag : goal.returns-then-not-of_bag
returns-then-not-of_bag c = read_action _ _ _ _ _ (sym c.of_bag.ensures ∙ c.if-not-of_bag.true)

pub returns : goal.returns
returns c = c.value_at.ensures ∙ c.attribute-k.ensures.is ∙ read_bag _ _ _ _ _ (sym c.of_bag.ensures ∙ c.if-not-of_bag.false)
