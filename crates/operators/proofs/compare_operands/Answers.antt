-- `operators::compare_operands` meets its contract. Assumes nothing.
use Rattle.operands.proofs.Standing.{row_stands}
use mathlib.Core.Path.{◌∙◌}
use borrow.Author.Rules.{rules}
use Rattle.operators.proofs.VerdictLaws.{given_two, given_first}
use Rattle.operators.proofs.OperatorLaws.{operand_met, literal_met, compare_is, compare_literal}
use Rattle.operands.proofs.OperandLaws.{path_placed, literal_placed, read_attribute, operand_whole}
use Rattle.operators.proofs.compare_operands.Goals as goal

pub operand_string-x-requires : goal.operand_string-x-requires
operand_string-x-requires c = record {
  operand_placed = c.requires.operand_placed;
  value_whole = operand_whole _ _ _ _ (row_stands c.args.row.now.stands) _ _ c.requires.v_value;
}

pub literal_holds-requires : goal.literal_holds-requires
literal_holds-requires c = literal_placed _ _ c.if-sort-gt-ACTION.true c.requires.operand_placed_2

pub returns-then-sort-gt-ACTION : goal.returns-then-sort-gt-ACTION
returns-then-sort-gt-ACTION c =
    given_first _ _ (operand_met _ _ _ _ (row_stands c.args.row.now.stands) _ _ _ c.requires.operand_placed c.requires.v_value _ c.is_present-met.ensures)
    (literal_met _ _ _ _ (row_stands c.args.row.now.stands) _ _ c.if-sort-gt-ACTION.true)
    (compare_literal _ _ _ _ (row_stands c.args.row.now.stands) _ _ _ _ _ _ _ c.requires.operand_placed c.if-sort-gt-ACTION.true c.requires.v_value c.operand_string-x.ensures c.literal_holds.ensures)
    c.given_of.ensures

pub attribute_value-w-requires : goal.attribute_value-w-requires
attribute_value-w-requires c = (path_placed _ _ c.if-sort-gt-ACTION.false c.requires.operand_placed_2).lies

pub operand_string-y-requires : goal.operand_string-y-requires
operand_string-y-requires c = record {
  operand_placed = c.requires.operand_placed_2;
  value_whole = operand_whole _ _ _ _ (row_stands c.args.row.now.stands) _ _ (c.attribute_value-w.ensures ∙ read_attribute _ _ _ _ _ c.if-sort-gt-ACTION.false);
}

pub returns : goal.returns
returns c =
    let read = c.attribute_value-w.ensures ∙ read_attribute _ _ _ _ _ c.if-sort-gt-ACTION.false in
    given_two _ _ (operand_met _ _ _ _ (row_stands c.args.row.now.stands) _ _ _ c.requires.operand_placed c.requires.v_value _ c.is_present-met.ensures)
    (operand_met _ _ _ _ (row_stands c.args.row.now.stands) _ _ _ c.requires.operand_placed_2 read _ c.is_present.ensures)
    (compare_is _ _ _ _ (row_stands c.args.row.now.stands) _ _ _ _ _ _ _ _ _ c.requires.operand_placed c.requires.operand_placed_2 c.requires.v_value read c.operand_string-x.ensures c.operand_string-y.ensures c.values_hold.ensures)
    c.given_of-2.ensures
