-- `operators::operand_in_attribute` meets its contract. Assumes nothing.
use Rattle.operands.proofs.Standing.{row_stands}
use borrow.Author.Rules.{rules}
use Rattle.operators.proofs.VerdictLaws.{given_two}
use Rattle.operators.proofs.OperatorLaws.{operand_met, has_is, of_string, of_no_string, of_list, of_no_list}
use Rattle.operands.proofs.OperandLaws.{operand_whole, attribute_list}
use Rattle.operands.specs.Operands.{meant_path}
use Rattle.meaning.specs.Conditions.{among_strings}
use Rattle.meaning.specs.Values.{if_texts}
use mathlib.Core.Path.{refl}
use Rattle.operators.proofs.operand_in_attribute.Goals as goal

pub attribute_value-w-requires : goal.attribute_value-w-requires
attribute_value-w-requires c = c.requires.path_placed.lies

pub returns-then-kind-ne-STRING : goal.returns-then-kind-ne-STRING
returns-then-kind-ne-STRING c =
    given_two _ _ (operand_met _ _ _ _ (row_stands c.args.row.now.stands) _ _ _ c.requires.operand_placed c.requires.v_value _ c.is_present.ensures)
    (has_is _ _ _ _ (row_stands c.args.row.now.stands) _ _ _ c.requires.path_placed c.attribute_value-w.ensures _ c.is_present-2.ensures)
    (of_no_string _ _ _ _ (row_stands c.args.row.now.stands) _ _ _ c.requires.operand_placed c.requires.v_value (λ x. if_texts (meant_path c.args.row.now.text.now c.args.row.now.s.now c.args.row.now.places.now c.args.row.now.values.now c.args.row.now.action.now c.args.b) (λ l. among_strings l x)) c.if-kind-ne-STRING.true)
    c.given_of.ensures

pub returns-then-list_kind-ne-LIST : goal.returns-then-list_kind-ne-LIST
returns-then-list_kind-ne-LIST c =
    given_two _ _ (operand_met _ _ _ _ (row_stands c.args.row.now.stands) _ _ _ c.requires.operand_placed c.requires.v_value _ c.is_present.ensures)
    (has_is _ _ _ _ (row_stands c.args.row.now.stands) _ _ _ c.requires.path_placed c.attribute_value-w.ensures _ c.is_present-2.ensures)
    (of_string _ _ _ _ (row_stands c.args.row.now.stands) _ _ _ c.requires.operand_placed c.requires.v_value (λ x. if_texts (meant_path c.args.row.now.text.now c.args.row.now.s.now c.args.row.now.places.now c.args.row.now.values.now c.args.row.now.action.now c.args.b) (λ l. among_strings l x)) _ _ c.if-kind-ne-STRING.false refl
    (of_no_list _ _ _ _ (row_stands c.args.row.now.stands) _ _ _ c.requires.path_placed c.attribute_value-w.ensures _ c.if-list_kind-ne-LIST.true))
    c.given_of-then-list_kind-ne-LIST.ensures

pub operand_string-x-requires : goal.operand_string-x-requires
operand_string-x-requires c = record {
  operand_placed = c.requires.operand_placed;
  value_whole = operand_whole _ _ _ _ (row_stands c.args.row.now.stands) _ _ c.requires.v_value;
}

pub in_list-requires : goal.in_list-requires
in_list-requires c = attribute_list _ _ _ _ (row_stands c.args.row.now.stands) _ _ c.attribute_value-w.ensures c.if-list_kind-ne-LIST.false

pub returns : goal.returns
returns c =
    given_two _ _ (operand_met _ _ _ _ (row_stands c.args.row.now.stands) _ _ _ c.requires.operand_placed c.requires.v_value _ c.is_present.ensures)
    (has_is _ _ _ _ (row_stands c.args.row.now.stands) _ _ _ c.requires.path_placed c.attribute_value-w.ensures _ c.is_present-2.ensures)
    (of_string _ _ _ _ (row_stands c.args.row.now.stands) _ _ _ c.requires.operand_placed c.requires.v_value (λ x. if_texts (meant_path c.args.row.now.text.now c.args.row.now.s.now c.args.row.now.places.now c.args.row.now.values.now c.args.row.now.action.now c.args.b) (λ l. among_strings l x)) _ _ c.if-kind-ne-STRING.false c.operand_string-x.ensures
    (of_list _ _ _ _ (row_stands c.args.row.now.stands) _ _ _ c.requires.path_placed c.attribute_value-w.ensures (λ l. among_strings l c.operand_string-x.result.now) _ c.if-list_kind-ne-LIST.false c.in_list.ensures))
    c.given_of-2.ensures
