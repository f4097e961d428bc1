-- `operators::operand_in_list` meets its contract. Assumes nothing.
use Rattle.operands.proofs.Standing.{row_stands}
use borrow.Author.Rules.{rules}
use Rattle.operators.proofs.VerdictLaws.{given_one}
use Rattle.operators.proofs.OperatorLaws.{operand_met, among_is}
use Rattle.operands.proofs.OperandLaws.{operand_whole}
use Rattle.operators.proofs.operand_in_list.Goals as goal

pub operand_string-x-requires : goal.operand_string-x-requires
operand_string-x-requires c = record {
  operand_placed = c.requires.operand_placed;
  value_whole = operand_whole _ _ _ _ (row_stands c.args.row.now.stands) _ _ c.requires.v_value;
}

pub among_literals-requires : goal.among_literals-requires
among_literals-requires c = record {
  each = c.requires.each;
  n_bound = c.requires.count_bound;
}

pub returns : goal.returns
returns c =
    given_one _ (operand_met _ _ _ _ (row_stands c.args.row.now.stands) _ _ _ c.requires.operand_placed c.requires.v_value _ c.is_present-met.ensures)
    (among_is _ _ _ _ (row_stands c.args.row.now.stands) _ _ _ c.requires.operand_placed c.requires.v_value _ _ _ c.operand_string-x.ensures c.among_literals.ensures)
    c.given_of.ensures
