-- `operators::contains_literals` meets its contract. Assumes nothing.
use Rattle.operands.proofs.Standing.{row_stands}
use borrow.Author.Rules.{rules}
use Rattle.operators.proofs.VerdictLaws.{given_one}
use Rattle.operators.proofs.OperatorLaws.{has_is, of_list, of_no_list}
use Rattle.operands.proofs.OperandLaws.{attribute_list}
use Rattle.operands.specs.Operands.{literals_listed}
use Rattle.stored.specs.ReadBack.{literals_at}
use Rattle.operators.proofs.contains_literals.Goals as goal

pub attribute_value-w-requires : goal.attribute_value-w-requires
attribute_value-w-requires c = c.requires.path_placed.lies

pub returns-then-kind-ne-LIST : goal.returns-then-kind-ne-LIST
returns-then-kind-ne-LIST c =
    λ action.
    given_one _ (has_is _ _ _ _ (row_stands c.args.row.now.stands) action _ _ c.requires.path_placed c.attribute_value-w.ensures _ c.is_present-met.ensures)
    (of_no_list _ _ _ _ (row_stands c.args.row.now.stands) action _ _ c.requires.path_placed c.attribute_value-w.ensures (λ l. literals_listed c.args.row.now.text.now c.args.any l (literals_at c.args.count c.args.row.now.table.now c.args.at)) c.if-kind-ne-LIST.true)
    c.given_of.ensures

pub literals_listed-holds-requires : goal.literals_listed-holds-requires
literals_listed-holds-requires c = record {
  each = c.requires.each;
  n_bound = c.requires.count_bound;
  by_index = attribute_list _ _ _ _ (row_stands c.args.row.now.stands) _ _ c.attribute_value-w.ensures c.if-kind-ne-LIST.false;
}

pub returns : goal.returns
returns c =
    λ action.
    given_one _ (has_is _ _ _ _ (row_stands c.args.row.now.stands) action _ _ c.requires.path_placed c.attribute_value-w.ensures _ c.is_present-met.ensures)
    (of_list _ _ _ _ (row_stands c.args.row.now.stands) action _ _ c.requires.path_placed c.attribute_value-w.ensures (λ l. literals_listed c.args.row.now.text.now c.args.any l (literals_at c.args.count c.args.row.now.table.now c.args.at)) _ c.if-kind-ne-LIST.false c.literals_listed-holds.ensures)
    c.given_of-2.ensures
