-- `operators::like_operand` meets its contract. Assumes nothing.
use Rattle.operands.proofs.Standing.{row_stands}
use Rattle.operators.proofs.VerdictLaws.{given_one}
use Rattle.operators.proofs.OperatorLaws.{operand_met, of_string, of_no_string}
use Rattle.operands.proofs.OperandLaws.{operand_whole}
use Rattle.stored.specs.ReadBack.{span_of_entry}
use Rattle.placing.specs.Placed.{quoted_at}
use Rattle.patterns.proofs.Computed.{like_is}
use Rattle.patterns.specs.Likes.{likes_text}
use Prim.Native.Nat.{ℕ}
use mathlib.Core.List.{List}
use mathlib.Core.Path.{◌∙◌, ap, sym, subst}
use borrow.Author.Rules.{rules}
use Rattle.utf8.specs.Characters.{Utf8}
use Rattle.utf8.proofs.Readings.{utf8_decides}
use Rattle.operators.proofs.like_operand.Goals as goal

pub returns-then-kind-ne-STRING : goal.returns-then-kind-ne-STRING
returns-then-kind-ne-STRING c =
    given_one _ (operand_met _ _ _ _ (row_stands c.args.row.now.stands) _ _ _ c.requires.operand_placed c.requires.v_value _ c.is_present-met.ensures)
    (of_no_string _ _ _ _ (row_stands c.args.row.now.stands) _ _ _ c.requires.operand_placed c.requires.v_value (likes_text (quoted_at c.args.row.now.text.now (span_of_entry c.args.o))) c.if-kind-ne-STRING.true)
    c.given_of.ensures

pub operand_string-x-requires : goal.operand_string-x-requires
operand_string-x-requires c = record {
  operand_placed = c.requires.operand_placed;
  value_whole = operand_whole _ _ _ _ (row_stands c.args.row.now.stands) _ _ c.requires.v_value;
}

pub quoted-requires : goal.quoted-requires
quoted-requires c = c.requires.string_placed

pub like-requires : goal.like-requires
like-requires c = subst Utf8 (sym c.quoted.ensures) ((utf8_decides _).sound c.requires.string_placed.characters)

pub returns : goal.returns
returns c =
    given_one _ (operand_met _ _ _ _ (row_stands c.args.row.now.stands) _ _ _ c.requires.operand_placed c.requires.v_value _ c.is_present-met.ensures)
    (of_string _ _ _ _ (row_stands c.args.row.now.stands) _ _ _ c.requires.operand_placed c.requires.v_value (likes_text (quoted_at c.args.row.now.text.now (span_of_entry c.args.o))) _ _ c.if-kind-ne-STRING.false c.operand_string-x.ensures (like_is _ _ c.like.ensures ∙ ap (λ (q : List ℕ). likes_text q c.operand_string-x.result.now) c.quoted.ensures))
    c.given_of-2.ensures
