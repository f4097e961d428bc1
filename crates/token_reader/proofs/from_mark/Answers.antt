-- `token_reader::from_mark` meets its contract: the tests decide `mark_from` at the two bytes. Assumes nothing.
use mathlib.Core.Path.{sym, ◌∙◌, ap}
use native.Mathlib.Omega.{arith}
use borrow.Author.Tests.{ne_eqb}
use Rattle.tokens.specs.Runs.{is_of}
use Rattle.tokens.specs.Tokens.{mark_token, mark_at}
use Rattle.tokens.specs.declared.classes.Sort.TheVariants.{Digits}
use Rattle.tokens.proofs.TokenLaws.{digit_inside}
use lib.ListN.{get_or}
use Rattle.token_reader.proofs.from_mark.Goals as goal

pub number-requires : goal.number-requires
number-requires c = digit_inside c.args.text.now _ (ap (is_of Digits) (sym c.byte.ensures) ∙ (sym c.is_of.ensures ∙ c.if-is_of.true))

pub returns-in-34 : goal.returns-in-34
unfolding mark_at
returns-in-34 c = rw c.in-34.is c.string.ensures

pub returns-in-45 : goal.returns-in-45
unfolding mark_at
returns-in-45 c = rw (c.in-45.is, ap (is_of Digits) (sym c.byte.ensures) ∙ (sym c.is_of.ensures ∙ c.if-is_of.true)) c.number.ensures

pub returns-in-45-2 : goal.returns-in-45-2
unfolding mark_at
returns-in-45-2 c = rw (c.in-45.is, ap (is_of Digits) (sym c.byte.ensures) ∙ (sym c.is_of.ensures ∙ c.if-is_of.false)) c.one_byte.ensures

pub returns-in_default : goal.returns-in_default
unfolding mark_at
returns-in_default c =
    let args = c.args in
    simp (ne_eqb (get_or args.text.now args.start 0) 34 (omega arith), ne_eqb (get_or args.text.now args.start 0) 45 (omega arith))
    (c.mark_of.ensures ∙ ap (mark_token args.start (get_or args.text.now args.start 0)) c.byte-in_default.ensures)
