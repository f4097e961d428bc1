-- `lock_reader::permit_size` meets its contract: a part that is wrong, or the sizes of all. Assumes nothing.
use native.Mathlib.Omega.{arith}
use Rattle.locks.proofs.AnswerLaws.{size_no_vocabulary, size_no_resource, size_no_actions, size_no_tests, size_of_both}
use Rattle.locks.proofs.EntryLaws.{short_string}
use borrow.Author.Tests.{not-true, not-false}
use mathlib.Core.Path.{sym, ◌∙◌}
use Rattle.lock_reader.proofs.permit_size.Goals as goal

pub returns-then-not-is_vocabulary : goal.returns-then-not-is_vocabulary
returns-then-not-is_vocabulary c = size_no_vocabulary _ _ _ _ (sym c.is_vocabulary.ensures ∙ c.if-not-is_vocabulary.true)

pub returns-then-not-is_string : goal.returns-then-not-is_string
returns-then-not-is_string c = size_no_resource _ _ _ _ (sym c.is_vocabulary.ensures ∙ c.if-not-is_vocabulary.false) (sym c.is_string.ensures ∙ c.if-not-is_string.true)

pub returns-in_err-a : goal.returns-in_err-a
returns-in_err-a c = c.from_residual.ensures ∙ size_no_actions _ _ _ _ (sym c.is_vocabulary.ensures ∙ c.if-not-is_vocabulary.false) (sym c.is_string.ensures ∙ c.if-not-is_string.false) (sym c.in_err-a.was ∙ c.actions_size.ensures.answer)

pub returns-in_err-t : goal.returns-in_err-t
returns-in_err-t c = c.from_residual-in_err-t.ensures ∙ size_no_tests _ _ _ _ (sym c.is_vocabulary.ensures ∙ c.if-not-is_vocabulary.false) (sym c.is_string.ensures ∙ c.if-not-is_string.false) c.in_ok-a.a (sym c.in_ok-a.was ∙ c.actions_size.ensures.answer) (sym c.in_err-t.was ∙ c.tests_size.ensures.answer)

pub returns : goal.returns
returns c = size_of_both _ _ _ _ (sym c.is_vocabulary.ensures ∙ c.if-not-is_vocabulary.false) (sym c.is_string.ensures ∙ c.if-not-is_string.false) c.in_ok-a.a c.in_ok-t.t (sym c.in_ok-a.was ∙ c.actions_size.ensures.answer) (sym c.in_ok-t.was ∙ c.tests_size.ensures.answer)
