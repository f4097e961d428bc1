-- `questions::columns::candidates_end` meets its contract. Assumes nothing.
use borrow.Author.Rules.{rules}
use mathlib.Core.Path.{sym, ◌∙◌}
use Rattle.questions.proofs.ColumnLaws.{candidates_bad}
use Rattle.questions.proofs.DifferLaws.{all_end, two_agree}
use Rattle.questions.specs.Columns.{candidates_end}
use Rattle.questions.proofs.columns.candidates_end.Goals as goal

pub all_differ-requires : goal.all_differ-requires
all_differ-requires c = (c.in_ok-e.e, sym c.many_end.ensures ∙ c.in_ok-e.was)

pub returns-in_err-e : goal.returns-in_err-e
returns-in_err-e c = c.from_residual.ensures ∙ candidates_bad _ _ _ (sym c.many_end.ensures ∙ c.in_err-e.was)

pub returns-then-all_differ : goal.returns-then-all_differ
unfolding candidates_end
returns-then-all_differ c = all_end _ _ _ (sym c.many_end.ensures ∙ c.in_ok-e.was) (sym c.all_differ.ensures ∙ c.if-all_differ.true)

pub returns-else-all_differ : goal.returns-else-all_differ
unfolding candidates_end
returns-else-all_differ c = two_agree _ _ (sym c.all_differ.ensures ∙ c.if-all_differ.false)
