-- `questions::question_sections` meets its contract. Assumes nothing.
use Rattle.std.proofs.Common.{arith, sym, ◌∙◌}
use Rattle.questions.proofs.ColumnLaws.{question_long, question_broken, question_bad, question_followed, question_whole}
use Rattle.questions.proofs.question_sections.Goals as goal

pub returns-then-s-gt-MOST_QUESTION_BYTES : goal.returns-then-s-gt-MOST_QUESTION_BYTES
returns-then-s-gt-MOST_QUESTION_BYTES c = question_long _ (omega arith)

pub returns-in_err-p : goal.returns-in_err-p
returns-in_err-p c = c.from_residual.ensures ∙ question_broken _ (omega arith) (sym c.sections_of.ensures ∙ c.in_err-p.was)

pub returns-in_err-e : goal.returns-in_err-e
returns-in_err-e c =
    c.from_residual-in_err-e.ensures
    ∙ question_bad _ (omega arith) c.in_ok-p.p (sym c.sections_of.ensures ∙ c.in_ok-p.was) (sym c.fourth_end.ensures ∙ c.in_err-e.was)

pub returns-then-e-s : goal.returns-then-e-s
returns-then-e-s c =
    question_whole _ (omega arith) _ (sym c.sections_of.ensures ∙ c.in_ok-p.was) c.in_ok-e.e (sym c.fourth_end.ensures ∙ c.in_ok-e.was) c.if-e-s.true

pub returns-else-e-s : goal.returns-else-e-s
returns-else-e-s c =
    question_followed _ (omega arith) c.in_ok-p.p (sym c.sections_of.ensures ∙ c.in_ok-p.was) c.in_ok-e.e (sym c.fourth_end.ensures ∙ c.in_ok-e.was) c.if-e-s.false
