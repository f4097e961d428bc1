use Rattle.std.proofs.Common.{sym, ◌∙◌}
use Rattle.questions.proofs.ColumnLaws.{question_is_lem}
use Rattle.questions_vectors.proofs.answer.Goals as goal

pub report-requires : goal.report-requires
report-requires g c = question_is_lem _ _ (sym c.question_sections.ensures ∙ c.in-Some.is)
