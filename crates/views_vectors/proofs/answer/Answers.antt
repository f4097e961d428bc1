use Rattle.std.proofs.Common.{sym, ◌∙◌}
use Rattle.questions.proofs.ColumnLaws.{question_is_lem}
use Rattle.views.proofs.PlacedLaws.{question_small}
use Rattle.views_vectors.proofs.answer.Goals as goal

pub row-requires : goal.row-requires
row-requires g c = let e = sym c.question_sections.ensures ∙ c.in-Some.is in (question_is_lem _ _ e, question_small _ _ e)
