-- `tallies::tally` meets its contract: a case for each refusal, and a tally of the question. Assumes nothing.
use Rattle.tallies.proofs.Cases.{refused_27, one_to_eight, refused_24, tallied_there}
use Rattle.questions.proofs.ColumnLaws.{question_divided, no_question, question_is_lem}
use Rattle.views.proofs.PlacedLaws.{question_small}
use mathlib.Core.Path.{sym, ◌∙◌}
use Rattle.tallies.proofs.tally.Goals as goal

pub returns-then-many : goal.returns-then-many
returns-then-many c = refused_27 _ _ _ _ _ _ c.if-many.true

pub tally_asked-requires : goal.tally_asked-requires
tally_asked-requires c = record {
  question = (question_is_lem _ _ (sym c.question_sections.ensures ∙ c.in-Some.is), question_small _ _ (sym c.question_sections.ensures ∙ c.in-Some.is));
  many_le_group_count = (one_to_eight _ c.if-many.false).1;
}

pub returns-in-None : goal.returns-in-None
returns-in-None c =
    let h = one_to_eight _ c.if-many.false in
    refused_24 _ _ _ _ _ _ h.0 h.1 (sym (no_question _ (sym c.question_sections.ensures ∙ c.in-None.is)))

pub returns-in-Some : goal.returns-in-Some
returns-in-Some c =
    let h = one_to_eight _ c.if-many.false in
    let d = question_divided _ _ (sym c.question_sections.ensures ∙ c.in-Some.is) in
    tallied_there _ _ _ _ _ _ h.0 h.1 d.0 _ d.1 c.tally_asked.ensures
