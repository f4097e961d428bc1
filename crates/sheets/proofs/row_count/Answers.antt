-- `sheets::row_count` meets its contract: what a question is divided into is found once. Assumes nothing.
use Rattle.questions.proofs.ColumnLaws.{question_divided, no_question, question_is_lem}
use Rattle.sheets.proofs.Cases.{rows_counted, none_counted}
use mathlib.Core.Path.{sym, ◌∙◌}
use native.Mathlib.Omega.{arith}
use borrow.Author.Rules.{rules}
use Rattle.sheets.proofs.row_count.Goals as goal

pub bounds-question-end : goal.bounds-question-end
bounds-question-end c = (question_is_lem _ _ (sym c.question_sections.ensures ∙ c.in-Some.is)).counted

pub overflow_cast-n : goal.overflow_cast-n
overflow_cast-n c = omega (arith, (question_is_lem _ _ (sym c.question_sections.ensures ∙ c.in-Some.is)).few)

pub overflow_add-end : goal.overflow_add-end
overflow_add-end c = omega (arith, (question_is_lem _ _ (sym c.question_sections.ensures ∙ c.in-Some.is)).counted)

pub rows-requires : goal.rows-requires
rows-requires c =
    let q = question_is_lem _ _ (sym c.question_sections.ensures ∙ c.in-Some.is) in
    record {
      n_le_most_columns = q.few;
      by_index = (q.last, q.columns);
    }

pub returns-in-None : goal.returns-in-None
returns-in-None c = record {
  is = none_counted _ (sym (no_question _ (sym c.question_sections.ensures ∙ c.in-None.is)));
  few = omega arith;
}

pub returns-in-Some : goal.returns-in-Some
returns-in-Some c =
    let d = question_divided _ _ (sym c.question_sections.ensures ∙ c.in-Some.is) in
    record {
      is = rows_counted _ _ d.0 d.1 c.rows.ensures.is;
      few = c.rows.ensures.few;
    }
