-- `sheets::sheet` meets its contract: a case for each refusal, and what is said of the part that is lent on. Assumes nothing.
use Rattle.sheets.proofs.Cases.{refused_25, refused_24, refused_26, listed_there}
use Rattle.questions.proofs.ColumnLaws.{question_divided, no_question, question_is_lem}
use Rattle.views.proofs.PlacedLaws.{question_small}
use mathlib.Core.Path.{sym, ◌∙◌}
use native.Mathlib.Omega.{arith}
use borrow.Author.Rules.{rules}
use Rattle.sheets.proofs.sheet.Goals as goal

pub returns-then-sheet-at : goal.returns-then-sheet-at
returns-then-sheet-at c = refused_25 _ _ _ _ _ _ _ (omega arith)

pub returns-then-sheet-at-lt-ROW_SIZE : goal.returns-then-sheet-at-lt-ROW_SIZE
returns-then-sheet-at-lt-ROW_SIZE c = refused_25 _ _ _ _ _ _ _ (omega arith)

pub bounds-question-end : goal.bounds-question-end
bounds-question-end c = (question_is_lem _ _ (sym c.question_sections.ensures ∙ c.in-Some.is)).counted

pub overflow_cast-n : goal.overflow_cast-n
overflow_cast-n c = omega (arith, (question_is_lem _ _ (sym c.question_sections.ensures ∙ c.in-Some.is)).few)

pub overflow_add-end : goal.overflow_add-end
overflow_add-end c = omega (arith, (question_is_lem _ _ (sym c.question_sections.ensures ∙ c.in-Some.is)).counted)

pub rows-all-requires : goal.rows-all-requires
rows-all-requires c =
    let q = question_is_lem _ _ (sym c.question_sections.ensures ∙ c.in-Some.is) in
    record {
      n_le_most_columns = q.few;
      by_index = (q.last, q.columns);
    }

pub returns-then-all-start : goal.returns-then-all-start
returns-then-all-start c =
    let d = question_divided _ _ (sym c.question_sections.ensures ∙ c.in-Some.is) in
    refused_26 _ _ _ _ _ _ _ (omega arith) d.0 _ d.1 (rw (← c.rows-all.ensures.is) c.if-all-start.true)

pub page_for-requires : goal.page_for-requires
page_for-requires c = record {
  asked = record {
    question = question_is_lem _ _ (sym c.question_sections.ensures ∙ c.in-Some.is);
    short = question_small _ _ (sym c.question_sections.ensures ∙ c.in-Some.is);
    all_rows = c.rows-all.ensures.is;
    few = c.rows-all.ensures.few;
    within = c.if-all-start.false;
  };
}

pub returns-in-None : goal.returns-in-None
returns-in-None c = refused_24 _ _ _ _ _ _ _ (omega arith) (sym (no_question _ (sym c.question_sections.ensures ∙ c.in-None.is)))

pub returns-else-all-start : goal.returns-else-all-start
returns-else-all-start c =
    let d = question_divided _ _ (sym c.question_sections.ensures ∙ c.in-Some.is) in
    listed_there _ _ _ _ _ _ _ (omega arith) d.0 _ d.1 (rw (← c.rows-all.ensures.is) c.if-all-start.false) c.page_for.ensures
