-- One word for proofs that compute: who unfolds it sees through the form of questions and their columns. Assumes nothing.
use Rattle.bags.proofs.Opened.{bags_opened}
use Rattle.questions.specs.Questions.{is_question, fourth_end, cell, choice_at, rows_of}
use Rattle.questions.specs.Columns.{columns_end, column_end, candidates_end, head_ok, candidate_end, candidate_bytes, column_bytes}
use Rattle.questions.specs.Distinct.{distinct, among}

unfoldable pub questions_opened : Unit {0}
unfolding bags_opened is_question fourth_end cell choice_at rows_of columns_end column_end candidates_end head_ok candidate_end candidate_bytes column_bytes distinct among
questions_opened = tt
