-- `questions::columns::head_ok` meets its contract. Assumes nothing.
use borrow.Author.Rules.{rules}
use Rattle.questions.specs.Columns.{head_ok}
use Rattle.questions.proofs.columns.head_ok.Goals as goal

pub returns : goal.returns
unfolding head_ok
returns c = search rules
