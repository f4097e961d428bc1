-- `desk::desk_rows` meets its contract: it hands on what `row_count` answers. Assumes nothing.
use borrow.Author.Rules.{rules}
use Rattle.desk.specs.Answers.{rows_say}
use Rattle.desk.proofs.desk_rows.Goals as goal

pub returns : goal.returns
unfolding rows_say
returns c = c.row_count.ensures.is
