-- `desk::desk_tally` meets its contract: it hands on what `tally` answers and leaves. Assumes nothing.
use borrow.Author.Rules.{rules}
use Rattle.desk.specs.Answers.{tally_says}
use Rattle.desk.proofs.desk_tally.Goals as goal

pub returns : goal.returns
unfolding tally_says
returns c = let e = c.tally.ensures in record { answered = e.answered; counts = e.counts }
