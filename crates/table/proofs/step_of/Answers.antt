-- `table::step_of` meets its contract. Assumes nothing.
use borrow.Author.Rules.{rules}
use Rattle.table.specs.Entries.{step_of}
use Rattle.table.proofs.step_of.Goals as goal

pub returns-in-First : goal.returns-in-First
unfolding step_of
returns-in-First c = search rules

pub returns-in-Second : goal.returns-in-Second
unfolding step_of
returns-in-Second c = search rules
