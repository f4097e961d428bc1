-- `slots::sections_in` meets its contract. Assumes nothing.
use borrow.Author.Rules.{rules}
use Rattle.slots.proofs.sections_in.Goals as goal

pub returns : goal.returns
returns c = cc
