-- `compiling::told` meets its contract: the place of the refused token. Assumes nothing.
use borrow.Author.Rules.{rules}
use Rattle.compiling.proofs.told.Goals as goal

pub returns : goal.returns
returns c = rw c.place_of-p.ensures
