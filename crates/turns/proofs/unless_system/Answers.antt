-- `turns::unless_system` meets its contract: by whose rows they are. Assumes nothing.
use borrow.Author.Rules.{rules}
use Rattle.turns.proofs.unless_system.Goals as goal

pub returns-then-system : goal.returns-then-system
returns-then-system c = rw c.if-system.true
