-- `ways::part_met` meets its contract. Assumes nothing.
use borrow.Author.Rules.{rules}
use borrow.Author.Tests.{lt-ltb, le-ltb}
use Rattle.ways.proofs.part_met.Goals as goal

pub returns-then-x-lt-AND : goal.returns-then-x-lt-AND
returns-then-x-lt-AND c = rw (lt-ltb _ _ c.if-x-lt-AND.true)

pub returns-else-x-lt-AND : goal.returns-else-x-lt-AND
returns-else-x-lt-AND c = rw (le-ltb _ _ c.if-x-lt-AND.false) c.first_met.ensures
