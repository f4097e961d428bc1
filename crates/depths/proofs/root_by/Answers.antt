-- `depths::root_by` meets its contract. Assumes nothing.
use borrow.Author.Rules.{rules}
use borrow.Author.Tests.{le-leb, lt-leb}
use Rattle.depths.specs.Columns.{root_by}
use Rattle.depths.proofs.root_by.Goals as goal

pub returns-then-kind-le-ACTION : goal.returns-then-kind-le-ACTION
unfolding root_by
returns-then-kind-le-ACTION c = rw (le-leb _ 4 c.if-kind-le-ACTION.true)

pub returns-else-kind-le-ACTION : goal.returns-else-kind-le-ACTION
unfolding root_by
returns-else-kind-le-ACTION c = rw (lt-leb _ 4 c.if-kind-le-ACTION.false)
