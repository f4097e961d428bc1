-- `operands::values::is_present` meets its contract. Assumes nothing.
use Rattle.operands.proofs.ValueLaws.{present_is}
use borrow.Author.Tests.{le-leb, lt-leb}
use Rattle.operands.proofs.values.is_present.Goals as goal

pub returns-then-v-ge-STRING : goal.returns-then-v-ge-STRING
returns-then-v-ge-STRING c = λ x l. rw (le-leb _ _ c.if-v-ge-STRING.true) at (present_is c.args.v x l)

pub returns-else-v-ge-STRING : goal.returns-else-v-ge-STRING
returns-else-v-ge-STRING c = λ x l. rw (lt-leb _ _ c.if-v-ge-STRING.false) (rw (lt-leb _ _ c.if-v-ge-STRING.false) at (present_is c.args.v x l))
